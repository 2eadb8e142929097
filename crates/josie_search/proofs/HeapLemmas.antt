-- Two heaps seen as one list of candidates: what comes in and goes out, and the first of all.
use Rattle.std.proofs.Common.{◌≡◌, refl, ap, sym, ◌∙◌, subst, ℕ, ◌+◌, ◌-◌, ◌*◌, ◌/◌, ◌%◌, ◌^◌, ◌<◌, ◌≤◌, List, [], ◌∷◌, ◌++◌, map, Bool, length, get_or, true, false, ◌&&◌, ◌||◌, arith, cond, Option, Some, None, eqb as nat_eq, ltb as nat_lt, leb as nat_le}
use Rattle.std.specs.Prelude.{slice_get}
use Rattle.std.specs.BinaryHeap.{IsUpperBound}
use Rattle.std.specs.List.{AllByRecursion}
use Rattle.std.specs.List.Sorted.{IsPermutation}
use Rattle.std.specs.Option.{MatchOption}
use Rattle.std.specs.Ordering.{is_lt, nat_cmp}
use Rattle.std.proofs.lemmas.Bool.Decides.{nat_tests}
use Rattle.std.proofs.lemmas.List.Sorted.{IsPermutation-append_left, IsPermutation-append_right, IsPermutation-map, IsPermutation-middle, IsPermutation-sym, IsPermutation-trans}
use Rattle.std.proofs.Math.Nat.{div-mul-le_self}
use Rattle.std.proofs.lemmas.Nat.{div-add-mod', div-mul-add, le-div, mod-mul-add, mod_below}
use Rattle.josie_search.specs.declared.candidates.Candidate.{Candidate}
use Rattle.josie_search.specs.Candidates.{all_of, better, candidate, CandidatesOf, entry_of, is_ahead, IsAhead, IsFirstIn, IsTop, most_now, number_in, of_entry, rank_in, StandsFirst}

abbrev both : List ℕ → List ℕ → List Candidate
both sized asked = map (of_entry false) sized ++ map (of_entry true) asked

-- ---- a number and a rank as one number, for any number w of ranks

number_back : (w n r : ℕ) → 0 < w → (n * w + (w - 1 - r)) / w ≡ n
number_back w n r some = div-mul-add n w (w - 1 - r) (omega (arith, some))

rank_back : (w n r : ℕ) → r < w → w - 1 - (n * w + (w - 1 - r)) % w ≡ r
rank_back w n r low =
    let rest : (n * w + (w - 1 - r)) % w ≡ w - 1 - r = mod-mul-add n w (w - 1 - r) (omega (arith, low)) in
    ap (λ (m : ℕ). w - 1 - m) rest ∙ omega (arith, low)

whole_back : (w e : ℕ) → 0 < w → e / w * w + (w - 1 - (w - 1 - e % w)) ≡ e
whole_back w e some =
    let rest : w - 1 - (w - 1 - e % w) ≡ e % w = omega (arith, mod_below e w some) in
    ap (λ (m : ℕ). e / w * w + m) rest ∙ div-add-mod' e w

in_turn : (w x e : ℕ) → 0 < w → e ≤ x → (e / w ≤ x / w) × (e / w ≡ x / w → w - 1 - x % w ≤ w - 1 - e % w)
in_turn w x e some h = (
  le-div (e / w) x w some (omega (arith, div-mul-le_self e w, h)),
  λ f. let same : e / w * w ≡ x / w * w = ap (λ (q : ℕ). q * w) f in omega (arith, same, div-add-mod' e w, div-add-mod' x w, h),
)

unpacked : (c : Candidate) → c.rank < 2 ^ 32 → of_entry c.by_count (entry_of c) ≡ c
unpacked c low =
    let number : number_in (entry_of c) ≡ c.number = number_back (2 ^ 32) c.number c.rank (omega arith) in
    let rank : rank_in (entry_of c) ≡ c.rank = rank_back (2 ^ 32) c.number c.rank low in
    λ i. candidate c.by_count (number i) (rank i)

repacked : (by_count : Bool) (e : ℕ) → entry_of (of_entry by_count e) ≡ e
repacked by_count e = whole_back (2 ^ 32) e (omega arith)

-- ---- one more, and one fewer

pub pushed_asked : (sized asked news : List ℕ) (c : Candidate) → c.rank < 2 ^ 32 → c.by_count ≡ true → IsPermutation (entry_of c ∷ asked) news → IsPermutation (c ∷ both sized asked) (both sized news)
pushed_asked sized asked news c low e p =
    let same : of_entry true (entry_of c) ≡ c = ap (λ (b : Bool). of_entry b (entry_of c)) (sym e) ∙ unpacked c low in
    let front = map (of_entry false) sized in
    subst (λ (d : Candidate). IsPermutation (d ∷ both sized asked) (both sized news)) same
    (IsPermutation-trans _ _ _ (IsPermutation-sym _ _ (IsPermutation-middle front (of_entry true (entry_of c)) (map (of_entry true) asked)))
    (IsPermutation-append_right front _ _ (IsPermutation-map (of_entry true) _ _ p)))

pub pushed_sized : (sized asked news : List ℕ) (c : Candidate) → c.rank < 2 ^ 32 → c.by_count ≡ false → IsPermutation (entry_of c ∷ sized) news → IsPermutation (c ∷ both sized asked) (both news asked)
pushed_sized sized asked news c low e p =
    let same : of_entry false (entry_of c) ≡ c = ap (λ (b : Bool). of_entry b (entry_of c)) (sym e) ∙ unpacked c low in
    subst (λ (d : Candidate). IsPermutation (d ∷ both sized asked) (both news asked)) same
    (IsPermutation-append_left (map (of_entry true) asked) _ _ (IsPermutation-map (of_entry false) _ _ p))

pub popped_asked : (sized asked news : List ℕ) (c : Candidate) → c.rank < 2 ^ 32 → c.by_count ≡ true → IsPermutation asked (entry_of c ∷ news) → IsPermutation (both sized asked) (c ∷ both sized news)
popped_asked sized asked news c low e p = IsPermutation-sym _ _ (pushed_asked sized news asked c low e (IsPermutation-sym _ _ p))

pub popped_sized : (sized asked news : List ℕ) (c : Candidate) → c.rank < 2 ^ 32 → c.by_count ≡ false → IsPermutation sized (entry_of c ∷ news) → IsPermutation (both sized asked) (c ∷ both news asked)
popped_sized sized asked news c low e p = IsPermutation-sym _ _ (pushed_sized news asked sized c low e (IsPermutation-sym _ _ p))

-- ---- the first of a heap

by_cmp : (x e : ℕ) → is_lt (nat_cmp x e) ≡ false → e ≤ x
by_cmp x e f = grind (arith, nat_tests)

upper : (x : ℕ) (items : List ℕ) → IsUpperBound nat_cmp x items → AllByRecursion (λ e. (number_in e ≤ number_in x) × (number_in e ≡ number_in x → rank_in x ≤ rank_in e)) items
upper x [] h = tt
upper x (e ∷ items) h = (in_turn (2 ^ 32) x e (omega arith) (by_cmp x e h.0), upper x items h.1)

pub head_is : {X : Type 0} (xs : List X) (d : X) → 0 < length xs → slice_get xs 0 ≡ Some (get_or xs 0 d)
head_is [] d h = absurd (omega arith)
head_is (x ∷ xs) d h = refl

pub first_in : (by_count : Bool) (items : List ℕ) (x : ℕ) (t : Candidate) → t ≡ of_entry by_count x → slice_get items 0 ≡ Some x → IsUpperBound nat_cmp x items → IsFirstIn by_count items t
first_in by_count items x t is at h = subst (λ (c : Candidate). IsFirstIn by_count items c) (sym is) first
  where
    first : IsFirstIn by_count items (of_entry by_count x)
    first = record { kind = refl; at = at ∙ ap Some (sym (repacked by_count x)); ahead = upper x items h }

-- ---- the first of both

module _ (left : ℕ) where
  -- what is ahead in its heap is ahead of it as candidates
  ahead_asked : (t : Candidate) (items : List ℕ) → t.by_count ≡ true → AllByRecursion (λ e. (number_in e ≤ t.number) × (number_in e ≡ t.number → t.rank ≤ rank_in e)) items → AllByRecursion (IsAhead left t) (map (of_entry true) items)
  ahead_asked t [] k h = tt
  ahead_asked t (e ∷ items) k h =
      let is : most_now left t ≡ t.number + left = ap (λ b. cond b (t.number + left) t.number) k in
      ((let l = h.0.0 in omega (arith, is), λ f. h.0.1 (omega (arith, is, f))), ahead_asked t items k h.1)

  ahead_sized : (t : Candidate) (items : List ℕ) → t.by_count ≡ false → AllByRecursion (λ e. (number_in e ≤ t.number) × (number_in e ≡ t.number → t.rank ≤ rank_in e)) items → AllByRecursion (IsAhead left t) (map (of_entry false) items)
  ahead_sized t [] k h = tt
  ahead_sized t (e ∷ items) k h =
      let is : most_now left t ≡ t.number = ap (λ b. cond b (t.number + left) t.number) k in
      ((let l = h.0.0 in omega (arith, is), λ f. h.0.1 (omega (arith, is, f))), ahead_sized t items k h.1)

  further : (s t : Candidate) (cs : List Candidate) → (most_now left t ≤ most_now left s) × (most_now left t ≡ most_now left s → s.rank ≤ t.rank) → AllByRecursion (IsAhead left t) cs → AllByRecursion (IsAhead left s) cs
  further s t [] p h = tt
  further s t (c ∷ cs) p h = (
    (let a = p.0 in let b = h.0.0 in omega (arith, a, b), λ e. (let a = p.0 in let b = h.0.0 in let same : most_now left c ≡ most_now left t = omega (arith, a, b, e) in let f = h.0.1 same in let g = p.1 (omega (arith, same, e)) in omega (arith, f, g))),
    further s t cs p h.1,
  )

  joined : (P : Candidate → Type 0) (cs ds : List Candidate) → AllByRecursion P cs → AllByRecursion P ds → AllByRecursion P (cs ++ ds)
  joined P [] ds h k = k
  joined P (c ∷ cs) ds h k = (h.0, joined P cs ds h.1 k)

  stands_sized : (c : CandidatesOf) (t : Candidate) → IsFirstIn false c.sized t → StandsFirst c t
  stands_sized c t h = ap (λ (b : Bool). slice_get (cond b c.asked c.sized) 0) h.kind ∙ h.at

  stands_asked : (c : CandidatesOf) (t : Candidate) → IsFirstIn true c.asked t → StandsFirst c t
  stands_asked c t h = ap (λ (b : Bool). slice_get (cond b c.asked c.sized) 0) h.kind ∙ h.at

  goes : (s t : Candidate) → is_ahead left s t ≡ true → (most_now left t ≤ most_now left s) × (most_now left t ≡ most_now left s → s.rank ≤ t.rank)
  goes s t e = by (most_now left s) (most_now left t) s.rank t.rank e
    where
      by : (m n p q : ℕ) → (nat_lt n m || (nat_eq n m && nat_le p q)) ≡ true → (n ≤ m) × (n ≡ m → p ≤ q)
      by m n p q e = (grind (arith, nat_tests), λ f. grind (arith, nat_tests))

  goes_not : (s t : Candidate) → is_ahead left s t ≡ false → (most_now left s ≤ most_now left t) × (most_now left s ≡ most_now left t → t.rank ≤ s.rank)
  goes_not s t e = by (most_now left s) (most_now left t) s.rank t.rank e
    where
      by : (m n p q : ℕ) → (nat_lt n m || (nat_eq n m && nat_le p q)) ≡ false → (m ≤ n) × (m ≡ n → q ≤ p)
      by m n p q e = (grind (arith, nat_tests), λ f. grind (arith, nat_tests))

  pub top_of : (c : CandidatesOf) (a b : Option Candidate) → MatchOption a (c.sized ≡ []) (IsFirstIn false c.sized) → MatchOption b (c.asked ≡ []) (IsFirstIn true c.asked) → MatchOption (better left a b) (all_of c ≡ []) (IsTop left c)
  top_of c None None h k = λ i. map (of_entry false) (h i) ++ map (of_entry true) (k i)
  top_of c None (Some t) h k = record {
    stands = stands_asked c t k;
    ahead = joined (IsAhead left t) (map (of_entry false) c.sized) (map (of_entry true) c.asked) (subst (λ (xs : List ℕ). AllByRecursion (IsAhead left t) (map (of_entry false) xs)) (sym h) tt) (ahead_asked t c.asked k.kind k.ahead);
  }
  top_of c (Some s) None h k = record {
    stands = stands_sized c s h;
    ahead = joined (IsAhead left s) (map (of_entry false) c.sized) (map (of_entry true) c.asked) (ahead_sized s c.sized h.kind h.ahead) (subst (λ (xs : List ℕ). AllByRecursion (IsAhead left s) (map (of_entry true) xs)) (sym k) tt);
  }
  top_of c (Some s) (Some t) h k = by (is_ahead left s t) refl
    where
      by : (b : Bool) → is_ahead left s t ≡ b → MatchOption (cond b (Some s) (Some t)) (all_of c ≡ []) (IsTop left c)
      by true e = record {
        stands = stands_sized c s h;
        ahead = joined (IsAhead left s) (map (of_entry false) c.sized) (map (of_entry true) c.asked) (ahead_sized s c.sized h.kind h.ahead) (further s t (map (of_entry true) c.asked) (goes s t e) (ahead_asked t c.asked k.kind k.ahead));
      }
      by false e = record {
        stands = stands_asked c t k;
        ahead = joined (IsAhead left t) (map (of_entry false) c.sized) (map (of_entry true) c.asked) (further t s (map (of_entry false) c.sized) (goes_not s t e) (ahead_sized s c.sized h.kind h.ahead)) (ahead_asked t c.asked k.kind k.ahead);
      }
