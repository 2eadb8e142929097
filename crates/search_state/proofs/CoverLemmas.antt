-- Coverings as heaps keep them, and what a step preserves of them.
use Rattle.std.proofs.Common.{◌⊎◌, inl, inr, ◌≡◌, refl, ap, sym, ◌∙◌, ℕ, zero, suc, ◌+◌, ◌-◌, ◌<◌, ◌≤◌, List, [], ◌∷◌, ◌++◌, map, Bool, true, false, not, ◌&&◌, ◌||◌, length, arith, cond, get_or, Option, Some, None, eqb as nat_eq, ltb as nat_lt, leb as nat_le}
use Rattle.std.specs.List.{filter, enumerate_from, list_any}
use Rattle.std.specs.List.Sorted.{IsPermutation}
use Rattle.std.specs.Ordering.{is_lt}
use Rattle.std.proofs.lemmas.Bool.Decides.{nat_tests}
use Rattle.std.proofs.lemmas.List.Sorted.{list_any-IsPermutation}
use Rattle.std.proofs.lemmas.Bool.{and_parts, or_right, eq-eqb}
use Rattle.lake_model.specs.Sorting.{in_order}
use Rattle.lake_model.specs.Answer.{Row, row_cmp, Query}
use Rattle.search_model.specs.Segment.{Titled}
use Rattle.search_model.specs.Looks.{Searched, Progress, Seen, seen, is_open, open_columns, row_with, beats, is_eligible, is_known}
use Rattle.lake_model.proofs.SortingLemmas.{less_order, irreflexive}
use Rattle.lake_model.proofs.AnswerLemmas.{row_cmp_total}
use Rattle.search_model.specs.Ranks.{AreRanks}
use Rattle.search_state.specs.State.{Candidate, Covers, AreCovered, IsTop, seen_at, open_at, column_at}
use Rattle.search_model.specs.Arrays.{no_titled}
use Rattle.search_state.proofs.HeadLemmas.{covered_by_top}

-- whether one of these candidates is of column x and its number is at least u: a test, so that it can be moved along
-- permutations
abbrev pub covers : List Candidate → ℕ → ℕ → Bool
covers candidates x u = list_any (λ c. nat_eq c.column x && nat_le u c.most) candidates

abbrev pub candidate : ℕ → ℕ → Candidate
candidate most column = record { most = most; column = column }

-- the bounds that the heap by counts stands for, with `left` lists left
abbrev pub by_left : ℕ → List Candidate → List Candidate
by_left left asked = map (λ c. candidate (c.most + left) c.column) asked

-- the column is in the heap by bounds with at least its bound, or in the heap by counts with at least its count
abbrev pub IsHeld : List Candidate → List Candidate → ℕ → ℕ → ℕ → Type 0
IsHeld sized asked x count bound = (covers sized x bound || covers asked x count) ≡ true

or_either : (a b : Bool) → (a || b) ≡ true → (a ≡ true) ⊎ (b ≡ true)
or_either true b e = inl refl
or_either false b e = inr e

or_left : (a b : Bool) → a ≡ true → (a || b) ≡ true
or_left true b e = refl
or_left false b e = cc

weaker : (candidates : List Candidate) (x u v : ℕ) → v ≤ u → covers candidates x u ≡ true → covers candidates x v ≡ true
weaker [] x u v h e = cc
weaker (c ∷ candidates) x u v h e = by (or_either _ (covers candidates x u) e) (weaker candidates x u v h)
  where
    by : ((nat_eq c.column x && nat_le u c.most) ≡ true) ⊎ (covers candidates x u ≡ true) → (covers candidates x u ≡ true → covers candidates x v ≡ true) → ((nat_eq c.column x && nat_le v c.most) || covers candidates x v) ≡ true
    by (inl k) r = or_left _ (covers candidates x v) (let t : (nat_eq c.column x && nat_le v c.most) ≡ true = (let p = and_parts (nat_eq c.column x) (nat_le u c.most) k in let q : nat_le v c.most ≡ true = (let a = p.1 in grind (arith, nat_tests)) in (λ i. p.0 i && q i)) in t)
    by (inr k) r = or_right (nat_eq c.column x && nat_le v c.most) _ (r k)

-- one more list that does not hold the column, or any step that lowers its bound and leaves its count
pub held_stays : (sized asked : List Candidate) (x count bound later : ℕ) → later ≤ bound → IsHeld sized asked x count bound → IsHeld sized asked x count later
held_stays sized asked x count bound later h e = by (or_either (covers sized x bound) (covers asked x count) e)
  where
    by : (covers sized x bound ≡ true) ⊎ (covers asked x count ≡ true) → (covers sized x later || covers asked x count) ≡ true
    by (inl k) = or_left (covers sized x later) (covers asked x count) (weaker sized x bound later h k)
    by (inr k) = or_right (covers sized x later) (covers asked x count) k

-- a hit on a column of the heap by bounds, and a push
pub held_sized : (sized asked : List Candidate) (x count bound later more : ℕ) → later ≤ bound → covers sized x bound ≡ true → IsHeld sized asked x more later
held_sized sized asked x count bound later more h e = or_left (covers sized x later) (covers asked x more) (weaker sized x bound later h e)

no_less : (u : ℕ) → nat_le u u ≡ true
no_less u = grind (arith, nat_tests)

covers_own : (x u : ℕ) (candidates : List Candidate) → covers (candidate u x ∷ candidates) x u ≡ true
covers_own x u candidates = (λ i. (eq-eqb x x refl i && no_less u i) || covers candidates x u)

pub held_pushed_sized : (sized news asked : List Candidate) (x count bound : ℕ) → IsPermutation (candidate bound x ∷ sized) news → IsHeld news asked x count bound
held_pushed_sized sized news asked x count bound p = or_left (covers news x bound) (covers asked x count) (sym (list_any-IsPermutation (λ (c : Candidate). nat_eq c.column x && nat_le bound c.most) (candidate bound x ∷ sized) news p) ∙ covers_own x bound sized)

pub held_pushed_asked : (sized asked news : List Candidate) (x count bound : ℕ) → IsPermutation (candidate count x ∷ asked) news → IsHeld sized news x count bound
held_pushed_asked sized asked news x count bound p = or_right (covers sized x bound) (covers news x count) (sym (list_any-IsPermutation (λ (c : Candidate). nat_eq c.column x && nat_le count c.most) (candidate count x ∷ asked) news p) ∙ covers_own x count asked)

-- what two heaps hold is covered by the candidates of both
sized_covers : (candidates rest : List Candidate) (x u : ℕ) → covers candidates x u ≡ true → Covers (candidates ++ rest) x u
sized_covers [] rest x u e = absurd (let f : false ≡ true = e in cc)
sized_covers (c ∷ candidates) rest x u e = by (or_either (nat_eq c.column x && nat_le u c.most) (covers candidates x u) e) (sized_covers candidates rest x u)
  where
    by : ((nat_eq c.column x && nat_le u c.most) ≡ true) ⊎ (covers candidates x u ≡ true) → (covers candidates x u ≡ true → Covers (candidates ++ rest) x u) → ((c.column ≡ x) × (u ≤ c.most)) ⊎ Covers (candidates ++ rest) x u
    by (inl k) r = let p = and_parts (nat_eq c.column x) (nat_le u c.most) k in inl (let a = p.0 in grind (arith, nat_tests), let a = p.1 in grind (arith, nat_tests))
    by (inr k) r = inr (r k)

asked_covers : (asked : List Candidate) (left x count u : ℕ) → u ≤ count + left → covers asked x count ≡ true → Covers (by_left left asked) x u
asked_covers [] left x count u h e = absurd (let f : false ≡ true = e in cc)
asked_covers (c ∷ asked) left x count u h e = by (or_either (nat_eq c.column x && nat_le count c.most) (covers asked x count) e) (asked_covers asked left x count u h)
  where
    by : ((nat_eq c.column x && nat_le count c.most) ≡ true) ⊎ (covers asked x count ≡ true) → (covers asked x count ≡ true → Covers (by_left left asked) x u) → ((c.column ≡ x) × (u ≤ c.most + left)) ⊎ Covers (by_left left asked) x u
    by (inl k) r = let p = and_parts (nat_eq c.column x) (nat_le count c.most) k in let q : count ≤ c.most = (let a = p.1 in grind (arith, nat_tests)) in inl (let a = p.0 in grind (arith, nat_tests), omega arith)
    by (inr k) r = inr (r k)

more_covers : (cs ds : List Candidate) (x u : ℕ) → Covers ds x u → Covers (cs ++ ds) x u
more_covers [] ds x u h = h
more_covers (c ∷ cs) ds x u h = inr (more_covers cs ds x u h)

pub held_covers : (sized asked : List Candidate) (left x count bound : ℕ) → bound ≤ count + left → IsHeld sized asked x count bound → Covers (sized ++ by_left left asked) x bound
held_covers sized asked left x count bound h e = by (or_either (covers sized x bound) (covers asked x count) e)
  where
    by : (covers sized x bound ≡ true) ⊎ (covers asked x count ≡ true) → Covers (sized ++ by_left left asked) x bound
    by (inl k) = sized_covers sized (by_left left asked) x bound k
    by (inr k) = more_covers sized (by_left left asked) x bound (asked_covers asked left x count bound h k)

-- ---- if nothing is open

module _ (query : Query) (part : Searched) (progress : Progress) (last : Option Row) where
  none_kept : (keep : ℕ × Titled → Bool) (n : ℕ) (cs : List Titled) → ((y : ℕ) (c : Titled) → n ≤ y → y < n + length cs → c ≡ get_or cs (y - n) c → keep (y, c) ≡ false) → filter keep (enumerate_from n cs) ≡ []
  none_kept keep n [] h = refl
  none_kept keep n (c ∷ cs) h =
      let z : n - n ≡ 0 = omega arith in
      ap (λ b. cond b ((n, c) ∷ filter keep (enumerate_from (n + 1) cs)) (filter keep (enumerate_from (n + 1) cs))) (h n c (omega arith) (omega arith) (ap (λ (i : ℕ). get_or (c ∷ cs) i c) (sym z)))
      ∙ none_kept keep (n + 1) cs (λ y d a b e. h y d (omega arith) (omega arith) (let z : y - n ≡ suc (y - (n + 1)) = omega arith in e ∙ ap (λ (i : ℕ). get_or (c ∷ cs) i d) (sym z)))

  default : (i : ℕ) (d e : Titled) (cs : List Titled) → i < length cs → get_or cs i d ≡ get_or cs i e
  default i d e [] h = absurd (omega arith)
  default zero d e (c ∷ cs) h = refl
  default (suc i) d e (c ∷ cs) h = default i d e cs (omega arith)

  empty_in_order : (cs : List (ℕ × Titled)) → cs ≡ [] → in_order (λ (a b : Seen). row_cmp a.bound b.bound) (map (λ c. seen part progress c.0 c.1) cs) ≡ []
  unfolding in_order
  empty_in_order cs e = ap (λ (cs : List (ℕ × Titled)). in_order (λ (a b : Seen). row_cmp a.bound b.bound) (map (λ c. seen part progress c.0 c.1) cs)) e

  pub none_open : ((x : ℕ) → x < length part.segment.columns → open_at query part progress last x ≡ false) → open_columns query part progress last ≡ []
  none_open h =
      empty_in_order _ (none_kept (λ c. is_open query part progress last c.0 c.1) 0 part.segment.columns (λ y c a b e.
      let z : y - 0 ≡ y = omega arith in
      let within : y < length part.segment.columns = omega arith in
      let at : c ≡ column_at part y = e ∙ ap (λ (i : ℕ). get_or part.segment.columns i c) z ∙ default y c no_titled part.segment.columns within in
      ap (λ (d : Titled). is_open query part progress last y d) at ∙ h y within))

module _ (query : Query) (part : Searched) (progress : Progress) (last : Option Row) (ranks : List ℕ) (are : AreRanks part.segment.columns ranks) where
  abbrev less : Row → Row → Bool
  less a b = is_lt (row_cmp a b)

  and_last : (a b c d : Bool) → (a && b && c && d) ≡ true → d ≡ true
  and_last true true true d e = e
  and_last true true false d e = cc
  and_last true false c d e = cc
  and_last false b c d e = cc

  by_bounds : {G : Type 0} (n u : ℕ) → n ≤ u → (n < u → G) → (n ≡ u → G) → G
  by_bounds {G} n u h f g = elim (nat_eq n u) as (λ t. nat_eq n u ≡ t → G) [
    | true ↦ λ e. g (let k : n ≡ u = grind (arith, nat_tests) in k)
    | false ↦ λ e. f (let k : n < u = grind (arith, nat_tests) in k)
  ] refl

  lower_later : (c d : Titled) (n u : ℕ) → n < u → less (row_with n c) (row_with u d) ≡ false
  lower_later c d n u h = grind (arith, nat_tests)

  -- a covered column's row comes no earlier than the top's
  no_earlier : (top : Candidate) (y u : ℕ) → top.column < length part.segment.columns → y < length part.segment.columns → u ≤ top.most → (u ≡ top.most → get_or ranks top.column 0 ≤ get_or ranks y 0)
      → less (row_with u (column_at part y)) (row_with top.most (column_at part top.column)) ≡ false
  no_earlier top y u within h le tie =
      by_bounds u top.most le (λ l. lower_later (column_at part y) (column_at part top.column) u top.most l)
      (λ e. ap (λ (n : ℕ). less (row_with n (column_at part y)) (row_with top.most (column_at part top.column))) e ∙ by_bounds (get_or ranks top.column 0) (get_or ranks y 0) (tie e)
      (λ l. are.order top.column y top.most within h l)
      (λ f. let g : top.column ≡ y = are.apart top.column y within h f in ap (λ (x : ℕ). less (row_with top.most (column_at part y)) (row_with top.most (column_at part x))) g ∙ irreflexive less (less_order row_cmp_total) (row_with top.most (column_at part y))))

  beaten_by : (last : Option Row) (a b : Row) → less b a ≡ false → beats last a ≡ false → beats last b ≡ false
  beaten_by None a b h e = cc
  beaten_by (Some w) a b h e = (less_order row_cmp_total).chain b a w h e

  -- The top of the candidates does not beat the last row, so no covered column is open.
  pub top_beaten : (top : Candidate) (candidates : List Candidate) → AreCovered query part progress last 0 candidates → IsTop ranks top candidates → top.column < length part.segment.columns
      → beats last (row_with top.most (column_at part top.column)) ≡ false → open_columns query part progress last ≡ []
  top_beaten top candidates covered is within beaten = none_open query part progress last (λ y h. by y h (open_at query part progress last y) refl)
    where
      by : (y : ℕ) → y < length part.segment.columns → (b : Bool) → open_at query part progress last y ≡ b → open_at query part progress last y ≡ false
      by y h false e = e
      by y h true e =
          let c = covered_by_top query part progress last ranks are top candidates y (seen_at part progress y).bound.overlap is (covered y h e (omega arith)) in
          let lost = beaten_by last (row_with top.most (column_at part top.column)) (seen_at part progress y).bound (no_earlier top y (seen_at part progress y).bound.overlap within h c.0 c.1) beaten in
          absurd (let t : beats last (seen_at part progress y).bound ≡ true = and_last (is_eligible query part (column_at part y)) (not (is_known part progress y)) (nat_lt 0 (seen_at part progress y).count) (beats last (seen_at part progress y).bound) e in let f : true ≡ false = sym t ∙ lost in cc)
