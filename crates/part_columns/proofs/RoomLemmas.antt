-- How many columns can still be probed: at most as many as there are postings in the lists of the query's tokens, and
-- as the part has columns; and one fewer after each probe.
use Rattle.std.proofs.Common.{◌≡◌, refl, ap, sym, ◌∙◌, subst, ℕ, zero, suc, ◌+◌, ◌<◌, ◌≤◌, List, [], ◌∷◌, Bool, true, false, not, ◌&&◌, length, take, drop, set, get_or, arith, cond, length-append, ltb as nat_lt}
use Rattle.std.specs.List.{AllByRecursion, count_by, enumerate_from, sum_by}
use Rattle.std.proofs.lemmas.Bool.Decides.{nat_tests}
use Rattle.std.proofs.lemmas.List.{get_or-set_other, get_or-set_same, take-append-drop}
use Rattle.std.proofs.lemmas.List.FromFn.{length-enumerate_from}
use Rattle.std.proofs.lemmas.List.Sums.{count_by-le-length, sum_by-cons}
use Rattle.lake_model.specs.Layout.{is_among, Part}
use Rattle.lake_model.specs.Texts.{Text}
use Rattle.search_model.proofs.FilterLemmas.{hits-append}
use Rattle.search_model.specs.Looks.{hits}
use Rattle.search_model.specs.Segment.{postings_of}
use Rattle.segment_build.proofs.InverseLemmas.{length-postings}
use Rattle.segment_core.specs.Versions.{segment_of, tables_of}
use Rattle.part_columns.specs.Room.{asked_in, listed_in, probes_bound, unprobed}
use Rattle.part_columns.proofs.SegmentLists.{all_asked, list_is}
use Rattle.list_laws.proofs.TestLemmas.{count-cons, once}

abbrev has_one : List ℕ → List ℕ → Bool
has_one tokens set = nat_lt 0 (length (hits set tokens))

-- ---- the columns that are in one of the lists

once_small : (b : Bool) → once b ≤ 1
once_small true = omega arith
once_small false = omega arith

-- one more list
one_here : (held : List ℕ) (t : ℕ) (ts : List ℕ) → once (has_one (t ∷ ts) held) ≤ once (is_among held t) + once (has_one ts held)
one_here held t ts = by (is_among held t)
  where
    by : (b : Bool) → once (nat_lt 0 (length (cond b (t ∷ hits held ts) (hits held ts)))) ≤ once b + once (has_one ts held)
    by true = omega (arith, once_small (nat_lt 0 (length (t ∷ hits held ts))))
    by false = omega arith

list_more : (t : ℕ) (ts : List ℕ) (sets : List (List ℕ)) → count_by (has_one (t ∷ ts)) sets ≤ count_by (λ s. is_among s t) sets + count_by (has_one ts) sets
list_more t ts [] = omega arith
list_more t ts (s ∷ sets) = omega (arith, count-cons (has_one (t ∷ ts)) s sets, count-cons (λ u. is_among u t) s sets, count-cons (has_one ts) s sets, one_here s t ts, list_more t ts sets)

no_list : (sets : List (List ℕ)) → count_by (has_one []) sets ≡ 0
no_list [] = refl
no_list (s ∷ sets) = omega (arith, count-cons (has_one []) s sets, no_list sets)

few_posted : (sets : List (List ℕ)) (tokens : List ℕ) → count_by (has_one tokens) sets ≤ sum_by (λ t. length (postings_of sets t)) tokens
few_posted sets [] = omega (arith, no_list sets)
few_posted sets (t ∷ ts) = omega (arith, list_more t ts sets, length-postings t sets, few_posted sets ts, sum_by-cons (λ u. length (postings_of sets u)) t ts)

listed_is : (part : Part) (tokens : List ℕ) → AllByRecursion (λ t. t < length (segment_of part).tokens) tokens → sum_by (λ t. length (postings_of (segment_of part).sets t)) tokens ≡ listed_in part tokens
listed_is part [] h = refl
listed_is part (t ∷ ts) h =
    omega (
      arith,
      sum_by-cons (λ u. length (postings_of (segment_of part).sets u)) t ts,
      sum_by-cons (λ u. length (get_or (segment_of part).lists u [])) t ts,
      ap length (list_is (tables_of part) t h.0),
      listed_is part ts h.1,
    )

once_both : (a b : Bool) → once (a && b) ≤ once a
once_both true true = omega arith
once_both true false = omega arith
once_both false b = omega arith

some_unprobed : (tokens : List ℕ) (known : List Bool) (n : ℕ) (sets : List (List ℕ)) → count_by (λ s. has_one tokens s.1 && not (get_or known s.0 false)) (enumerate_from n sets) ≤ count_by (has_one tokens) sets
some_unprobed tokens known n [] = omega arith
some_unprobed tokens known n (s ∷ sets) =
    omega (
      arith,
      count-cons (λ (u : ℕ × List ℕ). has_one tokens u.1 && not (get_or known u.0 false)) (n, s) (enumerate_from (n + 1) sets),
      count-cons (has_one tokens) s sets,
      once_both (has_one tokens s) (not (get_or known n false)),
      some_unprobed tokens known (n + 1) sets,
    )

-- no more can be probed than the bound says
pub few_unprobed : (part : Part) (tokens : List ℕ) (known : List Bool) → AllByRecursion (λ t. t < length (segment_of part).tokens) tokens → unprobed (segment_of part).sets tokens known ≤ probes_bound part tokens
few_unprobed part tokens known h =
    let sets = (segment_of part).sets in
    omega (
      arith,
      some_unprobed tokens known 0 sets,
      few_posted sets tokens,
      listed_is part tokens h,
      count_by-le-length (λ (s : ℕ × List ℕ). has_one tokens s.1 && not (get_or known s.0 false)) (enumerate_from 0 sets),
      length-enumerate_from 0 sets,
    )

pub few_asked : (part : Part) (keys : List Text) (tokens : List ℕ) (known : List Bool) → tokens ≡ asked_in keys part → unprobed (segment_of part).sets tokens known ≤ probes_bound part tokens
few_asked part keys tokens known e = subst (λ (ts : List ℕ). unprobed (segment_of part).sets ts known ≤ probes_bound part ts) (sym e) (few_unprobed part (asked_in keys part) known (all_asked (segment_of part).tokens keys))

-- ---- one column fewer

differ : (a b : ℕ) → a < b → (b ≡ a → ⊥)
differ a b h e = absurd (omega arith)

module _ (p q : ℕ × List ℕ → Bool) (x : ℕ) (other : (s : ℕ × List ℕ) → (s.0 ≡ x → ⊥) → q s ≡ p s) where
  same_behind : (n : ℕ) (sets : List (List ℕ)) → x < n → count_by q (enumerate_from n sets) ≡ count_by p (enumerate_from n sets)
  same_behind n [] h = refl
  same_behind n (s ∷ sets) h = omega (arith, count-cons q (n, s) (enumerate_from (n + 1) sets), count-cons p (n, s) (enumerate_from (n + 1) sets), ap once (other (n, s) (differ x n h)), same_behind (n + 1) sets (omega arith))

  one_less : (n i : ℕ) (sets : List (List ℕ)) → x ≡ n + i → i < length sets → p (x, get_or sets i []) ≡ true → q (x, get_or sets i []) ≡ false → count_by q (enumerate_from n sets) + 1 ≡ count_by p (enumerate_from n sets)
  one_less n i [] at h e f = absurd (omega arith)
  one_less n zero (s ∷ sets) at h e f =
      let here : x ≡ n = omega arith in
      omega (
        arith,
        count-cons q (n, s) (enumerate_from (n + 1) sets),
        count-cons p (n, s) (enumerate_from (n + 1) sets),
        ap (λ (m : ℕ). once (p (m, s))) (sym here) ∙ ap once e,
        ap (λ (m : ℕ). once (q (m, s))) (sym here) ∙ ap once f,
        same_behind (n + 1) sets (omega arith),
      )
  one_less n (suc i) (s ∷ sets) at h e f =
      omega (
        arith,
        count-cons q (n, s) (enumerate_from (n + 1) sets),
        count-cons p (n, s) (enumerate_from (n + 1) sets),
        ap once (other (n, s) (λ k. absurd (omega arith))),
        one_less (n + 1) i sets (omega arith) (omega arith) e f,
      )

hits_some : (set tokens : List ℕ) (read : ℕ) → 0 < length (hits set (take read tokens)) → has_one tokens set ≡ true
hits_some set tokens read h =
    let all : length (hits set tokens) ≡ length (hits set (take read tokens)) + length (hits set (drop read tokens)) =
    ap (λ (ts : List ℕ). length (hits set ts)) (sym (take-append-drop read tokens)) ∙ ap (λ (ts : List ℕ). length ts) (hits-append set (take read tokens) (drop read tokens)) ∙ length-append (hits set (take read tokens)) (hits set (drop read tokens)) in
    let some : 0 < length (hits set tokens) = omega (arith, all, h) in
    grind (arith, nat_tests)

-- a column that is in one of the lists read becomes known
pub unprobed_less : (sets : List (List ℕ)) (tokens : List ℕ) (known : List Bool) (x read : ℕ) → x < length sets → x < length known → get_or known x false ≡ false → 0 < length (hits (get_or sets x []) (take read tokens))
    → unprobed sets tokens (set known x true) + 1 ≡ unprobed sets tokens known
unprobed_less sets tokens known x read h k fresh some =
    let has = hits_some (get_or sets x []) tokens read some in
    one_less (λ s. has_one tokens s.1 && not (get_or known s.0 false)) (λ s. has_one tokens s.1 && not (get_or (set known x true) s.0 false)) x
    (λ s d. ap (λ b. has_one tokens s.1 && not b) (get_or-set_other known x s.0 true false d))
    0 x sets (omega arith) h
    (λ i. has i && not (fresh i))
    (λ i. has i && not (get_or-set_same known x true false k i))
