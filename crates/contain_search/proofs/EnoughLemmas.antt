-- A count that is broken off once it cannot become high enough.
use Rattle.std.proofs.Common.{◌≡◌, refl, ap, subst, ℕ, ◌+◌, ◌-◌, ◌<◌, List, Bool, cond, drop, length, take, arith}
use Rattle.std.specs.List.{count_by}
use Rattle.std.proofs.lemmas.List.{length-drop}
use Rattle.std.proofs.lemmas.List.Sums.{count_by-le-length, sum_by-take-drop}
use Rattle.contain_search.specs.Enough.{IsExactFrom}
use Rattle.lake_model.specs.Layout.{is_among}
use Rattle.part_columns.proofs.ProbeLemmas.{probe_counts}
use Rattle.part_columns.specs.declared.tally.Tally.{Tally}
use Rattle.part_columns.specs.Tallies.{position_in, tally_of}
use Rattle.search_model.specs.Looks.{hits}
use Rattle.list_laws.specs.Distinct.{Rises}

-- the whole count
pub all_counted : (least count told : ℕ) → told ≡ count → IsExactFrom least count told
all_counted least count told e = record { exact = λ h. e; below = λ h. omega (arith, e, h) }

-- the first i were counted, and too few are left
pub too_few_left : {X : Type 0} (p : X → Bool) (xs : List X) (i least told : ℕ) → told ≡ count_by p (take i xs) → told + (length xs - i) < least → IsExactFrom least (count_by p xs) told
too_few_left p xs i least told e few =
    let parts = sum_by-take-drop (λ x. cond (p x) 1 0) xs i in
    let rest = count_by-le-length p (drop i xs) in
    record {
      exact = λ h. absurd (omega (arith, e, few, h, parts, rest, length-drop i xs));
      below = λ h. omega (arith, few);
    }

-- `before` were counted earlier
counted_on : (least before count told : ℕ) → IsExactFrom (least - before) count told → IsExactFrom least (before + count) (before + told)
counted_on least before count told is = record {
  exact = λ h. ap (λ (n : ℕ). before + n) (is.exact (omega (arith, h)));
  below = λ h. (let low = is.below (omega (arith, h)) in omega (arith, low, h));
}

-- the number for the tokens after the last hit, plus the count of the tally, is exact from `least` on for all tokens
pub probed_from : (set qs : List ℕ) (i least wanted told : ℕ) (left tail : List ℕ) (tally : Tally) → Rises set → Rises qs → 0 < tally.count → tally ≡ tally_of set (hits set (take i qs))
    → left ≡ drop i qs → tail ≡ drop (position_in set tally + 1) set → wanted ≡ least - tally.count → IsExactFrom wanted (count_by (is_among left) tail) told → IsExactFrom least (length (hits set qs)) (tally.count + told)
probed_from set qs i least wanted told left tail tally over up some e l t w is =
    let count = count_by (is_among left) tail in
    subst (λ (n : ℕ). IsExactFrom least n (tally.count + told)) (probe_counts set qs i count left tail tally over up some e l t refl)
    (counted_on least tally.count count told (subst (λ (n : ℕ). IsExactFrom n count told) w is))
