-- The columns of a part, its tier, and its marks, from the lists that a pin gives.
use Rattle.std.proofs.Common.{◌≡◌, refl, ap, sym, ◌∙◌, ℕ, ◌+◌, ◌-◌, ◌*◌, ◌<◌, ◌≤◌, Bool, List, [], ◌∷◌, ◌++◌, map, length, cond, inl, inr, arith}
use Rattle.std.specs.Prelude.{◌⊎◌, nat_le, sum_by, count_by}
use Rattle.std.specs.List.{flat_map, enumerate_from}
use Rattle.std.proofs.lemmas.Bool.{le-leb, lt-leb, cases_lt}
use Rattle.std.proofs.lemmas.List.{length-append, length-map}
use Rattle.std.proofs.lemmas.List.Folds.{fold-map}
use Rattle.std.proofs.lemmas.List.FromFn.{length-enumerate_from}
use Rattle.std.proofs.lemmas.List.Sums.{sum_by-cons}
use Rattle.lake_model.specs.Tables.{Column, Table}
use Rattle.lake_model.specs.Layout.{Place, Part}
use Rattle.lake_model.specs.Plan.{binary_digits, tier, marks, is_half_marked}
use Rattle.search_model.specs.Segment.{Titled, titled, columns_of, segment, tokens_of, tokens_in}
use Rattle.segment_core.proofs.SegmentLemmas.{sets_counted}
use Rattle.segment_core.specs.Versions.{tables_of, marks_of, segment_of}

-- the tier of a part, from the number of columns of its segment
pub tier_of_sets : (part : Part) → binary_digits (length (segment_of part).sets) ≡ tier part
tier_of_sets part = ap binary_digits (sets_counted (tables_of part) ∙ fold-map (λ (n : ℕ) (t : Table). n + length t.columns) (λ (p : Place). p.table) 0 part.places)

marks_counted : (part : Part) → count_by (λ mark. mark) (marks_of part) ≡ marks part
marks_counted part = fold-map (λ (n : ℕ) (b : Bool). n + cond b 1 0) (λ (p : Place). p.marked) 0 part.places

-- whether a part is half marked, by its marks
pub half_by_marks : (part : Part) → nat_le (length (marks_of part)) (2 * count_by (λ mark. mark) (marks_of part)) ≡ is_half_marked part
half_by_marks part = λ i. nat_le (length-map part.places (λ (p : Place). p.marked) i) (2 * marks_counted part i)

pub none_marked : (part : Part) → count_by (λ mark. mark) (marks_of part) ≡ marks part
none_marked part = marks_counted part

-- m is half or more of n exactly if the rest is at most m
pub half_test : (n m : ℕ) → nat_le (n - m) m ≡ nat_le n (2 * m)
half_test n m = by (cases_lt (2 * m) n)
  where
    by : (2 * m < n) ⊎ (n ≤ 2 * m) → nat_le (n - m) m ≡ nat_le n (2 * m)
    by (inl lt) = lt-leb (n - m) m (omega arith) ∙ sym (lt-leb n (2 * m) lt)
    by (inr le) = le-leb (n - m) m (omega arith) ∙ sym (le-leb n (2 * m) le)
