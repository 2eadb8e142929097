-- A swap by the index of the first part that it takes.
use Rattle.std.proofs.Common.{◌≡◌, ap, sym, ◌∙◌, subst, ℕ, ◌+◌, ◌<◌, ◌≤◌, List, ◌++◌, true, length, take, drop, arith}
use Rattle.std.specs.Prelude.{nat_eq}
use Rattle.std.specs.List.{filter, position_or_len}
use Rattle.std.proofs.lemmas.Bool.{eqb-false}
use Rattle.std.proofs.lemmas.List.{take-append-drop, drop-drop, length-append, length-map, length-take, length-drop}
use Rattle.lake_model.specs.Layout.{Part, is_among, run_of, may_swap, positions_of}
use Rattle.list_laws.specs.Distinct.{AreDistinct}
use Rattle.layout_laws.specs.Steps.{numbers_of}
use Rattle.list_laws.proofs.ListLemmas.{length_filter_le}
use Rattle.layout_laws.specs.Places.{kept_places}
use Rattle.layout_laws.proofs.SwapLemmas.{one_part, swapped}
use Rattle.layout_laws.proofs.RunLemmas.{opened, swapped_is}
use Rattle.layout_laws.proofs.LaidLemmas.{swaps_run, positions_split, positions_swapped}

abbrev pub first_of : List ℕ → List Part → ℕ
first_of planned parts = position_or_len (λ part. is_among planned part.number) parts

-- what takes the place of the run
pub swapped_at : (position : ℕ) (parts : List Part) (planned kept : List ℕ) → AreDistinct (numbers_of parts) → may_swap parts planned kept ≡ true
    → swapped position planned kept parts ≡ take (first_of planned parts) parts ++ (one_part position (kept_places kept (run_of planned parts)) ++ drop (first_of planned parts + length planned) parts)
swapped_at position parts planned kept distinct h =
    let n = first_of planned parts in
    let run = run_of planned parts in
    let back = drop (length planned) (drop n parts) in
    let o = opened parts planned kept h in
    let whole : parts ≡ take n parts ++ (run ++ back) = sym (take-append-drop n parts) ∙ ap (λ ps. take n parts ++ ps) (sym (take-append-drop (length planned) (drop n parts))) in
    (λ i. swapped position (sym o.numbers i) kept (whole i))
    ∙ swapped_is position kept (take n parts) run back (subst (λ (ps : List Part). AreDistinct (numbers_of ps)) whole distinct) (ap (λ (ns : List ℕ). nat_eq (length ns) 0) o.numbers ∙ o.some)
    ∙ ap (λ ps. take n parts ++ (one_part position (kept_places kept run) ++ ps)) (drop-drop (length planned) n parts)

-- the planned parts are there
pub run_within : (parts : List Part) (planned kept : List ℕ) → may_swap parts planned kept ≡ true → (0 < length planned) × (first_of planned parts + length planned ≤ length parts)
run_within parts planned kept h =
    let n = first_of planned parts in
    let o = opened parts planned kept h in
    let some = eqb-false (length planned) 0 o.some in
    let many : length (run_of planned parts) ≡ length planned = sym (length-map (run_of planned parts) (λ (p : Part). p.number)) ∙ ap (λ (ns : List ℕ). length ns) o.numbers in
    let taken = length-take (length planned) (drop n parts) in
    let left = length-drop n parts in
    (omega (arith, some), omega (arith, some, many, taken, left))

-- no position is added
pub positions_fewer : (position : ℕ) (parts : List Part) (planned kept : List ℕ) → AreDistinct (numbers_of parts) → may_swap parts planned kept ≡ true
    → length (positions_of (swapped position planned kept parts)) ≤ length (positions_of parts)
positions_fewer position parts planned kept distinct h =
    let s = swaps_run position parts planned kept distinct h in
    let f = positions_of s.front in
    let r = positions_of s.run in
    let b = positions_of s.back in
    let after = ap (λ (ps : List Part). length (positions_of ps)) s.behind ∙ ap (λ (ns : List ℕ). length ns) (positions_swapped position kept s.front s.run s.back) in
    let was = ap (λ (ps : List Part). length (positions_of ps)) s.before ∙ ap (λ (ns : List ℕ). length ns) (positions_split s.front s.run s.back) in
    omega (arith, after, was, length-append f (filter (is_among kept) r ++ b), length-append (filter (is_among kept) r) b, length-append f (r ++ b), length-append r b, length_filter_le (is_among kept) r)
