use Rattle.std.proofs.Common.{◌≡◌, refl, ap, ◌∙◌, ◌+◌, ℕ, List, Bool, false, get_or, length, arith}
use Rattle.std.proofs.lemmas.List.{length-replicate}
use Rattle.part_columns.specs.declared.tally.Tally.{Tally}
use Rattle.part_columns.specs.Tallies.{no_tally, tally_at}
use Rattle.part_columns.proofs.TouchedLemmas.{kept_cleared, same_everywhere, view_cleared}
use Rattle.part_columns.proofs.columns.Columns.new.Goals as goal

pub invariant_of-result : goal.invariant_of-result
invariant_of-result c =
    let tallies = c.in_ok-vec.ensures.items_if_clones_equal (λ y h. h) in
    let known = c.in_ok-vec-2.ensures.items_if_clones_equal (λ y h. h) in
    let long : length c.in_ok-vec.field-0.items ≡ c.args.columns = ap (λ (ts : List Tally). length ts) tallies ∙ length-replicate c.args.columns no_tally in
    let list = c.in_ok-vec-3.ensures.items_if_clones_equal (λ y h. h) in
    kept_cleared c.in_ok-vec.field-0.items _ c.in_ok-vec-2.field-0.items _ c.in_ok-vec-3.field-0.items refl refl
    (λ x. ap (λ (ts : List Tally). tally_at ts x) tallies ∙ same_everywhere no_tally c.args.columns x) (λ x. ap (λ (ms : List Bool). get_or ms x false) known ∙ same_everywhere false c.args.columns x)
    (omega (arith, long, ap length list, length-replicate {A = ℕ} (c.args.columns + 1) 0)) (omega (arith, long, c.ranges.columns.fits)) (omega (arith, long, ap length known, length-replicate c.args.columns false))

pub returns-clause-clean : goal.returns-clause-clean
returns-clause-clean c =
    view_cleared c.in_ok-vec.field-0.items _ c.in_ok-vec-2.field-0.items _ _ refl refl
    (λ x. ap (λ (ts : List Tally). tally_at ts x) (c.in_ok-vec.ensures.items_if_clones_equal (λ y h. h)) ∙ same_everywhere no_tally c.args.columns x)
    (λ x. ap (λ (ms : List Bool). get_or ms x false) (c.in_ok-vec-2.ensures.items_if_clones_equal (λ y h. h)) ∙ same_everywhere false c.args.columns x)
