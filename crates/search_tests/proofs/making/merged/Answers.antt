use Rattle.std.proofs.Common.{◌≡◌, ◌∙◌, ap, ◌+◌, ◌≤◌, ℕ, length, map, inl, arith}
use Rattle.std.specs.Prelude.{slice_range}
use Rattle.lake_model.specs.Tables.{Table}
use Rattle.lake_model.specs.Layout.{layout}
use Rattle.segment_core.specs.Plans.{PlanOf, plan_run}
use Rattle.segment_core.specs.Versions.{VersionOf}
use Rattle.catalogue.proofs.PlannedLemmas.{length_sliced, run_merges, sliced}
use Rattle.search_tests.proofs.making.merged.Goals as goal

pub returns-clause-merges : goal.returns-clause-merges
returns-clause-merges c =
    let journal = c.args.lake.now.journal in
    let parts = layout journal in
    let first : ℕ = 0 in
    let version = c.in_ok-pin.ensures.version in
    let many : length c.in_ok-pin.pin.parts ≡ length (layout c.args.lake.now.journal) = ap (λ (v : VersionOf). length v.parts) version in
    let within : 0 + c.args.count ≤ length (layout c.args.lake.now.journal) = omega (arith, many) in
    let two = length_sliced parts first c.args.count within in
    let plan = c.from-2.view_is ∙ c.in_ok-from.ensures ∙ ap (λ (v : VersionOf). plan_run v.at (slice_range v.parts 0 (0 + c.args.count))) version in
    let from = ap (λ (p : PlanOf). p.from) plan in
    let kept = ap (λ (p : PlanOf). p.kept) plan in
    let left = c.new-kept.ensures ∙ c.in_ok-kept_positions.ensures ∙ ap (map (λ (load : ℕ × Table). load.0)) (c.deref-2.ensures.value ∙ kept) in
    let tables = c.in_ok-segment.ensures.tables ∙ ap (map (λ (load : ℕ × Table). load.1)) (c.deref.ensures.value ∙ kept) in
    run_merges journal c.journal-journal.ensures.legal (slice_range parts first (first + c.args.count)) (sliced parts first (first + c.args.count)) (omega (arith, two, c.requires)) (inl (omega (arith, two, c.requires))) _ from left tables
