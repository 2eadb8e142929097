use Rattle.std.proofs.Common.{◌≡◌, refl, ap, sym, ◌∙◌, subst, ℕ, ◌+◌, ◌++◌, List, Bool, Some, drop, length, length-append, map, replicate, arith}
use Rattle.std.specs.Prelude.{◌&&◌}
use Rattle.script_model.specs.Commands.{updates}
use Rattle.script_model.specs.Lanes.{IsOfLanes}
use Rattle.record_model.specs.Play.{merger_commands}
use Rattle.trace_laws.specs.Lows.{all_below, lows_on}
use Rattle.trace_laws.specs.Verdict.{hinted_zip}
use Rattle.trace_hints.specs.declared.hint.Hint.{Hint as Declared}
use Rattle.trace_hints.specs.Told.{hint_as}
use Rattle.trace_numbers.specs.Positions.{rises_whole}
use Rattle.trace_numbers.proofs.PassLemmas.{below_lanes, left_more, merger_lanes}
use Rattle.list_laws.proofs.ListLemmas.{all_at}
use Rattle.trace_numbers.proofs.rising.positions_rise.Goals as goal

pub loop-batch-init : goal.loop-batch-init
loop-batch-init c = record { left = (1, refl); lows = c.in_ok-lows.ensures.len; few = omega arith }

pub batch_rises-requires-clause-lanes : goal.batch_rises-requires-clause-lanes
batch_rises-requires-clause-lanes c =
    below_lanes c.args.lanes _ c.batch-item.result (c.deref_mut.ensures.len ∙ c.loop-batch.invariant.lows)
    (subst (IsOfLanes c.args.lanes) (sym c.batch-item.is) (all_at (IsOfLanes c.args.lanes) c.args.batches.now c.loop-batch.batch-index c.batch-item.result c.requires c.loop-batch-test.true))

pub returns-then-not-batch_rises : goal.returns-then-not-batch_rises
returns-then-not-batch_rises c =
    let kept = c.loop-batch.invariant in
    let next : ℕ = kept.left.0 in
    let batch = c.batch-item.result in
    let from : ℕ = c.loop-batch.from in
    let lanes : ℕ = c.args.lanes in
    let merges = merger_commands c.args.merge next batch in
    let now = c.in-Some.now.now in
    let behind = c.in-Some.behind.now in
    let size : length now ≡ length (batch ++ merges) = c.in-Some.ensures.size next in
    let sync : from + c.count_accepted.result ≡ from + _ = ap (λ (n : ℕ). from + n) c.count_accepted.ensures.value in
    let rise : c.batch_rises.result ≡ all_below (from + c.count_accepted.result) (lows_on (Some (replicate (lanes + 1) from)) (hinted_zip (batch ++ merges) (map hint_as now))) =
    c.batch_rises.ensures merges (merger_lanes c.args.merge next batch) size
    ∙ ap (λ (n : ℕ). all_below (from + c.count_accepted.result) (lows_on (Some (replicate n from)) (hinted_zip (batch ++ merges) (map hint_as now)))) (c.deref_mut.ensures.len ∙ kept.lows) in
    let step = left_more lanes c.args.merge next from (from + c.count_accepted.result) c.loop-batch.batch-index batch c.args.batches.now c.loop-batch.rest.now now behind c.batch_rises.result c.requires c.loop-batch-test.true c.batch-item.is c.in-Some.ensures.split size sync rise in
    ap (λ (b : Bool). b && rises_whole lanes c.args.merge (next + updates batch) (from + c.count_accepted.result) (drop (c.loop-batch.batch-index + 1) c.args.batches.now) (map hint_as behind)) (sym c.if-not-batch_rises.true) ∙ sym step ∙ kept.left.1

pub loop-batch-preserved : goal.loop-batch-preserved
loop-batch-preserved c =
    let kept = c.loop-batch.invariant in
    let next : ℕ = kept.left.0 in
    let batch = c.batch-item.result in
    let from : ℕ = c.loop-batch.from in
    let lanes : ℕ = c.args.lanes in
    let merges = merger_commands c.args.merge next batch in
    let now = c.in-Some.now.now in
    let behind = c.in-Some.behind.now in
    let size : length now ≡ length (batch ++ merges) = c.in-Some.ensures.size next in
    let sync : from + c.count_accepted.result ≡ from + _ = ap (λ (n : ℕ). from + n) c.count_accepted.ensures.value in
    let rise : c.batch_rises.result ≡ all_below (from + c.count_accepted.result) (lows_on (Some (replicate (lanes + 1) from)) (hinted_zip (batch ++ merges) (map hint_as now))) =
    c.batch_rises.ensures merges (merger_lanes c.args.merge next batch) size
    ∙ ap (λ (n : ℕ). all_below (from + c.count_accepted.result) (lows_on (Some (replicate n from)) (hinted_zip (batch ++ merges) (map hint_as now)))) (c.deref_mut.ensures.len ∙ kept.lows) in
    let step = left_more lanes c.args.merge next from (from + c.count_accepted.result) c.loop-batch.batch-index batch c.args.batches.now c.loop-batch.rest.now now behind c.batch_rises.result c.requires c.loop-batch-test.true c.batch-item.is c.in-Some.ensures.split size sync rise in
    record {
      left = (
        next + updates batch,
        ap (λ (b : Bool). b && rises_whole lanes c.args.merge (next + updates batch) (from + c.count_accepted.result) (drop (c.loop-batch.batch-index + 1) c.args.batches.now) (map hint_as behind)) (sym c.if-not-batch_rises.false) ∙ sym step ∙ kept.left.1,
      );
      lows = kept.lows;
      few = omega (arith, kept.few, ap (λ (hs : List Declared). length hs) c.in-Some.ensures.split, length-append now behind, c.count_accepted.ensures.few);
    }
