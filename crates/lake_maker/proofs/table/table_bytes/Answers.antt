use Rattle.std.proofs.Common.{refl, ◌+◌, ◌*◌, arith}
use Rattle.lake_maker.proofs.StepLemmas.{state_none, state_step, table_step}
use Rattle.lake_maker.proofs.table.table_bytes.Goals as goal

pub loop-row-init : goal.loop-row-init
loop-row-init c = record { bytes = c.in_ok-bytes.ensures.items; state = state_none c.args.draws.now 0 refl }

pub loop-row-preserved : goal.loop-row-preserved
loop-row-preserved c = record {
  bytes = table_step c.args.draws.now c.loop-row._row c.loop-row.draws c.loop-row.bytes.items c.push_record.new.into.items c.loop-row.invariant.state c.loop-row.invariant.bytes c.in_ok-push_record.ensures.text;
  state = state_step c.args.draws.now (3 * c.loop-row._row) 3 (3 * (c.loop-row._row + 1)) c.loop-row.draws c.push_record.new.draws c.loop-row.invariant.state c.in_ok-push_record.ensures.state (omega arith);
}
