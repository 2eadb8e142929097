use Rattle.std.proofs.Common.{◌+◌, ◌*◌, sym, mul-zero}
use Rattle.std.proofs.lemmas.List.{append-nil}
use Rattle.lake_maker.proofs.StepLemmas.{loads_step, state_none, state_step, times_more}
use Rattle.lake_maker.proofs.batch.push_loads.Goals as goal

pub loop-table-init : goal.loop-table-init
loop-table-init c = record { tasks = sym (append-nil c.args.into.now); state = state_none c.args.draws.now (3 * c.args.rows * 0) (mul-zero (3 * c.args.rows)) }

pub loop-table-preserved : goal.loop-table-preserved
loop-table-preserved c = record {
  tasks = loads_step c.args.draws.now c.args.rows c.loop-table.table c.loop-table.draws c.args.into.now c.loop-table.into c.push_load.new.into c.loop-table.invariant.state c.loop-table.invariant.tasks c.in_ok-push_load.ensures.tasks;
  state = state_step c.args.draws.now (3 * c.args.rows * c.loop-table.table) (3 * c.args.rows) (3 * c.args.rows * (c.loop-table.table + 1)) c.loop-table.draws c.push_load.new.draws c.loop-table.invariant.state c.in_ok-push_load.ensures.state (times_more (3 * c.args.rows) c.loop-table.table);
}
