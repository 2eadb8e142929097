use Rattle.std.proofs.Common.{◌≡◌, ◌*◌, ◌++◌, flat_map}
use Rattle.std.specs.List.{range_with_len}
use Rattle.option_model.specs.Generator.{load_tasks, state_at}
use Rattle.lake_maker.proofs.batch.push_loads.Given as goal

abbrev pub invariant-loop-table : goal.invariant-loop-table
invariant-loop-table l = record {
  tasks : l.into ≡ l.initial.into ++ flat_map (load_tasks l.initial.draws l.rows) (range_with_len 1 l.table);
  state : l.draws ≡ state_at l.initial.draws (3 * l.rows * l.table);
}
