use Rattle.std.proofs.Common.{◌≡◌, ◌*◌}
use Rattle.option_model.specs.Generator.{state_at, table_text}
use Rattle.lake_maker.proofs.table.table_bytes.Given as goal

abbrev pub invariant-loop-row : goal.invariant-loop-row
invariant-loop-row l = record {
  bytes : l.bytes.items ≡ table_text l.initial.draws l._row 0;
  state : l.draws ≡ state_at l.initial.draws (3 * l._row);
}
