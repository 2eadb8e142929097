use Rattle.std.proofs.Common.{◌≡◌, ◌+◌, drop}
use Rattle.std.specs.Prelude.{fold}
use Rattle.lake_model.specs.Records.{field_keys}
use Rattle.lake_model.specs.Tables.{add_key, distinct}
use Rattle.column_set.proofs.table.read_keys.Given as goal

-- the keys so far with those of the remaining records are the column's, and the finished lists are unchanged
abbrev pub invariant-loop-row : goal.invariant-loop-row
invariant-loop-row l = record {
  finished : l.lists.finished ≡ l.initial.lists.finished;
  keys : distinct (field_keys l.fn.keys l.place (drop 1 l.raw)) ≡ fold add_key l.lists.current (field_keys l.fn.keys l.place (drop (l.row + 1) l.raw));
}
