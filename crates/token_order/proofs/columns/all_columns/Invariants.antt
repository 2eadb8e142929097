use Rattle.std.proofs.Common.{◌≡◌, length, map, take}
use Rattle.std.specs.List.{All}
use Rattle.column_set.specs.Columns.{HasDistinctKeys}
use Rattle.search_model.specs.Arrays.{owner_of}
use Rattle.search_model.specs.Segment.{columns_of}
use Rattle.token_order.specs.Columns.{keys_through, owner_there, AreColumns}
use Rattle.token_order.specs.Places.{keys_of}
use Rattle.token_order.proofs.columns.all_columns.Given as goal

abbrev pub invariant-loop-table : goal.invariant-loop-table
invariant-loop-table l = record {
  columns : AreColumns l.tables l.columns.items;
  owned : map owner_there l.columns.items ≡ map owner_of (columns_of (take l.table l.tables));
  keys : keys_through l.tables l.columns.items ≡ keys_of (take l.table l.tables);
  first : l.first ≡ length (keys_through l.tables l.columns.items);
  different : All HasDistinctKeys (take l.table l.tables);
}
