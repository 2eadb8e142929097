use Rattle.std.proofs.Common.{◌≡◌, [], length, map}
use Rattle.std.specs.Prelude.{nat_lt}
use Rattle.std.specs.List.{AllByRecursion, range_with_len}
use Rattle.lake_model.specs.Records.{column_at, column_count, sets_fault}
use Rattle.column_set.specs.Columns.{IsSmall}
use Rattle.column_set.specs.Lists.{AreLists, parts_of}
use Rattle.column_set.proofs.ReadLemmas.{fault_behind}
use Rattle.column_set.proofs.table.read_sets.Given as goal

-- the sets of the first columns are finished, none is too large, and the first column at fault is one of the remaining ones
abbrev pub invariant-loop-i : goal.invariant-loop-i
invariant-loop-i l = record {
  none : l.lists.current ≡ [];
  held : AreLists l.starts.items l.lists.finished;
  read : parts_of l.starts.items l.lists.finished ≡ map (λ place. (column_at l.fn.keys l.raw place).keys) (range_with_len 1 l.i);
  small : AllByRecursion IsSmall (parts_of l.starts.items l.lists.finished);
  fault : sets_fault l.fn.keys l.raw ≡ fault_behind (λ place. nat_lt 4194304 (length (column_at l.fn.keys l.raw place).keys)) l.i (column_count l.raw);
}
