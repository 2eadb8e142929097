use Rattle.std.proofs.Common.{◌≡◌, map, string_bytes}
use Rattle.std.specs.List.{range_with_len}
use Rattle.lake_model.specs.Records.{field_at}
use Rattle.column_set.proofs.table.read_names.Given as goal

abbrev pub invariant-loop-i : goal.invariant-loop-i
invariant-loop-i l = map string_bytes l.names.items ≡ map (field_at l.raw 0) (range_with_len 1 l.i)
