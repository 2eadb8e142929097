use Rattle.std.proofs.Common.{◌≡◌, map, take}
use Rattle.lake_model.specs.Tables.{overlap}
use Rattle.column_watch.proofs.overlaps.overlaps.Given as goal

abbrev pub invariant-loop-i : goal.invariant-loop-i
invariant-loop-i l = map (λ counts. counts.items) l.overlaps.items ≡ map (λ column. map (λ keys. overlap keys column.keys) (map (λ state. state.keys) l.queries)) (take l.i l.table.columns)
