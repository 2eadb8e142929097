use Rattle.std.proofs.Common.{◌≡◌, ◌+◌, ◌++◌, List, drop, get_or, map}
use Rattle.lake_model.specs.Answer.{rows_from, rows_of_table}
use Rattle.lake_model.specs.Tables.{overlap}
use Rattle.lake_model.specs.Texts.{Text}
use Rattle.column_watch.proofs.overlaps.table_rows.Given as goal

abbrev pub invariant-loop-i : goal.invariant-loop-i
invariant-loop-i l = (query : List Text) → map (λ numbers. get_or numbers l.w 0) (map (λ counts. counts.items) l.overlaps) ≡ map (λ column. overlap query column.keys) l.table.columns
    → l.rows.items ++ rows_from query l.table.name (l.i + 1) (drop l.i l.table.columns) ≡ rows_of_table query l.table
