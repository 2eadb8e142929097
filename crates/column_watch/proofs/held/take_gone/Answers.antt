use Rattle.std.proofs.Common.{◌∙◌, ap, sym, not}
use Rattle.std.specs.Prelude.{bytes_eq}
use Rattle.lake_model.specs.Answer.{Row, row_cmp}
use Rattle.lake_model.specs.Sorting.{in_order}
use Rattle.column_watch.proofs.OrderLemmas.{left_in_order}
use Rattle.column_watch.proofs.held.take_gone.Goals as goal

pub returns-in-Some-clause-order : goal.returns-in-Some-clause-order
returns-in-Some-clause-order c =
    c.take_out.ensures.rows ∙ left_in_order (λ (row : Row). not (bytes_eq row.table c.in-Some.name.now)) c.args.rows.now.items c.requires.order ∙ ap (in_order row_cmp) (sym c.take_out.ensures.rows)
