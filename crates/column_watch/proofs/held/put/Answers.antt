use Rattle.std.proofs.Common.{◌∙◌, ap, insert, sym}
use Rattle.lake_model.specs.Answer.{row_cmp}
use Rattle.lake_model.specs.Sorting.{put_in_order}
use Rattle.column_watch.proofs.OrderLemmas.{put_is}
use Rattle.column_watch.proofs.held.put.Goals as goal

pub returns-clause-rows : goal.returns-clause-rows
returns-clause-rows c = c.in-Ok.ensures.items ∙ ap (λ rows. insert rows c.index_for-at.result c.args.row) (sym c.deref.ensures.value) ∙ c.index_for-at.ensures.put ∙ ap (put_in_order row_cmp c.args.row) c.deref.ensures.value ∙ put_is c.args.row c.args.rows.now.items c.requires.order
