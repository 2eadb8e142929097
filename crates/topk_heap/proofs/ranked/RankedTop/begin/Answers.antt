use Rattle.std.proofs.Common.{ap, ◌∙◌, ℕ, List}
use Rattle.lake_model.specs.Answer.{row_cmp}
use Rattle.lake_model.specs.Sorting.{in_order}
use Rattle.topk_heap.specs.Ranked.{ranked_with, rows_in, RankedRows}
use Rattle.topk_heap.proofs.TopLemmas.{in_order_empty}
use Rattle.topk_heap.proofs.ranked.RankedTop.begin.Goals as goal

pub returns : goal.returns
returns c =
    ap (λ rows. ranked_with c.self.inside.k rows c.args.titles) (ap (λ (items : List ℕ). in_order row_cmp (rows_in c.args.titles items)) c.clear.ensures.items ∙ in_order_empty)
    ∙ ap (λ (v : RankedRows). ranked_with v.k _ c.args.titles) c.self.view_is
