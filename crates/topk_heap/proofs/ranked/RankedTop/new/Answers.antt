use Rattle.std.proofs.Common.{ap, ◌∙◌, [], ℕ, List}
use Rattle.lake_model.specs.Answer.{row_cmp}
use Rattle.lake_model.specs.Sorting.{in_order}
use Rattle.topk_heap.specs.Ranked.{ranked_with, rows_in}
use Rattle.topk_heap.proofs.TopLemmas.{in_order_empty}
use Rattle.topk_heap.proofs.ranked.RankedTop.new.Goals as goal

pub returns : goal.returns
returns c = ap (λ rows. ranked_with c.args.k rows []) (ap (λ (items : List ℕ). in_order row_cmp (rows_in [] items)) c.in_ok-with_capacity.ensures.items ∙ in_order_empty)
