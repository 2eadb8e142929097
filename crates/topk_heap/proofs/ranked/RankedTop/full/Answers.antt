use Rattle.std.proofs.Common.{◌≡◌, ◌∙◌, ap, subst, length, leb}
use Rattle.std.specs.BinaryHeap.{heap_items}
use Rattle.topk_heap.specs.Ranked.{titles_in, RankedRows}
use Rattle.topk_heap.proofs.RankedLemmas.{rows_full}
use Rattle.topk_heap.proofs.ranked.RankedTop.full.Goals as goal

pub returns : goal.returns
returns c =
    subst (λ (v : RankedRows). leb c.self.inside.k c.len.result ≡ leb v.k (length v.rows)) c.self.view_is (ap (leb c.self.inside.k) (c.len.ensures ∙ c.len_counts_entries.ensures) ∙ rows_full (titles_in c.self.inside.titles) c.self.inside.k (heap_items c.self.inside.heap))
