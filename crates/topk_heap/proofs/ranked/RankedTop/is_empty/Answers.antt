use Rattle.std.proofs.Common.{◌≡◌, refl, ◌∙◌, ap, sym, subst, ℕ, List, [], ◌∷◌, length, arith}
use Rattle.std.specs.BinaryHeap.{heap_items, heap_len}
use Rattle.std.proofs.lemmas.Bool.{eqb-true}
use Rattle.lake_model.specs.Answer.{row_cmp}
use Rattle.lake_model.specs.Sorting.{in_order}
use Rattle.topk_heap.specs.Ranked.{rows_in, titles_in, RankedRows}
use Rattle.topk_heap.proofs.TopLemmas.{in_order_empty}
use Rattle.topk_heap.proofs.ranked.RankedTop.is_empty.Goals as goal

none_there : (items : List ℕ) → length items ≡ 0 → items ≡ []
none_there [] e = refl
none_there (x ∷ items) e = absurd (omega (arith, e))

pub returns : goal.returns
returns c = λ e.
    let none : heap_items c.self.inside.heap ≡ [] = none_there (heap_items c.self.inside.heap) (sym c.len_counts_entries.ensures ∙ eqb-true (heap_len c.self.inside.heap) 0 (sym c.is_empty.ensures ∙ e)) in
    subst (λ (v : RankedRows). v.rows ≡ []) c.self.view_is (ap (λ (items : List ℕ). in_order row_cmp (rows_in (titles_in c.self.inside.titles) items)) none ∙ in_order_empty)
