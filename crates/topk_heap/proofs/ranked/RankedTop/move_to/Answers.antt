use Rattle.std.proofs.Common.{◌≡◌, ◌∙◌, ap, sym, subst, List, [], length, Option}
use Rattle.std.specs.BinaryHeap.{heap_items}
use Rattle.search_model.specs.Segment.{Titled}
use Rattle.topk_heap.specs.Ranked.{titles_in, AreEntries, RankedRows}
use Rattle.topk_heap.proofs.RankedLemmas.{entries_permuted, in_rows, none_of_none, rows_moved}
use Rattle.topk_heap.proofs.TopLemmas.{in_order_empty}
use Rattle.topk_heap.proofs.ranked.RankedTop.move_to.Goals as goal

pub returns-in-None-clause-rows : goal.returns-in-None-clause-rows
returns-in-None-clause-rows c =
    let items = heap_items c.self.inside.heap in
    let none = none_of_none items (subst (λ (t : Option (List Titled)). AreEntries (length (titles_in t)) items) c.in-None.is c.self.invariant.4) in
    c.requires.none ∙ sym (subst (λ (v : RankedRows). v.rows ≡ []) c.self.view_is (ap (in_rows (titles_in c.self.inside.titles)) none ∙ in_order_empty))

pub offer_all-requires-clause-entries : goal.offer_all-requires-clause-entries
offer_all-requires-clause-entries c =
    let items = heap_items c.self.inside.heap in
    let are : AreEntries (length c.in-Some.titles) items = subst (λ (t : Option (List Titled)). AreEntries (length (titles_in t)) items) c.in-Some.is c.self.invariant.4 in
    let held = subst (λ v. AreEntries (length c.in-Some.titles) v.items) (sym c.into_vec-entries.ensures.value) are in
    subst (AreEntries (length c.in-Some.titles)) (sym c.deref.ensures.value) (entries_permuted (length c.in-Some.titles) _ _ c.sort_unstable.ensures.permutation held)

pub returns-clause-rows : goal.returns-clause-rows
returns-clause-rows c =
    c.offer_all.ensures.rows
    ∙ ap (in_rows c.in-Some.titles) c.deref.ensures.value
    ∙ rows_moved c.in-Some.titles _ _ c.sort_unstable.ensures.permutation
    ∙ ap (λ v. in_rows c.in-Some.titles v.items) c.into_vec-entries.ensures.value
    ∙ ap (λ (t : Option (List Titled)). in_rows (titles_in t) (heap_items c.self.inside.heap)) (sym c.in-Some.is)
    ∙ ap (λ (v : RankedRows). v.rows) c.self.view_is
