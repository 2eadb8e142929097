use Rattle.std.proofs.Common.{◌≡◌, ◌∙◌, ap, sym, subst, ◌-◌, arith, None, Some, take, false}
use Rattle.std.specs.Prelude.{option_map, slice_get}
use Rattle.std.specs.BinaryHeap.{heap_items}
use Rattle.std.specs.Ordering.{is_lt}
use Rattle.lake_model.specs.Answer.{Row, row_cmp}
use Rattle.lake_model.specs.Sorting.{put_in_order}
use Rattle.search_laws.specs.Select.{best}
use Rattle.topk_heap.specs.Ranked.{titles_in, RankedRows}
use Rattle.topk_heap.proofs.RankedLemmas.{kept_first, kth, kth_left, none_kth}
use Rattle.topk_heap.proofs.ranked.RankedTop.worst_overlap.Goals as goal

pub returns-in-None-clause-overlap : goal.returns-in-None-clause-overlap
returns-in-None-clause-overlap c =
    subst (λ (v : RankedRows). None ≡ option_map (λ (row : Row). row.overlap) (slice_get v.rows (v.k - 1))) c.self.view_is
    (ap (option_map (λ (row : Row). row.overlap)) (sym (none_kth (titles_in c.self.inside.titles) c.self.inside.k (heap_items c.self.inside.heap) c.in-None.ensures.none)))

pub returns-in-None-clause-left_out : goal.returns-in-None-clause-left_out
returns-in-None-clause-left_out c = λ worst row at l.
    let past = subst (λ (v : RankedRows). slice_get v.rows (v.k - 1) ≡ None) c.self.view_is (none_kth (titles_in c.self.inside.titles) c.self.inside.k (heap_items c.self.inside.heap) c.in-None.ensures.none) in
    absurd (let e : None ≡ Some worst = sym past ∙ at in cc)

pub returns-in-None-clause-first : goal.returns-in-None-clause-first
returns-in-None-clause-first c =
    subst (λ (v : RankedRows). v.rows ≡ best row_cmp v.k v.rows) c.self.view_is (kept_first (titles_in c.self.inside.titles) c.self.inside.k (heap_items c.self.inside.heap) (omega (arith, c.in-None.ensures.none)))

pub returns-in-Some-clause-overlap : goal.returns-in-Some-clause-overlap
returns-in-Some-clause-overlap c =
    let last = c.in-Some.ensures.last in
    let at = kth (titles_in c.self.inside.titles) c.are_rising.ensures c.self.inside.k c.in-Some.entry (heap_items c.self.inside.heap) c.self.invariant.0 last.0 last.1 c.self.invariant.4 last.2 in
    subst (λ (v : RankedRows). Some c.overlap_of.result ≡ option_map (λ (row : Row). row.overlap) (slice_get v.rows (v.k - 1))) c.self.view_is
    (ap Some c.overlap_of.ensures ∙ ap (option_map (λ (row : Row). row.overlap)) (sym at))

pub returns-in-Some-clause-left_out : goal.returns-in-Some-clause-left_out
returns-in-Some-clause-left_out c =
    let last = c.in-Some.ensures.last in
    subst (λ (v : RankedRows). (worst row : Row) → slice_get v.rows (v.k - 1) ≡ Some worst → is_lt (row_cmp row worst) ≡ false → take v.k (put_in_order row_cmp row v.rows) ≡ v.rows) c.self.view_is
    (kth_left (titles_in c.self.inside.titles) c.are_rising.ensures c.self.inside.k c.in-Some.entry (heap_items c.self.inside.heap) c.self.invariant.0 last.0 last.1 c.self.invariant.4 last.2)

pub returns-in-Some-clause-first : goal.returns-in-Some-clause-first
returns-in-Some-clause-first c =
    subst (λ (v : RankedRows). v.rows ≡ best row_cmp v.k v.rows) c.self.view_is (kept_first (titles_in c.self.inside.titles) c.self.inside.k (heap_items c.self.inside.heap) (omega (arith, c.in-Some.ensures.last.0)))
