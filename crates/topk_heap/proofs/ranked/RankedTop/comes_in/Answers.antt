use Rattle.std.proofs.Common.{◌≡◌, ◌∙◌, ap, sym, subst, ◌-◌, ◌<◌, length, arith, true, ltb as nat_lt}
use Rattle.std.specs.Prelude.{slice_get}
use Rattle.std.specs.BinaryHeap.{heap_items}
use Rattle.search_model.specs.Arrays.{titled_at}
use Rattle.search_model.specs.Looks.{beats, row_with}
use Rattle.topk_heap.specs.Ranked.{titles_in, RankedRows}
use Rattle.topk_heap.proofs.RankedLemmas.{kth, lower_first, none_kth, of_kth}
use Rattle.topk_heap.proofs.ranked.RankedTop.comes_in.Goals as goal

pub returns-in-None : goal.returns-in-None
returns-in-None c =
    subst (λ (v : RankedRows). true ≡ beats (slice_get v.rows (v.k - 1)) (row_with c.args.overlap (titled_at v.titled c.args.rank))) c.self.view_is
    (ap (λ o. beats o (row_with c.args.overlap (titled_at (titles_in c.self.inside.titles) c.args.rank))) (sym (none_kth (titles_in c.self.inside.titles) c.self.inside.k (heap_items c.self.inside.heap) c.in-None.ensures.none)))

pub returns-in-Some : goal.returns-in-Some
returns-in-Some c =
    let titled = titles_in c.self.inside.titles in
    let k = c.self.inside.k in
    let items = heap_items c.self.inside.heap in
    let w = c.in-Some.last in
    let last = c.in-Some.ensures.last in
    let within : c.args.rank < length titled = omega (arith, c.requires, ap (λ (v : RankedRows). length v.titled) c.self.view_is) in
    let is = c.entry_of.ensures.is_entry (length titled) within in
    let of = of_kth titled c.are_rising.ensures k w items c.self.invariant.0 last.0 last.1 c.self.invariant.4 in
    subst (λ (v : RankedRows). nat_lt c.entry_of.result w ≡ beats (slice_get v.rows (v.k - 1)) (row_with c.args.overlap (titled_at v.titled c.args.rank))) c.self.view_is
    (lower_first titled c.are_rising.ensures c.entry_of.result w is of
    ∙ (λ i. beats (sym (kth titled c.are_rising.ensures k w items c.self.invariant.0 last.0 last.1 c.self.invariant.4 last.2) i) (row_with (c.entry_of.ensures.overlap i) (titled_at titled (c.entry_of.ensures.rank i)))))
