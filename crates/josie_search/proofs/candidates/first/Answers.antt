use Rattle.std.proofs.Common.{◌≡◌, ◌∙◌, ap, sym, refl, ◌<◌, arith, length, Some}
use Rattle.std.specs.Prelude.{slice_get}
use Rattle.std.specs.BinaryHeap.{heap_items}
use Rattle.josie_search.proofs.HeapLemmas.{first_in, head_is}
use Rattle.josie_search.proofs.candidates.first.Goals as goal

pub returns-in-Some : goal.returns-in-Some
returns-in-Some c =
    let items = heap_items c.args.heap.now in
    let some : 0 < length items = let one = c.in-Some.ensures.variant.0 refl in omega (arith, one, c.as_slice.ensures.len, ap length c.as_slice.ensures.value) in
    let at : slice_get items 0 ≡ Some c.in-Some.first.now = head_is items c.in-Some.first.now some ∙ ap Some (sym c.in-Some.ensures.lookup) in
    first_in c.args.by_count items c.in-Some.first.now c.candidate_from.result c.candidate_from.ensures.candidate at (c.in-Some.ensures.greatest c.requires.order)
