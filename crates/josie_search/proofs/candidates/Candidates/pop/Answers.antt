use Rattle.std.proofs.Common.{subst, ◌∷◌, arith}
use Rattle.std.specs.BinaryHeap.{heap_items}
use Rattle.std.specs.List.Sorted.{IsPermutation}
use Rattle.josie_search.specs.Candidates.{all_of, candidates_with, CandidatesOf}
use Rattle.josie_search.proofs.HeapLemmas.{popped_asked, popped_sized}
use Rattle.josie_search.proofs.candidates.Candidates.pop.Goals as goal

pub returns-then-top-clause-all : goal.returns-then-top-clause-all
returns-then-top-clause-all c =
    let sized = heap_items c.self.inside.sized in
    subst (λ (v : CandidatesOf). IsPermutation (all_of v) (c.args.top ∷ all_of (candidates_with sized (heap_items c.take.new.heap) 0 0 0))) c.self.view_is
    (popped_asked sized (heap_items c.self.inside.asked) (heap_items c.take.new.heap) c.args.top (omega arith) c.if-top.true c.take.ensures.items)

pub returns-else-top-clause-all : goal.returns-else-top-clause-all
returns-else-top-clause-all c =
    let asked = heap_items c.self.inside.asked in
    subst (λ (v : CandidatesOf). IsPermutation (all_of v) (c.args.top ∷ all_of (candidates_with (heap_items c.take-else-top.new.heap) asked 0 0 0))) c.self.view_is
    (popped_sized (heap_items c.self.inside.sized) asked (heap_items c.take-else-top.new.heap) c.args.top (omega arith) c.if-top.false c.take-else-top.ensures.items)
