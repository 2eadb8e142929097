use Rattle.std.proofs.Common.{subst, ◌∷◌, arith}
use Rattle.std.specs.BinaryHeap.{heap_items}
use Rattle.std.specs.List.Sorted.{IsPermutation}
use Rattle.josie_search.specs.Candidates.{all_of, candidates_with, CandidatesOf}
use Rattle.josie_search.proofs.HeapLemmas.{pushed_asked, pushed_sized}
use Rattle.josie_search.proofs.candidates.Candidates.push.Goals as goal

pub returns-then-candidate-clause-all : goal.returns-then-candidate-clause-all
returns-then-candidate-clause-all c =
    let sized = heap_items c.self.inside.sized in
    subst (λ (v : CandidatesOf). IsPermutation (c.args.candidate ∷ all_of v) (all_of (candidates_with sized (heap_items c.put.new.heap) 0 0 0))) c.self.view_is
    (pushed_asked sized (heap_items c.self.inside.asked) (heap_items c.put.new.heap) c.args.candidate (omega arith) c.if-candidate.true c.put.ensures.items)

pub returns-else-candidate-clause-all : goal.returns-else-candidate-clause-all
returns-else-candidate-clause-all c =
    let asked = heap_items c.self.inside.asked in
    subst (λ (v : CandidatesOf). IsPermutation (c.args.candidate ∷ all_of v) (all_of (candidates_with (heap_items c.put-else-candidate.new.heap) asked 0 0 0))) c.self.view_is
    (pushed_sized (heap_items c.self.inside.sized) asked (heap_items c.put-else-candidate.new.heap) c.args.candidate (omega arith) c.if-candidate.false c.put-else-candidate.ensures.items)
