use Rattle.std.proofs.Common.{◌≡◌, ◌∙◌, ap, ◌<◌, ℕ, List, get_or, length, arith}
use Rattle.std.proofs.lemmas.List.{get_or_default}
use Rattle.lake_model.specs.Tables.{Table}
use Rattle.search_model.specs.Ranks.{AreInverse, AreRanks}
use Rattle.search_model.specs.Segment.{segment}
use Rattle.segment_core.proofs.SegmentLemmas.{length-sets}
use Rattle.segment_core.proofs.index.SegmentIndex.order.Goals as goal

-- the numbers by ranks are those of columns
numbers_within : (held tables : List Table) (ranks by_rank list : List ℕ) → held ≡ tables → AreRanks (segment held).columns ranks → AreInverse ranks by_rank → list ≡ by_rank → (r d : ℕ) → r < length list → get_or list r d < length (segment tables).sets
numbers_within held tables ranks by_rank list same are inverse is r d b =
    let within : get_or by_rank r 0 < length ranks = inverse.within r (omega (arith, b, ap (λ (ns : List ℕ). length ns) is)) in
    let at : get_or list r d ≡ get_or by_rank r 0 = get_or_default list r d 0 b ∙ ap (λ (ns : List ℕ). get_or ns r 0) is in
    omega (arith, at, within, are.size, length-sets tables, ap (λ (ts : List Table). length (segment ts).columns) same)

pub new-requires-clause-within : goal.new-requires-clause-within
new-requires-clause-within c = numbers_within _ _ _ _ _ c.self.view_is c.self.invariant.1 c.self.invariant.2 c.deref-2.ensures.value
