use Rattle.text_region.proofs.SpanLemmas.{spans_disjoint}
use Rattle.text_region.proofs.laws.spans_are_disjoint.Goals as goal

pub returns : goal.returns
returns c = spans_disjoint
