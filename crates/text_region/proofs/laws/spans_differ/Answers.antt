use Rattle.text_region.proofs.SpanLemmas.{spans_different}
use Rattle.text_region.proofs.laws.spans_differ.Goals as goal

pub returns : goal.returns
returns c = spans_different
