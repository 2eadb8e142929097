use Rattle.text_region.proofs.SpanLemmas.{span_stands}
use Rattle.text_region.proofs.laws.spans_are_of_their_region.Goals as goal

pub returns : goal.returns
returns c = span_stands
