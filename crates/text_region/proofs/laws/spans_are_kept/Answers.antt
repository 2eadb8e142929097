use Rattle.text_region.proofs.SpanLemmas.{spans_kept}
use Rattle.text_region.proofs.laws.spans_are_kept.Goals as goal

pub returns : goal.returns
returns c = spans_kept
