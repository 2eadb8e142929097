use Rattle.std.proofs.Common.{◌∙◌, ap}
use Rattle.segment_core.specs.Codes.{code_tables}
use Rattle.segment_core.proofs.CodeLemmas.{same_tables}
use Rattle.segment_core.proofs.segment.Segment.index.Goals as goal

pub returns : goal.returns
returns c = c.deref.ensures ∙ same_tables c.in_ok-index.index.now.value c.args.self.now (c.in_ok-index.ensures ∙ c.self.invariant.3 ∙ ap code_tables c.self.view_is)
