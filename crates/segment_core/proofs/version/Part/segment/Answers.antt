use Rattle.std.proofs.Common.{◌∙◌, sym, ap}
use Rattle.segment_core.specs.Versions.{tables_of}
use Rattle.segment_core.proofs.PartLemmas.{tables_with}
use Rattle.segment_core.proofs.version.Part.segment.Goals as goal

pub returns : goal.returns
returns c = c.deref.ensures ∙ sym (tables_with c.self.inside.number c.self.inside.positions c.self.inside.segment.value c.self.inside.marked c.self.invariant.0 c.self.invariant.1) ∙ ap tables_of c.self.view_is
