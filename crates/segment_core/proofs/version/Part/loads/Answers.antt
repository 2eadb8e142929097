use Rattle.std.proofs.Common.{◌∙◌, sym, ap}
use Rattle.segment_core.specs.Positions.{loads_of}
use Rattle.segment_core.proofs.PartLemmas.{positions_with}
use Rattle.segment_core.proofs.version.Part.loads.Goals as goal

pub returns : goal.returns
returns c =
    let is = positions_with c.self.inside.number c.self.inside.positions c.self.inside.segment.value c.self.inside.marked c.self.invariant.0 c.self.invariant.1 in
    c.list.ensures ∙ sym is ∙ ap loads_of c.self.view_is
