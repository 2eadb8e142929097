use Rattle.std.proofs.Common.{◌∙◌, sym, ap, Bool, List}
use Rattle.std.specs.List.{list_any}
use Rattle.segment_core.specs.Versions.{marks_of}
use Rattle.segment_core.proofs.PartLemmas.{marks_with}
use Rattle.segment_core.proofs.version.Part.may_mark.Goals as goal

pub returns : goal.returns
returns c = λ none.
    let marks = marks_with c.self.inside.number c.self.inside.positions c.self.inside.segment.value c.self.inside.marked c.self.invariant.0 c.self.invariant.1 in
    ap (λ (ms : List Bool). list_any (λ mark. mark) ms) (sym (ap marks_of c.self.view_is) ∙ marks) ∙ c.may_mark.ensures none
