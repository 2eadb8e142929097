use Rattle.std.proofs.Common.{◌∙◌, sym, ap, length, List, Bool}
use Rattle.segment_core.specs.Versions.{tables_of, marks_of}
use Rattle.segment_core.proofs.PartLemmas.{tables_with, marks_with}
use Rattle.segment_core.proofs.version.Part.marks.Goals as goal

pub returns : goal.returns
returns c =
    let tables = tables_with c.self.inside.number c.self.inside.positions c.self.inside.segment.value c.self.inside.marked c.self.invariant.0 c.self.invariant.1 in
    let marks = marks_with c.self.inside.number c.self.inside.positions c.self.inside.segment.value c.self.inside.marked c.self.invariant.0 c.self.invariant.1 in
    record {
      marks = c.list.ensures ∙ sym marks ∙ ap marks_of c.self.view_is;
      many = ap (λ (ms : List Bool). length ms) c.list.ensures ∙ c.self.invariant.1 ∙ ap length (sym tables) ∙ ap (λ p. length (tables_of p)) c.self.view_is;
    }
