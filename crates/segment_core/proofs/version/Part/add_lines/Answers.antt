use Rattle.std.proofs.Common.{◌≡◌, ◌∙◌, sym, ap, subst, ◌++◌, List, map}
use Rattle.std.specs.Prelude.{OnOk}
use Rattle.lake_model.specs.Layout.{Part}
use Rattle.lake_model.specs.Tables.{Line}
use Rattle.segment_core.specs.Lines.{line_from, lines_without, unmarked_lines}
use Rattle.segment_core.proofs.ShownLemmas.{lines_places}
use Rattle.segment_core.proofs.version.Part.add_lines.Goals as goal

pub returns : goal.returns
returns c =
    let lines = lines_places c.self.inside.positions c.self.inside.segment.value c.self.inside.marked c.self.invariant.0 c.self.invariant.1 in
    let is : lines_without c.tables.result.now c.list.result.now ≡ unmarked_lines c.args.self.now.places =
    rw (c.tables.ensures, c.deref.ensures, c.list.ensures) (sym lines) ∙ ap (λ (part : Part). unmarked_lines part.places) c.self.view_is in
    subst (λ (ls : List Line). OnOk c.add_unmarked.result (map line_from c.add_unmarked.new.lines.items ≡ map line_from c.args.lines.now.items ++ ls)) is c.add_unmarked.ensures
