use Rattle.std.proofs.Common.{◌∙◌, refl, sym, ap}
use Rattle.lake_model.specs.Layout.{Part}
use Rattle.segment_core.specs.Lines.{shown_places}
use Rattle.segment_core.proofs.ShownLemmas.{zip_places}
use Rattle.segment_core.proofs.version.Part.places.Goals as goal

pub returns : goal.returns
returns c =
    let pairs = zip_places c.self.inside.positions c.self.inside.segment.value c.self.inside.marked c.self.invariant.0 c.self.invariant.1 in
    c.new-2.ensures ∙ rw (c.in_ok-new.ensures.ok, c.in_ok-pairs.ensures, c.list.ensures, c.list-2.ensures) refl ∙ sym pairs ∙ ap (λ (part : Part). shown_places part.places) c.self.view_is
