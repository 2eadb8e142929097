use Rattle.std.proofs.Common.{◌∙◌, ap, arith, length, List, Bool, true}
use Rattle.std.proofs.Math.ListN.{length-set}
use Rattle.lake_model.specs.Layout.{Part}
use Rattle.segment_core.specs.Versions.{part_with, places_with, marked_at}
use Rattle.segment_core.proofs.PartLemmas.{mark_with, length_places}
use Rattle.segment_core.proofs.version.Part.mark.Goals as goal

pub mark-requires : goal.mark-requires
mark-requires c = omega (arith, length_places c.self.inside.positions c.self.inside.segment.value c.self.inside.marked c.self.invariant.0 c.self.invariant.1, ap (λ (p : Part). length p.places) c.self.view_is, c.requires)

pub invariant_of-self : goal.invariant_of-self
invariant_of-self c = (
  c.self.invariant.0,
  ap (λ (ms : List Bool). length ms) c.mark.ensures ∙ length-set c.self.inside.marked c.args.place true ∙ c.self.invariant.1,
)

pub returns : goal.returns
returns c =
    ap (λ (ms : List Bool). part_with c.self.inside.number (places_with c.self.inside.positions c.self.inside.segment.value ms)) c.mark.ensures
    ∙ ap (part_with c.self.inside.number) (mark_with c.self.inside.positions c.self.inside.segment.value c.self.inside.marked c.args.place c.self.invariant.0 c.self.invariant.1)
    ∙ ap (marked_at c.args.place) c.self.view_is
