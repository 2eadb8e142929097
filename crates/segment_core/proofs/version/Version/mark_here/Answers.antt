use Rattle.std.proofs.Common.{◌≡◌, ◌∙◌, sym, ap, rules, arith, ◌<◌, List, [], ℕ, Bool, length, slice_set}
use Rattle.std.proofs.lemmas.List.{get_or_default}
use Rattle.lake_model.specs.Layout.{Part, Shown, shown}
use Rattle.segment_core.specs.Lines.{mark_shown}
use Rattle.segment_core.specs.Versions.{VersionOf, marked_at, part_at, part_with}
use Rattle.segment_core.proofs.ShownLemmas.{shown_set}
use Rattle.segment_core.proofs.version.Version.mark_here.Goals as goal

pub invariant_of-self-2 : goal.invariant_of-self-2
invariant_of-self-2 c =
    let parts = c.self.inside.parts.items in
    let within : c.args.part < length parts = omega (arith, c.requires.part, ap (λ (v : VersionOf). length v.parts) c.self.view_is) in
    let part : c.mark-2.new.self ≡ marked_at c.args.place (part_at parts c.args.part) = c.mark-2.ensures ∙ ap (marked_at c.args.place) (c.index_mut.ensures.value ∙ get_or_default parts c.args.part c.index_mut.result.now (part_with 0 []) within) in (
      search rules,
      search rules,
      search rules,
      ap (λ (s : Shown). s.parts) c.in_ok-mark.ensures.ok
          ∙ ap (λ (ps : List (ℕ × List (ℕ × Bool))). mark_shown c.args.part c.args.place ps) c.self.invariant.3
          ∙ sym (shown_set parts c.args.part c.args.place)
          ∙ ap (λ (p : Part). shown (slice_set parts c.args.part p)) (sym part),
    )
