use Rattle.std.proofs.Common.{◌≡◌, ◌∙◌, ap, sym, subst, ℕ, List, map, slice_set, true, false, Option, None, Some, is_some}
use Rattle.std.specs.List.Sorted.{IsStrictlyIncreasing}
use Rattle.std.specs.BTreeMap.{get_by_text}
use Rattle.lake_model.specs.Journal.{is_live}
use Rattle.lake_model.specs.Layout.{layout, mark, positions_of}
use Rattle.list_laws.specs.Distinct.{Lacks}
use Rattle.segment_core.specs.Positions.{StandsAt}
use Rattle.segment_core.specs.Versions.{marked_at, part_at, VersionOf}
use Rattle.catalogue.specs.Parts.{load_of}
use Rattle.catalogue.proofs.KeptLemmas.{named_kept, names_differ, positions_differ}
use Rattle.catalogue.proofs.PlaceLemmas.{drop_marks, load_lacks}
use Rattle.catalogue.proofs.catalogue.Catalogue.place_of.Goals as goal
use Rattle.list_laws.proofs.ListLemmas.{rises_strictly}

pub unreachable-requires : goal.unreachable-requires
unreachable-requires c =
    let s = c.self.inside in
    let name = c.args.name.now in
    let none : load_of (layout c.self.inside.journal.items) c.args.name.now ≡ None =
    sym (c.self.invariant.placed name) ∙ ap (λ (n : List ℕ). get_by_text c.self.inside.positions n) (sym c.text.ensures) ∙ sym c.in_default.ensures.value in
    let live : is_some (load_of (layout c.self.inside.journal.items) c.args.name.now) ≡ true =
    named_kept s.limits s.journal.items s.version.value s.counts (λ q. get_by_text s.positions q) c.self.invariant name ∙ ap (λ k. is_live k.journal c.args.name.now) c.self.view_is ∙ c.requires in
    let never : false ≡ true = sym (ap (λ (o : Option ℕ). is_some o) none) ∙ live in
    cc

pub unreachable-requires-in_default-find : goal.unreachable-requires-in_default-find
unreachable-requires-in_default-find c =
    let loaded : load_of (layout c.self.inside.journal.items) c.args.name.now ≡ Some c.in-Some.position.now =
    sym (c.self.invariant.placed c.args.name.now) ∙ ap (λ (n : List ℕ). get_by_text c.self.inside.positions n) (sym c.text.ensures) ∙ sym c.in-Some.ensures.value in
    load_lacks (layout c.self.inside.journal.items) c.args.name.now c.in-Some.position.now
    (subst (λ (v : VersionOf). Lacks (positions_of v.parts) c.in-Some.position.now) (c.deref.ensures ∙ c.self.invariant.current) c.in_default-find.ensures.lacking) loaded

pub returns-clause-marks : goal.returns-clause-marks
returns-clause-marks c =
    let s = c.self.inside in
    let loaded : load_of (layout c.self.inside.journal.items) c.args.name.now ≡ Some c.in-Some.position.now =
    sym (c.self.invariant.placed c.args.name.now) ∙ ap (λ (n : List ℕ). get_by_text c.self.inside.positions n) (sym c.text.ensures) ∙ sym c.in-Some.ensures.value in
    let found = subst (λ (v : VersionOf). StandsAt v.parts c.in-Some.position.now c.in-Some-find.place.0 c.in-Some-find.place.1) (c.deref.ensures ∙ c.self.invariant.current) c.in-Some-find.ensures.found in
    subst (λ k. map (mark c.args.name.now) (layout k.journal) ≡ slice_set (layout k.journal) c.in-Some-find.place.0 (marked_at c.in-Some-find.place.1 (part_at (layout k.journal) c.in-Some-find.place.0))) c.self.view_is
    (drop_marks c.args.name.now (layout s.journal.items) c.in-Some-find.place.0 c.in-Some-find.place.1 c.in-Some.position.now
    (positions_differ s.limits s.journal.items s.version.value s.counts (λ q. get_by_text s.positions q) c.self.invariant)
    (names_differ s.limits s.journal.items s.version.value s.counts (λ q. get_by_text s.positions q) c.self.invariant) loaded found)

pub find-requires-clause-rise : goal.find-requires-clause-rise
find-requires-clause-rise c =
    subst (λ (v : VersionOf). IsStrictlyIncreasing (positions_of v.parts)) (sym (c.deref.ensures ∙ c.self.invariant.current)) (rises_strictly (positions_of (layout c.self.inside.journal.items)) c.self.invariant.rising)
