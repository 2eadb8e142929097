use Rattle.std.proofs.Common.{◌≡◌, ◌∙◌, sym, ap, subst, ◌+◌, ◌++◌, List, Bool, ℕ, length, take, drop, arith}
use Rattle.std.specs.List.{splice}
use Rattle.std.specs.Option.{option_to_list}
use Rattle.std.proofs.lemmas.List.{length-map, map-id}
use Rattle.std.proofs.lemmas.Iterator.{items_from_drains}
use Rattle.std.proofs.lemmas.Iterator.Adapters.{YieldsList-from_once}
use Rattle.lake_model.specs.Layout.{Part, Shown, positions_of, shown}
use Rattle.segment_core.specs.Distinct.{unmarked_names}
use Rattle.list_laws.specs.Distinct.{AreDistinct}
use Rattle.segment_core.specs.Lines.{shown_places}
use Rattle.segment_core.specs.Plans.{replaced}
use Rattle.segment_core.specs.Versions.{VersionOf, version_with}
use Rattle.segment_core.proofs.PlanLemmas.{replaced_fits}
use Rattle.segment_core.proofs.ShownLemmas.{shown_replaced}
use Rattle.segment_core.proofs.version.Version.replace.Goals as goal

pub invariant_of-self-2 : goal.invariant_of-self-2
invariant_of-self-2 c =
    let m = c.in_ok-splice.ensures.items in
    let parts = c.self.inside.parts.items in
    let part : m.1 ≡ option_to_list c.args.part = sym (map-id m.1) ∙ items_from_drains m.1 (m.3.1.0, m.3.1.1, λ w. (m.3.0, m.3.1.2)) (YieldsList-from_once c.args.part m.2.0) in
    let new : c.splice.new.self.items ≡ replaced c.args.first c.args.count c.args.part parts = m.4 ∙ ap (λ (ps : List Part). take c.args.first parts ++ (ps ++ drop (c.args.first + c.args.count) parts)) part in
    let same : c.splice.new.self.items ≡ replaced c.args.first c.args.count c.args.part c.args.self.now.parts = new ∙ ap (λ (v : VersionOf). replaced c.args.first c.args.count c.args.part v.parts) c.self.view_is in
    let fits = replaced_fits c.args.first c.args.count c.args.part c.args.self.now.parts c.requires.some c.requires.within in
    let end = c.args.first + c.args.count in
    let few = c.self.invariant.0 in (
      omega (arith, fits, few, ap (λ (ps : List Part). length ps) same, ap (λ (v : VersionOf). length v.parts) c.self.view_is),
      subst (λ (ps : List Part). AreDistinct (positions_of ps)) (sym same) c.requires.positions,
      subst (λ (ps : List Part). AreDistinct (unmarked_names ps)) (sym same) c.requires.names,
      ap (λ (s : Shown). s.parts) c.in_ok-exchange.ensures.ok
          ∙ ap (λ (ps : List (ℕ × List (ℕ × Bool))). splice ps c.args.first end (option_to_list c.in_ok-places.places)) (ap (λ (s : Shown). s.parts) c.in_ok-layout.ensures ∙ c.self.invariant.3)
          ∙ ap (λ (ps : List (ℕ × List (ℕ × Bool))). splice (shown parts) c.args.first end ps) c.in_ok-places.ensures
          ∙ sym (shown_replaced c.args.first c.args.count c.args.part parts)
          ∙ ap (λ (ps : List Part). shown ps) (sym new),
    )

pub exchange-requires : goal.exchange-requires
exchange-requires c =
    let count : length c.in_ok-layout.layout.parts ≡ length c.self.inside.parts.items = ap (λ (s : Shown). length s.parts) c.in_ok-layout.ensures ∙ ap (λ (ps : List (ℕ × List (ℕ × Bool))). length ps) c.self.invariant.3 ∙ length-map c.self.inside.parts.items (λ (p : Part). (p.number, shown_places p.places)) in
    omega (arith, count, c.requires.within, ap (λ (v : VersionOf). length v.parts) c.self.view_is)

pub returns-clause-ok : goal.returns-clause-ok
returns-clause-ok c =
    let m = c.in_ok-splice.ensures.items in
    let parts = c.self.inside.parts.items in
    let part : m.1 ≡ option_to_list c.args.part = sym (map-id m.1) ∙ items_from_drains m.1 (m.3.1.0, m.3.1.1, λ w. (m.3.0, m.3.1.2)) (YieldsList-from_once c.args.part m.2.0) in
    let new : c.splice.new.self.items ≡ replaced c.args.first c.args.count c.args.part parts = m.4 ∙ ap (λ (ps : List Part). take c.args.first parts ++ (ps ++ drop (c.args.first + c.args.count) parts)) part in
    ap (λ (n : ℕ). version_with n c.splice.new.self.items) (ap (λ (s : Shown). s.at) c.in_ok-exchange.ensures.ok)
    ∙ ap (version_with c.args.at) (new ∙ ap (λ (v : VersionOf). replaced c.args.first c.args.count c.args.part v.parts) c.self.view_is)
