use Rattle.std.proofs.Common.{◌≡◌, ◌∙◌, sym, ap, subst, get_or, false, arith}
use Rattle.std.specs.List.Sorted.{IsStrictlyIncreasing}
use Rattle.std.specs.BTreeMap.{get_by_text}
use Rattle.lake_model.specs.Layout.{layout, positions_of}
use Rattle.list_laws.specs.Distinct.{Lacks}
use Rattle.segment_core.specs.Positions.{StandsAt}
use Rattle.segment_core.specs.Versions.{VersionOf, part_at}
use Rattle.catalogue.specs.Swaps.{is_there}
use Rattle.catalogue.proofs.KeptLemmas.{positions_differ}
use Rattle.catalogue.proofs.ThereLemmas.{is_it, empty_at, lacks_at, only_at}
use Rattle.catalogue.proofs.catalogue.Catalogue.index_of.Goals as goal
use Rattle.list_laws.proofs.ListLemmas.{rises_strictly}

pub returns-in_default-clause-there : goal.returns-in_default-clause-there
returns-in_default-clause-there c =
    subst (λ k. false ≡ is_there (layout k.journal) (c.args.number, c.args.positions.now)) c.self.view_is
    (sym (empty_at (layout c.self.inside.journal.items) c.args.number c.args.positions.now c.list.result.now c.list.ensures c.in_default.len_below c.self.invariant.filled))

pub find-requires-clause-rise : goal.find-requires-clause-rise
find-requires-clause-rise c =
    subst (λ (v : VersionOf). IsStrictlyIncreasing (positions_of v.parts)) (sym (c.deref-version.ensures ∙ c.self.invariant.current)) (rises_strictly (positions_of (layout c.self.inside.journal.items)) c.self.invariant.rising)

pub returns-in_default-find-clause-there : goal.returns-in_default-find-clause-there
returns-in_default-find-clause-there c =
    let lacks = subst (λ (v : VersionOf). Lacks (positions_of v.parts) (get_or c.list.result.now 0 0)) (c.deref-version.ensures ∙ c.self.invariant.current) c.in_default-find.ensures.lacking in
    subst (λ k. false ≡ is_there (layout k.journal) (c.args.number, c.args.positions.now)) c.self.view_is
    (sym (lacks_at (layout c.self.inside.journal.items) c.args.number c.args.positions.now c.list.result.now c.list.ensures (omega (arith, c.in-len1-up.len_at_least)) lacks))

pub returns-then-is_part-clause-there : goal.returns-then-is_part-clause-there
returns-then-is_part-clause-there c =
    let s = c.self.inside in
    let current = c.deref-version.ensures ∙ c.self.invariant.current in
    let found = subst (λ (v : VersionOf). StandsAt v.parts (get_or c.list.result.now 0 0) c.in-Some.index c.in-Some.field-0-1) current c.in-Some.ensures.found in
    let there = only_at (layout s.journal.items) c.args.number c.args.positions.now c.list.result.now c.in-Some.index c.in-Some.field-0-1 c.list.ensures (omega (arith, c.in-len1-up.len_at_least))
    (positions_differ s.limits s.journal.items s.version.value s.counts (λ q. get_by_text s.positions q) c.self.invariant) found in
    let test : c.is_part.result ≡ is_it c.args.number c.args.positions.now (part_at (layout c.self.inside.journal.items) c.in-Some.index) =
    c.is_part.ensures ∙ ap (is_it c.args.number c.args.positions.now) (c.part.ensures ∙ ap (λ (v : VersionOf). part_at v.parts c.in-Some.index) current) in
    sym c.if-is_part.true ∙ test ∙ sym there ∙ ap (λ k. is_there (layout k.journal) (c.args.number, c.args.positions.now)) c.self.view_is

pub returns-clause-there : goal.returns-clause-there
returns-clause-there c =
    let s = c.self.inside in
    let current = c.deref-version.ensures ∙ c.self.invariant.current in
    let found = subst (λ (v : VersionOf). StandsAt v.parts (get_or c.list.result.now 0 0) c.in-Some.index c.in-Some.field-0-1) current c.in-Some.ensures.found in
    let there = only_at (layout s.journal.items) c.args.number c.args.positions.now c.list.result.now c.in-Some.index c.in-Some.field-0-1 c.list.ensures (omega (arith, c.in-len1-up.len_at_least))
    (positions_differ s.limits s.journal.items s.version.value s.counts (λ q. get_by_text s.positions q) c.self.invariant) found in
    let test : c.is_part.result ≡ is_it c.args.number c.args.positions.now (part_at (layout c.self.inside.journal.items) c.in-Some.index) =
    c.is_part.ensures ∙ ap (is_it c.args.number c.args.positions.now) (c.part.ensures ∙ ap (λ (v : VersionOf). part_at v.parts c.in-Some.index) current) in
    sym c.if-is_part.false ∙ test ∙ sym there ∙ ap (λ k. is_there (layout k.journal) (c.args.number, c.args.positions.now)) c.self.view_is
