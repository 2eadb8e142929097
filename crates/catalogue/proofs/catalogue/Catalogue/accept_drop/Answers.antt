use Rattle.std.proofs.Common.{◌≡◌, ◌∙◌, sym, ap, subst, arith, List, length, map, slice_set, ◌+◌, ◌-◌, ◌++◌, ◌∷◌, [], None, cond}
use Rattle.std.specs.Prelude.{bytes_eq}
use Rattle.std.specs.BTreeMap.{get_by_text}
use Rattle.lake_model.specs.Texts.{Text}
use Rattle.lake_model.specs.Journal.{entry_with, Dropped}
use Rattle.lake_model.specs.Layout.{Part, layout, mark, positions_of}
use Rattle.segment_core.specs.Distinct.{unmarked_names}
use Rattle.list_laws.specs.Distinct.{AreDistinct}
use Rattle.segment_core.specs.Versions.{version_with, part_at, marked_at}
use Rattle.catalogue.specs.Refusals.{drop_refusal}
use Rattle.catalogue.proofs.KeptLemmas.{counts_with, kept_equal, parts_kept, positions_differ}
use Rattle.catalogue.proofs.DropLemmas.{kept_drop, names_dropped, positions_dropped}
use Rattle.catalogue.proofs.catalogue.Catalogue.accept_drop.Goals as goal

pub mark-requires-clause-positions : goal.mark-requires-clause-positions
mark-requires-clause-positions c =
    let s = c.self.inside in
    let marks = subst (λ k. map (mark c.args.name.now) (layout k.journal) ≡ slice_set (layout k.journal) c.place_of-part.result.0 (marked_at c.place_of-part.result.1 (part_at (layout k.journal) c.place_of-part.result.0))) (sym c.self.view_is) c.place_of-part.ensures.marks in
    let parts = parts_kept s.limits s.journal.items s.version.value s.counts (λ q. get_by_text s.positions q) c.self.invariant in
    let same = ap (λ (ps : List Part). slice_set ps c.place_of-part.result.0 (marked_at c.place_of-part.result.1 (part_at ps c.place_of-part.result.0))) parts ∙ sym marks in
    subst (λ (ps : List Part). AreDistinct (positions_of ps)) (sym same)
    (positions_dropped c.args.name.now (layout s.journal.items) (positions_differ s.limits s.journal.items s.version.value s.counts (λ q. get_by_text s.positions q) c.self.invariant))

pub mark-requires-clause-names : goal.mark-requires-clause-names
mark-requires-clause-names c =
    let s = c.self.inside in
    let accepted = subst (λ k. drop_refusal k.limits c.args.name.now k.journal ≡ None) (sym c.self.view_is) c.requires in
    let marks = subst (λ k. map (mark c.args.name.now) (layout k.journal) ≡ slice_set (layout k.journal) c.place_of-part.result.0 (marked_at c.place_of-part.result.1 (part_at (layout k.journal) c.place_of-part.result.0))) (sym c.self.view_is) c.place_of-part.ensures.marks in
    let parts = parts_kept s.limits s.journal.items s.version.value s.counts (λ q. get_by_text s.positions q) c.self.invariant in
    let same = ap (λ (ps : List Part). slice_set ps c.place_of-part.result.0 (marked_at c.place_of-part.result.1 (part_at ps c.place_of-part.result.0))) parts ∙ sym marks in
    subst (λ (ps : List Part). AreDistinct (unmarked_names ps)) (sym same)
    (names_dropped s.limits s.journal.items s.version.value s.counts (λ q. get_by_text s.positions q) c.self.invariant c.args.name.now accepted c.args.who)

pub invariant_of-self-2 : goal.invariant_of-self-2
invariant_of-self-2 c =
    let s = c.self.inside in
    let accepted = subst (λ k. drop_refusal k.limits c.args.name.now k.journal ≡ None) (sym c.self.view_is) c.requires in
    let n = length c.self.inside.journal.items in
    let at : c.len.result + 1 ≡ n + 1 = omega arith in
    let marks = subst (λ k. map (mark c.args.name.now) (layout k.journal) ≡ slice_set (layout k.journal) c.place_of-part.result.0 (marked_at c.place_of-part.result.1 (part_at (layout k.journal) c.place_of-part.result.0))) (sym c.self.view_is) c.place_of-part.ensures.marks in
    let parts = parts_kept s.limits s.journal.items s.version.value s.counts (λ q. get_by_text s.positions q) c.self.invariant in
    let same = ap (λ (ps : List Part). slice_set ps c.place_of-part.result.0 (marked_at c.place_of-part.result.1 (part_at ps c.place_of-part.result.0))) parts ∙ sym marks in
    let removed : (q : Text) → get_by_text c.remove_name.new.positions q ≡ cond (bytes_eq c.args.name.now q) None (get_by_text c.self.inside.positions q) = λ q. c.remove_name.ensures q in
    let more = kept_drop s.limits s.journal.items s.version.value s.counts (λ q. get_by_text s.positions q) c.self.invariant c.args.name.now accepted c.args.who (λ q. get_by_text c.remove_name.new.positions q) removed in
    let journal : c.push_reserved.new.self.items ≡ c.self.inside.journal.items ++ entry_with c.args.who (Dropped c.args.name.now) ∷ [] =
    c.push_reserved.ensures.items ∙ (λ i. c.in_ok-reserve.ensures.items i ++ (c.dropped.ensures ∙ ap (λ (t : Text). entry_with c.args.who (Dropped t)) c.in_ok-kept.ensures) i ∷ []) in
    let version : c.mark.new.version.value ≡ version_with (n + 1) (map (mark c.args.name.now) (layout c.self.inside.journal.items)) = c.in_ok-mark.ensures.ok ∙ (λ i. version_with (at i) (same i)) in
    let live : c.counts_without-self-inside.result.live ≡ c.self.inside.counts.live - 1 = omega (arith, c.counts_without-self-inside.ensures.live) in
    let counts : c.counts_without-self-inside.result ≡ counts_with (c.self.inside.counts.live - 1) (c.self.inside.counts.updates + 1) c.self.inside.counts.members c.self.inside.counts.key_bytes =
    (λ i. counts_with (live i) (c.counts_without-self-inside.ensures.updates i) (c.counts_without-self-inside.ensures.members i) (c.counts_without-self-inside.ensures.key_bytes i)) in
    kept_equal s.limits _ _ _ _ _ _ (λ q. get_by_text c.remove_name.new.positions q) more journal version counts
