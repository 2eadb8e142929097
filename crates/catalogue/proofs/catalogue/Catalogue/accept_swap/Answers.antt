use Rattle.std.proofs.Common.{◌≡◌, ◌∙◌, refl, sym, ap, subst, arith, length, ◌+◌, ◌++◌, ◌∷◌, [], take, None}
use Rattle.std.specs.BTreeMap.{get_by_text}
use Rattle.lake_model.specs.Journal.{entry_with, Swapped}
use Rattle.lake_model.specs.Layout.{layout, may_swap, run_of}
use Rattle.layout_laws.proofs.SwapLemmas.{swapped}
use Rattle.segment_core.specs.Plans.{replaced}
use Rattle.catalogue.specs.Swaps.{kept_tables, numbers_in, swap_refusal, IsMergeOf}
use Rattle.catalogue.proofs.KeptLemmas.{kept_equal, parts_kept}
use Rattle.catalogue.proofs.SwapLemmas.{kept_swap, layout_is, names_swapped, positions_swapped, still_merges, version_is}
use Rattle.catalogue.proofs.catalogue.Catalogue.accept_swap.Goals as goal

pub exchange-requires-clause-may : goal.exchange-requires-clause-may
exchange-requires-clause-may c =
    let still = still_merges c.args.self.now.journal c.args.merged c.requires.merges c.requires.accepted in
    let from : c.deref.result.now ≡ c.args.merged.from = c.deref.ensures.value ∙ ap (λ m. m.from) c.merged.view_is in
    let kept : c.merged.inside.kept ≡ c.args.merged.kept = ap (λ m. m.kept) c.merged.view_is in
    (λ i. may_swap (layout c.args.self.now.journal) (numbers_in (from i)) (kept i)) ∙ still.may

pub exchange-requires-clause-tables : goal.exchange-requires-clause-tables
exchange-requires-clause-tables c =
    let still = still_merges c.args.self.now.journal c.args.merged c.requires.merges c.requires.accepted in
    let from : c.deref.result.now ≡ c.args.merged.from = c.deref.ensures.value ∙ ap (λ m. m.from) c.merged.view_is in
    let kept : c.merged.inside.kept ≡ c.args.merged.kept = ap (λ m. m.kept) c.merged.view_is in
    ap (λ m. m.tables) c.merged.view_is ∙ still.are ∙ sym (λ i. kept_tables (kept i) (run_of (numbers_in (from i)) (layout c.args.self.now.journal)))

pub swap-requires-clause-positions : goal.swap-requires-clause-positions
swap-requires-clause-positions c =
    let s = c.self.inside in
    let j = c.self.inside.journal.items in
    let planned = numbers_in c.args.merged.from in
    let left = c.args.merged.kept in
    let is = subst (λ k. IsMergeOf (layout (take c.args.merged.at k.journal)) c.args.merged) (sym c.self.view_is) c.requires.merges in
    let accepted = subst (λ k. swap_refusal c.args.merged.from k.journal ≡ None) (sym c.self.view_is) c.requires.accepted in
    let still = still_merges j c.args.merged is accepted in
    let from : c.deref.result.now ≡ c.args.merged.from = c.deref.ensures.value ∙ ap (λ m. m.from) c.merged.view_is in
    let kept : c.merged.inside.kept ≡ c.args.merged.kept = ap (λ m. m.kept) c.merged.view_is in
    let parts = parts_kept s.limits j s.version.value s.counts (λ q. get_by_text s.positions q) c.self.invariant in
    let at : c.len.result + 1 ≡ length c.self.inside.journal.items + 1 = omega arith in
    let many : c.len-2.result ≡ length c.deref.result.now = omega (arith, ap (λ ps. length ps) c.deref.ensures.value) in
    let new : replaced c.in_ok-first.first c.len-2.result c.in_ok-first.part c.self.inside.version.value.parts ≡ swapped (c.len.result + 1) (numbers_in c.args.merged.from) c.args.merged.kept (layout c.self.inside.journal.items) =
    (λ i. replaced c.in_ok-first.first (many i) c.in_ok-first.part (parts i))
    ∙ subst (λ k. replaced c.in_ok-first.first (length c.deref.result.now) c.in_ok-first.part (layout k.journal) ≡ swapped (c.len.result + 1) (numbers_in c.deref.result.now) c.merged.inside.kept (layout k.journal)) (sym c.self.view_is) c.in_ok-first.ensures.replaced
    ∙ (λ i. swapped (c.len.result + 1) (numbers_in (from i)) (kept i) (layout c.self.inside.journal.items)) in
    positions_swapped s.limits j s.version.value s.counts (λ q. get_by_text s.positions q) c.self.invariant c.args.who planned left still.may still.merges _ (layout_is s.limits j s.version.value s.counts (λ q. get_by_text s.positions q) c.self.invariant c.args.who planned left still.may still.merges (c.len.result + 1) _ at new)

pub swap-requires-clause-names : goal.swap-requires-clause-names
swap-requires-clause-names c =
    let s = c.self.inside in
    let j = c.self.inside.journal.items in
    let planned = numbers_in c.args.merged.from in
    let left = c.args.merged.kept in
    let is = subst (λ k. IsMergeOf (layout (take c.args.merged.at k.journal)) c.args.merged) (sym c.self.view_is) c.requires.merges in
    let accepted = subst (λ k. swap_refusal c.args.merged.from k.journal ≡ None) (sym c.self.view_is) c.requires.accepted in
    let still = still_merges j c.args.merged is accepted in
    let from : c.deref.result.now ≡ c.args.merged.from = c.deref.ensures.value ∙ ap (λ m. m.from) c.merged.view_is in
    let kept : c.merged.inside.kept ≡ c.args.merged.kept = ap (λ m. m.kept) c.merged.view_is in
    let parts = parts_kept s.limits j s.version.value s.counts (λ q. get_by_text s.positions q) c.self.invariant in
    let at : c.len.result + 1 ≡ length c.self.inside.journal.items + 1 = omega arith in
    let many : c.len-2.result ≡ length c.deref.result.now = omega (arith, ap (λ ps. length ps) c.deref.ensures.value) in
    let new : replaced c.in_ok-first.first c.len-2.result c.in_ok-first.part c.self.inside.version.value.parts ≡ swapped (c.len.result + 1) (numbers_in c.args.merged.from) c.args.merged.kept (layout c.self.inside.journal.items) =
    (λ i. replaced c.in_ok-first.first (many i) c.in_ok-first.part (parts i))
    ∙ subst (λ k. replaced c.in_ok-first.first (length c.deref.result.now) c.in_ok-first.part (layout k.journal) ≡ swapped (c.len.result + 1) (numbers_in c.deref.result.now) c.merged.inside.kept (layout k.journal)) (sym c.self.view_is) c.in_ok-first.ensures.replaced
    ∙ (λ i. swapped (c.len.result + 1) (numbers_in (from i)) (kept i) (layout c.self.inside.journal.items)) in
    names_swapped s.limits j s.version.value s.counts (λ q. get_by_text s.positions q) c.self.invariant c.args.who planned left still.may still.merges _ (layout_is s.limits j s.version.value s.counts (λ q. get_by_text s.positions q) c.self.invariant c.args.who planned left still.may still.merges (c.len.result + 1) _ at new)

pub invariant_of-self-2 : goal.invariant_of-self-2
invariant_of-self-2 c =
    let s = c.self.inside in
    let j = c.self.inside.journal.items in
    let planned = numbers_in c.args.merged.from in
    let left = c.args.merged.kept in
    let is = subst (λ k. IsMergeOf (layout (take c.args.merged.at k.journal)) c.args.merged) (sym c.self.view_is) c.requires.merges in
    let accepted = subst (λ k. swap_refusal c.args.merged.from k.journal ≡ None) (sym c.self.view_is) c.requires.accepted in
    let still = still_merges j c.args.merged is accepted in
    let from : c.deref.result.now ≡ c.args.merged.from = c.deref.ensures.value ∙ ap (λ m. m.from) c.merged.view_is in
    let kept : c.merged.inside.kept ≡ c.args.merged.kept = ap (λ m. m.kept) c.merged.view_is in
    let parts = parts_kept s.limits j s.version.value s.counts (λ q. get_by_text s.positions q) c.self.invariant in
    let at : c.len.result + 1 ≡ length c.self.inside.journal.items + 1 = omega arith in
    let many : c.len-2.result ≡ length c.deref.result.now = omega (arith, ap (λ ps. length ps) c.deref.ensures.value) in
    let new : replaced c.in_ok-first.first c.len-2.result c.in_ok-first.part c.self.inside.version.value.parts ≡ swapped (c.len.result + 1) (numbers_in c.args.merged.from) c.args.merged.kept (layout c.self.inside.journal.items) =
    (λ i. replaced c.in_ok-first.first (many i) c.in_ok-first.part (parts i))
    ∙ subst (λ k. replaced c.in_ok-first.first (length c.deref.result.now) c.in_ok-first.part (layout k.journal) ≡ swapped (c.len.result + 1) (numbers_in c.deref.result.now) c.merged.inside.kept (layout k.journal)) (sym c.self.view_is) c.in_ok-first.ensures.replaced
    ∙ (λ i. swapped (c.len.result + 1) (numbers_in (from i)) (kept i) (layout c.self.inside.journal.items)) in
    let numbers : c.in_ok-numbers.numbers ≡ numbers_in c.args.merged.from = c.in_ok-numbers.ensures ∙ ap (λ ps. numbers_in ps) (c.deref-2.ensures.value ∙ ap (λ m. m.from) c.merged.view_is) in
    let entry : c.swapped.result ≡ entry_with c.args.who (Swapped (numbers_in c.args.merged.from) c.args.merged.kept) = c.swapped.ensures ∙ (λ i. entry_with c.args.who (Swapped (numbers i) (kept i))) in
    let journal : c.push_reserved.new.self.items ≡ c.self.inside.journal.items ++ entry_with c.args.who (Swapped (numbers_in c.args.merged.from) c.args.merged.kept) ∷ [] =
    c.push_reserved.ensures.items ∙ (λ i. c.in_ok-reserve.ensures.items i ++ entry i ∷ []) in
    let more = kept_swap s.limits j s.version.value s.counts (λ q. get_by_text s.positions q) c.self.invariant c.args.who planned left still.may still.merges in
    let version = c.in_ok-swap.ensures.ok ∙ version_is s.limits j s.version.value s.counts (λ q. get_by_text s.positions q) c.self.invariant c.args.who planned left still.may still.merges (c.len.result + 1) _ at new in
    kept_equal s.limits _ _ _ _ _ _ (λ q. get_by_text s.positions q) more journal version refl
