use Rattle.std.proofs.Common.{◌≡◌, ◌∙◌, sym, ap, subst, arith, length, ◌+◌, ◌++◌, ◌∷◌, [], Some, None, cond}
use Rattle.std.specs.Prelude.{bytes_eq}
use Rattle.std.specs.BTreeMap.{get_by_text}
use Rattle.lake_model.specs.Texts.{Text}
use Rattle.lake_model.specs.Tables.{Table, members, key_bytes}
use Rattle.lake_model.specs.Journal.{entry_with, Loaded}
use Rattle.lake_model.specs.Layout.{layout}
use Rattle.segment_core.specs.Versions.{version_with}
use Rattle.catalogue.specs.Refusals.{load_refusal}
use Rattle.catalogue.proofs.KeptLemmas.{counts_with, kept_equal, kept_same, parts_kept}
use Rattle.catalogue.proofs.PutLemmas.{loaded_part, part_is}
use Rattle.catalogue.proofs.LoadLemmas.{few_more, positions_more, names_more, fits, kept_load, unadded}
use Rattle.catalogue.proofs.catalogue.Catalogue.accept_load.Goals as goal

pub add-requires-clause-few : goal.add-requires-clause-few
add-requires-clause-few c =
    let s = c.self.inside in
    let accepted = subst (λ k. load_refusal k.limits c.args.table k.journal ≡ None) (sym c.self.view_is) c.requires.accepted in
    few_more s.limits s.journal.items s.version.value s.counts (λ q. get_by_text s.positions q) c.self.invariant c.args.table accepted

pub add-requires-clause-positions : goal.add-requires-clause-positions
add-requires-clause-positions c =
    let s = c.self.inside in
    let accepted = subst (λ k. load_refusal k.limits c.args.table k.journal ≡ None) (sym c.self.view_is) c.requires.accepted in
    let part = part_is c.in_ok-part.part _ (length s.journal.items + 1) c.args.segment.value c.args.table c.in_ok-part.ensures c.requires.segment (omega arith) in
    let parts = parts_kept s.limits s.journal.items s.version.value s.counts (λ q. get_by_text s.positions q) c.self.invariant in
    rw (part, parts) (positions_more s.limits s.journal.items s.version.value s.counts (λ q. get_by_text s.positions q) c.self.invariant c.args.table accepted)

pub add-requires-clause-names : goal.add-requires-clause-names
add-requires-clause-names c =
    let s = c.self.inside in
    let accepted = subst (λ k. load_refusal k.limits c.args.table k.journal ≡ None) (sym c.self.view_is) c.requires.accepted in
    let part = part_is c.in_ok-part.part _ (length s.journal.items + 1) c.args.segment.value c.args.table c.in_ok-part.ensures c.requires.segment (omega arith) in
    let parts = parts_kept s.limits s.journal.items s.version.value s.counts (λ q. get_by_text s.positions q) c.self.invariant in
    rw (part, parts) (names_more s.limits s.journal.items s.version.value s.counts (λ q. get_by_text s.positions q) c.self.invariant c.args.table accepted)

pub counts_with-self-inside-requires-clause-live : goal.counts_with-self-inside-requires-clause-live
counts_with-self-inside-requires-clause-live c =
    let s = c.self.inside in
    let accepted = subst (λ k. load_refusal k.limits c.args.table k.journal ≡ None) (sym c.self.view_is) c.requires.accepted in
    let f = fits s.limits s.journal.items s.version.value s.counts (λ q. get_by_text s.positions q) c.self.invariant c.args.table accepted in
    omega (arith, f.live)

pub counts_with-self-inside-requires-clause-members : goal.counts_with-self-inside-requires-clause-members
counts_with-self-inside-requires-clause-members c =
    let s = c.self.inside in
    let accepted = subst (λ k. load_refusal k.limits c.args.table k.journal ≡ None) (sym c.self.view_is) c.requires.accepted in
    let f = fits s.limits s.journal.items s.version.value s.counts (λ q. get_by_text s.positions q) c.self.invariant c.args.table accepted in
    omega (arith, f.members, ap members c.table-3.ensures)

pub counts_with-self-inside-requires-clause-key_bytes : goal.counts_with-self-inside-requires-clause-key_bytes
counts_with-self-inside-requires-clause-key_bytes c =
    let s = c.self.inside in
    let accepted = subst (λ k. load_refusal k.limits c.args.table k.journal ≡ None) (sym c.self.view_is) c.requires.accepted in
    let f = fits s.limits s.journal.items s.version.value s.counts (λ q. get_by_text s.positions q) c.self.invariant c.args.table accepted in
    omega (arith, f.key_bytes, ap key_bytes c.table-3.ensures)

pub invariant_of-self-2 : goal.invariant_of-self-2
invariant_of-self-2 c =
    let s = c.self.inside in
    let accepted = subst (λ k. load_refusal k.limits c.args.table k.journal ≡ None) (sym c.self.view_is) c.requires.accepted in
    let n = length c.self.inside.journal.items in
    let part = part_is c.in_ok-part.part _ (n + 1) c.args.segment.value c.args.table c.in_ok-part.ensures c.requires.segment (omega arith) in
    let parts = parts_kept s.limits s.journal.items s.version.value s.counts (λ q. get_by_text s.positions q) c.self.invariant in
    let at : c.len.result + 1 ≡ n + 1 = omega arith in
    let name : c.name.result.now ≡ c.args.table.name = c.name.ensures ∙ ap (λ (t : Table). t.name) c.table-2.ensures in
    let added : (q : Text) → get_by_text c.add_name.new.positions q ≡ cond (bytes_eq c.args.table.name q) (Some (n + 1)) (get_by_text c.self.inside.positions q) =
    λ q. c.in_ok-add_name.ensures.ok q ∙ (λ i. cond (bytes_eq (name i) q) (Some (at i)) (get_by_text c.self.inside.positions q)) in
    let more = kept_load s.limits s.journal.items s.version.value s.counts (λ q. get_by_text s.positions q) c.self.invariant c.args.table accepted c.args.who (λ q. get_by_text c.add_name.new.positions q) added in
    let journal : c.push_reserved.new.self.items ≡ c.self.inside.journal.items ++ entry_with c.args.who (Loaded c.args.table) ∷ [] =
    c.push_reserved.ensures.items ∙ (λ i. c.in_ok-reserve.ensures.items i ++ c.loaded.ensures i ∷ []) in
    let version : c.add.new.version.value ≡ version_with (n + 1) (layout c.self.inside.journal.items ++ loaded_part (n + 1) c.args.table ∷ []) =
    c.in-Ok.ensures.ok ∙ (λ i. version_with (at i) (parts i ++ part i ∷ [])) in
    let counts : c.counts_with-self-inside.result
    ≡ counts_with (c.self.inside.counts.live + 1) (c.self.inside.counts.updates + 1) (c.self.inside.counts.members + members c.args.table) (c.self.inside.counts.key_bytes + key_bytes c.args.table) =
    (λ i. counts_with (c.counts_with-self-inside.ensures.live i) (c.counts_with-self-inside.ensures.updates i)
    ((c.counts_with-self-inside.ensures.members ∙ ap (λ (t : Table). c.self.inside.counts.members + members t) c.table-3.ensures) i)
    ((c.counts_with-self-inside.ensures.key_bytes ∙ ap (λ (t : Table). c.self.inside.counts.key_bytes + key_bytes t) c.table-3.ensures) i)) in
    kept_equal s.limits _ _ _ _ _ _ (λ q. get_by_text c.add_name.new.positions q) more journal version counts

pub invariant_of-self-in_default : goal.invariant_of-self-in_default
invariant_of-self-in_default c =
    let s = c.self.inside in
    let accepted = subst (λ k. load_refusal k.limits c.args.table k.journal ≡ None) (sym c.self.view_is) c.requires.accepted in
    let name : c.name.result.now ≡ c.args.table.name = c.name.ensures ∙ ap (λ (t : Table). t.name) c.table-2.ensures in
    let again : c.name-in_default.result.now ≡ c.args.table.name = c.name-in_default.ensures ∙ ap (λ (t : Table). t.name) c.table-in_default.ensures in
    let added : (q : Text) → get_by_text c.add_name.new.positions q ≡ cond (bytes_eq c.args.table.name q) (Some (c.len.result + 1)) (get_by_text c.self.inside.positions q) =
    λ q. c.in_ok-add_name.ensures.ok q ∙ ap (λ (b : Text). cond (bytes_eq b q) (Some (c.len.result + 1)) (get_by_text c.self.inside.positions q)) name in
    let removed : (q : Text) → get_by_text c.remove_name.new.positions q ≡ cond (bytes_eq c.args.table.name q) None (get_by_text c.add_name.new.positions q) =
    λ q. c.remove_name.ensures q ∙ ap (λ (b : Text). cond (bytes_eq b q) None (get_by_text c.add_name.new.positions q)) again in
    kept_same s.limits s.journal.items _ s.version.value _ s.counts (λ q. get_by_text s.positions q) (λ q. get_by_text c.remove_name.new.positions q) c.self.invariant c.in_ok-reserve.ensures.items c.in_default.ensures.err
    (λ q. unadded s.limits s.journal.items s.version.value s.counts (λ n. get_by_text s.positions n) c.self.invariant c.args.table accepted _ _ (c.len.result + 1) q (added q) (removed q))
