use Rattle.std.proofs.Common.{◌≡◌, ◌∙◌, sym, ap, subst, arith, List, length, map, slice_set, ◌+◌, ◌++◌, ◌∷◌, [], Some, None, Option, ℕ, cond, is_some}
use Rattle.std.specs.Prelude.{bytes_eq}
use Rattle.std.specs.BTreeMap.{get_by_text}
use Rattle.lake_model.specs.Texts.{Text}
use Rattle.lake_model.specs.Tables.{Table, members, key_bytes}
use Rattle.lake_model.specs.Journal.{entry_with, Replaced}
use Rattle.lake_model.specs.Layout.{Part, layout, mark, positions_of}
use Rattle.segment_core.specs.Distinct.{unmarked_names}
use Rattle.list_laws.specs.Distinct.{AreDistinct}
use Rattle.segment_core.specs.Versions.{version_with, part_at, marked_at}
use Rattle.catalogue.specs.Refusals.{replace_refusal}
use Rattle.catalogue.proofs.KeptLemmas.{counts_with, kept_equal, named_kept, parts_kept}
use Rattle.catalogue.proofs.PutLemmas.{loaded_part, part_is}
use Rattle.catalogue.proofs.ReplaceLemmas.{fitting, is_there, kept_replace, names_more, positions_more, renewed_is}
use Rattle.catalogue.proofs.catalogue.Catalogue.accept_replace.Goals as goal

pub mark_and_add-requires-clause-positions : goal.mark_and_add-requires-clause-positions
mark_and_add-requires-clause-positions c =
    let s = c.self.inside in
    let accepted = subst (λ k. replace_refusal k.limits c.args.table k.journal ≡ None) (sym c.self.view_is) c.requires.accepted in
    let n = length c.self.inside.journal.items in
    let part = part_is c.in_ok-more.more _ (n + 1) c.args.segment.value c.args.table c.in_ok-more.ensures c.requires.segment (omega arith) in
    let name : c.name.result.now ≡ c.args.table.name = c.name.ensures ∙ ap (λ (t : Table). t.name) c.table-2.ensures in
    let parts = parts_kept s.limits s.journal.items s.version.value s.counts (λ q. get_by_text s.positions q) c.self.invariant in
    let is = renewed_is (layout s.journal.items) s.version.value.parts c.place_of-part.result.0 c.place_of-part.result.1 c.in_ok-more.more c.name.result.now c.args.table (n + 1) parts name part
    (subst (λ k. map (mark c.name.result.now) (layout k.journal) ≡ slice_set (layout k.journal) c.place_of-part.result.0 (marked_at c.place_of-part.result.1 (part_at (layout k.journal) c.place_of-part.result.0))) (sym c.self.view_is) c.place_of-part.ensures.marks) in
    subst (λ (ps : List Part). AreDistinct (positions_of ps)) (sym is)
    (positions_more s.limits s.journal.items s.version.value s.counts (λ q. get_by_text s.positions q) c.self.invariant c.args.table accepted)

pub mark_and_add-requires-clause-names : goal.mark_and_add-requires-clause-names
mark_and_add-requires-clause-names c =
    let s = c.self.inside in
    let accepted = subst (λ k. replace_refusal k.limits c.args.table k.journal ≡ None) (sym c.self.view_is) c.requires.accepted in
    let n = length c.self.inside.journal.items in
    let part = part_is c.in_ok-more.more _ (n + 1) c.args.segment.value c.args.table c.in_ok-more.ensures c.requires.segment (omega arith) in
    let name : c.name.result.now ≡ c.args.table.name = c.name.ensures ∙ ap (λ (t : Table). t.name) c.table-2.ensures in
    let parts = parts_kept s.limits s.journal.items s.version.value s.counts (λ q. get_by_text s.positions q) c.self.invariant in
    let is = renewed_is (layout s.journal.items) s.version.value.parts c.place_of-part.result.0 c.place_of-part.result.1 c.in_ok-more.more c.name.result.now c.args.table (n + 1) parts name part
    (subst (λ k. map (mark c.name.result.now) (layout k.journal) ≡ slice_set (layout k.journal) c.place_of-part.result.0 (marked_at c.place_of-part.result.1 (part_at (layout k.journal) c.place_of-part.result.0))) (sym c.self.view_is) c.place_of-part.ensures.marks) in
    subst (λ (ps : List Part). AreDistinct (unmarked_names ps)) (sym is)
    (names_more s.limits s.journal.items s.version.value s.counts (λ q. get_by_text s.positions q) c.self.invariant c.args.table accepted)

pub move_name-requires : goal.move_name-requires
move_name-requires c =
    let s = c.self.inside in
    let accepted = subst (λ k. replace_refusal k.limits c.args.table k.journal ≡ None) (sym c.self.view_is) c.requires.accepted in
    let name : c.name-2.result.now ≡ c.args.table.name = c.name-2.ensures ∙ ap (λ (t : Table). t.name) c.table-3.ensures in
    ap (λ (q : Text). is_some (get_by_text c.self.inside.positions q)) name
    ∙ ap (λ (o : Option ℕ). is_some o) (c.self.invariant.placed c.args.table.name)
    ∙ named_kept s.limits s.journal.items s.version.value s.counts (λ q. get_by_text s.positions q) c.self.invariant c.args.table.name
    ∙ is_there s.limits s.journal.items s.version.value s.counts (λ q. get_by_text s.positions q) c.self.invariant c.args.table accepted

pub counts_replaced-self-inside-requires-clause-members : goal.counts_replaced-self-inside-requires-clause-members
counts_replaced-self-inside-requires-clause-members c =
    let s = c.self.inside in
    let accepted = subst (λ k. replace_refusal k.limits c.args.table k.journal ≡ None) (sym c.self.view_is) c.requires.accepted in
    let f = fitting s.limits s.journal.items s.version.value s.counts (λ q. get_by_text s.positions q) c.self.invariant c.args.table accepted in
    omega (arith, f.members, ap members c.table-4.ensures)

pub counts_replaced-self-inside-requires-clause-key_bytes : goal.counts_replaced-self-inside-requires-clause-key_bytes
counts_replaced-self-inside-requires-clause-key_bytes c =
    let s = c.self.inside in
    let accepted = subst (λ k. replace_refusal k.limits c.args.table k.journal ≡ None) (sym c.self.view_is) c.requires.accepted in
    let f = fitting s.limits s.journal.items s.version.value s.counts (λ q. get_by_text s.positions q) c.self.invariant c.args.table accepted in
    omega (arith, f.key_bytes, ap key_bytes c.table-4.ensures)

pub invariant_of-self-2 : goal.invariant_of-self-2
invariant_of-self-2 c =
    let s = c.self.inside in
    let accepted = subst (λ k. replace_refusal k.limits c.args.table k.journal ≡ None) (sym c.self.view_is) c.requires.accepted in
    let n = length c.self.inside.journal.items in
    let at : c.len.result + 1 ≡ n + 1 = omega arith in
    let part = part_is c.in_ok-more.more _ (n + 1) c.args.segment.value c.args.table c.in_ok-more.ensures c.requires.segment (omega arith) in
    let name : c.name.result.now ≡ c.args.table.name = c.name.ensures ∙ ap (λ (t : Table). t.name) c.table-2.ensures in
    let again : c.name-2.result.now ≡ c.args.table.name = c.name-2.ensures ∙ ap (λ (t : Table). t.name) c.table-3.ensures in
    let parts = parts_kept s.limits s.journal.items s.version.value s.counts (λ q. get_by_text s.positions q) c.self.invariant in
    let is = renewed_is (layout s.journal.items) s.version.value.parts c.place_of-part.result.0 c.place_of-part.result.1 c.in_ok-more.more c.name.result.now c.args.table (n + 1) parts name part
    (subst (λ k. map (mark c.name.result.now) (layout k.journal) ≡ slice_set (layout k.journal) c.place_of-part.result.0 (marked_at c.place_of-part.result.1 (part_at (layout k.journal) c.place_of-part.result.0))) (sym c.self.view_is) c.place_of-part.ensures.marks) in
    let moved : (q : Text) → get_by_text c.move_name.new.positions q ≡ cond (bytes_eq c.args.table.name q) (Some (n + 1)) (get_by_text c.self.inside.positions q) =
    λ q. c.move_name.ensures q ∙ (λ i. cond (bytes_eq (again i) q) (Some (at i)) (get_by_text c.self.inside.positions q)) in
    let more = kept_replace s.limits s.journal.items s.version.value s.counts (λ q. get_by_text s.positions q) c.self.invariant c.args.table accepted c.args.who (λ q. get_by_text c.move_name.new.positions q) moved in
    let journal : c.push_reserved.new.self.items ≡ c.self.inside.journal.items ++ entry_with c.args.who (Replaced c.args.table) ∷ [] =
    c.push_reserved.ensures.items ∙ (λ i. c.in_ok-reserve.ensures.items i ++ c.replaced.ensures i ∷ []) in
    let version : c.mark_and_add.new.version.value ≡ version_with (n + 1) (map (mark c.args.table.name) (layout c.self.inside.journal.items) ++ loaded_part (n + 1) c.args.table ∷ []) =
    c.in_ok-mark_and_add.ensures.ok ∙ (λ i. version_with (at i) (is i)) in
    let counts : c.counts_replaced-self-inside.result ≡ counts_with c.self.inside.counts.live (c.self.inside.counts.updates + 1) (c.self.inside.counts.members + members c.args.table) (c.self.inside.counts.key_bytes + key_bytes c.args.table) =
    (λ i. counts_with (c.counts_replaced-self-inside.ensures.live i) (c.counts_replaced-self-inside.ensures.updates i)
    ((c.counts_replaced-self-inside.ensures.members ∙ ap (λ (t : Table). c.self.inside.counts.members + members t) c.table-4.ensures) i)
    ((c.counts_replaced-self-inside.ensures.key_bytes ∙ ap (λ (t : Table). c.self.inside.counts.key_bytes + key_bytes t) c.table-4.ensures) i)) in
    kept_equal s.limits _ _ _ _ _ _ (λ q. get_by_text c.move_name.new.positions q) more journal version counts
