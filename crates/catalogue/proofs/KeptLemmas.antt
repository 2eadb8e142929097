-- What follows from what a catalogue keeps, and what preserves it for one more entry.
use Rattle.std.proofs.Common.{◌≡◌, refl, ap, sym, ◌∙◌, subst, ℕ, List, [], ◌∷◌, ◌++◌, true, map, Option, is_some, append_assoc, append-nil}
use Rattle.std.specs.List.{list_any}
use Rattle.lake_model.specs.declared.Counts.{Counts}
use Rattle.lake_model.specs.Texts.{Text}
use Rattle.lake_model.specs.Tables.{Table}
use Rattle.lake_model.specs.Journal.{Entry, is_live, live, has_name}
use Rattle.lake_model.specs.Layout.{layout, positions_of, unmarked_of, is_legal_behind, may_follow}
use Rattle.layout_laws.specs.Weight.{merges, do_merge_behind}
use Rattle.segment_core.specs.Distinct.{unmarked_names}
use Rattle.list_laws.specs.Distinct.{AreDistinct}
use Rattle.segment_core.specs.Versions.{VersionOf}
use Rattle.catalogue.specs.Kept.{IsKept}
use Rattle.catalogue.specs.Parts.{load_of}
use Rattle.list_laws.proofs.ListLemmas.{joined, rises_distinct}
use Rattle.std.proofs.lemmas.Bool.{and_parts}
use Rattle.catalogue.proofs.PlaceLemmas.{load_is_named, names_of_tables}

abbrev pub counts_with : ℕ → ℕ → ℕ → ℕ → Counts
counts_with live updates members key_bytes = record { live = live; updates = updates; members = members; key_bytes = key_bytes }

-- one more entry that may follow
pub is_legal_behind-push : (before journal : List Entry) (e : Entry) → is_legal_behind before journal ≡ true → may_follow (before ++ journal) e.what ≡ true → is_legal_behind before (journal ++ e ∷ []) ≡ true
is_legal_behind-push before [] e h k = joined (may_follow before e.what) true (subst (λ (b : List Entry). may_follow b e.what ≡ true) (append-nil before) k) refl
is_legal_behind-push before (first ∷ journal) e h k =
    let p = and_parts (may_follow before first.what) (is_legal_behind (before ++ first ∷ []) journal) h in
    joined (may_follow before first.what) (is_legal_behind (before ++ first ∷ []) (journal ++ e ∷ [])) p.0
    (is_legal_behind-push (before ++ first ∷ []) journal e p.1 (subst (λ (b : List Entry). may_follow b e.what ≡ true) (sym (append_assoc before (first ∷ []) journal)) k))

-- one more entry that merges, if it is a swap
pub merging-push : (before journal : List Entry) (e : Entry) → do_merge_behind before journal ≡ true → merges (before ++ journal) e.what ≡ true → do_merge_behind before (journal ++ e ∷ []) ≡ true
merging-push before [] e h k = joined (merges before e.what) true (subst (λ (b : List Entry). merges b e.what ≡ true) (append-nil before) k) refl
merging-push before (first ∷ journal) e h k =
    let p = and_parts (merges before first.what) (do_merge_behind (before ++ first ∷ []) journal) h in
    joined (merges before first.what) (do_merge_behind (before ++ first ∷ []) (journal ++ e ∷ [])) p.0
    (merging-push (before ++ first ∷ []) journal e p.1 (subst (λ (b : List Entry). merges b e.what ≡ true) (sym (append_assoc before (first ∷ []) journal)) k))

module _ (limits : Counts) (journal : List Entry) (version : VersionOf) (counted : Counts) (position : Text → Option ℕ) (kept : IsKept limits journal version counted position) where
  pub parts_kept : version.parts ≡ layout journal
  parts_kept = ap (λ (v : VersionOf). v.parts) kept.current

  -- the positions by name say which names are live
  pub named_kept : (name : Text) → is_some (load_of (layout journal) name) ≡ is_live journal name
  named_kept name = load_is_named name (unmarked_of (layout journal)) ∙ ap (λ (ts : List Table). list_any (has_name name) ts) kept.searched

  pub names_kept : unmarked_names (layout journal) ≡ map (λ table. table.name) (live journal)
  names_kept = names_of_tables (unmarked_of (layout journal)) ∙ ap (map (λ (t : Table). t.name)) kept.searched

  pub names_differ : AreDistinct (unmarked_names (layout journal))
  names_differ = subst AreDistinct (sym names_kept) kept.names

  pub positions_differ : AreDistinct (positions_of (layout journal))
  positions_differ = rises_distinct (positions_of (layout journal)) kept.rising

-- the same under other names
pub kept_equal : (limits : Counts) (journal journal' : List Entry) (version version' : VersionOf) (counted counted' : Counts) (position : Text → Option ℕ) → IsKept limits journal version counted position
    → journal' ≡ journal → version' ≡ version → counted' ≡ counted → IsKept limits journal' version' counted' position
kept_equal limits journal journal' version version' counted counted' position kept j v n =
    subst (λ (js : List Entry). IsKept limits js version' counted' position) (sym j) (subst (λ (w : VersionOf). IsKept limits journal w counted' position) (sym v) (subst (λ (m : Counts). IsKept limits journal version m position) (sym n) kept))

pub kept_same : (limits : Counts) (journal journal' : List Entry) (version version' : VersionOf) (counted : Counts) (position position' : Text → Option ℕ) → IsKept limits journal version counted position
    → journal' ≡ journal → version' ≡ version → ((name : Text) → position' name ≡ position name) → IsKept limits journal' version' counted position'
kept_same limits journal journal' version version' counted position position' kept j v h =
    let here : IsKept limits journal version counted position' = record {
      current = kept.current;
      count = kept.count;
      placed = λ name. h name ∙ kept.placed name;
      legal = kept.legal;
      within = kept.within;
      narrow = kept.narrow;
      searched = kept.searched;
      names = kept.names;
      rising = kept.rising;
      past = kept.past;
      filled = kept.filled;
      room = kept.room;
      few = kept.few;
      merging = kept.merging;
    } in
    kept_equal limits journal journal' version version' counted counted position' here j v refl
