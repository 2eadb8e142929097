-- A replace that nothing refuses: what a catalogue keeps is kept.
use Rattle.std.proofs.Common.{◌≡◌, refl, ap, sym, ◌∙◌, subst, ℕ, ◌+◌, ◌<◌, ◌≤◌, ◌^◌, List, [], ◌∷◌, ◌++◌, Bool, true, false, not, cond, map, length, slice_set, Option, Some, None, arith, length-append}
use Rattle.std.specs.Prelude.{bytes_eq, count_by, find, option_map}
use Rattle.std.specs.List.{AllByRecursion}
use Rattle.std.proofs.lemmas.List.{length-map, map-append}
use Rattle.std.proofs.lemmas.List.Concat.{flat_map-append}
use Rattle.std.proofs.lemmas.List.Sums.{sum_by_push}
use Rattle.lake_model.specs.declared.Counts.{Counts}
use Rattle.lake_model.specs.declared.Who.{Who}
use Rattle.lake_model.specs.Texts.{Text}
use Rattle.lake_model.specs.Tables.{Table, members, key_bytes}
use Rattle.lake_model.specs.Journal.{Entry, Replaced, is_live, live, counts, loads_of, is_update, has_name, entry_with, without}
use Rattle.lake_model.specs.Layout.{Part, layout, mark, positions_of}
use Rattle.lake_model.specs.Limits.{Bounded, is_passed, replace_bounds}
use Rattle.lake_model.proofs.LayoutLemmas.{live_more, layout_more, searchable-drop, searchable-replace}
use Rattle.layout_laws.proofs.LiveLemmas.{lacks_name, positions_dropped, unmarked}
use Rattle.segment_core.specs.Distinct.{unmarked_names}
use Rattle.list_laws.specs.Distinct.{AreDistinct, Rises}
use Rattle.segment_core.specs.Versions.{VersionOf, live_of, marked_and_added, marked_at, part_at, version_with}
use Rattle.catalogue.specs.declared.refusal.ReplaceRefused.TheVariants.{Unknown, Full}
use Rattle.catalogue.specs.Kept.{IsKept}
use Rattle.catalogue.specs.Parts.{load_of}
use Rattle.catalogue.specs.Refusals.{replace_refusal}
use Rattle.list_laws.proofs.ListLemmas.{all_append, find_none, distinct_filter, distinct_push}
use Rattle.catalogue.proofs.ListLemmas.{map_none}
use Rattle.layout_laws.specs.Places.{places_of}
use Rattle.catalogue.proofs.PlaceLemmas.{HasPlaces, names_of_tables}
use Rattle.catalogue.proofs.KeptLemmas.{counts_with, is_legal_behind-push, merging-push}
use Rattle.catalogue.proofs.PutLemmas.{Fits, few_by, fits_by, load_push, loaded_part, names_push, positions_push, put_bytes, put_differ, put_members, put_past, put_positions, put_rise}
use Rattle.catalogue.proofs.DropLemmas.{either_none, filled_mark, load_drop, one_less}

put_twice : (b : Bool) (at : ℕ) (o : Option ℕ) → cond b (Some at) (cond b None o) ≡ cond b (Some at) o
put_twice true at o = refl
put_twice false at o = refl

-- the parts that the code makes: `held` is what it marks, and `more` what it adds
pub renewed_is : (parts held : List Part) (i j : ℕ) (more : Part) (name : Text) (table : Table) (at : ℕ) → held ≡ parts → name ≡ table.name → more ≡ loaded_part at table → map (mark name) parts ≡ slice_set parts i (marked_at j (part_at parts i))
    → marked_and_added i j more held ≡ map (mark table.name) parts ++ loaded_part at table ∷ []
renewed_is parts held i j more name table at h n m marks =
    (λ k. marked_and_added i j (m k) (h k)) ∙ ap (λ (ps : List Part). ps ++ loaded_part at table ∷ []) (sym marks ∙ ap (λ (q : Text). map (mark q) parts) n)

module _ (limits : Counts) (journal : List Entry) (version : VersionOf) (counted : Counts) (position : Text → Option ℕ) (kept : IsKept limits journal version counted position)
    (table : Table) (accepted : replace_refusal limits table journal ≡ None) where
  opened : (is_live journal table.name ≡ true) × (option_map (λ (b : Bounded). Full b.which b.count b.more (length journal)) (find is_passed (replace_bounds limits table (counts journal))) ≡ None)
  opened = either_none (is_live journal table.name) _ (Unknown (length journal)) accepted

  pub is_there : is_live journal table.name ≡ true
  is_there = opened.0

  pub fitting : Fits limits counted table
  fitting = fits_by limits journal version counted position kept table (find_none is_passed (replace_bounds limits table (counts journal)) (map_none _ _ opened.1))

  -- the parts with the old table marked, and the same followed by the new one
  abbrev marked : List Part
  marked = map (mark table.name) (layout journal)

  abbrev pub renewed : List Part
  renewed = marked ++ loaded_part (length journal + 1) table ∷ []

  pub few_more : length version.parts + 1 < 2 ^ 32
  few_more = few_by limits journal version counted position kept table fitting

  pushed : positions_of renewed ≡ put_positions journal
  pushed = positions_push marked (length journal + 1) table ∙ ap (λ (ns : List ℕ). ns ++ (length journal + 1) ∷ []) (positions_dropped table.name (layout journal))

  pub positions_more : AreDistinct (positions_of renewed)
  positions_more = subst AreDistinct (sym pushed) (put_differ limits journal version counted position kept)

  -- the tables that stay live
  abbrev left : List Table
  left = without table.name (live journal)

  left_differ : AreDistinct (map (λ (t : Table). t.name) left ++ table.name ∷ [])
  left_differ = distinct_push (map (λ (t : Table). t.name) left) table.name (distinct_filter (λ (t : Table). t.name) (λ t. not (has_name table.name t)) (live journal) kept.names) (lacks_name (live journal) table.name)

  left_searched : live_of marked ≡ left
  left_searched = searchable-drop 0 (layout journal) table.name ∙ ap (without table.name) kept.searched

  names_left : unmarked_names marked ≡ map (λ (t : Table). t.name) left
  names_left = names_of_tables (unmarked (places_of marked)) ∙ ap (map (λ (t : Table). t.name)) left_searched

  pub names_more : AreDistinct (unmarked_names renewed)
  names_more = subst AreDistinct (sym (names_push marked (length journal + 1) table ∙ ap (λ (ns : List Text). ns ++ table.name ∷ []) names_left)) left_differ

  -- where the load or replace of a name is found
  loaded : (q : Text) → load_of renewed q ≡ cond (bytes_eq table.name q) (Some (length journal + 1)) (load_of (layout journal) q)
  loaded q =
      let stays = load_drop table.name q (layout journal) in
      load_push marked (length journal + 1) table q (λ e. stays ∙ ap (λ (b : Bool). cond b None (load_of (layout journal) q)) e)
      ∙ ap (cond (bytes_eq table.name q) (Some (length journal + 1))) stays ∙ put_twice (bytes_eq table.name q) (length journal + 1) (load_of (layout journal) q)

  module _ (who : Who) where
    abbrev longer : List Entry
    longer = journal ++ entry_with who (Replaced table) ∷ []

    long : length longer ≡ length journal + 1
    long = length-append journal (entry_with who (Replaced table) ∷ [])

    lived : live longer ≡ left ++ table ∷ []
    lived = live_more journal (entry_with who (Replaced table))

    laid : layout longer ≡ renewed
    laid =
        let one : 1 + length journal ≡ length journal + 1 = omega arith in
        layout_more journal (entry_with who (Replaced table)) ∙ ap (λ (n : ℕ). marked ++ loaded_part n table ∷ []) one

    loads : loads_of longer ≡ loads_of journal ++ table ∷ []
    loads = flat_map-append _ journal (entry_with who (Replaced table) ∷ [])

    count_live : counted.live ≡ length (live longer)
    count_live = omega (arith, ap (λ (c : Counts). c.live) kept.count, ap (λ (ts : List Table). length ts) lived, length-append left (table ∷ []), one_less table.name (live journal) kept.names opened.0)

    count_updates : counted.updates + 1 ≡ count_by (λ (e : Entry). is_update e.what) longer
    count_updates = ap (λ (c : Counts). c.updates + 1) kept.count ∙ sym (sum_by_push _ journal (entry_with who (Replaced table)))

    names_longer : AreDistinct (map (λ table. table.name) (live longer))
    names_longer =
        let names : map (λ (t : Table). t.name) (live longer) ≡ map (λ (t : Table). t.name) left ++ table.name ∷ [] = ap (map (λ (t : Table). t.name)) lived ∙ map-append (λ (t : Table). t.name) left (table ∷ []) in
        subst AreDistinct (sym names) left_differ

    positions_longer : positions_of (layout longer) ≡ put_positions journal
    positions_longer = ap (λ (parts : List Part). positions_of parts) laid ∙ pushed

    pub kept_replace : (position' : Text → Option ℕ) → ((q : Text) → position' q ≡ cond (bytes_eq table.name q) (Some (length journal + 1)) (position q))
        → IsKept limits longer (version_with (length journal + 1) renewed) (counts_with counted.live (counted.updates + 1) (counted.members + members table) (counted.key_bytes + key_bytes table)) position'
    kept_replace position' h = record {
      current = λ i. version_with (sym long i) (sym laid i);
      count = λ i. counts_with (count_live i) (count_updates i) (put_members limits journal version counted position kept table longer loads i) (put_bytes limits journal version counted position kept table longer loads i);
      placed = λ q. h q ∙ ap (cond (bytes_eq table.name q) (Some (length journal + 1))) (kept.placed q) ∙ sym (loaded q) ∙ ap (λ (parts : List Part). load_of parts q) (sym laid);
      legal = is_legal_behind-push [] journal (entry_with who (Replaced table)) kept.legal opened.0;
      within = record {
        live = kept.within.live;
        updates = fitting.updates;
        members = fitting.members;
        key_bytes = fitting.key_bytes;
      };
      narrow = kept.narrow;
      searched = ap (λ (parts : List Part). live_of parts) (layout_more journal (entry_with who (Replaced table))) ∙ searchable-replace (1 + length journal) (layout journal) table
          ∙ ap (λ (ts : List Table). without table.name ts ++ table ∷ []) kept.searched ∙ sym lived;
      names = names_longer;
      rising = subst Rises (sym positions_longer) (put_rise limits journal version counted position kept);
      past = subst (AllByRecursion (λ n. n ≤ length longer)) (sym positions_longer) (subst (λ (m : ℕ). AllByRecursion (λ n. n ≤ m) (put_positions journal)) (sym long) (put_past limits journal version counted position kept));
      filled = subst (AllByRecursion HasPlaces) (sym laid) (all_append HasPlaces marked (loaded_part (length journal + 1) table ∷ []) (filled_mark table.name (layout journal) kept.filled) (omega arith, tt));
      room = omega (arith, ap (λ (ns : List ℕ). length ns) positions_longer, length-append (positions_of (layout journal)) ((length journal + 1) ∷ []), kept.room, count_updates, ap (λ (c : Counts). c.updates) kept.count);
      few = omega (arith, ap (λ (ps : List Part). length ps) laid, length-append marked (loaded_part (length journal + 1) table ∷ []), length-map (layout journal) (mark table.name), kept.few, count_updates, ap (λ (c : Counts). c.updates) kept.count);
      merging = merging-push [] journal (entry_with who (Replaced table)) kept.merging refl;
    }
