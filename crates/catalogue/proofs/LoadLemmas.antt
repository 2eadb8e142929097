-- A load that nothing refuses: what a catalogue keeps is kept.
use Rattle.std.proofs.Common.{◌≡◌, refl, ap, sym, ◌∙◌, subst, ℕ, ◌+◌, ◌<◌, ◌≤◌, ◌^◌, List, [], ◌∷◌, ◌++◌, Bool, true, false, not, cond, map, length, Option, Some, None, arith, length-append}
use Rattle.std.specs.Prelude.{bytes_eq, count_by, find, option_map}
use Rattle.std.specs.List.{AllByRecursion}
use Rattle.std.proofs.lemmas.List.{map-append}
use Rattle.std.proofs.lemmas.List.Concat.{flat_map-append}
use Rattle.std.proofs.lemmas.List.Sums.{sum_by_push}
use Rattle.lake_model.specs.declared.Counts.{Counts}
use Rattle.lake_model.specs.declared.Who.{Who}
use Rattle.lake_model.specs.Texts.{Text}
use Rattle.lake_model.specs.Tables.{Table, members, key_bytes}
use Rattle.lake_model.specs.Journal.{Entry, Loaded, is_live, live, counts, loads_of, is_update, entry_with}
use Rattle.lake_model.specs.Layout.{Part, layout, positions_of}
use Rattle.lake_model.specs.Limits.{Bounded, is_passed, load_bounds}
use Rattle.lake_model.proofs.LayoutLemmas.{live_more, layout_more, searchable-load}
use Rattle.layout_laws.proofs.LiveLemmas.{lacks_names}
use Rattle.segment_core.specs.Distinct.{unmarked_names}
use Rattle.list_laws.specs.Distinct.{AreDistinct, Lacks, Rises}
use Rattle.segment_core.specs.Versions.{VersionOf, live_of, version_with}
use Rattle.catalogue.specs.declared.refusal.LoadRefused.TheVariants.{Full}
use Rattle.catalogue.specs.Kept.{IsKept, IsWithin}
use Rattle.catalogue.specs.Parts.{load_of}
use Rattle.catalogue.specs.Refusals.{load_refusal}
use Rattle.list_laws.proofs.ListLemmas.{all_append, find_none, distinct_push}
use Rattle.catalogue.proofs.ListLemmas.{le_from, open_by, map_none, none_from}
use Rattle.catalogue.proofs.PlaceLemmas.{HasPlaces, name_same}
use Rattle.catalogue.proofs.KeptLemmas.{counts_with, is_legal_behind-push, merging-push, named_kept, names_kept, names_differ}
use Rattle.catalogue.proofs.PutLemmas.{Fits, few_by, fits_by, load_push, loaded_part, names_push, positions_push, put_bytes, put_differ, put_members, put_past, put_positions, put_rise}

module _ (limits : Counts) (journal : List Entry) (version : VersionOf) (counted : Counts) (position : Text → Option ℕ) (kept : IsKept limits journal version counted position)
    (table : Table) (accepted : load_refusal limits table journal ≡ None) where
  opened : (is_live journal table.name ≡ false) × (option_map (λ (b : Bounded). Full b.which b.count b.more (length journal)) (find is_passed (load_bounds limits table (counts journal))) ≡ None)
  opened = open_by (is_live journal table.name) _ _ accepted

  loads_none : (q : Text) → bytes_eq table.name q ≡ true → load_of (layout journal) q ≡ None
  loads_none q h = none_from (load_of (layout journal) q) (named_kept limits journal version counted position kept q ∙ ap (is_live journal) (sym (name_same table.name q h)) ∙ opened.0)

  -- a name that is added and removed again
  pub unadded : (added removed : Option ℕ) (at : ℕ) (q : Text) → added ≡ cond (bytes_eq table.name q) (Some at) (position q) → removed ≡ cond (bytes_eq table.name q) None added → removed ≡ position q
  unadded added removed at q e f = f ∙ ap (λ (o : Option ℕ). cond (bytes_eq table.name q) None o) e ∙ by (bytes_eq table.name q) refl
    where
      by : (b : Bool) → bytes_eq table.name q ≡ b → cond b None (cond b (Some at) (position q)) ≡ position q
      by true h = sym (kept.placed q ∙ loads_none q h)
      by false h = refl

  bounded : AllByRecursion (λ b. is_passed b ≡ false) (load_bounds limits table (counts journal))
  bounded = find_none is_passed (load_bounds limits table (counts journal)) (map_none _ _ opened.1)

  fitting : Fits limits counted table
  fitting = fits_by limits journal version counted position kept table bounded.1

  pub fits : IsWithin limits (counts_with (counted.live + 1) (counted.updates + 1) (counted.members + members table) (counted.key_bytes + key_bytes table))
  fits =
      record {
        live = omega (arith, le_from _ _ bounded.0, ap (λ (c : Counts). c.live) kept.count);
        updates = fitting.updates;
        members = fitting.members;
        key_bytes = fitting.key_bytes;
      }

  abbrev pub grown : List Part
  grown = layout journal ++ loaded_part (length journal + 1) table ∷ []

  -- the positions after the load
  pushed : positions_of grown ≡ put_positions journal
  pushed = positions_push (layout journal) (length journal + 1) table

  grown_lacks : Lacks (unmarked_names (layout journal)) table.name
  grown_lacks = subst (λ (names : List Text). Lacks names table.name) (sym (names_kept limits journal version counted position kept)) (lacks_names (live journal) table.name opened.0)

  pub few_more : length version.parts + 1 < 2 ^ 32
  few_more = few_by limits journal version counted position kept table fitting

  pub positions_more : AreDistinct (positions_of grown)
  positions_more = subst AreDistinct (sym pushed) (put_differ limits journal version counted position kept)

  pub names_more : AreDistinct (unmarked_names grown)
  names_more = subst AreDistinct (sym (names_push (layout journal) (length journal + 1) table)) (distinct_push (unmarked_names (layout journal)) table.name (names_differ limits journal version counted position kept) grown_lacks)

  module _ (who : Who) where
    abbrev longer : List Entry
    longer = journal ++ entry_with who (Loaded table) ∷ []

    long : length longer ≡ length journal + 1
    long = length-append journal (entry_with who (Loaded table) ∷ [])

    lived : live longer ≡ live journal ++ table ∷ []
    lived = live_more journal (entry_with who (Loaded table))

    laid : layout longer ≡ grown
    laid =
        let one : 1 + length journal ≡ length journal + 1 = omega arith in
        layout_more journal (entry_with who (Loaded table)) ∙ ap (λ (n : ℕ). layout journal ++ loaded_part n table ∷ []) one

    loads : loads_of longer ≡ loads_of journal ++ table ∷ []
    loads = flat_map-append _ journal (entry_with who (Loaded table) ∷ [])

    count_live : counted.live + 1 ≡ length (live longer)
    count_live = omega (arith, ap (λ (c : Counts). c.live) kept.count, ap (λ (ts : List Table). length ts) lived, length-append (live journal) (table ∷ []))

    count_updates : counted.updates + 1 ≡ count_by (λ (e : Entry). is_update e.what) longer
    count_updates = ap (λ (c : Counts). c.updates + 1) kept.count ∙ sym (sum_by_push _ journal (entry_with who (Loaded table)))

    positions_longer : positions_of (layout longer) ≡ put_positions journal
    positions_longer = ap (λ (parts : List Part). positions_of parts) laid ∙ pushed

    names_longer : AreDistinct (map (λ table. table.name) (live longer))
    names_longer =
        let names : map (λ (t : Table). t.name) (live longer) ≡ map (λ (t : Table). t.name) (live journal) ++ table.name ∷ [] = ap (map (λ (t : Table). t.name)) lived ∙ map-append (λ (t : Table). t.name) (live journal) (table ∷ []) in
        subst AreDistinct (sym names) (distinct_push (map (λ (t : Table). t.name) (live journal)) table.name kept.names (lacks_names (live journal) table.name opened.0))

    pub kept_load : (position' : Text → Option ℕ) → ((q : Text) → position' q ≡ cond (bytes_eq table.name q) (Some (length journal + 1)) (position q))
        → IsKept limits longer (version_with (length journal + 1) grown) (counts_with (counted.live + 1) (counted.updates + 1) (counted.members + members table) (counted.key_bytes + key_bytes table)) position'
    kept_load position' h = record {
      current = λ i. version_with (sym long i) (sym laid i);
      count = λ i. counts_with (count_live i) (count_updates i) (put_members limits journal version counted position kept table longer loads i) (put_bytes limits journal version counted position kept table longer loads i);
      placed = λ q. h q ∙ ap (cond (bytes_eq table.name q) (Some (length journal + 1))) (kept.placed q) ∙ sym (load_push (layout journal) (length journal + 1) table q (loads_none q)) ∙ ap (λ (parts : List Part). load_of parts q) (sym laid);
      legal = is_legal_behind-push [] journal (entry_with who (Loaded table)) kept.legal (ap not opened.0);
      within = fits;
      narrow = kept.narrow;
      searched = ap (λ (parts : List Part). live_of parts) (layout_more journal (entry_with who (Loaded table))) ∙ searchable-load (1 + length journal) (layout journal) table
          ∙ ap (λ (ts : List Table). ts ++ table ∷ []) kept.searched ∙ sym lived;
      names = names_longer;
      rising = subst Rises (sym positions_longer) (put_rise limits journal version counted position kept);
      past = subst (AllByRecursion (λ n. n ≤ length longer)) (sym positions_longer) (subst (λ (m : ℕ). AllByRecursion (λ n. n ≤ m) (put_positions journal)) (sym long) (put_past limits journal version counted position kept));
      filled = subst (AllByRecursion HasPlaces) (sym laid) (all_append HasPlaces (layout journal) (loaded_part (length journal + 1) table ∷ []) kept.filled (omega arith, tt));
      room = omega (arith, ap (λ (ns : List ℕ). length ns) positions_longer, length-append (positions_of (layout journal)) ((length journal + 1) ∷ []), kept.room, count_updates, ap (λ (c : Counts). c.updates) kept.count);
      few = omega (arith, ap (λ (ps : List Part). length ps) laid, length-append (layout journal) (loaded_part (length journal + 1) table ∷ []), kept.few, count_updates, ap (λ (c : Counts). c.updates) kept.count);
      merging = merging-push [] journal (entry_with who (Loaded table)) kept.merging refl;
    }
