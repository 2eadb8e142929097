-- A drop that nothing refuses: what a catalogue keeps is kept.
use Rattle.std.proofs.Common.{◌≡◌, refl, ap, sym, ◌∙◌, subst, ℕ, ◌+◌, ◌-◌, ◌<◌, ◌≤◌, List, [], ◌∷◌, ◌++◌, Bool, true, false, not, ◌||◌, cond, map, length, Option, Some, None, arith, length-append, append-nil}
use Rattle.std.specs.Prelude.{bytes_eq, sum_by, count_by, find, option_map}
use Rattle.std.specs.List.{AllByRecursion, list_any, filter}
use Rattle.std.proofs.lemmas.List.{length-map}
use Rattle.std.proofs.lemmas.List.Concat.{flat_map-append}
use Rattle.std.proofs.lemmas.List.Sums.{sum_by_push}
use Rattle.lake_model.specs.declared.Counts.{Counts}
use Rattle.lake_model.specs.declared.Who.{Who}
use Rattle.lake_model.specs.Texts.{Text}
use Rattle.lake_model.specs.Tables.{Table, members, key_bytes}
use Rattle.lake_model.specs.Journal.{Entry, Dropped, is_live, live, counts, loads_of, is_update, has_name, entry_with}
use Rattle.lake_model.specs.Layout.{Place, Part, layout, mark, mark_place, positions_of}
use Rattle.lake_model.specs.Limits.{Bounded, is_passed, drop_bounds}
use Rattle.lake_model.proofs.LayoutLemmas.{live_more, layout_more, searchable-drop}
use Rattle.segment_core.specs.Distinct.{unmarked_names}
use Rattle.list_laws.specs.Distinct.{AreDistinct, Lacks, Rises}
use Rattle.segment_core.specs.Versions.{VersionOf, live_of, version_with}
use Rattle.catalogue.specs.declared.refusal.DropRefused.TheVariants.{Unknown, Full}
use Rattle.catalogue.specs.Kept.{IsKept}
use Rattle.catalogue.specs.Parts.{load_of, is_of}
use Rattle.catalogue.specs.Refusals.{drop_refusal}
use Rattle.list_laws.proofs.ListLemmas.{all_weaker, find_none, distinct_filter}
use Rattle.catalogue.proofs.ListLemmas.{le_from, map_none}
use Rattle.layout_laws.specs.Places.{places_of}
use Rattle.catalogue.proofs.PlaceLemmas.{HasPlaces, name_same, name_is, name_differs, names_of_tables}
use Rattle.catalogue.proofs.KeptLemmas.{counts_with, is_legal_behind-push, merging-push}
use Rattle.layout_laws.proofs.LiveLemmas.{places_marked, positions_dropped as marked_positions, unmarked}

pub filled_mark : (name : Text) (parts : List Part) → AllByRecursion HasPlaces parts → AllByRecursion HasPlaces (map (mark name) parts)
filled_mark name [] h = tt
filled_mark name (part ∷ parts) h = (subst (λ (n : ℕ). 0 < n) (sym (length-map part.places (mark_place name))) h.0, filled_mark name parts h.1)

-- the position of the load of a name, among places
abbrev load_in : Text → List Place → Option ℕ
load_in q places = option_map (λ (p : Place). p.position) (find (is_of q) (unmarked places))

load_step : (q : Text) (place : Place) (places : List Place) → load_in q (place ∷ places) ≡ cond place.marked (load_in q places) (cond (has_name q place.table) (Some place.position) (load_in q places))
load_step q place places = by place.marked
  where
    found : (b : Bool) → option_map (λ (p : Place). p.position) (cond b (Some place) (find (is_of q) (unmarked places))) ≡ cond b (Some place.position) (load_in q places)
    found true = refl
    found false = refl

    by : (m : Bool) → option_map (λ (p : Place). p.position) (find (is_of q) (cond (not m) (place ∷ unmarked places) (unmarked places))) ≡ cond m (load_in q places) (cond (has_name q place.table) (Some place.position) (load_in q places))
    by true = refl
    by false = found (has_name q place.table)

mark_step : (m h a b : Bool) (old new : Option ℕ) (n : ℕ) → new ≡ cond b None old → (h ≡ true → a ≡ b) → (a ≡ true → b ≡ true → h ≡ true) → cond (m || h) new (cond a (Some n) new) ≡ cond b None (cond m old (cond a (Some n) old))
mark_step true h a b old new n e f g = e
mark_step false true true true old new n e f g = e
mark_step false true true false old new n e f g = let no : true ≡ false = f refl in cc
mark_step false true false true old new n e f g = let no : false ≡ true = f refl in cc
mark_step false true false false old new n e f g = e
mark_step false false true true old new n e f g = let no : false ≡ true = g refl refl in cc
mark_step false false true false old new n e f g = refl
mark_step false false false true old new n e f g = e
mark_step false false false false old new n e f g = e

none_is : (b : Bool) (o : Option ℕ) → o ≡ None → o ≡ cond b None o
none_is true o h = h
none_is false o h = refl

load_mark : (name q : Text) (places : List Place) → load_in q (map (mark_place name) places) ≡ cond (bytes_eq name q) None (load_in q places)
load_mark name q [] = none_is (bytes_eq name q) (load_in q []) refl
load_mark name q (place ∷ places) =
    let h : has_name name place.table ≡ true → has_name q place.table ≡ bytes_eq name q = λ e. ap (λ (x : Text). bytes_eq x q) (name_same place.table.name name e) in
    let g : has_name q place.table ≡ true → bytes_eq name q ≡ true → has_name name place.table ≡ true = λ e f. name_is place.table.name name (name_same place.table.name q e ∙ sym (name_same name q f)) in
    load_step q (mark_place name place) (map (mark_place name) places)
    ∙ mark_step place.marked (has_name name place.table) (has_name q place.table) (bytes_eq name q) (load_in q places) (load_in q (map (mark_place name) places)) place.position (load_mark name q places) h g
    ∙ ap (cond (bytes_eq name q) None) (sym (load_step q place places))

pub load_drop : (name q : Text) (parts : List Part) → load_of (map (mark name) parts) q ≡ cond (bytes_eq name q) None (load_of parts q)
load_drop name q parts = ap (load_in q) (places_marked name parts) ∙ load_mark name q (places_of parts)

-- one table fewer
filter_same : (name : Text) (tables : List Table) → Lacks (map (λ table. table.name) tables) name → filter (λ table. not (has_name name table)) tables ≡ tables
filter_same name [] h = refl
filter_same name (table ∷ tables) h =
    ap (λ (b : Bool). cond (not b) (table ∷ filter (λ t. not (has_name name t)) tables) (filter (λ t. not (has_name name t)) tables)) (name_differs table.name name h.0) ∙ ap (λ ts. table ∷ ts) (filter_same name tables h.1)

one_by : (name : Text) (table : Table) (tables kept : List Table) (b : Bool) → has_name name table ≡ b → kept ≡ filter (λ t. not (has_name name t)) tables → Lacks (map (λ t. t.name) tables) table.name
    → (list_any (has_name name) tables ≡ true → length kept + 1 ≡ length tables) → (b || list_any (has_name name) tables) ≡ true → length (cond (not b) (table ∷ kept) kept) + 1 ≡ length (table ∷ tables)
one_by name table tables kept true e k lacks rest h =
    let same : kept ≡ tables = k ∙ filter_same name tables (subst (λ (x : Text). Lacks (map (λ (t : Table). t.name) tables) x) (name_same table.name name e) lacks) in
    omega (arith, ap (λ (ts : List Table). length ts) same)
one_by name table tables kept false e k lacks rest h = omega (arith, rest h)

pub one_less : (name : Text) (tables : List Table) → AreDistinct (map (λ table. table.name) tables) → list_any (has_name name) tables ≡ true → length (filter (λ table. not (has_name name table)) tables) + 1 ≡ length tables
one_less name [] h k = cc
one_less name (table ∷ tables) h k = one_by name table tables (filter (λ t. not (has_name name t)) tables) (has_name name table) refl refl h.0 (one_less name tables h.1) k

pub either_none : {X : Type 0} (b : Bool) (o : Option X) (x : X) → cond b o (Some x) ≡ None → (b ≡ true) × (o ≡ None)
either_none true o x h = (refl, h)
either_none false o x h = cc

module _ (limits : Counts) (journal : List Entry) (version : VersionOf) (counted : Counts) (position : Text → Option ℕ) (kept : IsKept limits journal version counted position)
    (name : Text) (accepted : drop_refusal limits name journal ≡ None) where
  opened : (is_live journal name ≡ true) × (option_map (λ (b : Bounded). Full b.which b.count b.more (length journal)) (find is_passed (drop_bounds limits (counts journal))) ≡ None)
  opened = either_none (is_live journal name) _ (Unknown (length journal)) accepted

  pub is_there : is_live journal name ≡ true
  is_there = opened.0

  pub updates_fit : counted.updates + 1 ≤ limits.updates
  updates_fit =
      let n = find_none is_passed (drop_bounds limits (counts journal)) (map_none _ _ opened.1) in
      omega (arith, le_from _ _ n.0, ap (λ (c : Counts). c.updates) kept.count)

  left : List Table
  left = filter (λ table. not (has_name name table)) (live journal)

  pub one_live : 1 ≤ counted.live
  one_live = omega (arith, one_less name (live journal) kept.names opened.0, ap (λ (c : Counts). c.live) kept.count)

  module _ (who : Who) where
    abbrev longer : List Entry
    longer = journal ++ entry_with who (Dropped name) ∷ []

    long : length longer ≡ length journal + 1
    long = length-append journal (entry_with who (Dropped name) ∷ [])

    lived : live longer ≡ filter (λ table. not (has_name name table)) (live journal)
    lived = live_more journal (entry_with who (Dropped name))

    laid : layout longer ≡ map (mark name) (layout journal)
    laid = layout_more journal (entry_with who (Dropped name))

    loads : loads_of longer ≡ loads_of journal
    loads = flat_map-append _ journal (entry_with who (Dropped name) ∷ []) ∙ append-nil (loads_of journal)

    count_live : counted.live - 1 ≡ length (live longer)
    count_live = omega (arith, ap (λ (c : Counts). c.live) kept.count, ap (λ (ts : List Table). length ts) lived, one_less name (live journal) kept.names opened.0)

    count_updates : counted.updates + 1 ≡ count_by (λ (e : Entry). is_update e.what) longer
    count_updates = ap (λ (c : Counts). c.updates + 1) kept.count ∙ sym (sum_by_push _ journal (entry_with who (Dropped name)))

    count_members : counted.members ≡ sum_by members (loads_of longer)
    count_members = ap (λ (c : Counts). c.members) kept.count ∙ ap (sum_by members) (sym loads)

    count_bytes : counted.key_bytes ≡ sum_by key_bytes (loads_of longer)
    count_bytes = ap (λ (c : Counts). c.key_bytes) kept.count ∙ ap (sum_by key_bytes) (sym loads)

    positions_stay : positions_of (layout longer) ≡ positions_of (layout journal)
    positions_stay = ap (λ (parts : List Part). positions_of parts) laid ∙ marked_positions name (layout journal)

    names_left : AreDistinct (map (λ table. table.name) (live longer))
    names_left = subst (λ (ts : List Table). AreDistinct (map (λ (t : Table). t.name) ts)) (sym lived) (distinct_filter (λ (t : Table). t.name) (λ t. not (has_name name t)) (live journal) kept.names)

    searched_left : live_of (layout longer) ≡ live longer
    searched_left = ap (λ (parts : List Part). live_of parts) laid ∙ searchable-drop (1 + length journal) (layout journal) name ∙ ap (filter (λ (t : Table). not (has_name name t))) kept.searched ∙ sym lived

    pub kept_drop : (position' : Text → Option ℕ) → ((q : Text) → position' q ≡ cond (bytes_eq name q) None (position q))
        → IsKept limits longer (version_with (length journal + 1) (map (mark name) (layout journal))) (counts_with (counted.live - 1) (counted.updates + 1) counted.members counted.key_bytes) position'
    kept_drop position' h = record {
      current = λ i. version_with (sym long i) (sym laid i);
      count = λ i. counts_with (count_live i) (count_updates i) (count_members i) (count_bytes i);
      placed = λ q. h q ∙ ap (cond (bytes_eq name q) None) (kept.placed q) ∙ sym (load_drop name q (layout journal)) ∙ ap (λ (parts : List Part). load_of parts q) (sym laid);
      legal = is_legal_behind-push [] journal (entry_with who (Dropped name)) kept.legal opened.0;
      within = record {
        live = omega (arith, kept.within.live);
        updates = updates_fit;
        members = kept.within.members;
        key_bytes = kept.within.key_bytes;
      };
      narrow = kept.narrow;
      searched = searched_left;
      names = names_left;
      rising = subst Rises (sym positions_stay) kept.rising;
      past = subst (AllByRecursion (λ n. n ≤ length longer)) (sym positions_stay) (all_weaker (λ n. n ≤ length journal) (λ n. n ≤ length longer) (positions_of (layout journal)) (λ n le. omega (arith, long)) kept.past);
      filled = subst (AllByRecursion HasPlaces) (sym laid) (filled_mark name (layout journal) kept.filled);
      room = omega (arith, ap (λ (ns : List ℕ). length ns) positions_stay, kept.room, count_updates, ap (λ (c : Counts). c.updates) kept.count);
      few = omega (arith, ap (λ (ps : List Part). length ps) laid, length-map (layout journal) (mark name), kept.few, count_updates, ap (λ (c : Counts). c.updates) kept.count);
      merging = merging-push [] journal (entry_with who (Dropped name)) kept.merging refl;
    }

    -- the unmarked names of the layout after the drop are distinct
    pub names_dropped : AreDistinct (unmarked_names (map (mark name) (layout journal)))
    names_dropped =
        let names : unmarked_names (layout longer) ≡ map (λ (t : Table). t.name) (live longer) = names_of_tables (unmarked (places_of (layout longer))) ∙ ap (map (λ (t : Table). t.name)) searched_left in
        subst (λ (parts : List Part). AreDistinct (unmarked_names parts)) laid (subst AreDistinct (sym names) names_left)

pub positions_dropped : (name : Text) (parts : List Part) → AreDistinct (positions_of parts) → AreDistinct (positions_of (map (mark name) parts))
positions_dropped name parts h = subst AreDistinct (sym (marked_positions name parts)) h
