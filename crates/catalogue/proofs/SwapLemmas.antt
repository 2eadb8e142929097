-- A swap that nothing refuses: what a catalogue keeps is kept.
use Rattle.std.proofs.Common.{◌≡◌, refl, ap, sym, ◌∙◌, subst, ℕ, ◌+◌, ◌<◌, ◌≤◌, List, [], ◌∷◌, ◌++◌, Bool, true, false, cond, map, length, take, drop, Option, None, arith, length-append}
use Rattle.std.specs.Prelude.{find, option_map}
use Rattle.std.specs.Option.{option_to_list}
use Rattle.std.specs.List.{filter, list_all}
use Rattle.std.proofs.lemmas.List.{take-append-drop, length-map, length-take, length-drop}
use Rattle.lake_model.specs.declared.Counts.{Counts}
use Rattle.lake_model.specs.declared.Who.{Who}
use Rattle.lake_model.specs.Texts.{Text}
use Rattle.lake_model.specs.Tables.{Table}
use Rattle.lake_model.specs.Journal.{Entry, Swapped, entry_with, live, counts}
use Rattle.lake_model.specs.Layout.{Place, Part, layout, is_among, is_legal, may_swap, merged, positions_of, run_of, unmarked_of}
use Rattle.lake_model.proofs.LayoutLemmas.{layout_more}
use Rattle.list_laws.specs.Distinct as laws
use Rattle.layout_laws.specs.LayoutLaws.{IsLaidOut}
use Rattle.layout_laws.specs.Steps.{ArePlaces, numbers_of, positions_in}
use Rattle.layout_laws.specs.Weight.{does_merge}
use Rattle.layout_laws.proofs.IndexLemmas.{first_of, swapped_at, run_within, positions_fewer}
use Rattle.layout_laws.proofs.LaidLemmas.{laid_out, positions_split}
use Rattle.layout_laws.proofs.LawLemmas.{live_swap, counts_swap, stays}
use Rattle.list_laws.proofs.ListLemmas.{map_filter, distinct_left, distinct_right}
use Rattle.layout_laws.proofs.LiveLemmas.{loads_more}
use Rattle.layout_laws.proofs.RunLemmas.{places_same}
use Rattle.layout_laws.specs.Places.{kept_places, places_of}
use Rattle.layout_laws.proofs.SwapLemmas.{one_part, swapped}
use Rattle.segment_core.specs.Distinct.{unmarked_names}
use Rattle.list_laws.specs.Distinct.{AreDistinct, Rises}
use Rattle.segment_core.specs.Plans.{MergedOf, replaced}
use Rattle.segment_core.specs.Versions.{VersionOf, part_with, places_with, version_with}
use Rattle.catalogue.specs.declared.refusal.SwapRefused.TheVariants.{Stale}
use Rattle.catalogue.specs.Kept.{IsKept}
use Rattle.catalogue.specs.Parts.{is_of}
use Rattle.catalogue.specs.Swaps.{kept_marks, kept_tables, numbers_in, swap_refusal, IsMergeOf}
use Rattle.catalogue.proofs.ListLemmas.{map_none}
use Rattle.catalogue.proofs.KeptLemmas.{is_legal_behind-push, merging-push, names_differ, positions_differ}
use Rattle.catalogue.proofs.MarksLemmas.{marks_in}
use Rattle.catalogue.proofs.ThereLemmas.{numbers_there}
use Rattle.layout_laws.proofs.WeightLemmas.{kept_of, one_at_most}

distinct_same : (ns : List ℕ) → laws.AreDistinct ns → AreDistinct ns
distinct_same [] h = tt
distinct_same (n ∷ ns) h = (h.0, distinct_same ns h.1)

rises_same : (ns : List ℕ) → laws.Rises ns → Rises ns
rises_same [] h = tt
rises_same (n ∷ ns) h = (h.0, rises_same ns h.1)

-- ---- what was merged may still be swapped in

abbrev with_table : Bool → Table → List Table → List Table
with_table b table tables = cond b (table ∷ tables) tables

map_kept : (p : Place) (ps : List Place) (b : Bool) → map (λ place. place.table) (cond b (p ∷ ps) ps) ≡ cond b (p.table ∷ map (λ place. place.table) ps) (map (λ place. place.table) ps)
map_kept p ps true = refl
map_kept p ps false = refl

tables_same : (kept : List ℕ) (ps qs : List Place) → ArePlaces ps qs → map (λ place. place.table) (kept_of kept ps) ≡ map (λ place. place.table) (kept_of kept qs)
tables_same kept [] [] h = refl
tables_same kept [] (q ∷ qs) h = absurd h
tables_same kept (p ∷ ps) [] h = absurd h
tables_same kept (p ∷ ps) (q ∷ qs) h =
    map_kept p (kept_of kept ps) (is_among kept p.position) ∙ (λ i. with_table (is_among kept (sym h.0.position i)) (sym h.0.table i) (tables_same kept ps qs h.1 i)) ∙ sym (map_kept q (kept_of kept qs) (is_among kept q.position))

pub record StillMerges (parts : List Part) (planned kept : List ℕ) (tables : List Table) : Type 0 where
  pub may : may_swap parts planned kept ≡ true
  pub merges : does_merge parts planned kept ≡ true
  pub are : tables ≡ kept_tables kept (run_of planned parts)

pub still_merges : (journal : List Entry) (m : MergedOf) → IsMergeOf (layout (take m.at journal)) m → swap_refusal m.from journal ≡ None → StillMerges (layout journal) (numbers_in m.from) m.kept m.tables
still_merges journal m is accepted =
    let planned = numbers_in m.from in
    let before = take m.at journal in
    let behind = drop m.at journal in
    let whole : before ++ behind ≡ journal = take-append-drop m.at journal in
    let there = numbers_there (layout journal) m.from (map_none (λ (p : ℕ × List ℕ). Stale p.0 (length journal)) _ accepted) in
    let s = stays before behind planned m.kept is.may (subst (λ (js : List Entry). list_all (is_among (numbers_of (layout js))) planned ≡ true) (sym whole) there) in
    let same : kept_tables m.kept (run_of planned (layout before)) ≡ kept_tables m.kept (run_of planned (layout (before ++ behind))) =
    tables_same m.kept (places_of (run_of planned (layout before))) (places_of (run_of planned (layout (before ++ behind)))) (places_same (run_of planned (layout before)) (run_of planned (layout (before ++ behind))) s.1) in
    record {
      may = subst (λ (js : List Entry). may_swap (layout js) planned m.kept ≡ true) whole s.0;
      merges = subst (λ (js : List Entry). does_merge (layout js) planned m.kept ≡ true) whole (s.2 ∙ is.merges);
      are = is.tables ∙ same ∙ ap (λ (js : List Entry). kept_tables m.kept (run_of planned (layout js))) whole;
    }

-- ---- the part that takes the place of others

places_back : (places : List Place) → places_with (positions_in places) (map (λ place. place.table) places) (marks_in places) ≡ places
places_back [] = refl
places_back (p ∷ ps) = ap (λ qs. p ∷ qs) (places_back ps)

kept_positions : (kept : List ℕ) (run : List Part) → filter (is_among kept) (positions_of run) ≡ kept → positions_in (kept_places kept run) ≡ kept
kept_positions kept run taken = map_filter (λ (p : Place). p.position) (is_among kept) (places_of run) ∙ taken

pub no_part : (at : ℕ) (kept : List ℕ) (run : List Part) → [] ≡ kept_tables kept run → [] ≡ merged at kept run
no_part at kept run h = by (kept_places kept run) h
  where
    by : (places : List Place) → [] ≡ map (λ place. place.table) places → [] ≡ one_part at places
    by [] e = refl
    by (p ∷ ps) e = cc

pub one_part_is : (at : ℕ) (kept : List ℕ) (run : List Part) (tables : List Table) (marks : List Bool) → filter (is_among kept) (positions_of run) ≡ kept → tables ≡ kept_tables kept run → marks ≡ kept_marks kept run → 0 < length tables
    → part_with at (places_with kept tables marks) ∷ [] ≡ merged at kept run
one_part_is at kept run tables marks taken are marked some =
    let places = kept_places kept run in
    let is : places_with kept tables marks ≡ places = (λ i. places_with (sym (kept_positions kept run taken) i) (are i) (marked i)) ∙ places_back places in
    ap (λ (ps : List Place). part_with at ps ∷ []) is ∙ by places (omega (arith, some, ap (λ (ts : List Table). length ts) are, length-map places (λ (p : Place). p.table)))
  where
    by : (places : List Place) → 0 < length places → part_with at places ∷ [] ≡ one_part at places
    by [] h = absurd (omega arith)
    by (p ∷ ps) h = refl

pub lengths : (kept : List ℕ) (run : List Part) (tables : List Table) (marks : List Bool) → filter (is_among kept) (positions_of run) ≡ kept → tables ≡ kept_tables kept run → marks ≡ kept_marks kept run
    → (length kept ≡ length tables) × (length marks ≡ length tables)
lengths kept run tables marks taken are marked =
    let places = kept_places kept run in
    let a = ap (λ (ns : List ℕ). length ns) (kept_positions kept run taken) in
    let b = ap (λ (ts : List Table). length ts) are in
    let c = ap (λ (ms : List Bool). length ms) marked in
    let d = length-map places (λ (p : Place). p.position) in
    let e = length-map places (λ (p : Place). p.table) in
    let f = length-map places (λ (p : Place). p.marked) in
    (omega (arith, a, b, d, e), omega (arith, b, c, e, f))

pub run_distinct : (parts : List Part) (first count : ℕ) → AreDistinct (positions_of parts) → AreDistinct (positions_of (take count (drop first parts)))
run_distinct parts first count h =
    let front = take first parts in
    let run = take count (drop first parts) in
    let back = drop count (drop first parts) in
    let whole : parts ≡ front ++ (run ++ back) = sym (take-append-drop first parts) ∙ ap (λ ps. front ++ ps) (sym (take-append-drop count (drop first parts))) in
    distinct_left (positions_of run) (positions_of back) (distinct_right (positions_of front) (positions_of run ++ positions_of back) (subst AreDistinct (ap (λ (ps : List Part). positions_of ps) whole ∙ positions_split front run back) h))

-- the run of a swap, by the index of its first part
pub run_is : (parts : List Part) (from : List (ℕ × List ℕ)) (first : ℕ) → first ≡ first_of (numbers_in from) parts → take (length from) (drop first parts) ≡ run_of (numbers_in from) parts
run_is parts from first h = (λ i. take (sym (length-map from (λ (p : ℕ × List ℕ). p.0)) i) (drop (h i) parts))

pub fits : (parts : List Part) (from : List (ℕ × List ℕ)) (kept : List ℕ) (first : ℕ) → may_swap parts (numbers_in from) kept ≡ true → first ≡ first_of (numbers_in from) parts → (0 < length from) × (first + length from ≤ length parts)
fits parts from kept first may h =
    let w = run_within parts (numbers_in from) kept may in
    let many = length-map from (λ (p : ℕ × List ℕ). p.0) in
    (omega (arith, w.0, many), omega (arith, w.1, many, h))

-- what a version puts in the place of the run is what the definition puts there
pub replaced_is : (at : ℕ) (parts : List Part) (from : List (ℕ × List ℕ)) (kept : List ℕ) (first : ℕ) (part : Option Part) → laws.AreDistinct (numbers_of parts) → may_swap parts (numbers_in from) kept ≡ true → first ≡ first_of (numbers_in from) parts
    → option_to_list part ≡ merged at kept (run_of (numbers_in from) parts) → replaced first (length from) part parts ≡ swapped at (numbers_in from) kept parts
replaced_is at parts from kept first part distinct may h is =
    (λ i. take (h i) parts ++ (is i ++ drop (h i + sym (length-map from (λ (p : ℕ × List ℕ). p.0)) i) parts)) ∙ sym (swapped_at at parts (numbers_in from) kept distinct may)

fewer_parts : (at : ℕ) (parts : List Part) (planned kept : List ℕ) → laws.AreDistinct (numbers_of parts) → may_swap parts planned kept ≡ true → length (swapped at planned kept parts) ≤ length parts
fewer_parts at parts planned kept distinct may =
    let f = first_of planned parts in
    let one = one_part at (kept_places kept (run_of planned parts)) in
    let w = run_within parts planned kept may in
    omega (
      arith,
      w.0,
      w.1,
      ap (λ (ps : List Part). length ps) (swapped_at at parts planned kept distinct may),
      length-append (take f parts) (one ++ drop (f + length planned) parts),
      length-append one (drop (f + length planned) parts),
      one_at_most at (kept_places kept (run_of planned parts)),
      length-take f parts,
      length-drop (f + length planned) parts,
    )

-- ---- what is kept

module _ (limits : Counts) (journal : List Entry) (version : VersionOf) (counted : Counts) (position : Text → Option ℕ) (kept : IsKept limits journal version counted position) where
  pub numbers_differ : laws.AreDistinct (numbers_of (layout journal))
  numbers_differ = (laid_out journal kept.legal).numbers

  module _ (who : Who) (planned left : List ℕ) (may : may_swap (layout journal) planned left ≡ true) (merging : does_merge (layout journal) planned left ≡ true) where
    abbrev longer : List Entry
    longer = journal ++ entry_with who (Swapped planned left) ∷ []

    legal : is_legal longer ≡ true
    legal = is_legal_behind-push [] journal (entry_with who (Swapped planned left)) kept.legal may

    unmarked_same : unmarked_of (layout longer) ≡ unmarked_of (layout journal)
    unmarked_same = (laid_out longer legal).unmarked ∙ loads_more journal (entry_with who (Swapped planned left)) ∙ sym (laid_out journal kept.legal).unmarked

    lived : live longer ≡ live journal
    lived = live_swap journal who planned left

    counts_same : counts longer ≡ counts journal
    counts_same = counts_swap journal who planned left

    laid : layout longer ≡ swapped (1 + length journal) planned left (layout journal)
    laid = layout_more journal (entry_with who (Swapped planned left))

    pub kept_swap : IsKept limits longer (version_with (length longer) (layout longer)) counted position
    kept_swap =
        let out : IsLaidOut longer = laid_out longer legal in
        record {
          current = refl;
          count = kept.count ∙ sym counts_same;
          placed = λ q. kept.placed q ∙ ap (λ (places : List Place). option_map (λ (p : Place). p.position) (find (is_of q) places)) (sym unmarked_same);
          legal = legal;
          within = kept.within;
          narrow = kept.narrow;
          searched = ap (map (λ (p : Place). p.table)) unmarked_same ∙ kept.searched ∙ sym lived;
          names = subst (λ (ts : List Table). AreDistinct (map (λ (t : Table). t.name) ts)) (sym lived) kept.names;
          rising = rises_same (positions_of (layout longer)) out.rising;
          past = out.past;
          filled = out.filled;
          room = omega (arith, ap (λ (ps : List Part). length (positions_of ps)) laid, positions_fewer (1 + length journal) (layout journal) planned left numbers_differ may, kept.room, ap (λ (c : Counts). c.updates) counts_same);
          few = omega (arith, ap (λ (ps : List Part). length ps) laid, fewer_parts (1 + length journal) (layout journal) planned left numbers_differ may, kept.few, ap (λ (c : Counts). c.updates) counts_same);
          merging = merging-push [] journal (entry_with who (Swapped planned left)) kept.merging merging;
        }

    -- the version after the swap
    pub version_is : (at : ℕ) (parts : List Part) → at ≡ length journal + 1 → parts ≡ swapped at planned left (layout journal) → version_with at parts ≡ version_with (length longer) (layout longer)
    version_is at parts e h =
        let long : length longer ≡ length journal + 1 = length-append journal (entry_with who (Swapped planned left) ∷ []) in
        let one : at ≡ 1 + length journal = omega arith in
        λ i. version_with ((e ∙ sym long) i) ((h ∙ ap (λ (m : ℕ). swapped m planned left (layout journal)) one ∙ sym laid) i)

    pub layout_is : (at : ℕ) (parts : List Part) → at ≡ length journal + 1 → parts ≡ swapped at planned left (layout journal) → parts ≡ layout longer
    layout_is at parts e h =
        let one : at ≡ 1 + length journal = omega arith in
        h ∙ ap (λ (m : ℕ). swapped m planned left (layout journal)) one ∙ sym laid

    pub positions_swapped : (parts : List Part) → parts ≡ layout longer → AreDistinct (positions_of parts)
    positions_swapped parts h = subst (λ (ps : List Part). AreDistinct (positions_of ps)) (sym h) (positions_differ limits longer (version_with (length longer) (layout longer)) counted position kept_swap)

    pub names_swapped : (parts : List Part) → parts ≡ layout longer → AreDistinct (unmarked_names parts)
    names_swapped parts h = subst (λ (ps : List Part). AreDistinct (unmarked_names ps)) (sym h) (names_differ limits longer (version_with (length longer) (layout longer)) counted position kept_swap)
