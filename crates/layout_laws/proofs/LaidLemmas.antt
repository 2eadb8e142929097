-- The layout of a legal journal is laid out, entry by entry.
use Rattle.std.proofs.Common.{◌≡◌, refl, ap, sym, ◌∙◌, subst, ℕ, ◌+◌, ◌<◌, ◌≤◌, List, [], ◌∷◌, ◌++◌, append_assoc, append-nil, Bool, true, false, not, ◌||◌, ◌&&◌, map, length, arith}
use Rattle.std.specs.Prelude.{nat_eq}
use Rattle.std.specs.List.{AllByRecursion, filter}
use Rattle.std.proofs.lemmas.Bool.{not-true, and_parts}
use Rattle.std.proofs.lemmas.List.{map-append, length-append, length-map}
use Rattle.lake_model.specs.declared.Who.{Who}
use Rattle.lake_model.specs.Texts.{Text}
use Rattle.lake_model.specs.Tables.{Table}
use Rattle.lake_model.specs.Journal.{What, Loaded, Dropped, Replaced, Swapped, Entry, entry_with, has_name, without, is_live, live}
use Rattle.lake_model.specs.Layout.{Place, Part, part_with, layout, mark, positions_of, unmarked_of, run_of, is_among, may_swap, may_follow, is_legal, is_legal_behind}
use Rattle.lake_model.proofs.LayoutLemmas.{live_more, layout_more}
use Rattle.list_laws.specs.Distinct.{Lacks, AreDistinct, Rises}
use Rattle.layout_laws.specs.Steps.{numbers_of, positions_in, live_loads}
use Rattle.layout_laws.specs.LayoutLaws.{IsLaidOut}
use Rattle.list_laws.proofs.ListLemmas.{all_append, all_left, all_right, all_weaker, all_map, all_filter, map_filter, distinct_push, distinct_filter, rises_push, rises_thinner, and_assoc}
use Rattle.std.proofs.lemmas.List.Elements.{filter-append}
use Rattle.layout_laws.specs.Places.{kept_places, places_of}
use Rattle.layout_laws.proofs.SwapLemmas.{loaded_place, one_part, swapped}
use Rattle.layout_laws.proofs.StayLemmas.{layout_numbers, layout_before}
use Rattle.layout_laws.proofs.RunLemmas.{MaySwap, opened, run_stands, swapped_is}
use Rattle.layout_laws.proofs.LiveLemmas.{loads_more, unmarked, places-append, places_marked, positions_dropped, places_swapped, places_split, unmarked_three, unmarked_dropped, unmarked_kept, lacks_names, lacks_name}

abbrev IsFilled : Part → Type 0
IsFilled part = 0 < length part.places

-- ---- what each kind of entry does to a layout

filled_marked : (name : Text) (parts : List Part) → AllByRecursion IsFilled parts → AllByRecursion IsFilled (map (mark name) parts)
filled_marked name [] h = tt
filled_marked name (part ∷ parts) h = (subst (λ (n : ℕ). 0 < n) (sym (length-map part.places _)) h.0, filled_marked name parts h.1)

filled_one : (number : ℕ) (places : List Place) → AllByRecursion IsFilled (one_part number places)
filled_one number [] = tt
filled_one number (place ∷ places) = (omega arith, tt)

-- a layout whose planned parts are a run
pub record SwapsRun (position : ℕ) (parts : List Part) (planned kept : List ℕ) : Type 0 where
  pub front : List Part
  pub run : List Part
  pub back : List Part
  pub is_run : run ≡ run_of planned parts
  pub before : parts ≡ front ++ (run ++ back)
  pub behind : swapped position planned kept parts ≡ front ++ (one_part position (kept_places kept run) ++ back)
  pub may : MaySwap run planned kept

pub swaps_run : (position : ℕ) (parts : List Part) (planned kept : List ℕ) → AreDistinct (numbers_of parts) → may_swap parts planned kept ≡ true → SwapsRun position parts planned kept
swaps_run position parts planned kept distinct h =
    let run = run_of planned parts in
    let o = opened parts planned kept h in
    let w = run_stands parts planned in
    record {
      front = w.front;
      run = run;
      back = w.back;
      is_run = refl;
      before = w.whole;
      behind = (λ i. swapped position (sym o.numbers i) kept (w.whole i))
          ∙ swapped_is position kept w.front run w.back (subst (λ (ps : List Part). AreDistinct (numbers_of ps)) w.whole distinct) (ap (λ (ns : List ℕ). nat_eq (length ns) 0) o.numbers ∙ o.some);
      may = o;
    }

-- the unmarked places stay the same, and the positions are some of those before
pub unmarked_swapped : (position : ℕ) (kept : List ℕ) (front run back : List Part) → AllByRecursion (λ place. (is_among kept place.position || place.marked) ≡ true) (places_of run)
    → unmarked_of (front ++ (one_part position (kept_places kept run) ++ back)) ≡ unmarked_of (front ++ (run ++ back))
unmarked_swapped position kept front run back h =
    ap unmarked (places_swapped position kept front run back) ∙ unmarked_three (places_of front) (kept_places kept run) (places_of back)
    ∙ ap (λ ps. unmarked (places_of front) ++ (ps ++ unmarked (places_of back))) (unmarked_kept kept (places_of run) h)
    ∙ sym (ap unmarked (places_split front run back) ∙ unmarked_three (places_of front) (places_of run) (places_of back))

positions_three : (a b c : List Place) → positions_in (a ++ (b ++ c)) ≡ positions_in a ++ (positions_in b ++ positions_in c)
positions_three a b c = map-append (λ (p : Place). p.position) a (b ++ c) ∙ ap (λ ns. positions_in a ++ ns) (map-append (λ (p : Place). p.position) b c)

pub positions_split : (front run back : List Part) → positions_of (front ++ (run ++ back)) ≡ positions_of front ++ (positions_of run ++ positions_of back)
positions_split front run back = ap positions_in (places_split front run back) ∙ positions_three (places_of front) (places_of run) (places_of back)

pub positions_swapped : (position : ℕ) (kept : List ℕ) (front run back : List Part) → positions_of (front ++ (one_part position (kept_places kept run) ++ back)) ≡ positions_of front ++ (filter (is_among kept) (positions_of run) ++ positions_of back)
positions_swapped position kept front run back =
    ap positions_in (places_swapped position kept front run back) ∙ positions_three (places_of front) (kept_places kept run) (places_of back)
    ∙ ap (λ ns. positions_of front ++ (ns ++ positions_of back)) (map_filter (λ (p : Place). p.position) (is_among kept) (places_of run))

-- ---- one more entry

abbrev more : List Entry → Who → What → List Entry
more journal who what = journal ++ entry_with who what ∷ []

long : (journal : List Entry) (who : Who) (what : What) → length (more journal who what) ≡ length journal + 1
long journal who what = length-append journal (entry_with who what ∷ [])

numbers_made : (journal : List Entry) → AllByRecursion (λ n. n ≤ length journal) (numbers_of (layout journal))
numbers_made journal = all_map (λ (n : ℕ). n ≤ length journal) (λ (p : Part). p.number) (layout journal) (all_weaker (λ (p : Part). p.number < 1 + length journal) (λ p. p.number ≤ length journal) (layout journal) (λ p lt. omega arith) (layout_before journal))

abbrev WithinLonger : List Entry → Who → What → ℕ → Type 0
WithinLonger journal who what n = n ≤ length (more journal who what)

longer_past : (journal : List Entry) (who : Who) (what : What) (ns : List ℕ) → AllByRecursion (λ n. n ≤ length journal) ns → AllByRecursion (WithinLonger journal who what) ns
longer_past journal who what ns h = all_weaker (λ (n : ℕ). n ≤ length journal) (WithinLonger journal who what) ns (λ n le. omega (arith, long journal who what)) h

-- What holds of a layout, of the loads of its live tables and of these tables, if no position is above `last`.
record Holds (last : ℕ) (parts : List Part) (loads : List Place) (tables : List Table) : Type 0 where
  pub unmarked : unmarked_of parts ≡ loads
  pub loaded : map (λ place. place.table) loads ≡ tables
  pub names : AreDistinct (map (λ table. table.name) tables)
  pub rising : Rises (positions_of parts)
  pub past : AllByRecursion (λ n. n ≤ last) (positions_of parts)
  pub filled : AllByRecursion IsFilled parts

holds_now : (journal : List Entry) → IsLaidOut journal → Holds (length journal) (layout journal) (live_loads journal) (live journal)
holds_now journal h = record { unmarked = h.unmarked; loaded = h.tables; names = h.names; rising = h.rising; past = h.past; filled = h.filled }

-- one more table, of another name
holds_put : (last : ℕ) (parts : List Part) (loads : List Place) (tables : List Table) (table : Table) → Holds last parts loads tables → Lacks (map (λ table. table.name) tables) table.name
    → Holds (1 + last) (parts ++ part_with (1 + last) table ∷ []) (loads ++ loaded_place (1 + last) table ∷ []) (tables ++ table ∷ [])
holds_put last parts loads tables table h other =
    let at = 1 + last in
    let new : List Part = part_with at table ∷ [] in
    let places : places_of (parts ++ new) ≡ places_of parts ++ loaded_place at table ∷ [] = places-append parts new in
    let positions : positions_of (parts ++ new) ≡ positions_of parts ++ at ∷ [] = ap positions_in places ∙ map-append (λ (p : Place). p.position) (places_of parts) (loaded_place at table ∷ []) in
    record {
      unmarked = ap unmarked places ∙ filter-append (λ (p : Place). not p.marked) (places_of parts) (loaded_place at table ∷ []) ∙ ap (λ ps. ps ++ loaded_place at table ∷ []) h.unmarked;
      loaded = map-append (λ (p : Place). p.table) loads (loaded_place at table ∷ []) ∙ ap (λ ts. ts ++ table ∷ []) h.loaded;
      names = subst AreDistinct (sym (map-append (λ (t : Table). t.name) tables (table ∷ []))) (distinct_push (map (λ (t : Table). t.name) tables) table.name h.names other);
      rising = subst Rises (sym positions) (rises_push (positions_of parts) at h.rising (all_weaker (λ (n : ℕ). n ≤ last) (λ n. n < at) (positions_of parts) (λ n le. omega arith) h.past));
      past = subst (AllByRecursion (λ (n : ℕ). n ≤ at)) (sym positions) (all_append (λ (n : ℕ). n ≤ at) (positions_of parts) (at ∷ []) (all_weaker (λ (n : ℕ). n ≤ last) (λ n. n ≤ at) (positions_of parts) (λ n le. omega arith) h.past) (omega arith, tt));
      filled = all_append IsFilled parts new h.filled (omega arith, tt);
    }

-- the table of a name is marked
holds_marked : (last : ℕ) (parts : List Part) (loads : List Place) (tables : List Table) (name : Text) → Holds last parts loads tables
    → Holds last (map (mark name) parts) (filter (λ place. not (has_name name place.table)) loads) (without name tables)
holds_marked last parts loads tables name h =
    let free : Table → Bool = λ t. not (has_name name t) in
    let positions : positions_of (map (mark name) parts) ≡ positions_of parts = positions_dropped name parts in
    record {
      unmarked = ap unmarked (places_marked name parts) ∙ unmarked_dropped name (places_of parts) ∙ ap (filter (λ (p : Place). free p.table)) h.unmarked;
      loaded = map_filter (λ (p : Place). p.table) free loads ∙ ap (filter free) h.loaded;
      names = distinct_filter (λ (t : Table). t.name) free tables h.names;
      rising = subst Rises (sym positions) h.rising;
      past = subst (AllByRecursion (λ (n : ℕ). n ≤ last)) (sym positions) h.past;
      filled = filled_marked name parts h.filled;
    }

-- it holds after an entry
laid_as : (journal : List Entry) (who : Who) (what : What) (last : ℕ) (parts : List Part) (loads : List Place) (tables : List Table) → layout (more journal who what) ≡ parts → live_loads (more journal who what) ≡ loads
    → live (more journal who what) ≡ tables → last ≤ 1 + length journal → Holds last parts loads tables → IsLaidOut (more journal who what)
laid_as journal who what last parts loads tables laid loaded lived le h = record {
  unmarked = ap unmarked_of laid ∙ h.unmarked ∙ sym loaded;
  tables = ap (map (λ (p : Place). p.table)) loaded ∙ h.loaded ∙ sym lived;
  names = subst (λ (ts : List Table). AreDistinct (map (λ (t : Table). t.name) ts)) (sym lived) h.names;
  rising = subst (λ (ps : List Part). Rises (positions_of ps)) (sym laid) h.rising;
  past = subst (λ (ps : List Part). AllByRecursion (WithinLonger journal who what) (positions_of ps)) (sym laid) (all_weaker (λ (n : ℕ). n ≤ last) (WithinLonger journal who what) (positions_of parts) (λ n within. omega (arith, long journal who what, le)) h.past);
  numbers = layout_numbers (more journal who what);
  made = numbers_made (more journal who what);
  filled = subst (AllByRecursion IsFilled) (sym laid) h.filled;
}

laid_load : (journal : List Entry) (who : Who) (table : Table) → IsLaidOut journal → is_live journal table.name ≡ false → IsLaidOut (more journal who (Loaded table))
laid_load journal who table h k =
    let entry = entry_with who (Loaded table) in
    laid_as journal who (Loaded table) (1 + length journal) _ _ _ (layout_more journal entry) (loads_more journal entry) (live_more journal entry) (omega arith)
    (holds_put (length journal) (layout journal) (live_loads journal) (live journal) table (holds_now journal h) (lacks_names (live journal) table.name k))

laid_drop : (journal : List Entry) (who : Who) (name : Text) → IsLaidOut journal → IsLaidOut (more journal who (Dropped name))
laid_drop journal who name h =
    let entry = entry_with who (Dropped name) in
    laid_as journal who (Dropped name) (length journal) _ _ _ (layout_more journal entry) (loads_more journal entry) (live_more journal entry) (omega arith)
    (holds_marked (length journal) (layout journal) (live_loads journal) (live journal) name (holds_now journal h))

laid_replace : (journal : List Entry) (who : Who) (table : Table) → IsLaidOut journal → IsLaidOut (more journal who (Replaced table))
laid_replace journal who table h =
    let entry = entry_with who (Replaced table) in
    let free : Place → Bool = λ p. not (has_name table.name p.table) in
    laid_as journal who (Replaced table) (1 + length journal) _ _ _ (layout_more journal entry) (loads_more journal entry) (live_more journal entry) (omega arith)
    (holds_put (length journal) (map (mark table.name) (layout journal)) (filter free (live_loads journal)) (without table.name (live journal)) table
    (holds_marked (length journal) (layout journal) (live_loads journal) (live journal) table.name (holds_now journal h)) (lacks_name (live journal) table.name))

laid_swap : (journal : List Entry) (who : Who) (planned kept : List ℕ) → IsLaidOut journal → may_swap (layout journal) planned kept ≡ true → IsLaidOut (more journal who (Swapped planned kept))
laid_swap journal who planned kept h k =
    let at = 1 + length journal in
    let what : What = Swapped planned kept in
    let s = swaps_run at (layout journal) planned kept h.numbers k in
    let laid : layout (more journal who what) ≡ s.front ++ (one_part at (kept_places kept s.run) ++ s.back) = layout_more journal (entry_with who what) ∙ s.behind in
    let loads : live_loads (more journal who what) ≡ live_loads journal = loads_more journal (entry_with who what) in
    let lived : live (more journal who what) ≡ live journal = live_more journal (entry_with who what) in
    let positions : positions_of (layout (more journal who what)) ≡ positions_of s.front ++ (filter (is_among kept) (positions_of s.run) ++ positions_of s.back) = ap positions_of laid ∙ positions_swapped at kept s.front s.run s.back in
    let were : positions_of (layout journal) ≡ positions_of s.front ++ (positions_of s.run ++ positions_of s.back) = ap positions_of s.before ∙ positions_split s.front s.run s.back in
    let rose = subst Rises were h.rising in
    let within = subst (AllByRecursion (WithinLonger journal who what)) were (longer_past journal who what (positions_of (layout journal)) h.past) in
    let rest = all_right (WithinLonger journal who what) (positions_of s.front) (positions_of s.run ++ positions_of s.back) within in
    let full = subst (AllByRecursion IsFilled) s.before h.filled in
    record {
      unmarked = ap unmarked_of laid ∙ unmarked_swapped at kept s.front s.run s.back s.may.others ∙ ap unmarked_of (sym s.before) ∙ h.unmarked ∙ sym loads;
      tables = ap (map (λ (p : Place). p.table)) loads ∙ h.tables ∙ sym lived;
      names = subst (λ (ts : List Table). AreDistinct (map (λ (t : Table). t.name) ts)) (sym lived) h.names;
      rising = subst Rises (sym positions) (rises_thinner (is_among kept) (positions_of s.front) (positions_of s.run) (positions_of s.back) rose);
      past = subst (AllByRecursion (WithinLonger journal who what)) (sym positions) (all_append (WithinLonger journal who what) (positions_of s.front) (filter (is_among kept) (positions_of s.run) ++ positions_of s.back) (all_left (WithinLonger journal who what) (positions_of s.front) (positions_of s.run ++ positions_of s.back) within)
          (all_append (WithinLonger journal who what) (filter (is_among kept) (positions_of s.run)) (positions_of s.back) (all_filter (WithinLonger journal who what) (is_among kept) (positions_of s.run) (all_left (WithinLonger journal who what) (positions_of s.run) (positions_of s.back) rest)) (all_right (WithinLonger journal who what) (positions_of s.run) (positions_of s.back) rest)));
      numbers = layout_numbers (more journal who what);
      made = numbers_made (more journal who what);
      filled = subst (AllByRecursion IsFilled) (sym laid) (all_append IsFilled s.front (one_part at (kept_places kept s.run) ++ s.back) (all_left IsFilled s.front (s.run ++ s.back) full)
          (all_append IsFilled (one_part at (kept_places kept s.run)) s.back (filled_one at (kept_places kept s.run)) (all_right IsFilled s.run s.back (all_right IsFilled s.front (s.run ++ s.back) full))));
    }

pub laid_more : (journal : List Entry) (who : Who) (what : What) → IsLaidOut journal → may_follow journal what ≡ true → IsLaidOut (more journal who what)
laid_more journal who (Loaded table) h k = laid_load journal who table h (not-true (is_live journal table.name) k)
laid_more journal who (Dropped name) h k = laid_drop journal who name h
laid_more journal who (Replaced table) h k = laid_replace journal who table h
laid_more journal who (Swapped planned kept) h k = laid_swap journal who planned kept h k

pub laid_none : IsLaidOut []
laid_none = record { unmarked = refl; tables = refl; names = tt; rising = tt; past = tt; numbers = tt; made = tt; filled = tt }

-- ---- legal journals

pub laid_behind : (before entries : List Entry) → IsLaidOut before → is_legal_behind before entries ≡ true → IsLaidOut (before ++ entries)
laid_behind before [] h k = subst IsLaidOut (sym (append-nil before)) h
laid_behind before (entry ∷ entries) h k =
    let s = and_parts (may_follow before entry.what) (is_legal_behind (before ++ entry ∷ []) entries) k in
    subst IsLaidOut (append_assoc before (entry ∷ []) entries) (laid_behind (before ++ entry ∷ []) entries (laid_more before entry.who entry.what h s.0) s.1)

pub legal_behind-append : (before entries behind : List Entry) → is_legal_behind before (entries ++ behind) ≡ (is_legal_behind before entries && is_legal_behind (before ++ entries) behind)
legal_behind-append before [] behind = ap (λ j. is_legal_behind j behind) (sym (append-nil before))
legal_behind-append before (entry ∷ entries) behind =
    ap (λ b. may_follow before entry.what && b) (legal_behind-append (before ++ entry ∷ []) entries behind ∙ ap (λ j. is_legal_behind (before ++ entry ∷ []) entries && is_legal_behind j behind) (append_assoc before (entry ∷ []) entries))
    ∙ and_assoc (may_follow before entry.what) (is_legal_behind (before ++ entry ∷ []) entries) (is_legal_behind (before ++ entry ∷ entries) behind)

pub legal_journal : (journal behind : List Entry) → is_legal (journal ++ behind) ≡ true → is_legal journal ≡ true
legal_journal journal behind h = (and_parts (is_legal journal) (is_legal_behind journal behind) (sym (legal_behind-append [] journal behind) ∙ h)).0

pub laid_out : (journal : List Entry) → is_legal journal ≡ true → IsLaidOut journal
laid_out journal h = laid_behind [] journal laid_none h

pub legal_laid_out : (journal behind : List Entry) → is_legal (journal ++ behind) ≡ true → IsLaidOut journal
legal_laid_out journal behind h = laid_out journal (legal_journal journal behind h)
