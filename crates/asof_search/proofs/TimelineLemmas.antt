-- What is held besides a journal, when an entry is taken and when an earlier position is pinned.
use Rattle.std.proofs.Common.{◌≡◌, refl, ap, sym, ◌∙◌, subst, ℕ, ◌+◌, ◌^◌, ◌<◌, ◌≤◌, List, [], ◌∷◌, ◌++◌, true, ◌&&◌, length, arith, drop, take, map, lit<, Option, Some, None}
use Rattle.std.specs.Prelude.{sum_by}
use Rattle.std.specs.List.{filter}
use Rattle.std.proofs.lemmas.List.{length-append, length-map, take-append-drop}
use Rattle.lake_model.specs.Tables.{Table, members}
use Rattle.lake_model.specs.Journal.{Entry, counts, live, loads_of}
use Rattle.lake_model.specs.Layout.{Part, Place, is_legal, may_follow, unmarked_of}
use Rattle.layout_laws.proofs.LaidLemmas.{legal_behind-append, legal_laid_out}
use Rattle.std.proofs.lemmas.Bool.{and_parts}
use Rattle.segment_core.specs.Distinct.{unmarked_names}
use Rattle.list_laws.specs.Distinct.{AreDistinct}
use Rattle.segment_core.specs.Versions.{VersionOf, live_of}
use Rattle.asof_search.specs.Puts.{AreBlocks, PutOf, puts_after, tables_put, was_live}
use Rattle.asof_search.specs.History.{IsHistory, IsPast, IsTimeline}
use Rattle.asof_search.proofs.BlockLemmas.{blocks_none, blocks_stay}
use Rattle.asof_search.proofs.HistoryLemmas.{history_more, history_none, loads_split, past_stays}

follows : (journal : List Entry) (entry : Entry) → is_legal (journal ++ entry ∷ []) ≡ true → may_follow journal entry.what ≡ true
follows journal entry legal = (and_parts (may_follow journal entry.what) true ((and_parts (is_legal journal) (may_follow journal entry.what && true) (sym (legal_behind-append [] journal (entry ∷ [])) ∙ legal)).1)).0

pub timeline_more : (journal : List Entry) (entry : Entry) (puts : List PutOf) (blocks : List (List Table)) → IsTimeline journal puts blocks → is_legal (journal ++ entry ∷ []) ≡ true → length (loads_of (journal ++ entry ∷ [])) < 2 ^ 32
    → sum_by members (loads_of (journal ++ entry ∷ [])) < 2 ^ 32 → IsTimeline (journal ++ entry ∷ []) (puts_after (length journal + 1) puts entry.what) blocks
timeline_more journal entry puts blocks h legal few light =
    let history : IsHistory (journal ++ entry ∷ []) (puts_after (length journal + 1) puts entry.what) = history_more journal entry.who entry.what puts h.history (follows journal entry legal) in
    let tables : tables_put (puts_after (length journal + 1) puts entry.what) ≡ tables_put puts ++ loads_of (entry ∷ []) =
    history.tables ∙ loads_split journal (entry ∷ []) ∙ ap (λ ts. ts ++ loads_of (entry ∷ [])) (sym h.history.tables) in
    record {
      legal = legal;
      history = history;
      few = few;
      light = light;
      kept = subst (λ ts. AreBlocks 256 ts blocks) (sym tables) (blocks_stay 256 (tables_put puts) (loads_of (entry ∷ [])) blocks h.kept);
    }

-- the same for equal values
pub timeline_equal : (journal other : List Entry) (puts those : List PutOf) (blocks : List (List Table)) → IsTimeline journal puts blocks → other ≡ journal → those ≡ puts → IsTimeline other those blocks
timeline_equal journal other puts those blocks h e f = subst (λ (j : List Entry). IsTimeline j those blocks) (sym e) (subst (λ (ps : List PutOf). IsTimeline journal ps blocks) (sym f) h)

pub timeline_none : IsTimeline [] [] []
timeline_none = record { legal = refl; history = history_none; few = lit< tt; light = lit< tt; kept = blocks_none 256 [] }

-- ---- a pin

names-map : (places : List Place) → map (λ place. place.table.name) places ≡ map (λ (table : Table). table.name) (map (λ place. place.table) places)
names-map [] = refl
names-map (place ∷ places) = ap (λ ns. place.table.name ∷ ns) (names-map places)

module _ (journal : List Entry) (puts : List PutOf) (blocks : List (List Table)) (asked : ℕ) (parts : List Part) (h : IsTimeline journal puts blocks) (within : asked ≤ length journal) (is : live_of parts ≡ tables_put (filter (was_live asked) puts)) where
  pub pinned_live : live_of parts ≡ live (take asked journal)
  pinned_live = is ∙ h.history.past asked within

  pub pinned_names : AreDistinct (unmarked_names parts)
  pinned_names =
      let legal : is_legal (take asked journal ++ drop asked journal) ≡ true = ap is_legal (take-append-drop asked journal) ∙ h.legal in
      let names : AreDistinct (map (λ (table : Table). table.name) (live (take asked journal))) = (legal_laid_out (take asked journal) (drop asked journal) legal).names in
      subst AreDistinct (sym (names-map (unmarked_of parts) ∙ ap (map (λ (table : Table). table.name)) pinned_live)) names

-- there are as many puts as loads and replaces
pub as_many : (journal : List Entry) (puts : List PutOf) (blocks : List (List Table)) → IsTimeline journal puts blocks → length puts < 2 ^ 32
as_many journal puts blocks h = omega (arith, sym (length-map puts (λ (put : PutOf). put.table)), ap length h.history.tables, h.few)

pub all_light : (journal : List Entry) (puts : List PutOf) (blocks : List (List Table)) → IsTimeline journal puts blocks → sum_by members (tables_put puts) < 2 ^ 32
all_light journal puts blocks h = omega (arith, ap (sum_by members) h.history.tables, h.light)

-- other blocks are kept
pub timeline_blocks : (journal : List Entry) (puts : List PutOf) (blocks after : List (List Table)) → IsTimeline journal puts blocks → AreBlocks 256 (tables_put puts) after → IsTimeline journal puts after
timeline_blocks journal puts blocks after h k = record { legal = h.legal; history = h.history; few = h.few; light = h.light; kept = k }

pub timeline_start : (journal : List Entry) (puts : List PutOf) (blocks : List (List Table)) → journal ≡ [] → puts ≡ [] → blocks ≡ [] → IsTimeline journal puts blocks
timeline_start journal puts blocks e f g = subst (λ (bs : List (List Table)). IsTimeline journal puts bs) (sym g) (timeline_equal [] journal [] puts [] timeline_none e f)

-- an entry that was taken
module _ (journal now last : List Entry) (entry : Entry) (puts after : List PutOf) (blocks : List (List Table)) (n : ℕ) (h : IsTimeline journal puts blocks) (view : journal ≡ now)
    (legal : is_legal (now ++ entry ∷ []) ≡ true) (few : length (loads_of (now ++ entry ∷ [])) < 2 ^ 32) (light : (counts (now ++ entry ∷ [])).members < 2 ^ 32)
    (many : n ≡ length journal) (put : after ≡ puts_after (n + 1) puts entry.what) (more : last ≡ journal ++ entry ∷ []) where
  longer : journal ++ entry ∷ [] ≡ now ++ entry ∷ []
  longer = ap (λ (j : List Entry). j ++ entry ∷ []) view

  pub taken_timeline : IsTimeline last after blocks
  taken_timeline =
      timeline_equal (journal ++ entry ∷ []) last (puts_after (length journal + 1) puts entry.what) after blocks
      (timeline_more journal entry puts blocks h (subst (λ (j : List Entry). is_legal j ≡ true) (sym longer) legal) (subst (λ (j : List Entry). length (loads_of j) < 2 ^ 32) (sym longer) few)
      (subst (λ (j : List Entry). sum_by members (loads_of j) < 2 ^ 32) (sym longer) light))
      more (put ∙ ap (λ (k : ℕ). puts_after (k + 1) puts entry.what) many)

  pub taken_view : last ≡ now ++ entry ∷ []
  taken_view = more ∙ longer

-- what is kept of an earlier position still holds after one more entry
pub past_more : (journal after : List Entry) (entry : Entry) (last : Option VersionOf) → IsPast journal last → after ≡ journal ++ entry ∷ [] → IsPast after last
past_more journal after entry None past is = tt
past_more journal after entry (Some version) past is =
    subst (λ (entries : List Entry). IsPast entries (Some version)) (sym is)
    (omega (arith, past.0, length-append journal (entry ∷ [])), past.1 ∙ sym (past_stays journal (entry ∷ []) version.at past.0))
