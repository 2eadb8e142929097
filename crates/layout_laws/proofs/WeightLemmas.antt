-- A load raises the number of parts and marks by one, a drop by at most one, a replace by at most two, and a swap that merges lowers it.
use Rattle.std.proofs.Common.{◌≡◌, refl, ap, sym, ◌∙◌, subst, ℕ, ◌+◌, ◌*◌, ◌<◌, ◌≤◌, List, [], ◌∷◌, ◌++◌, append_assoc, append-nil, Bool, true, false, not, ◌||◌, cond, map, length, inl, inr, arith}
use Rattle.std.specs.Prelude.{◌⊎◌, nat_lt, sum_by}
use Rattle.std.specs.List.{AllByRecursion, filter}
use Rattle.std.proofs.lemmas.Bool.{ltb-true, eqb-false, or_cases, and_parts}
use Rattle.std.proofs.lemmas.List.{length-append, length-map}
use Rattle.std.proofs.lemmas.List.Sums.{sum_by-cons, sum_by-append, sum_by_push}
use Rattle.lake_model.specs.declared.Who.{Who}
use Rattle.lake_model.specs.Texts.{Text}
use Rattle.lake_model.specs.Tables.{Table}
use Rattle.lake_model.specs.Journal.{What, Loaded, Dropped, Replaced, Swapped, Entry, entry_with, has_name, is_update, counts}
use Rattle.lake_model.specs.Layout.{Place, Part, layout, parts_after, mark, mark_place, positions_of, run_of, is_among, may_swap, may_follow, is_legal_behind}
use Rattle.lake_model.specs.Plan.{marks}
use Rattle.lake_model.proofs.LayoutLemmas.{layout_more}
use Rattle.list_laws.specs.Distinct.{Lacks, AreDistinct}
use Rattle.layout_laws.specs.Steps.{numbers_of}
use Rattle.layout_laws.specs.Weight.{weight, swaps, does_merge, merges, do_merge_behind}
use Rattle.layout_laws.specs.LayoutLaws.{IsLaidOut}
use Rattle.list_laws.proofs.ListLemmas.{same_texts, length_filter_le, map_filter}
use Rattle.layout_laws.specs.Places.{kept_places, places_of}
use Rattle.layout_laws.proofs.SwapLemmas.{part_of, loaded_place, one_part, swapped}
use Rattle.layout_laws.proofs.LiveLemmas.{unmarked, places_marked, places_swapped, places_split}
use Rattle.layout_laws.proofs.PlanLemmas.{marked_in}
use Rattle.layout_laws.proofs.LaidLemmas.{swaps_run, laid_more}
use Rattle.list_laws.proofs.TestLemmas.{once}

-- ---- marks

marks_places : (parts : List Part) → sum_by marks parts ≡ marked_in (places_of parts)
marks_places [] = refl
marks_places (part ∷ parts) = sum_by-cons marks part parts ∙ ap (λ (n : ℕ). marks part + n) (marks_places parts) ∙ sym (sum_by-append (λ (p : Place). cond p.marked 1 0) part.places (places_of parts))

pub weight_is : (parts : List Part) → weight parts ≡ length parts + marked_in (places_of parts)
weight_is parts = ap (λ (n : ℕ). length parts + n) (marks_places parts)

marked_cons : (p : Place) (ps : List Place) → marked_in (p ∷ ps) ≡ once p.marked + marked_in ps
marked_cons p ps = sum_by-cons (λ (q : Place). cond q.marked 1 0) p ps

marked_append : (ps qs : List Place) → marked_in (ps ++ qs) ≡ marked_in ps + marked_in qs
marked_append ps qs = sum_by-append (λ (p : Place). cond p.marked 1 0) ps qs

abbrev names_in : List Place → List Text
names_in places = map (λ table. table.name) (map (λ place. place.table) (unmarked places))

-- no mark is added if no unmarked table has the name, and one if one has
none_marked : (name : Text) (places : List Place) → Lacks (names_in places) name → marked_in (map (mark_place name) places) ≡ marked_in places
none_marked name [] h = refl
none_marked name (p ∷ ps) h = by p.marked (has_name name p.table) refl refl (none_marked name ps)
  where
    by : (m b : Bool) → p.marked ≡ m → has_name name p.table ≡ b → (Lacks (names_in ps) name → marked_in (map (mark_place name) ps) ≡ marked_in ps) → marked_in (map (mark_place name) (p ∷ ps)) ≡ marked_in (p ∷ ps)
    by true b e f rest =
        let left = subst (λ (m : Bool). Lacks (map (λ (t : Table). t.name) (map (λ (q : Place). q.table) (cond (not m) (p ∷ unmarked ps) (unmarked ps)))) name) e h in
        marked_cons (mark_place name p) (map (mark_place name) ps) ∙ (λ i. cond (e i || has_name name p.table) 1 0 + rest left i) ∙ sym (marked_cons p ps ∙ (λ i. cond (e i) 1 0 + marked_in ps))
    by false true e f rest =
        let left = subst (λ (m : Bool). Lacks (map (λ (t : Table). t.name) (map (λ (q : Place). q.table) (cond (not m) (p ∷ unmarked ps) (unmarked ps)))) name) e h in
        absurd (left.0 (same_texts p.table.name name f))
    by false false e f rest =
        let left = subst (λ (m : Bool). Lacks (map (λ (t : Table). t.name) (map (λ (q : Place). q.table) (cond (not m) (p ∷ unmarked ps) (unmarked ps)))) name) e h in
        marked_cons (mark_place name p) (map (mark_place name) ps) ∙ (λ i. cond (e i || f i) 1 0 + rest left.1 i) ∙ sym (marked_cons p ps ∙ (λ i. cond (e i) 1 0 + marked_in ps))

one_marked : (name : Text) (places : List Place) → AreDistinct (names_in places) → marked_in (map (mark_place name) places) ≤ marked_in places + 1
one_marked name [] h = omega arith
one_marked name (p ∷ ps) h = by p.marked (has_name name p.table) refl refl (one_marked name ps)
  where
    there : marked_in (map (mark_place name) (p ∷ ps)) ≡ once (p.marked || has_name name p.table) + marked_in (map (mark_place name) ps)
    there = marked_cons (mark_place name p) (map (mark_place name) ps)

    by : (m b : Bool) → p.marked ≡ m → has_name name p.table ≡ b → (AreDistinct (names_in ps) → marked_in (map (mark_place name) ps) ≤ marked_in ps + 1) → marked_in (map (mark_place name) (p ∷ ps)) ≤ marked_in (p ∷ ps) + 1
    by true b e f rest =
        let left = subst (λ (m : Bool). AreDistinct (map (λ (t : Table). t.name) (map (λ (q : Place). q.table) (cond (not m) (p ∷ unmarked ps) (unmarked ps))))) e h in
        let new : once (p.marked || has_name name p.table) ≡ once true = (λ i. once (e i || has_name name p.table)) in
        let old : once p.marked ≡ once true = (λ i. once (e i)) in
        omega (arith, there, marked_cons p ps, new, old, rest left)
    by false true e f rest =
        let left = subst (λ (m : Bool). AreDistinct (map (λ (t : Table). t.name) (map (λ (q : Place). q.table) (cond (not m) (p ∷ unmarked ps) (unmarked ps))))) e h in
        let new : once (p.marked || has_name name p.table) ≡ once true = (λ i. once (e i || f i)) in
        omega (arith, there, marked_cons p ps, new, none_marked name ps (subst (λ (t : Text). Lacks (names_in ps) t) (same_texts p.table.name name f) left.0))
    by false false e f rest =
        let left = subst (λ (m : Bool). AreDistinct (map (λ (t : Table). t.name) (map (λ (q : Place). q.table) (cond (not m) (p ∷ unmarked ps) (unmarked ps))))) e h in
        let new : once (p.marked || has_name name p.table) ≡ once false = (λ i. once (e i || f i)) in
        omega (arith, there, marked_cons p ps, new, rest left.1)

-- what is not kept is marked
abbrev pub kept_of : List ℕ → List Place → List Place
kept_of kept places = filter (λ place. is_among kept place.position) places

kept_marked : (kept : List ℕ) (places : List Place) → AllByRecursion (λ place. (is_among kept place.position || place.marked) ≡ true) places
    → marked_in (filter (λ place. is_among kept place.position) places) + length places ≡ marked_in places + length (filter (λ place. is_among kept place.position) places)
kept_marked kept [] h = refl
kept_marked kept (p ∷ ps) h = by (is_among kept p.position) p.marked refl refl h.0 (kept_marked kept ps h.1)
  where
    by : (a m : Bool) → is_among kept p.position ≡ a → p.marked ≡ m → (is_among kept p.position || p.marked) ≡ true → marked_in (kept_of kept ps) + length ps ≡ marked_in ps + length (kept_of kept ps)
        → marked_in (cond (is_among kept p.position) (p ∷ (kept_of kept ps)) (kept_of kept ps)) + length (p ∷ ps) ≡ marked_in (p ∷ ps) + length (cond (is_among kept p.position) (p ∷ (kept_of kept ps)) (kept_of kept ps))
    by true m e f g k = subst (λ (b : Bool). marked_in (cond b (p ∷ (kept_of kept ps)) (kept_of kept ps)) + length (p ∷ ps) ≡ marked_in (p ∷ ps) + length (cond b (p ∷ (kept_of kept ps)) (kept_of kept ps))) (sym e) (omega (arith, marked_cons p (kept_of kept ps), marked_cons p ps, k))
    by false true e f g k =
        let one : once p.marked ≡ once true = (λ i. once (f i)) in
        subst (λ (b : Bool). marked_in (cond b (p ∷ (kept_of kept ps)) (kept_of kept ps)) + length (p ∷ ps) ≡ marked_in (p ∷ ps) + length (cond b (p ∷ (kept_of kept ps)) (kept_of kept ps))) (sym e) (omega (arith, marked_cons p ps, one, k))
    by false false e f g k = let no : false ≡ true = sym (λ i. e i || f i) ∙ g in cc

-- ---- the weight after an entry

pub weight_load : (position : ℕ) (parts : List Part) (table : Table) → weight (parts_after position parts (Loaded table)) ≡ weight parts + 1
weight_load position parts table =
    let new : Part = part_of position (loaded_place position table ∷ []) in
    omega (arith, length-append parts (new ∷ []), sum_by_push marks parts new)

pub weight_drop : (position : ℕ) (parts : List Part) (name : Text) → AreDistinct (names_in (places_of parts)) → weight (parts_after position parts (Dropped name)) ≤ weight parts + 1
weight_drop position parts name h =
    omega (arith, weight_is (map (mark name) parts), weight_is parts, length-map parts (mark name), ap marked_in (places_marked name parts), one_marked name (places_of parts) h)

pub weight_replace : (position : ℕ) (parts : List Part) (table : Table) → AreDistinct (names_in (places_of parts)) → weight (parts_after position parts (Replaced table)) ≤ weight parts + 2
weight_replace position parts table h =
    omega (arith, weight_load position (map (mark table.name) parts) table, weight_drop position parts table.name h)

pub one_at_most : (number : ℕ) (places : List Place) → length (one_part number places) ≤ 1
one_at_most number [] = omega arith
one_at_most number (place ∷ places) = omega arith

length_three : (a b c : List Part) → length (a ++ (b ++ c)) ≡ length a + length b + length c
length_three a b c = omega (arith, length-append a (b ++ c), length-append b c)

marked_three : (a b c : List Place) → marked_in (a ++ (b ++ c)) ≡ marked_in a + marked_in b + marked_in c
marked_three a b c = omega (arith, marked_append a (b ++ c), marked_append b c)

-- one part for two or more, or one part for one with a mark fewer
lowers : (o r ml mr kl ps pl l qs : ℕ) → ml + ps ≡ mr + kl → kl ≤ ps → r ≡ pl → l ≡ kl → qs ≡ ps → (pl ≡ 0 → ⊥) → o ≤ 1 → (nat_lt 1 pl ≡ true) ⊎ (nat_lt l qs ≡ true) → o + ml < r + mr
lowers o r ml mr kl ps pl l qs marked fewer runs keeps places some one (inl many) = omega (arith, ltb-true 1 pl many)
lowers o r ml mr kl ps pl l qs marked fewer runs keeps places some one (inr less) = omega (arith, ltb-true l qs less, some)

-- if one part or none takes the place of a run
pub weight_swap : (position : ℕ) (parts : List Part) (planned kept : List ℕ) → AreDistinct (numbers_of parts) → may_swap parts planned kept ≡ true → does_merge parts planned kept ≡ true
    → weight (parts_after position parts (Swapped planned kept)) < weight parts
weight_swap position parts planned kept distinct h k =
    let s = swaps_run position parts planned kept distinct h in
    let left = kept_places kept s.run in
    let one = one_part position left in
    let after : weight (swapped position planned kept parts) ≡ length s.front + length one + length s.back + (marked_in (places_of s.front) + marked_in left + marked_in (places_of s.back)) =
    weight_is (swapped position planned kept parts) ∙ (λ i. length (s.behind i) + marked_in (places_of (s.behind i)))
    ∙ (λ i. length_three s.front one s.back i + (ap marked_in (places_swapped position kept s.front s.run s.back) ∙ marked_three (places_of s.front) left (places_of s.back)) i) in
    let was : weight parts ≡ length s.front + length s.run + length s.back + (marked_in (places_of s.front) + marked_in (places_of s.run) + marked_in (places_of s.back)) =
    weight_is parts ∙ (λ i. length (s.before i) + marked_in (places_of (s.before i)))
    ∙ (λ i. length_three s.front s.run s.back i + (ap marked_in (places_split s.front s.run s.back) ∙ marked_three (places_of s.front) (places_of s.run) (places_of s.back)) i) in
    let marked = kept_marked kept (places_of s.run) s.may.others in
    let fewer = length_filter_le (λ (p : Place). is_among kept p.position) (places_of s.run) in
    let planned_many : length s.run ≡ length planned = sym (length-map s.run (λ (p : Part). p.number)) ∙ ap (λ (ns : List ℕ). length ns) s.may.numbers in
    let kept_many : length kept ≡ length left = ap (λ (ns : List ℕ). length ns) (sym s.may.taken ∙ sym (map_filter (λ (p : Place). p.position) (is_among kept) (places_of s.run))) ∙ length-map left (λ (p : Place). p.position) in
    let positions_many : length (positions_of (run_of planned parts)) ≡ length (places_of s.run) = ap (λ (ps : List Part). length (positions_of ps)) (sym s.is_run) ∙ length-map (places_of s.run) (λ (p : Place). p.position) in
    let some = eqb-false (length planned) 0 s.may.some in
    let less = lowers (length one) (length s.run) (marked_in left) (marked_in (places_of s.run)) (length left) (length (places_of s.run)) (length planned) (length kept) (length (positions_of (run_of planned parts)))
    marked fewer planned_many kept_many positions_many some (one_at_most position left) (or_cases (nat_lt 1 (length planned)) (nat_lt (length kept) (length (positions_of (run_of planned parts)))) k) in
    omega (arith, after, was, less)

-- ---- a journal

abbrev pub IsLight : List Entry → Type 0
IsLight journal = weight (layout journal) + swaps journal ≤ 2 * (counts journal).updates

updates_more : (journal : List Entry) (entry : Entry) → (counts (journal ++ entry ∷ [])).updates ≡ (counts journal).updates + cond (is_update entry.what) 1 0
updates_more journal entry = sum_by_push (λ (e : Entry). cond (is_update e.what) 1 0) journal entry

swaps_more : (journal : List Entry) (entry : Entry) → swaps (journal ++ entry ∷ []) ≡ swaps journal + cond (not (is_update entry.what)) 1 0
swaps_more journal entry = sum_by_push (λ (e : Entry). cond (not (is_update e.what)) 1 0) journal entry

live_names : (journal : List Entry) → IsLaidOut journal → AreDistinct (names_in (places_of (layout journal)))
live_names journal h = subst (λ (ts : List Table). AreDistinct (map (λ (t : Table). t.name) ts)) (sym (ap (map (λ (p : Place). p.table)) h.unmarked ∙ h.tables)) h.names

pub light_more : (journal : List Entry) (who : Who) (what : What) → IsLaidOut journal → may_follow journal what ≡ true → merges journal what ≡ true → IsLight journal → IsLight (journal ++ entry_with who what ∷ [])
light_more journal who (Loaded table) h f m light =
    omega (arith, ap weight (layout_more journal (entry_with who (Loaded table))), weight_load (1 + length journal) (layout journal) table, updates_more journal (entry_with who (Loaded table)), swaps_more journal (entry_with who (Loaded table)), light)
light_more journal who (Dropped name) h f m light =
    omega (arith, ap weight (layout_more journal (entry_with who (Dropped name))), weight_drop (1 + length journal) (layout journal) name (live_names journal h), updates_more journal (entry_with who (Dropped name)), swaps_more journal (entry_with who (Dropped name)), light)
light_more journal who (Replaced table) h f m light =
    omega (arith, ap weight (layout_more journal (entry_with who (Replaced table))), weight_replace (1 + length journal) (layout journal) table (live_names journal h), updates_more journal (entry_with who (Replaced table)), swaps_more journal (entry_with who (Replaced table)), light)
light_more journal who (Swapped planned kept) h f m light =
    omega (arith, ap weight (layout_more journal (entry_with who (Swapped planned kept))), weight_swap (1 + length journal) (layout journal) planned kept h.numbers f m, updates_more journal (entry_with who (Swapped planned kept)), swaps_more journal (entry_with who (Swapped planned kept)), light)

pub light_behind : (before entries : List Entry) → IsLaidOut before → is_legal_behind before entries ≡ true → do_merge_behind before entries ≡ true → IsLight before → IsLight (before ++ entries)
light_behind before [] h k m light = subst IsLight (sym (append-nil before)) light
light_behind before (entry ∷ entries) h k m light =
    let s = and_parts (may_follow before entry.what) (is_legal_behind (before ++ entry ∷ []) entries) k in
    let t = and_parts (merges before entry.what) (do_merge_behind (before ++ entry ∷ []) entries) m in
    subst IsLight (append_assoc before (entry ∷ []) entries) (light_behind (before ++ entry ∷ []) entries (laid_more before entry.who entry.what h s.0) s.1 t.1 (light_more before entry.who entry.what h s.0 t.0 light))
