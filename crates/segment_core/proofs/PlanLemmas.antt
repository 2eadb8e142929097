-- Unmarked loads, from the lists that a part keeps.
use Rattle.std.proofs.Common.{◌≡◌, refl, ap, sym, ◌∙◌, ℕ, zero, suc, ◌+◌, ◌<◌, ◌≤◌, List, [], ◌∷◌, ◌++◌, append_assoc, Bool, true, false, cond, map, length, get_or, take, drop, Option, Some, None, arith}
use Rattle.std.specs.Prelude.{not}
use Rattle.std.specs.Option.{option_to_list}
use Rattle.std.specs.List.{filter, flat_map}
use Rattle.std.proofs.lemmas.List.{map-append, append-nil, map_more, take_more, length-append, length-take, length-drop}
use Rattle.std.proofs.lemmas.List.Elements.{filter-append}
use Rattle.std.proofs.lemmas.List.Concat.{flat_map-append}
use Rattle.lake_model.specs.Tables.{Table}
use Rattle.lake_model.specs.Layout.{Place, Part}
use Rattle.search_model.specs.Arrays.{table_at}
use Rattle.segment_core.specs.Plans.{loads_in, loads_without, kept_loads, named, replaced}
use Rattle.segment_core.specs.Positions.{loads_of}
use Rattle.segment_core.specs.Versions.{tables_of, marks_of}

without_from : (ns : List ℕ) (ts : List Table) (ms : List Bool) (i : ℕ) → i < length ts → length ns ≡ length ts → length ms ≡ length ts
    → loads_without (take (suc i) ns) (take (suc i) ts) (take (suc i) ms) ≡ loads_without (take i ns) (take i ts) (take i ms) ++ cond (get_or ms i false) [] ((get_or ns i 0, table_at ts i) ∷ [])
without_from ns [] ms i h j k = absurd (omega arith)
without_from [] (t ∷ ts) ms i h j k = absurd (omega arith)
without_from (n ∷ ns) (t ∷ ts) [] i h j k = absurd (omega arith)
without_from (n ∷ ns) (t ∷ ts) (true ∷ ms) zero h j k = refl
without_from (n ∷ ns) (t ∷ ts) (false ∷ ms) zero h j k = refl
without_from (n ∷ ns) (t ∷ ts) (true ∷ ms) (suc i) h j k = without_from ns ts ms i (omega arith) (omega arith) (omega arith)
without_from (n ∷ ns) (t ∷ ts) (false ∷ ms) (suc i) h j k = ap (λ (ls : List (ℕ × Table)). (n, t) ∷ ls) (without_from ns ts ms i (omega arith) (omega arith) (omega arith))

-- one more load
pub without_more : (ns : List ℕ) (ts : List Table) (ms : List Bool) (i : ℕ) → i < length ts → length ns ≡ length ts → length ms ≡ length ts
    → loads_without (take (i + 1) ns) (take (i + 1) ts) (take (i + 1) ms) ≡ loads_without (take i ns) (take i ts) (take i ms) ++ cond (get_or ms i false) [] ((get_or ns i 0, table_at ts i) ∷ [])
without_more ns ts ms i h j k = let e : i + 1 ≡ suc i = omega arith in ap (λ (n : ℕ). loads_without (take n ns) (take n ts) (take n ms)) e ∙ without_from ns ts ms i h j k

-- the loads of a part's places
pub without_places : (places : List Place) → loads_without (map (λ place. place.position) places) (map (λ place. place.table) places) (map (λ place. place.marked) places) ≡ loads_in places
without_places [] = refl
without_places (p ∷ ps) = by p.marked (without_places ps)
  where
    by : (b : Bool) → loads_without (map (λ (q : Place). q.position) ps) (map (λ (q : Place). q.table) ps) (map (λ (q : Place). q.marked) ps) ≡ loads_in ps
        → cond b (loads_without (map (λ (q : Place). q.position) ps) (map (λ (q : Place). q.table) ps) (map (λ (q : Place). q.marked) ps)) ((p.position, p.table) ∷ loads_without (map (λ (q : Place). q.position) ps) (map (λ (q : Place). q.table) ps) (map (λ (q : Place). q.marked) ps))
        ≡ map (λ (q : Place). (q.position, q.table)) (cond (not b) (p ∷ filter (λ q. not q.marked) ps) (filter (λ q. not q.marked) ps))
    by true rest = rest
    by false rest = ap (λ (ls : List (ℕ × Table)). (p.position, p.table) ∷ ls) rest

-- one more part
pub kept_push : (parts : List Part) (part : Part) → kept_loads (parts ++ part ∷ []) ≡ kept_loads parts ++ loads_in part.places
kept_push parts part =
    ap (λ (places : List Place). loads_in places) (flat_map-append (λ (p : Part). p.places) parts (part ∷ []) ∙ ap (λ (ps : List Place). flat_map (λ (p : Part). p.places) parts ++ ps) (append-nil part.places))
    ∙ ap (map (λ (q : Place). (q.position, q.table))) (filter-append (λ (q : Place). not q.marked) (flat_map (λ (p : Part). p.places) parts) part.places)
    ∙ map-append (λ (q : Place). (q.position, q.table)) (filter (λ (q : Place). not q.marked) (flat_map (λ (p : Part). p.places) parts)) (filter (λ (q : Place). not q.marked) part.places)

-- ---- one more step of each loop

-- one more named part
pub named_more : (run : List Part) (i : ℕ) (item : Part) (n : ℕ) (ps : List ℕ) (all new : List (ℕ × List ℕ)) → i < length run → item ≡ get_or run i item → n ≡ item.number → ps ≡ loads_of item → all ≡ named (take i run)
    → new ≡ all ++ (n, ps) ∷ [] → new ≡ named (take (i + 1) run)
named_more run i item n ps all new lt at number loads done more =
    let pair : ℕ → List ℕ → ℕ × List ℕ = λ m ms. (m, ms) in
    more ∙ (λ j. done j ++ pair (number j) (loads j) ∷ []) ∙ ap (λ (p : Part). named (take i run) ++ pair p.number (loads_of p) ∷ []) at ∙ sym (map_more (λ (p : Part). pair p.number (loads_of p)) run i item lt)

-- one more unmarked load, and one more marked one
pub load_kept : (ns : List ℕ) (ts : List Table) (ms : List Bool) (i : ℕ) (t : Table) (first done new : List (ℕ × Table)) → i < length ts → length ns ≡ length ts → length ms ≡ length ts → get_or ms i false ≡ false → t ≡ table_at ts i
    → done ≡ first ++ loads_without (take i ns) (take i ts) (take i ms) → new ≡ done ++ (get_or ns i 0, t) ∷ [] → new ≡ first ++ loads_without (take (i + 1) ns) (take (i + 1) ts) (take (i + 1) ms)
load_kept ns ts ms i t first done new lt h k mark table before more =
    let pair : ℕ → Table → ℕ × Table = λ n u. (n, u) in
    let here = loads_without (take i ns) (take i ts) (take i ms) in
    more ∙ (λ j. before j ++ pair (get_or ns i 0) (table j) ∷ []) ∙ append_assoc first here (pair (get_or ns i 0) (table_at ts i) ∷ [])
    ∙ ap (λ ls. first ++ ls) (sym (without_more ns ts ms i lt h k ∙ ap (λ (b : Bool). here ++ cond b [] (pair (get_or ns i 0) (table_at ts i) ∷ [])) mark))

pub load_left : (ns : List ℕ) (ts : List Table) (ms : List Bool) (i : ℕ) (first done new : List (ℕ × Table)) → i < length ts → length ns ≡ length ts → length ms ≡ length ts → get_or ms i false ≡ true
    → done ≡ first ++ loads_without (take i ns) (take i ts) (take i ms) → new ≡ done → new ≡ first ++ loads_without (take (i + 1) ns) (take (i + 1) ts) (take (i + 1) ms)
load_left ns ts ms i first done new lt h k mark before more =
    let pair : ℕ → Table → ℕ × Table = λ n u. (n, u) in
    let here = loads_without (take i ns) (take i ts) (take i ms) in
    more ∙ before ∙ ap (λ ls. first ++ ls) (sym (without_more ns ts ms i lt h k ∙ ap (λ (b : Bool). here ++ cond b [] (pair (get_or ns i 0) (table_at ts i) ∷ [])) mark ∙ append-nil here))

-- one more part whose unmarked loads are appended
pub kept_more : (run : List Part) (i : ℕ) (item : Part) (ns : List ℕ) (ts : List Table) (ms : List Bool) (all new : List (ℕ × Table)) → i < length run → item ≡ get_or run i item → ns ≡ loads_of item → ts ≡ tables_of item → ms ≡ marks_of item
    → all ≡ kept_loads (take i run) → new ≡ all ++ loads_without ns ts ms → new ≡ kept_loads (take (i + 1) run)
kept_more run i item ns ts ms all new lt at loads tables marks done more =
    more ∙ (λ j. done j ++ loads_without (loads j) (tables j) (marks j)) ∙ ap (λ ls. kept_loads (take i run) ++ ls) (without_places item.places)
    ∙ sym (ap kept_loads (take_more run i item lt ∙ ap (λ (p : Part). take i run ++ p ∷ []) (sym at)) ∙ kept_push (take i run) item)

-- ---- a part that replaces others

pub replaced_fits : (first count : ℕ) (part : Option Part) (parts : List Part) → 0 < count → first + count ≤ length parts → length (replaced first count part parts) ≤ length parts
replaced_fits first count part parts some within =
    omega (arith, length-append (take first parts) (option_to_list part ++ drop (first + count) parts), length-append (option_to_list part) (drop (first + count) parts), length-take first parts, length-drop (first + count) parts, one part)
  where
    one : (o : Option Part) → length (option_to_list o) ≤ 1
    one None = omega arith
    one (Some p) = omega arith
