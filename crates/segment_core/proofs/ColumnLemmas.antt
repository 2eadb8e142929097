-- The first unmarked table with a name, as a walk over the parts and over the tables of each finds it.
use Rattle.std.proofs.Common.{◌≡◌, refl, ap, ◌∙◌, ℕ, zero, suc, ◌+◌, ◌<◌, List, [], ◌∷◌, Bool, true, false, not, cond, map, length, get_or, drop, Option, Some, arith}
use Rattle.std.specs.Prelude.{find}
use Rattle.std.specs.List.{filter, flat_map}
use Rattle.std.specs.Option.{option_or}
use Rattle.std.proofs.Math.Seq.{drop-cons}
use Rattle.std.proofs.lemmas.List.{map-append}
use Rattle.std.proofs.lemmas.List.Elements.{filter-append}
use Rattle.std.proofs.lemmas.List.Folds.{find-append}
use Rattle.lake_model.specs.Texts.{Text}
use Rattle.lake_model.specs.Tables.{Table}
use Rattle.lake_model.specs.Journal.{has_name}
use Rattle.lake_model.specs.Layout.{Place, Part}
use Rattle.search_model.specs.Arrays.{table_at}
use Rattle.segment_core.specs.LiveColumn.{live_named, tables_without, unmarked_in}
use Rattle.segment_core.specs.Versions.{places_with}

live_first : (name : Text) (part : Part) (parts : List Part) → live_named (part ∷ parts) name ≡ option_or (find (has_name name) (unmarked_in part)) (live_named parts name)
live_first name part parts =
    let places : List Place = flat_map (λ (p : Part). p.places) parts in
    let here : List Place = filter (λ (p : Place). not p.marked) part.places in
    let later : List Place = filter (λ (p : Place). not p.marked) places in
    ap (λ (ps : List Place). find (has_name name) (map (λ (p : Place). p.table) ps)) (filter-append (λ (p : Place). not p.marked) part.places places)
    ∙ ap (find (has_name name)) (map-append (λ (p : Place). p.table) here later)
    ∙ find-append (has_name name) (map (λ (p : Place). p.table) here) (map (λ (p : Place). p.table) later)

-- one more part
pub part_more : (name : Text) (parts : List Part) (i : ℕ) (d : Part) → i < length parts → live_named (drop i parts) name ≡ option_or (find (has_name name) (unmarked_in (get_or parts i d))) (live_named (drop (i + 1) parts) name)
part_more name parts i d h =
    let e : suc i ≡ i + 1 = omega arith in
    ap (λ (ps : List Part). live_named ps name) (drop-cons parts i d h)
    ∙ live_first name (get_or parts i d) (drop (suc i) parts)
    ∙ ap (λ (n : ℕ). option_or (find (has_name name) (unmarked_in (get_or parts i d))) (live_named (drop n parts) name)) e

-- a table, marked or not, that precedes the others
abbrev pub found_here : Text → Bool → Table → Option Table → Option Table
found_here name m t later = cond m later (cond (has_name name t) (Some t) later)

table_first : (name : Text) (t : Table) (m : Bool) (ts : List Table) (ms : List Bool) → find (has_name name) (tables_without (t ∷ ts) (m ∷ ms)) ≡ found_here name m t (find (has_name name) (tables_without ts ms))
table_first name t true ts ms = refl
table_first name t false ts ms = refl

table_from : (name : Text) (ts : List Table) (ms : List Bool) (i : ℕ) → i < length ts → length ms ≡ length ts
    → find (has_name name) (tables_without (drop i ts) (drop i ms)) ≡ found_here name (get_or ms i false) (table_at ts i) (find (has_name name) (tables_without (drop (suc i) ts) (drop (suc i) ms)))
table_from name [] ms i h k = absurd (omega arith)
table_from name (t ∷ ts) [] i h k = absurd (omega arith)
table_from name (t ∷ ts) (m ∷ ms) zero h k = table_first name t m ts ms
table_from name (t ∷ ts) (m ∷ ms) (suc i) h k = table_from name ts ms i (omega arith) (omega arith)

-- one more table
pub table_more : (name : Text) (ts : List Table) (ms : List Bool) (i : ℕ) → i < length ts → length ms ≡ length ts
    → find (has_name name) (tables_without (drop i ts) (drop i ms)) ≡ found_here name (get_or ms i false) (table_at ts i) (find (has_name name) (tables_without (drop (i + 1) ts) (drop (i + 1) ms)))
table_more name ts ms i h k =
    let e : suc i ≡ i + 1 = omega arith in
    table_from name ts ms i h k ∙ ap (λ (n : ℕ). found_here name (get_or ms i false) (table_at ts i) (find (has_name name) (tables_without (drop n ts) (drop n ms)))) e

pub unmarked_places : (ns : List ℕ) (ts : List Table) (ms : List Bool) → length ns ≡ length ts → length ms ≡ length ts
    → map (λ (p : Place). p.table) (filter (λ (p : Place). not p.marked) (places_with ns ts ms)) ≡ tables_without ts ms
unmarked_places [] [] ms h k = refl
unmarked_places [] (t ∷ ts) ms h k = absurd (omega arith)
unmarked_places (n ∷ ns) [] ms h k = absurd (omega arith)
unmarked_places (n ∷ ns) (t ∷ ts) [] h k = absurd (omega arith)
unmarked_places (n ∷ ns) (t ∷ ts) (true ∷ ms) h k = unmarked_places ns ts ms (omega arith) (omega arith)
unmarked_places (n ∷ ns) (t ∷ ts) (false ∷ ms) h k = ap (λ (us : List Table). t ∷ us) (unmarked_places ns ts ms (omega arith) (omega arith))
