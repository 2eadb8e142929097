-- One more entry, and the unmarked tables of a layout.
use Rattle.std.proofs.Common.{◌≡◌, refl, ap, sym, ◌∙◌, ℕ, ◌+◌, List, [], ◌∷◌, ◌++◌, map, Bool, true, false, not, ◌||◌, length, arith, cond}
use Rattle.std.specs.List.{filter, flat_map}
use Rattle.std.proofs.lemmas.List.{map-append}
use Rattle.std.proofs.lemmas.List.Concat.{flat_map-append}
use Rattle.std.proofs.lemmas.List.Sums.{fold_push}
use Rattle.lake_model.specs.Texts.{Text}
use Rattle.lake_model.specs.Tables.{Table}
use Rattle.lake_model.specs.Journal.{Loaded, Dropped, Replaced, Entry, live, live_after, has_name, without}
use Rattle.lake_model.specs.Layout.{Place, Part, layout, parts_from, parts_after, mark, mark_place, unmarked_of}

pub live_more : (journal : List Entry) (entry : Entry) → live (journal ++ entry ∷ []) ≡ live_after (live journal) entry.what
live_more journal entry = fold_push (λ tables (e : Entry). live_after tables e.what) [] journal entry

parts_from-push : (position : ℕ) (parts : List Part) (entries : List Entry) (entry : Entry) → parts_from position parts (entries ++ entry ∷ []) ≡ parts_after (position + length entries) (parts_from position parts entries) entry.what
parts_from-push position parts [] entry = let e : position ≡ position + length {A = Entry} [] = omega arith in ap (λ (n : ℕ). parts_after n parts entry.what) e
parts_from-push position parts (first ∷ entries) entry =
    let e : position + 1 + length entries ≡ position + length (first ∷ entries) = omega arith in
    parts_from-push (position + 1) (parts_after position parts first.what) entries entry ∙ ap (λ (n : ℕ). parts_after n (parts_from (position + 1) (parts_after position parts first.what) entries) entry.what) e

pub layout_more : (journal : List Entry) (entry : Entry) → layout (journal ++ entry ∷ []) ≡ parts_after (1 + length journal) (layout journal) entry.what
layout_more journal entry = parts_from-push 1 [] journal entry

-- the tables that are unmarked
abbrev pub searchable : List Part → List Table
searchable parts = map (λ place. place.table) (unmarked_of parts)

filter-append : {X : Type 0} (p : X → Bool) (xs ys : List X) → filter p (xs ++ ys) ≡ filter p xs ++ filter p ys
filter-append p [] ys = refl
filter-append p (x ∷ xs) ys = ap (λ us. cond (p x) (x ∷ us) us) (filter-append p xs ys) ∙ by (p x)
  where
    by : (b : Bool) → cond b (x ∷ (filter p xs ++ filter p ys)) (filter p xs ++ filter p ys) ≡ cond b (x ∷ filter p xs) (filter p xs) ++ filter p ys
    by true = refl
    by false = refl

searchable-append : (parts more : List Part) → searchable (parts ++ more) ≡ searchable parts ++ searchable more
searchable-append parts more =
    ap (λ (places : List Place). map (λ place. place.table) (filter (λ place. not place.marked) places)) (flat_map-append (λ (part : Part). part.places) parts more)
    ∙ ap (map (λ (place : Place). place.table)) (filter-append (λ (place : Place). not place.marked) (flat_map (λ (part : Part). part.places) parts) (flat_map (λ (part : Part). part.places) more))
    ∙ map-append (λ (place : Place). place.table) _ _

pub searchable-load : (position : ℕ) (parts : List Part) (table : Table) → searchable (parts_after position parts (Loaded table)) ≡ searchable parts ++ table ∷ []
searchable-load position parts table = searchable-append parts _

places-mark : (name : Text) (parts : List Part) → flat_map (λ (part : Part). part.places) (map (mark name) parts) ≡ map (mark_place name) (flat_map (λ (part : Part). part.places) parts)
places-mark name [] = refl
places-mark name (part ∷ parts) = ap (λ ps. map (mark_place name) part.places ++ ps) (places-mark name parts) ∙ sym (map-append (mark_place name) part.places (flat_map (λ (part : Part). part.places) parts))

unmarked-mark : (name : Text) (places : List Place) → map (λ place. place.table) (filter (λ place. not place.marked) (map (mark_place name) places)) ≡ filter (λ table. not (has_name name table)) (map (λ place. place.table) (filter (λ place. not place.marked) places))
unmarked-mark name [] = refl
unmarked-mark name (place ∷ places) = by place.marked (has_name name place.table) ∙ ap (λ us. under us place.marked (has_name name place.table)) (unmarked-mark name places) ∙ back place.marked (has_name name place.table) refl
  where
    under : List Table → Bool → Bool → List Table
    under us true b = us
    under us false true = us
    under us false false = place.table ∷ us

    by : (a b : Bool) → map (λ (place : Place). place.table) (cond (not (a || b)) (record place { marked = a || b } ∷ filter (λ place. not place.marked) (map (mark_place name) places)) (filter (λ place. not place.marked) (map (mark_place name) places)))
        ≡ under (map (λ place. place.table) (filter (λ place. not place.marked) (map (mark_place name) places))) a b
    by true b = refl
    by false true = refl
    by false false = refl

    back : (a b : Bool) → has_name name place.table ≡ b → under (filter (λ table. not (has_name name table)) (map (λ place. place.table) (filter (λ place. not place.marked) places))) a b
        ≡ filter (λ table. not (has_name name table)) (map (λ (place : Place). place.table) (cond (not a) (place ∷ filter (λ place. not place.marked) places) (filter (λ place. not place.marked) places)))
    back true b e = refl
    back false true e = sym (ap (λ c. cond (not c) (place.table ∷ (filter (λ table. not (has_name name table)) (map (λ (p : Place). p.table) (filter (λ (p : Place). not p.marked) places)))) (filter (λ table. not (has_name name table)) (map (λ (p : Place). p.table) (filter (λ (p : Place). not p.marked) places)))) e)
    back false false e = sym (ap (λ c. cond (not c) (place.table ∷ (filter (λ table. not (has_name name table)) (map (λ (p : Place). p.table) (filter (λ (p : Place). not p.marked) places)))) (filter (λ table. not (has_name name table)) (map (λ (p : Place). p.table) (filter (λ (p : Place). not p.marked) places)))) e)

pub searchable-drop : (position : ℕ) (parts : List Part) (name : Text) → searchable (parts_after position parts (Dropped name)) ≡ without name (searchable parts)
searchable-drop position parts name =
    ap (λ (places : List Place). map (λ place. place.table) (filter (λ place. not place.marked) places)) (places-mark name parts) ∙ unmarked-mark name (flat_map (λ (part : Part). part.places) parts)

pub searchable-replace : (position : ℕ) (parts : List Part) (table : Table) → searchable (parts_after position parts (Replaced table)) ≡ without table.name (searchable parts) ++ table ∷ []
searchable-replace position parts table = searchable-append (map (mark table.name) parts) _ ∙ ap (λ (ts : List Table). ts ++ table ∷ []) (searchable-drop position parts table.name)
