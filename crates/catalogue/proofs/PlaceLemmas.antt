-- The places of a layout: how a mark changes them, and what follows for them from the positions and the names.
use Rattle.std.proofs.Common.{◌≡◌, refl, ap, sym, ◌∙◌, subst, inl, inr, ◌⊎◌, ℕ, zero, suc, ◌<◌, List, [], ◌∷◌, ◌++◌, Bool, true, false, not, ◌||◌, cond, map, length, get_or, slice_set, Some, is_some, arith}
use Rattle.std.specs.Prelude.{find, option_map, bytes_eq}
use Rattle.std.specs.List.{AllByRecursion, list_any}
use Rattle.std.proofs.lemmas.Bool.{false_from_ne_true}
use Rattle.std.proofs.lemmas.List.{map-append, get_or-map}
use Rattle.std.proofs.lemmas.Slice.Eq.{bytes_eq-Decides}
use Rattle.lake_model.specs.Texts.{Text}
use Rattle.lake_model.specs.Journal.{has_name}
use Rattle.layout_laws.specs.Places.{places_of}
use Rattle.layout_laws.specs.Steps.{positions_in}
use Rattle.lake_model.specs.Layout.{Place, Part, mark, mark_place, positions_of}
use Rattle.search_model.specs.Arrays.{no_table}
use Rattle.segment_core.specs.Distinct.{unmarked_names}
use Rattle.list_laws.specs.Distinct.{AreDistinct, Lacks}
use Rattle.segment_core.specs.Positions.{StandsAt}
use Rattle.segment_core.specs.Versions.{place_with, part_with, part_at, mark_nth, marked_at}
use Rattle.catalogue.specs.Parts.{load_of, is_of}
use Rattle.list_laws.proofs.ListLemmas.{all_left, all_right, all_weaker, all_unmap, all_filter, all_passed, distinct_left, distinct_right, distinct_apart, all_at}
use Rattle.std.proofs.lemmas.List.Elements.{filter-append}
use Rattle.catalogue.proofs.ListLemmas.{find_all, find_passed, map_some}
use Rattle.layout_laws.proofs.LiveLemmas.{unmarked}

abbrev pub names_in : List Place → List Text
names_in places = map (λ place. place.table.name) (unmarked places)

abbrev pub HasPlaces : Part → Type 0
HasPlaces part = 0 < length part.places

abbrev no_place : Place
no_place = place_with 0 no_table false

pub name_same : (a b : Text) → bytes_eq a b ≡ true → a ≡ b
name_same a b h = (bytes_eq-Decides a b).0 h

pub name_is : (a b : Text) → a ≡ b → bytes_eq a b ≡ true
name_is a b h = (bytes_eq-Decides a b).1 h

pub name_differs : (a b : Text) → (a ≡ b → ⊥) → bytes_eq a b ≡ false
name_differs a b h = false_from_ne_true (bytes_eq a b) (λ e. h (name_same a b e))

-- names of tables from those of places
pub names_of_tables : (places : List Place) → map (λ place. place.table.name) places ≡ map (λ table. table.name) (map (λ (place : Place). place.table) places)
names_of_tables [] = refl
names_of_tables (place ∷ places) = ap (λ names. place.table.name ∷ names) (names_of_tables places)

pub names_append : (xs ys : List Place) → names_in (xs ++ ys) ≡ names_in xs ++ names_in ys
names_append xs ys = ap (map (λ (place : Place). place.table.name)) (filter-append (λ (place : Place). not place.marked) xs ys) ∙ map-append (λ (place : Place). place.table.name) (unmarked xs) (unmarked ys)

-- which names the unmarked places have
pub load_is_named : (name : Text) (places : List Place) → is_some (option_map (λ (place : Place). place.position) (find (is_of name) places)) ≡ list_any (has_name name) (map (λ (place : Place). place.table) places)
load_is_named name [] = refl
load_is_named name (place ∷ places) = by (has_name name place.table) ∙ ap (λ (b : Bool). has_name name place.table || b) (load_is_named name places)
  where
    by : (b : Bool) → is_some (option_map (λ (place : Place). place.position) (cond b (Some place) (find (is_of name) places))) ≡ (b || is_some (option_map (λ (place : Place). place.position) (find (is_of name) places)))
    by true = refl
    by false = refl

-- The place that is found for a name is the only one at its position.
abbrev Only : Place → Place → Type 0
Only found place = place.position ≡ found.position → place ≡ found

found_or : (name : Text) (place found : Place) (places : List Place) (m : Bool) → find (is_of name) (cond (not m) (place ∷ places) places) ≡ Some found → (place ≡ found) ⊎ (find (is_of name) places ≡ Some found)
found_or name place found places true e = inr e
found_or name place found places false e = by (is_of name place) e
  where
    by : (b : Bool) → cond b (Some place) (find (is_of name) places) ≡ Some found → (place ≡ found) ⊎ (find (is_of name) places ≡ Some found)
    by true e = let same : place ≡ found = cc in inl same
    by false e = inr e

only_by : (name : Text) (place found : Place) (places : List Place) → Lacks (positions_in places) place.position → (find (is_of name) (unmarked places) ≡ Some found → AllByRecursion (Only found) places)
    → (place ≡ found) ⊎ (find (is_of name) (unmarked places) ≡ Some found) → AllByRecursion (Only found) (place ∷ places)
only_by name place found places lacks rest (inl same) =
    ((λ e. same), all_weaker (λ (other : Place). other.position ≡ place.position → ⊥) (Only found) places (λ other no e. absurd (no (e ∙ sym (ap (λ (p : Place). p.position) same)))) (all_unmap (λ (n : ℕ). n ≡ place.position → ⊥) (λ (p : Place). p.position) places lacks))
only_by name place found places lacks rest (inr e) =
    let differs : found.position ≡ place.position → ⊥ = find_all (λ (p : Place). p.position ≡ place.position → ⊥) (is_of name) (unmarked places) found (all_filter (λ (p : Place). p.position ≡ place.position → ⊥) (λ (p : Place). not p.marked) places (all_unmap (λ (n : ℕ). n ≡ place.position → ⊥) (λ (p : Place). p.position) places lacks)) e in
    ((λ same. absurd (differs (sym same))), rest e)

pub found_only : (name : Text) (places : List Place) (found : Place) → AreDistinct (positions_in places) → find (is_of name) (unmarked places) ≡ Some found → AllByRecursion (Only found) places
found_only name [] found h e = tt
found_only name (place ∷ places) found h e = only_by name place found places h.0 (found_only name places found h.1) (found_or name place found (unmarked places) place.marked e)

-- An unmarked place and its name.
unmarked_by : (P : Text → Type 0) (m : Bool) (place : Place) (places : List Place) → AllByRecursion P (map (λ (p : Place). p.table.name) (cond (not m) (place ∷ places) places)) → (m ≡ false → P place.table.name) × AllByRecursion P (map (λ (p : Place). p.table.name) places)
unmarked_by P true place places h = let never : true ≡ false → P place.table.name = λ e. cc in (never, h)
unmarked_by P false place places h = ((λ e. h.0), h.1)

pub all_unmarked : (P : Text → Type 0) (places : List Place) → AllByRecursion P (names_in places) → AllByRecursion (λ place. place.marked ≡ false → P place.table.name) places
all_unmarked P [] h = tt
all_unmarked P (place ∷ places) h = let s = unmarked_by P place.marked place (unmarked places) h in (s.0, all_unmarked P places s.1)

distinct_by : (m : Bool) (place : Place) (places : List Place) → AreDistinct (map (λ (p : Place). p.table.name) (cond (not m) (place ∷ places) places))
    → (m ≡ false → Lacks (map (λ (p : Place). p.table.name) places) place.table.name) × AreDistinct (map (λ (p : Place). p.table.name) places)
distinct_by true place places h = let never : true ≡ false → Lacks (map (λ (p : Place). p.table.name) places) place.table.name = λ e. cc in (never, h)
distinct_by false place places h = ((λ e. h.0), h.1)

-- A mark of a name.
stays : (m b : Bool) → (m ≡ false → b ≡ false) → (m || b) ≡ m
stays true b h = refl
stays false b h = h refl

marks : (m b : Bool) → b ≡ true → (m || b) ≡ true
marks true b h = refl
marks false b h = h

place_stays : (name : Text) (place : Place) → (place.marked ≡ false → place.table.name ≡ name → ⊥) → mark_place name place ≡ place
place_stays name place h = ap (λ (b : Bool). place_with place.position place.table b) (stays place.marked (has_name name place.table) (λ m. name_differs place.table.name name (h m)))

-- no place changes if no unmarked table has the name
pub none_marked : (name : Text) (places : List Place) → Lacks (names_in places) name → map (mark_place name) places ≡ places
none_marked name [] h = refl
none_marked name (place ∷ places) h =
    let s = unmarked_by (λ (n : Text). n ≡ name → ⊥) place.marked place (unmarked places) h in
    λ i. place_stays name place s.0 i ∷ none_marked name places s.1 i

-- if the names of the unmarked tables are distinct, one of their places is marked
pub one_marked : (name : Text) (places : List Place) (j : ℕ) (d : Place) → j < length places → (get_or places j d).marked ≡ false → (get_or places j d).table.name ≡ name → AreDistinct (names_in places) → map (mark_place name) places ≡ mark_nth j places
one_marked name [] j d lt m n h = absurd (omega arith)
one_marked name (place ∷ places) zero d lt m n h =
    let s = distinct_by place.marked place (unmarked places) h in
    let here : mark_place name place ≡ place_with place.position place.table true = ap (λ (b : Bool). place_with place.position place.table b) (marks place.marked (has_name name place.table) (name_is place.table.name name n)) in
    λ i. here i ∷ none_marked name places (subst (λ (x : Text). Lacks (names_in places) x) n (s.0 m)) i
one_marked name (place ∷ places) (suc j) d lt m n h =
    let s = distinct_by place.marked place (unmarked places) h in
    let differs : place.marked ≡ false → place.table.name ≡ name → ⊥ = λ u e. all_at (λ (p : Place). p.marked ≡ false → p.table.name ≡ place.table.name → ⊥) places j d (all_unmarked (λ (x : Text). x ≡ place.table.name → ⊥) places (s.0 u)) (omega arith) m (n ∙ sym e) in
    λ i. place_stays name place differs i ∷ one_marked name places j d (omega arith) m n s.1 i

no_part_marked : (name : Text) (parts : List Part) → Lacks (unmarked_names parts) name → map (mark name) parts ≡ parts
no_part_marked name [] h = refl
no_part_marked name (part ∷ parts) h =
    let split = subst (λ (names : List Text). Lacks names name) (names_append part.places (places_of parts)) h in
    let here = none_marked name part.places (all_left (λ (x : Text). x ≡ name → ⊥) (names_in part.places) (names_in (places_of parts)) split) in
    λ i. part_with part.number (here i) ∷ no_part_marked name parts (all_right (λ (x : Text). x ≡ name → ⊥) (names_in part.places) (names_in (places_of parts)) split) i

-- what holds of all places holds of one
pub all_in : (P : Place → Type 0) (parts : List Part) (i j : ℕ) (d : Place) → i < length parts → j < length (part_at parts i).places → AllByRecursion P (places_of parts) → P (get_or (part_at parts i).places j d)
all_in P [] i j d lt within h = absurd (omega arith)
all_in P (part ∷ parts) zero j d lt within h = all_at P part.places j d (all_left P part.places (places_of parts) h) within
all_in P (part ∷ parts) (suc i) j d lt within h = all_in P parts i j d (omega arith) within (all_right P part.places (places_of parts) h)

pub one_part_marked : (name : Text) (parts : List Part) (i j : ℕ) (d : Place) → i < length parts → j < length (part_at parts i).places → (get_or (part_at parts i).places j d).marked ≡ false → (get_or (part_at parts i).places j d).table.name ≡ name
    → AreDistinct (unmarked_names parts) → map (mark name) parts ≡ slice_set parts i (marked_at j (part_at parts i))
one_part_marked name [] i j d lt within m n h = absurd (omega arith)
one_part_marked name (part ∷ parts) zero j d lt within m n h =
    let split = subst AreDistinct (names_append part.places (places_of parts)) h in
    let apart = all_at (λ (p : Place). p.marked ≡ false → Lacks (names_in (places_of parts)) p.table.name) part.places j d (all_unmarked (Lacks (names_in (places_of parts))) part.places (distinct_apart (names_in part.places) (names_in (places_of parts)) split)) within m in
    let here = one_marked name part.places j d within m n (distinct_left (names_in part.places) (names_in (places_of parts)) split) in
    λ k. part_with part.number (here k) ∷ no_part_marked name parts (subst (Lacks (names_in (places_of parts))) n apart) k
one_part_marked name (part ∷ parts) (suc i) j d lt within m n h =
    let split = subst AreDistinct (names_append part.places (places_of parts)) h in
    let lacks : Lacks (names_in part.places) name = all_weaker (Lacks (names_in (places_of parts))) (λ (x : Text). x ≡ name → ⊥) (names_in part.places)
    (λ x l e. all_in (λ (p : Place). p.marked ≡ false → p.table.name ≡ x → ⊥) parts i j d (omega arith) within (all_unmarked (λ (y : Text). y ≡ x → ⊥) (places_of parts) l) m (n ∙ sym e))
    (distinct_apart (names_in part.places) (names_in (places_of parts)) split) in
    λ k. part_with part.number (none_marked name part.places lacks k) ∷ one_part_marked name parts i j d (omega arith) within m n (distinct_right (names_in part.places) (names_in (places_of parts)) split) k

-- A drop or a replace marks the place at the position of the load or replace of the name.
pub drop_marks : (name : Text) (parts : List Part) (i j position : ℕ) → AreDistinct (positions_of parts) → AreDistinct (unmarked_names parts) → load_of parts name ≡ Some position → StandsAt parts position i j
    → map (mark name) parts ≡ slice_set parts i (marked_at j (part_at parts i))
drop_marks name parts i j position positions names loaded stands =
    let at : (get_or (part_at parts i).places j no_place).position ≡ position = sym (get_or-map (λ (p : Place). p.position) (part_at parts i).places j no_place 0 stands.place_there) ∙ stands.position_is in
    let f = map_some (λ (p : Place). p.position) (find (is_of name) (unmarked (places_of parts))) position loaded in
    let free : not f.0.marked ≡ true = find_all (λ (p : Place). not p.marked ≡ true) (is_of name) (unmarked (places_of parts)) f.0 (all_passed (λ (p : Place). not p.marked) (places_of parts)) f.1 in
    let called = name_same f.0.table.name name (find_passed (is_of name) (unmarked (places_of parts)) f.0 f.1) in
    let same = all_in (Only f.0) parts i j no_place stands.part_there stands.place_there (found_only name (places_of parts) f.0 positions f.1) (at ∙ sym f.2) in
    one_part_marked name parts i j no_place stands.part_there stands.place_there (ap (λ (p : Place). p.marked) same ∙ not_true f.0.marked free) (ap (λ (p : Place). p.table.name) same ∙ called) names
  where
    not_true : (b : Bool) → not b ≡ true → b ≡ false
    not_true true h = cc
    not_true false h = refl

-- if no place has a position, no load of a live table has it
pub load_lacks : (parts : List Part) (name : Text) (n : ℕ) → Lacks (positions_of parts) n → load_of parts name ≡ Some n → ⊥
load_lacks parts name n lacks e =
    let f = map_some (λ (p : Place). p.position) (find (is_of name) (unmarked (places_of parts))) n e in
    find_all (λ (p : Place). p.position ≡ n → ⊥) (is_of name) (unmarked (places_of parts)) f.0 (all_filter (λ (p : Place). p.position ≡ n → ⊥) (λ (p : Place). not p.marked) (places_of parts) (all_unmap (λ (m : ℕ). m ≡ n → ⊥) (λ (p : Place). p.position) (places_of parts) lacks)) f.1 f.2
