-- The unmarked places of the layout of a legal journal are the loads of its live tables.
use Rattle.std.proofs.Common.{◌≡◌, refl, ap, sym, ◌∙◌, ℕ, ◌+◌, List, [], ◌∷◌, ◌++◌, append-nil, Bool, true, false, not, ◌||◌, cond, map, length, arith}
use Rattle.std.specs.List.{AllByRecursion, filter, list_any}
use Rattle.std.proofs.lemmas.Bool.{not-true}
use Rattle.std.proofs.lemmas.List.{map-append}
use Rattle.std.proofs.lemmas.List.Concat.{flat_map-append}
use Rattle.lake_model.specs.Texts.{Text}
use Rattle.lake_model.specs.Tables.{Table}
use Rattle.lake_model.specs.Journal.{Entry, has_name, without}
use Rattle.lake_model.specs.Layout.{Place, Part, mark, mark_place, positions_of, is_among}
use Rattle.list_laws.specs.Distinct.{Lacks}
use Rattle.layout_laws.specs.Steps.{positions_in, loads_after, loads_from, live_loads}
use Rattle.list_laws.proofs.ListLemmas.{not_both, texts_same, all_weaker, all_map, all_passed, none_any, filter_filter}
use Rattle.std.proofs.lemmas.List.Elements.{filter-append}
use Rattle.layout_laws.specs.Places.{kept_places, places_of}
use Rattle.layout_laws.proofs.SwapLemmas.{one_part}

-- ---- one more entry

loads_from-push : (position : ℕ) (places : List Place) (entries : List Entry) (entry : Entry) → loads_from position places (entries ++ entry ∷ []) ≡ loads_after (position + length entries) (loads_from position places entries) entry.what
loads_from-push position places [] entry = let e : position ≡ position + length {A = Entry} [] = omega arith in ap (λ (n : ℕ). loads_after n places entry.what) e
loads_from-push position places (first ∷ entries) entry =
    let e : position + 1 + length entries ≡ position + length (first ∷ entries) = omega arith in
    loads_from-push (position + 1) (loads_after position places first.what) entries entry ∙ ap (λ (n : ℕ). loads_after n (loads_from (position + 1) (loads_after position places first.what) entries) entry.what) e

pub loads_more : (journal : List Entry) (entry : Entry) → live_loads (journal ++ entry ∷ []) ≡ loads_after (1 + length journal) (live_loads journal) entry.what
loads_more journal entry = loads_from-push 1 [] journal entry

-- ---- places

abbrev pub unmarked : List Place → List Place
unmarked places = filter (λ place. not place.marked) places

pub places-append : (parts more : List Part) → places_of (parts ++ more) ≡ places_of parts ++ places_of more
places-append parts more = flat_map-append (λ (part : Part). part.places) parts more

pub places_marked : (name : Text) (parts : List Part) → places_of (map (mark name) parts) ≡ map (mark_place name) (places_of parts)
places_marked name [] = refl
places_marked name (part ∷ parts) = ap (λ ps. map (mark_place name) part.places ++ ps) (places_marked name parts) ∙ sym (map-append (mark_place name) part.places (places_of parts))

pub positions_marked : (name : Text) (places : List Place) → positions_in (map (mark_place name) places) ≡ positions_in places
positions_marked name [] = refl
positions_marked name (place ∷ places) = ap (λ ns. place.position ∷ ns) (positions_marked name places)

pub positions_dropped : (name : Text) (parts : List Part) → positions_of (map (mark name) parts) ≡ positions_of parts
positions_dropped name parts = ap positions_in (places_marked name parts) ∙ positions_marked name (places_of parts)

pub places_one : (number : ℕ) (places : List Place) → places_of (one_part number places) ≡ places
places_one number [] = refl
places_one number (place ∷ places) = append-nil (place ∷ places)

-- the places after a swap of a run
pub places_swapped : (position : ℕ) (kept : List ℕ) (front run back : List Part) → places_of (front ++ (one_part position (kept_places kept run) ++ back)) ≡ places_of front ++ (kept_places kept run ++ places_of back)
places_swapped position kept front run back =
    places-append front (one_part position (kept_places kept run) ++ back)
    ∙ ap (λ ps. places_of front ++ ps) (places-append (one_part position (kept_places kept run)) back ∙ ap (λ ps. ps ++ places_of back) (places_one position (kept_places kept run)))

pub places_split : (front run back : List Part) → places_of (front ++ (run ++ back)) ≡ places_of front ++ (places_of run ++ places_of back)
places_split front run back = places-append front (run ++ back) ∙ ap (λ ps. places_of front ++ ps) (places-append run back)

pub unmarked_three : (a b c : List Place) → unmarked (a ++ (b ++ c)) ≡ unmarked a ++ (unmarked b ++ unmarked c)
unmarked_three a b c = filter-append (λ (p : Place). not p.marked) a (b ++ c) ∙ ap (λ ps. unmarked a ++ ps) (filter-append (λ (p : Place). not p.marked) b c)

-- the unmarked places after a drop
pub unmarked_dropped : (name : Text) (places : List Place) → unmarked (map (mark_place name) places) ≡ filter (λ place. not (has_name name place.table)) (unmarked places)
unmarked_dropped name [] = refl
unmarked_dropped name (place ∷ places) = by place.marked (has_name name place.table) refl refl (unmarked_dropped name places)
  where
    by : (m b : Bool) → place.marked ≡ m → has_name name place.table ≡ b → unmarked (map (mark_place name) places) ≡ filter (λ p. not (has_name name p.table)) (unmarked places)
        → cond (not (place.marked || has_name name place.table)) (mark_place name place ∷ unmarked (map (mark_place name) places)) (unmarked (map (mark_place name) places))
        ≡ filter (λ p. not (has_name name p.table)) (cond (not place.marked) (place ∷ unmarked places) (unmarked places))
    by true b e f rest = (λ i. cond (not (e i || has_name name place.table)) (mark_place name place ∷ unmarked (map (mark_place name) places)) (unmarked (map (mark_place name) places)))
        ∙ rest ∙ sym (ap (λ (m : Bool). filter (λ p. not (has_name name p.table)) (cond (not m) (place ∷ unmarked places) (unmarked places))) e)
    by false true e f rest = (λ i. cond (not (e i || f i)) (mark_place name place ∷ unmarked (map (mark_place name) places)) (unmarked (map (mark_place name) places)))
        ∙ rest ∙ sym ((λ i. filter (λ p. not (has_name name p.table)) (cond (not (e i)) (place ∷ unmarked places) (unmarked places))) ∙ (λ i. cond (not (f i)) (place ∷ filter (λ p. not (has_name name p.table)) (unmarked places)) (filter (λ p. not (has_name name p.table)) (unmarked places))))
    by false false e f rest = (λ i. cond (not (e i || f i)) (mark_place name place ∷ unmarked (map (mark_place name) places)) (unmarked (map (mark_place name) places)))
        ∙ (λ i. (ap (λ (c : Bool). record place { marked = c }) ((λ j. e j || f j) ∙ sym e)) i ∷ rest i)
        ∙ sym ((λ i. filter (λ p. not (has_name name p.table)) (cond (not (e i)) (place ∷ unmarked places) (unmarked places))) ∙ (λ i. cond (not (f i)) (place ∷ filter (λ p. not (has_name name p.table)) (unmarked places)) (filter (λ p. not (has_name name p.table)) (unmarked places))))

-- the unmarked places of a run are among the kept ones
pub unmarked_kept : (kept : List ℕ) (places : List Place) → AllByRecursion (λ place. (is_among kept place.position || place.marked) ≡ true) places → unmarked (filter (λ place. is_among kept place.position) places) ≡ unmarked places
unmarked_kept kept places h = filter_filter (λ (p : Place). not p.marked) (λ p. is_among kept p.position) places (all_weaker (λ (p : Place). (is_among kept p.position || p.marked) ≡ true) (λ p. not p.marked ≡ true → is_among kept p.position ≡ true) places (λ p f g. by (is_among kept p.position) p.marked f g) h)
  where
    by : (a b : Bool) → (a || b) ≡ true → not b ≡ true → a ≡ true
    by true b f g = refl
    by false true f g = cc
    by false false f g = f

pub lacks_names : (tables : List Table) (name : Text) → list_any (has_name name) tables ≡ false → Lacks (map (λ table. table.name) tables) name
lacks_names tables name h = all_map (λ (t : Text). t ≡ name → ⊥) (λ (t : Table). t.name) tables (all_weaker (λ (t : Table). has_name name t ≡ false) (λ t. t.name ≡ name → ⊥) tables (λ t f e. not_both ⊥ (has_name name t) (texts_same t.name name e) f) (none_any (has_name name) tables h))

-- no table of a name is left once they were taken out
pub lacks_name : (tables : List Table) (name : Text) → Lacks (map (λ table. table.name) (without name tables)) name
lacks_name tables name =
    let free : Table → Bool = λ t. not (has_name name t) in
    all_map (λ (t : Text). t ≡ name → ⊥) (λ (t : Table). t.name) (filter free tables) (all_weaker (λ (t : Table). free t ≡ true) (λ t. t.name ≡ name → ⊥) (filter free tables)
    (λ t f e. not_both ⊥ (has_name name t) (texts_same t.name name e) (not-true (has_name name t) f)) (all_passed free tables))
