-- Which planned parts a layout has, and where.
use Rattle.std.proofs.Common.{◌≡◌, refl, ap, sym, ◌∙◌, subst, inl, inr, ◌⊎◌, ℕ, zero, suc, ◌+◌, ◌<◌, List, [], ◌∷◌, Bool, true, false, not, ◌||◌, ◌&&◌, cond, length, get_or, take, drop, Some, None, arith}
use Rattle.std.specs.Prelude.{find, nat_eq, bytes_eq}
use Rattle.std.specs.List.{AllByRecursion, list_all}
use Rattle.std.proofs.Math.Seq.{drop-cons}
use Rattle.std.proofs.lemmas.Bool.{eqb-true, eq-eqb, not-false, or_cases, or_left, or_right, and_parts}
use Rattle.std.proofs.lemmas.List.{get_or-map, length-map}
use Rattle.lake_model.specs.Layout.{Part, Place, is_among, may_swap, positions_of}
use Rattle.list_laws.specs.Distinct as laws
use Rattle.layout_laws.specs.Steps.{numbers_of}
use Rattle.layout_laws.proofs.IndexLemmas.{first_of}
use Rattle.list_laws.proofs.ListLemmas.{test_all, all_left, all_right, all_weaker, all_map, find_none, distinct_right, distinct_apart, all_at}
use Rattle.layout_laws.proofs.RunLemmas.{opened}
use Rattle.list_laws.specs.Distinct.{AreDistinct, Lacks}
use Rattle.segment_core.specs.Positions.{StandsAt, loads_of}
use Rattle.segment_core.specs.Versions.{part_at, part_with}
use Rattle.catalogue.specs.Swaps.{is_there, numbers_in}
use Rattle.catalogue.proofs.PlaceLemmas.{HasPlaces, name_differs}
use Rattle.segment_core.proofs.PositionLemmas.{positions-cons}

abbrev pub is_it : ℕ → List ℕ → Part → Bool
is_it number positions part = nat_eq part.number number && bytes_eq (loads_of part) positions

and_false : (a b : Bool) → b ≡ false → (a && b) ≡ false
and_false true b h = h
and_false false b h = refl

or_false : (a b : Bool) → b ≡ false → (a || b) ≡ a
or_false true b h = refl
or_false false b h = h

-- no part is without positions
pub none_empty : (parts : List Part) (number : ℕ) → AllByRecursion HasPlaces parts → is_there parts (number, []) ≡ false
none_empty [] number h = refl
none_empty (part ∷ parts) number h =
    let empty : loads_of part ≡ [] → ⊥ = λ e. omega (arith, h.0, length-map part.places (λ (place : Place). place.position), ap (λ (ns : List ℕ). length ns) e) in
    ap (λ b. b || is_there parts (number, [])) (and_false (nat_eq part.number number) (bytes_eq (loads_of part) []) (name_differs (loads_of part) [] empty)) ∙ none_empty parts number h.1

-- no part has these positions if the first of them is nowhere
lacks_it : (part : Part) (number first : ℕ) (rest : List ℕ) → Lacks (loads_of part) first → is_it number (first ∷ rest) part ≡ false
lacks_it part number first rest h =
    and_false (nat_eq part.number number) (bytes_eq (loads_of part) (first ∷ rest)) (name_differs (loads_of part) (first ∷ rest) (λ e. (subst (λ (ns : List ℕ). Lacks ns first) e h).0 refl))

pub none_lacks : (parts : List Part) (number first : ℕ) (rest : List ℕ) → Lacks (positions_of parts) first → is_there parts (number, first ∷ rest) ≡ false
none_lacks [] number first rest h = refl
none_lacks (part ∷ parts) number first rest h =
    let split = subst (λ (ns : List ℕ). Lacks ns first) (positions-cons part parts) h in
    let other : ℕ → Type 0 = λ n. n ≡ first → ⊥ in
    ap (λ b. b || is_there parts (number, first ∷ rest)) (lacks_it part number first rest (all_left other (loads_of part) (positions_of parts) split)) ∙ none_lacks parts number first rest (all_right other (loads_of part) (positions_of parts) split)

-- ---- the part that has the first of the positions

place_within : (part : Part) (i : ℕ) → i < length part.places → i < length (loads_of part)
place_within part i h = omega (arith, h, length-map part.places (λ (place : Place). place.position))

stands_behind : (part : Part) (parts : List Part) (n k i : ℕ) → StandsAt (part ∷ parts) n (suc k) i → StandsAt parts n k i
stands_behind part parts n k i h = record { part_there = omega (arith, h.part_there); place_there = h.place_there; position_is = h.position_is }

stands_lacks : (parts : List Part) (n k i : ℕ) → StandsAt parts n k i → Lacks (positions_of parts) n → ⊥
stands_lacks [] n k i h lacks = omega (arith, h.part_there)
stands_lacks (part ∷ parts) n zero i h lacks =
    let split = subst (λ (ns : List ℕ). Lacks ns n) (positions-cons part parts) lacks in
    all_at (λ m. m ≡ n → ⊥) (loads_of part) i 0 (all_left (λ (m : ℕ). m ≡ n → ⊥) (loads_of part) (positions_of parts) split) (place_within part i h.place_there) h.position_is
stands_lacks (part ∷ parts) n (suc k) i h lacks =
    let split = subst (λ (ns : List ℕ). Lacks ns n) (positions-cons part parts) lacks in
    stands_lacks parts n k i (stands_behind part parts n k i h) (all_right (λ (m : ℕ). m ≡ n → ⊥) (loads_of part) (positions_of parts) split)

pub only_there : (parts : List Part) (number first : ℕ) (rest : List ℕ) (k i : ℕ) → AreDistinct (positions_of parts) → StandsAt parts first k i → is_there parts (number, first ∷ rest) ≡ is_it number (first ∷ rest) (part_at parts k)
only_there [] number first rest k i h stands = absurd (omega (arith, stands.part_there))
only_there (part ∷ parts) number first rest zero i h stands =
    let split = subst AreDistinct (positions-cons part parts) h in
    let apart = all_at (Lacks (positions_of parts)) (loads_of part) i 0 (distinct_apart (loads_of part) (positions_of parts) split) (place_within part i stands.place_there) in
    or_false (is_it number (first ∷ rest) part) (is_there parts (number, first ∷ rest)) (none_lacks parts number first rest (subst (Lacks (positions_of parts)) stands.position_is apart))
only_there (part ∷ parts) number first rest (suc k) i h stands =
    let split = subst AreDistinct (positions-cons part parts) h in
    let behind = stands_behind part parts first k i stands in
    let lacks : Lacks (loads_of part) first = all_weaker (Lacks (positions_of parts)) (λ n. n ≡ first → ⊥) (loads_of part) (λ n l e. stands_lacks parts first k i behind (subst (Lacks (positions_of parts)) e l)) (distinct_apart (loads_of part) (positions_of parts) split) in
    ap (λ b. b || is_there parts (number, first ∷ rest)) (lacks_it part number first rest lacks) ∙ only_there parts number first rest k i (distinct_right (loads_of part) (positions_of parts) split) behind

-- the same for the list of the positions
pub empty_at : (parts : List Part) (number : ℕ) (ps list : List ℕ) → list ≡ ps → length list < 1 → AllByRecursion HasPlaces parts → is_there parts (number, ps) ≡ false
empty_at parts number ps list e h full = subst (λ (qs : List ℕ). is_there parts (number, qs) ≡ false) e (by list h)
  where
    by : (qs : List ℕ) → length qs < 1 → is_there parts (number, qs) ≡ false
    by [] h = none_empty parts number full
    by (q ∷ qs) h = absurd (omega arith)

pub lacks_at : (parts : List Part) (number : ℕ) (ps list : List ℕ) → list ≡ ps → 0 < length list → Lacks (positions_of parts) (get_or list 0 0) → is_there parts (number, ps) ≡ false
lacks_at parts number ps list e h lacks = subst (λ (qs : List ℕ). is_there parts (number, qs) ≡ false) e (by list h lacks)
  where
    by : (qs : List ℕ) → 0 < length qs → Lacks (positions_of parts) (get_or qs 0 0) → is_there parts (number, qs) ≡ false
    by [] h lacks = absurd (omega arith)
    by (q ∷ qs) h lacks = none_lacks parts number q qs lacks

pub only_at : (parts : List Part) (number : ℕ) (ps list : List ℕ) (k i : ℕ) → list ≡ ps → 0 < length list → AreDistinct (positions_of parts) → StandsAt parts (get_or list 0 0) k i → is_there parts (number, ps) ≡ is_it number ps (part_at parts k)
only_at parts number ps list k i e h distinct stands = subst (λ (qs : List ℕ). is_there parts (number, qs) ≡ is_it number qs (part_at parts k)) e (by list h stands)
  where
    by : (qs : List ℕ) → 0 < length qs → StandsAt parts (get_or qs 0 0) k i → is_there parts (number, qs) ≡ is_it number qs (part_at parts k)
    by [] h stands = absurd (omega arith)
    by (q ∷ qs) h stands = only_there parts number q qs k i distinct stands

-- ---- one planned part after another

pub find_next : {X : Type 0} (p : X → Bool) (xs : List X) (i : ℕ) (d : X) → i < length xs → p (get_or xs i d) ≡ false → find p (drop (i + 1) xs) ≡ find p (drop i xs)
find_next p xs i d h e =
    let one : i + 1 ≡ suc i = omega arith in
    ap (λ (n : ℕ). find p (drop n xs)) one ∙ sym (ap (find p) (drop-cons xs i d h) ∙ ap (λ (b : Bool). cond b (Some (get_or xs i d)) (find p (drop (suc i) xs))) e)

pub find_here : {X : Type 0} (p : X → Bool) (xs : List X) (i : ℕ) (d : X) → i < length xs → p (get_or xs i d) ≡ true → find p (drop i xs) ≡ Some (get_or xs i d)
find_here p xs i d h e = ap (find p) (drop-cons xs i d h) ∙ ap (λ (b : Bool). cond b (Some (get_or xs i d)) (find p (drop (suc i) xs))) e

-- if no planned part is missing, their numbers are there
there_number : (parts : List Part) (planned : ℕ × List ℕ) → is_there parts planned ≡ true → is_among (numbers_of parts) planned.0 ≡ true
there_number [] planned h = h
there_number (part ∷ parts) planned h = by (or_cases (is_it planned.0 planned.1 part) (is_there parts planned) h) (there_number parts planned)
  where
    by : (is_it planned.0 planned.1 part ≡ true) ⊎ (is_there parts planned ≡ true) → (is_there parts planned ≡ true → is_among (numbers_of parts) planned.0 ≡ true) → is_among (numbers_of (part ∷ parts)) planned.0 ≡ true
    by (inl g) rest =
        or_left (nat_eq planned.0 part.number) (is_among (numbers_of parts) planned.0) (eq-eqb planned.0 part.number (sym (eqb-true part.number planned.0 (and_parts (nat_eq part.number planned.0) (bytes_eq (loads_of part) planned.1) g).0)))
    by (inr g) rest = or_right (nat_eq planned.0 part.number) (is_among (numbers_of parts) planned.0) (rest g)

pub all_there : (parts : List Part) (from : List (ℕ × List ℕ)) → find (λ planned. not (is_there parts planned)) from ≡ None → AllByRecursion (λ planned. is_there parts planned ≡ true) from
all_there parts from h =
    all_weaker (λ (planned : ℕ × List ℕ). not (is_there parts planned) ≡ false) (λ planned. is_there parts planned ≡ true) from (λ planned e. not-false (is_there parts planned) e) (find_none (λ (planned : ℕ × List ℕ). not (is_there parts planned)) from h)

pub numbers_there : (parts : List Part) (from : List (ℕ × List ℕ)) → find (λ planned. not (is_there parts planned)) from ≡ None → list_all (is_among (numbers_of parts)) (numbers_in from) ≡ true
numbers_there parts from h =
    test_all (is_among (numbers_of parts)) (numbers_in from) (all_map (λ (n : ℕ). is_among (numbers_of parts) n ≡ true) (λ (planned : ℕ × List ℕ). planned.0) from
    (all_weaker (λ (planned : ℕ × List ℕ). is_there parts planned ≡ true) (λ planned. is_among (numbers_of parts) planned.0 ≡ true) from (λ planned e. there_number parts planned e) (all_there parts from h)))

-- ---- where a run begins

same_index : (ns : List ℕ) (i j : ℕ) → laws.AreDistinct ns → i < length ns → j < length ns → get_or ns i 0 ≡ get_or ns j 0 → i ≡ j
same_index [] i j d h k e = absurd (omega arith)
same_index (n ∷ ns) zero zero d h k e = refl
same_index (n ∷ ns) zero (suc j) d h k e = absurd (all_at (λ m. m ≡ n → ⊥) ns j 0 d.0 (omega arith) (sym e))
same_index (n ∷ ns) (suc i) zero d h k e = absurd (all_at (λ m. m ≡ n → ⊥) ns i 0 d.0 (omega arith) e)
same_index (n ∷ ns) (suc i) (suc j) d h k e = ap suc (same_index ns i j d.1 (omega arith) (omega arith) e)

first_number : (parts : List Part) (m f n : ℕ) (rest : List ℕ) → numbers_of (take m (drop f parts)) ≡ n ∷ rest → (f < length parts) × (get_or (numbers_of parts) f 0 ≡ n)
first_number [] zero f n rest h = cc
first_number [] (suc m) zero n rest h = cc
first_number [] (suc m) (suc f) n rest h = cc
first_number (part ∷ parts) zero zero n rest h = cc
first_number (part ∷ parts) zero (suc f) n rest h = cc
first_number (part ∷ parts) (suc m) zero n rest h = let same : part.number ≡ n = cc in (omega arith, same)
first_number (part ∷ parts) (suc m) (suc f) n rest h = let r = first_number parts (suc m) f n rest h in (omega (arith, r.0), r.1)

pub first_is : (parts : List Part) (from : List (ℕ × List ℕ)) (kept : List ℕ) (index : ℕ) (d : ℕ × List ℕ) → laws.AreDistinct (numbers_of parts) → may_swap parts (numbers_in from) kept ≡ true
    → index < length parts → (part_at parts index).number ≡ (get_or from 0 d).0 → index ≡ first_of (numbers_in from) parts
first_is parts [] kept index d distinct may within is = let some = (opened parts [] kept may).some in cc
first_is parts (planned ∷ from) kept index d distinct may within is =
    let all = numbers_in (planned ∷ from) in
    let f = first_number parts (length all) (first_of all parts) planned.0 (numbers_in from) (opened parts all kept may).numbers in
    let many = length-map parts (λ (p : Part). p.number) in
    same_index (numbers_of parts) index (first_of all parts) distinct (omega (arith, within, many)) (omega (arith, f.0, many)) (get_or-map (λ (p : Part). p.number) parts index (part_with 0 []) 0 within ∙ is ∙ sym f.1)
