-- Where a position is in parts whose positions strictly increase, one part after another.
use Rattle.std.proofs.Common.{◌≡◌, sym, ap, subst, ◌∙◌, ℕ, zero, suc, ◌+◌, ◌<◌, ◌≤◌, List, [], ◌∷◌, ◌++◌, Option, Some, None, IfNone, true, false, leb, leb-true, leb-false, length, get_or, ⊎_elim, arith, length-append}
use Rattle.std.specs.List.{flat_map, slice_index}
use Rattle.std.specs.List.Sorted.{IsNonDecreasingBy, IsPartitionPoint, IsStrictlyIncreasing}
use Rattle.std.proofs.lemmas.Bool.{cases_lt}
use Rattle.std.proofs.lemmas.List.{map-append, get_or-append-add, get_or_append_left, length-map}
use Rattle.std.proofs.lemmas.List.Kept.{AllPairs-from_increasing}
use Rattle.lake_model.specs.Layout.{Part, Place, positions_of}
use Rattle.list_laws.specs.Distinct.{Lacks}
use Rattle.segment_core.specs.Positions.{AreFull, PositionsRise, first_load, loads_of}
use Rattle.segment_core.specs.Versions.{part_at, part_with}
use Rattle.list_laws.proofs.ListLemmas.{all_append}

-- ---- increasing lists

rise_first : (xs ys : List ℕ) → IsStrictlyIncreasing (xs ++ ys) → IsStrictlyIncreasing xs
rise_first xs ys h k l = omega (arith, get_or_append_left xs ys 0 k (omega arith), get_or_append_left xs ys 0 (k + 1) l, h k (omega (arith, length-append xs ys)))

rise_rest : (xs ys : List ℕ) → IsStrictlyIncreasing (xs ++ ys) → IsStrictlyIncreasing ys
rise_rest xs ys h k l =
    let e : length xs + k + 1 ≡ length xs + (k + 1) = omega arith in
    let next : slice_index (xs ++ ys) (length xs + k + 1) ≡ slice_index ys (k + 1) = ap (λ (n : ℕ). slice_index (xs ++ ys) n) e ∙ get_or-append-add xs ys (k + 1) 0 in
    omega (arith, get_or-append-add xs ys k 0, next, h (length xs + k) (omega (arith, length-append xs ys)))

rise_apart : (xs ys : List ℕ) (i j : ℕ) → IsStrictlyIncreasing (xs ++ ys) → i < length xs → j < length ys → slice_index xs i < slice_index ys j
rise_apart xs ys i j h l m =
    omega (arith, get_or_append_left xs ys 0 i l, get_or-append-add xs ys j 0, AllPairs-from_increasing (xs ++ ys) h i (length xs + j) 0 (omega arith) (omega (arith, length-append xs ys)))

pub rise_far : (xs : List ℕ) (i j : ℕ) → IsStrictlyIncreasing xs → i ≤ j → j < length xs → slice_index xs i ≤ slice_index xs j
rise_far xs zero zero h l m = omega arith
rise_far xs zero (suc j) h l m = omega (arith, AllPairs-from_increasing xs h 0 (suc j) 0 (omega arith) m)
rise_far xs (suc i) zero h l m = absurd (omega arith)
rise_far [] (suc i) (suc j) h l m = absurd (omega arith)
rise_far (x ∷ xs) (suc i) (suc j) h l m = rise_far xs i j (rise_rest (x ∷ []) xs h) (omega arith) (omega arith)

pub lacks_by : (xs : List ℕ) (n : ℕ) → ((i : ℕ) → i < length xs → slice_index xs i ≡ n → ⊥) → Lacks xs n
lacks_by [] n h = tt
lacks_by (x ∷ xs) n h = (h zero (omega arith), lacks_by xs n (λ i l. h (suc i) (omega arith)))

-- ---- parts whose positions increase

pub positions-cons : (part : Part) (parts : List Part) → positions_of (part ∷ parts) ≡ loads_of part ++ positions_of parts
positions-cons part parts = map-append (λ (place : Place). place.position) part.places (flat_map (λ (part : Part). part.places) parts)

length-positions : (part : Part) (parts : List Part) → length (positions_of (part ∷ parts)) ≡ length (loads_of part) + length (positions_of parts)
length-positions part parts = ap length (positions-cons part parts) ∙ length-append (loads_of part) (positions_of parts)

rises_cons : (part : Part) (parts : List Part) → PositionsRise (part ∷ parts) → IsStrictlyIncreasing (loads_of part ++ positions_of parts)
rises_cons part parts h = subst IsStrictlyIncreasing (positions-cons part parts) h

rises_rest : (part : Part) (parts : List Part) → PositionsRise (part ∷ parts) → PositionsRise parts
rises_rest part parts h = rise_rest (loads_of part) (positions_of parts) (rises_cons part parts h)

has_first : (part : Part) → 0 < length part.places → 0 < length (loads_of part)
has_first part h = omega (arith, length-map part.places (λ (place : Place). place.position))

pub part_rises : (parts : List Part) (k : ℕ) → PositionsRise parts → k < length parts → IsStrictlyIncreasing (loads_of (part_at parts k))
part_rises [] k h l = absurd (omega arith)
part_rises (part ∷ parts) zero h l = rise_first (loads_of part) (positions_of parts) (rises_cons part parts h)
part_rises (part ∷ parts) (suc k) h l = part_rises parts k (rises_rest part parts h) (omega arith)

pub part_within : (parts : List Part) (k : ℕ) → k < length parts → length (loads_of (part_at parts k)) ≤ length (positions_of parts)
part_within [] k l = absurd (omega arith)
part_within (part ∷ parts) zero l = omega (arith, length-positions part parts)
part_within (part ∷ parts) (suc k) l = omega (arith, length-positions part parts, part_within parts k (omega arith))

-- what is below each position is below the first of each part
below_firsts : (m : ℕ) (parts : List Part) (k : ℕ) (d : Part) → ((j : ℕ) → j < length (positions_of parts) → m < slice_index (positions_of parts) j) → AreFull parts → k < length parts → m < first_load (get_or parts k d)
below_firsts m [] k d h full l = absurd (omega arith)
below_firsts m (part ∷ parts) zero d h full l =
    let first = has_first part full.0 in
    let is : slice_index (positions_of (part ∷ parts)) 0 ≡ first_load part = ap (λ (ns : List ℕ). slice_index ns 0) (positions-cons part parts) ∙ get_or_append_left (loads_of part) (positions_of parts) 0 0 first in
    omega (arith, is, h 0 (omega (arith, first, length-positions part parts)))
below_firsts m (part ∷ parts) (suc k) d h full l = below_firsts m parts k d (λ j w.
    let at = length (loads_of part) + j in
    let is : slice_index (positions_of (part ∷ parts)) at ≡ slice_index (positions_of parts) j = ap (λ (ns : List ℕ). slice_index ns at) (positions-cons part parts) ∙ get_or-append-add (loads_of part) (positions_of parts) j 0 in
    omega (arith, is, h at (omega (arith, length-positions part parts)))) full.1 (omega arith)

-- the loads of a part are below the first of each later one
later_first : (part : Part) (parts : List Part) (i k : ℕ) (d : Part) → PositionsRise (part ∷ parts) → AreFull parts → i < length (loads_of part) → k < length parts → slice_index (loads_of part) i < first_load (get_or parts k d)
later_first part parts i k d h full l w =
    below_firsts (slice_index (loads_of part) i) parts k d (λ j m. rise_apart (loads_of part) (positions_of parts) i j (rises_cons part parts h) l m) full w

pub firsts_rise : (parts : List Part) → PositionsRise parts → AreFull parts → IsNonDecreasingBy first_load parts
firsts_rise [] h full i j d l m = absurd (omega arith)
firsts_rise (part ∷ parts) h full zero zero d l m = omega arith
firsts_rise (part ∷ parts) h full zero (suc j) d l m = omega (arith, later_first part parts 0 j d h full.1 (has_first part full.0) (omega arith))
firsts_rise (part ∷ parts) h full (suc i) zero d l m = absurd (omega arith)
firsts_rise (part ∷ parts) h full (suc i) (suc j) d l m = firsts_rise parts (rises_rest part parts h) full.1 i j d (omega arith) (omega arith)

lacks_both : (part : Part) (parts : List Part) (n : ℕ) → Lacks (loads_of part) n → Lacks (positions_of parts) n → Lacks (positions_of (part ∷ parts)) n
lacks_both part parts n h k = subst (λ (ns : List ℕ). Lacks ns n) (sym (positions-cons part parts)) (all_append (λ (m : ℕ). m ≡ n → ⊥) (loads_of part) (positions_of parts) h k)

lacks_behind : (part : Part) (parts : List Part) (n : ℕ) → PositionsRise (part ∷ parts) → n < first_load part → Lacks (loads_of part) n
lacks_behind part parts n h l = lacks_by (loads_of part) n (λ i m e. omega (arith, e, l, rise_far (loads_of part) 0 i (part_rises (part ∷ parts) 0 h (omega arith)) (omega arith) m))

none_behind : (parts : List Part) (n : ℕ) → PositionsRise parts → ((k : ℕ) → k < length parts → n < first_load (part_at parts k)) → Lacks (positions_of parts) n
none_behind [] n h behind = tt
none_behind (part ∷ parts) n h behind =
    lacks_both part parts n (lacks_behind part parts n h (behind 0 (omega arith))) (none_behind parts n (rises_rest part parts h) (λ k l. behind (suc k) (omega arith)))

-- a position that is missing from the last part that begins at or before it
pub none_else : (parts : List Part) (last n : ℕ) → PositionsRise parts → AreFull parts → last < length parts → first_load (part_at parts last) ≤ n → ((k : ℕ) → last < k → k < length parts → n < first_load (part_at parts k)) → Lacks (loads_of (part_at parts last)) n → Lacks (positions_of parts) n
none_else [] last n h full l begun behind lacks = absurd (omega arith)
none_else (part ∷ parts) zero n h full l begun behind lacks =
    lacks_both part parts n lacks (none_behind parts n (rises_rest part parts h) (λ k m. behind (suc k) (omega arith) (omega arith)))
none_else (part ∷ parts) (suc last) n h full l begun behind lacks =
    let before = lacks_by (loads_of part) n (λ i m e. omega (arith, e, begun, later_first part parts i last (part_with 0 []) h full.1 m (omega arith))) in
    lacks_both part parts n before (none_else parts last n (rises_rest part parts h) full.1 (omega arith) begun (λ k m w. behind (suc k) (omega arith) (omega arith)) lacks)

-- ---- the results of the two searches

pub record Begun (parts : List Part) (n count : ℕ) : Type 0 where
  pub within : count ≤ length parts
  pub before : (k : ℕ) → k < count → first_load (part_at parts k) ≤ n
  pub behind : (k : ℕ) → count ≤ k → k < length parts → n < first_load (part_at parts k)

pub begun : (parts : List Part) (n count : ℕ) → count ≤ length parts → IsPartitionPoint (λ (part : Part). leb (first_load part) n ≡ true) (λ (part : Part). leb (first_load part) n ≡ false) parts count → Begun parts n count
begun parts n count within point = record {
  within = within;
  before = λ k l. leb-true _ n (point.0 k (part_with 0 []) (omega arith) l);
  behind = λ k l m. leb-false _ n (point.1 k (part_with 0 []) l m);
}

pub lacks_found : (xs : List ℕ) (n i : ℕ) → ((k : ℕ) → k < i → slice_index xs k < n) → ((k : ℕ) → i ≤ k → k < length xs → n < slice_index xs k) → Lacks xs n
lacks_found xs n i below above = lacks_by xs n (λ k l e. ⊎_elim (λ m. omega (arith, e, below k m)) (λ m. omega (arith, e, above k m l)) (cases_lt k i))

pub none_begun : (parts : List Part) (n count : ℕ) → PositionsRise parts → Begun parts n count → count ≡ 0 → Lacks (positions_of parts) n
none_begun parts n count h b e = none_behind parts n h (λ k l. b.behind k (omega arith) l)

pub last_lacks : (parts : List Part) (n count last : ℕ) → PositionsRise parts → AreFull parts → Begun parts n count → count ≡ last + 1 → Lacks (loads_of (part_at parts last)) n → Lacks (positions_of parts) n
last_lacks parts n count last h full b e lacks = none_else parts last n h full (omega (arith, b.within)) (b.before last (omega arith)) (λ k m w. b.behind k (omega arith) w) lacks

-- what holds in any case holds if there is no value
pub if_none : {X : Type 0} (value : Option X) (P : Type 0) → P → IfNone value P
if_none None P p = p
if_none (Some x) P p = tt
