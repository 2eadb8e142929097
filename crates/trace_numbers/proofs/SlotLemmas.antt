-- Owners of positions, from none to all.
use Rattle.std.proofs.Common.{◌≡◌, refl, ap, sym, ◌∙◌, subst, ℕ, zero, suc, ◌+◌, ◌-◌, ◌<◌, ◌≤◌, ◌⊎◌, inl, inr, List, [], ◌∷◌, ◌++◌, map, length, get_or, take, drop, Bool, true, false, Option, Some, None, arith}
use Rattle.std.specs.Prelude.{◌==◌, ◌&&◌, nat_lt, slice_set}
use Rattle.std.specs.List.{list_all, list_any}
use Rattle.std.proofs.lemmas.Bool.{eq-eqb, eqb-true, and_parts}
use Rattle.std.proofs.lemmas.Bool.Decides.{nat_tests}
use Rattle.std.proofs.lemmas.List.{get_or-set_same, get_or-set_other, length-set, length-map}
use Rattle.std.proofs.Math.Seq.{take-append_seam}
use Rattle.list_laws.proofs.ListLemmas.{joined, not_both}
use Rattle.trace_laws.specs.Hints.{Hint, Wanting}
use Rattle.trace_laws.specs.Rebuilt.{Hinted, is_at}
use Rattle.trace_laws.specs.Verdict.{counted}
use Rattle.trace_laws.specs.Passing.{are_apart, is_filled}
use Rattle.trace_hints.specs.declared.hint.Hint.{Hint as Declared}
use Rattle.trace_hints.specs.Told.{hint_as}
use Rattle.trace_numbers.specs.Positions.{AreOwners, accepted_of, own_of}
use Rattle.trace_numbers.specs.Slots.{ArePut, IsFree}
use Rattle.trace_numbers.proofs.ApartLemmas.{any_index, apart_by, apart_same, at_own, counted_is, filled_by, index_any, own_stands, told}
use Rattle.trace_numbers.proofs.WithinLemmas.{filled_within}
use Rattle.trace_laws.proofs.DecidingLemmas.{filled_at}

-- ---- one more step

pub put_none : (hints : List Hint) (n : ℕ) (owners : List ℕ) → ArePut hints n owners → own_of (get_or hints n Wanting) ≡ None → ArePut hints (n + 1) owners
put_none hints n owners before none = record {
  held = λ p low. later p (before.held p low);
  put = λ i at low own. by i at low own (i == n) refl;
}
  where
    later : (p : ℕ) → (get_or owners p 0 ≡ length hints) ⊎ ((get_or owners p 0 < n) × (is_at (p + 1) (get_or hints (get_or owners p 0) Wanting) ≡ true))
        → (get_or owners p 0 ≡ length hints) ⊎ ((get_or owners p 0 < n + 1) × (is_at (p + 1) (get_or hints (get_or owners p 0) Wanting) ≡ true))
    later p (inl e) = inl e
    later p (inr h) = let low : get_or owners p 0 < n = h.0 in inr (omega (arith, low), h.1)

    by : (i at : ℕ) → i < n + 1 → own_of (get_or hints i Wanting) ≡ Some at → (b : Bool) → (i == n) ≡ b → (0 < at) × (at ≤ length owners) × (get_or owners (at - 1) 0 ≡ i)
    by i at low own true e = let same : i ≡ n = eqb-true i n e in let no : own_of (get_or hints i Wanting) ≡ None = ap (λ (m : ℕ). own_of (get_or hints m Wanting)) same ∙ none in cc
    by i at low own false e = before.put i at (grind (arith, nat_tests, e, low)) own

pub put_more : (hints : List Hint) (n at : ℕ) (owners : List ℕ) → ArePut hints n owners → n < length hints → own_of (get_or hints n Wanting) ≡ Some at → IsFree owners at (length hints) → ArePut hints (n + 1) (slice_set owners (at - 1) n)
put_more hints n at owners before below own free = record {
  held = λ p low. held p (let long = length-set owners (at - 1) n in omega (arith, long, low)) (p == at - 1) refl;
  put = λ i a low o. put i a low o (i == n) refl;
}
  where
    some : 0 < at
    some = free.some

    within : at ≤ length owners
    within = free.within

    long : length (slice_set owners (at - 1) n) ≡ length owners
    long = length-set owners (at - 1) n

    here : get_or (slice_set owners (at - 1) n) (at - 1) 0 ≡ n
    here = get_or-set_same owners (at - 1) n 0 (omega (arith, some, within))

    elsewhere : (p : ℕ) → (p ≡ at - 1 → ⊥) → get_or (slice_set owners (at - 1) n) p 0 ≡ get_or owners p 0
    elsewhere p other = get_or-set_other owners (at - 1) p n 0 other

    later : (p : ℕ) → (get_or owners p 0 ≡ length hints) ⊎ ((get_or owners p 0 < n) × (is_at (p + 1) (get_or hints (get_or owners p 0) Wanting) ≡ true))
        → (get_or owners p 0 ≡ length hints) ⊎ ((get_or owners p 0 < n + 1) × (is_at (p + 1) (get_or hints (get_or owners p 0) Wanting) ≡ true))
    later p (inl e) = inl e
    later p (inr h) = let low : get_or owners p 0 < n = h.0 in inr (omega (arith, low), h.1)

    held : (p : ℕ) → p < length owners → (b : Bool) → (p == at - 1) ≡ b → (get_or (slice_set owners (at - 1) n) p 0 ≡ length hints) ⊎ ((get_or (slice_set owners (at - 1) n) p 0 < n + 1) × (is_at (p + 1) (get_or hints (get_or (slice_set owners (at - 1) n) p 0) Wanting) ≡ true))
    held p low true e =
        let same : p ≡ at - 1 = eqb-true p (at - 1) e in
        let owner : get_or (slice_set owners (at - 1) n) p 0 ≡ n = ap (λ (m : ℕ). get_or (slice_set owners (at - 1) n) m 0) same ∙ here in
        let position : at ≡ p + 1 = omega (arith, same, some) in
        let stands : is_at (p + 1) (get_or hints n Wanting) ≡ true = subst (λ (m : ℕ). is_at m (get_or hints n Wanting) ≡ true) position (own_stands (get_or hints n Wanting) at own) in
        inr (omega (arith, owner), ap (λ (m : ℕ). is_at (p + 1) (get_or hints m Wanting)) owner ∙ stands)
    held p low false e =
        let same : get_or (slice_set owners (at - 1) n) p 0 ≡ get_or owners p 0 = elsewhere p (λ s. not_both ⊥ (p == at - 1) (eq-eqb p (at - 1) s) e) in
        subst (λ (owner : ℕ). (owner ≡ length hints) ⊎ ((owner < n + 1) × (is_at (p + 1) (get_or hints owner Wanting) ≡ true))) (sym same) (later p (before.held p low))

    old : (i a : ℕ) → i < n → own_of (get_or hints i Wanting) ≡ Some a → (0 < a) × (a ≤ length (slice_set owners (at - 1) n)) × (get_or (slice_set owners (at - 1) n) (a - 1) 0 ≡ i)
    old i a low o =
        let was = before.put i a low o in
        let is : get_or owners (a - 1) 0 ≡ i = was.2 in
        let nobody : get_or owners (at - 1) 0 ≡ length hints = free.free in
        let other : a - 1 ≡ at - 1 → ⊥ = λ s. let same = ap (λ (m : ℕ). get_or owners m 0) s in omega (arith, same, is, nobody, low, below) in
        (was.0, (let w : a ≤ length owners = was.1 in omega (arith, w, long)), elsewhere (a - 1) other ∙ is)

    put : (i a : ℕ) → i < n + 1 → own_of (get_or hints i Wanting) ≡ Some a → (b : Bool) → (i == n) ≡ b → (0 < a) × (a ≤ length (slice_set owners (at - 1) n)) × (get_or (slice_set owners (at - 1) n) (a - 1) 0 ≡ i)
    put i a low o true e =
        let same : i ≡ n = eqb-true i n e in
        let both_own : Some a ≡ Some at = sym o ∙ ap (λ (m : ℕ). own_of (get_or hints m Wanting)) same ∙ own in
        let positions : a ≡ at = cc in
        (omega (arith, positions, some), omega (arith, positions, within, long), ap (λ (m : ℕ). get_or (slice_set owners (at - 1) n) (m - 1) 0) positions ∙ here ∙ sym same)
    put i a low o false e = old i a (grind (arith, nat_tests, e, low)) o

-- ---- when an answer cannot be stored

abbrev pub is_whole : List Hinted → Bool
is_whole hinted = are_apart hinted && is_filled hinted (counted hinted)

pub not_whole : (hinted : List Hinted) (n at : ℕ) (owners : List ℕ) → ArePut (told hinted) n owners → n < length (told hinted) → length owners ≡ accepted_of (told hinted)
    → own_of (get_or (told hinted) n Wanting) ≡ Some at → (IsFree owners at (length (told hinted)) → ⊥) → is_whole hinted ≡ false
not_whole hinted n at owners before below long own unfree = by (is_whole hinted) refl
  where
    taken : are_apart hinted ≡ true → (get_or owners (at - 1) 0 ≡ length (told hinted)) ⊎ ((get_or owners (at - 1) 0 < n) × (is_at (at - 1 + 1) (get_or (told hinted) (get_or owners (at - 1) 0) Wanting) ≡ true))
        → 0 < at → get_or owners (at - 1) 0 ≡ length (told hinted)
    taken apart (inl e) some = e
    taken apart (inr h) some =
        let position : at - 1 + 1 ≡ at = omega (arith, some) in
        let there : is_at at (get_or (told hinted) (get_or owners (at - 1) 0) Wanting) ≡ true = subst (λ (m : ℕ). is_at m (get_or (told hinted) (get_or owners (at - 1) 0) Wanting) ≡ true) position h.1 in
        let same = apart_same hinted at (get_or owners (at - 1) 0) n apart there (own_stands (get_or (told hinted) n Wanting) at own) in
        let low : get_or owners (at - 1) 0 < n = h.0 in
        absurd (omega (arith, same, low))

    by : (b : Bool) → is_whole hinted ≡ b → is_whole hinted ≡ false
    by true e =
        let parts = and_parts (are_apart hinted) (is_filled hinted (counted hinted)) e in
        let within = filled_within hinted n at parts.1 own in
        let some : 0 < at = within.0 in
        let low : at ≤ counted hinted = within.1 in
        let few : at ≤ length owners = omega (arith, low, counted_is hinted, long) in
        absurd (unfree (record { some = some; within = few; free = taken parts.0 (before.held (at - 1) (omega (arith, some, few))) some }))
    by false e = e

pub refused : (hints : List Hint) (n at : ℕ) (owners : List ℕ) → ArePut hints n owners → n < length hints → length owners ≡ accepted_of hints → own_of (get_or hints n Wanting) ≡ Some at → (IsFree owners at (length hints) → ⊥)
    → (hinted : List Hinted) → told hinted ≡ hints → is_whole hinted ≡ false
refused hints n at owners before below long own unfree hinted e =
    subst (λ (hs : List Hint). ArePut hs n owners → n < length hs → length owners ≡ accepted_of hs → own_of (get_or hs n Wanting) ≡ Some at → (IsFree owners at (length hs) → ⊥) → is_whole hinted ≡ false) e
    (not_whole hinted n at owners) before below long own unfree

-- ---- the end

all_low : (owners : List ℕ) (n p : ℕ) → list_all (λ owner. nat_lt owner n) owners ≡ true → p < length owners → get_or owners p 0 < n
all_low [] n p h low = absurd (omega (arith, low))
all_low (x ∷ owners) n zero h low = let k = and_parts (nat_lt x n) (list_all (λ owner. nat_lt owner n) owners) h in grind (arith, nat_tests, k.0)
all_low (x ∷ owners) n (suc p) h low = all_low owners n p (and_parts (nat_lt x n) (list_all (λ owner. nat_lt owner n) owners) h).1 (omega (arith, low))

low_all : (owners : List ℕ) (n : ℕ) → ((p : ℕ) → p < length owners → get_or owners p 0 < n) → list_all (λ owner. nat_lt owner n) owners ≡ true
low_all [] n h = refl
low_all (x ∷ owners) n h =
    let first : x < n = h 0 (omega arith) in
    joined (nat_lt x n) (list_all (λ owner. nat_lt owner n) owners) (grind (arith, nat_tests, first)) (low_all owners n (λ p low. h (suc p) (omega (arith, low))))

-- the index of a hint with a position of its own is below the number of hints
pub stands_below : (hints : List Hint) (p i : ℕ) → is_at p (get_or hints i Wanting) ≡ true → i < length hints
stands_below [] p i h = cc
stands_below (x ∷ hints) p zero h = omega arith
stands_below (x ∷ hints) p (suc i) h = let low = stands_below hints p i h in omega (arith, low)

put_here : (hints : List Hint) (owners : List ℕ) (p i : ℕ) → ArePut hints (length hints) owners → is_at p (get_or hints i Wanting) ≡ true → (0 < p) × (p ≤ length owners) × (get_or owners (p - 1) 0 ≡ i)
put_here hints owners p i all h = all.put i p (stands_below hints p i h) (at_own (get_or hints i Wanting) p h)

held_here : (hints : List Hint) (owners : List ℕ) (p : ℕ) → ArePut hints (length hints) owners → p < length owners → get_or owners p 0 < length hints → is_at (p + 1) (get_or hints (get_or owners p 0) Wanting) ≡ true
held_here hints owners p all low taken = by (all.held p low)
  where
    by : (get_or owners p 0 ≡ length hints) ⊎ ((get_or owners p 0 < length hints) × (is_at (p + 1) (get_or hints (get_or owners p 0) Wanting) ≡ true)) → is_at (p + 1) (get_or hints (get_or owners p 0) Wanting) ≡ true
    by (inl e) = absurd (omega (arith, e, taken))
    by (inr h) = h.1

pub put_owners : (hints : List Hint) (owners : List ℕ) → ArePut hints (length hints) owners → length owners ≡ accepted_of hints → list_all (λ owner. nat_lt owner (length hints)) owners ≡ true → AreOwners hints owners
put_owners hints owners all long taken = record {
  many = long;
  each = λ p low. record {
    stands = held_here hints owners p all low (all_low owners (length hints) p taken low);
    only = λ i h. only p i (put_here hints owners (p + 1) i all h);
  };
}
  where
    only : (p i : ℕ) → (0 < p + 1) × (p + 1 ≤ length owners) × (get_or owners (p + 1 - 1) 0 ≡ i) → i ≡ get_or owners p 0
    only p i h = let same : p + 1 - 1 ≡ p = omega arith in sym (ap (λ (m : ℕ). get_or owners m 0) (sym same) ∙ h.2)

pub put_whole : (hinted : List Hinted) (owners : List ℕ) → ArePut (told hinted) (length (told hinted)) owners → length owners ≡ accepted_of (told hinted) → list_all (λ owner. nat_lt owner (length (told hinted))) owners ≡ true → is_whole hinted ≡ true
put_whole hinted owners all long taken =
    joined (are_apart hinted) (is_filled hinted (counted hinted)) (apart_by hinted one)
    (filled_by hinted (counted hinted) (λ l low. let below : l < length owners = omega (arith, low, long, counted_is hinted) in filled l (held_here (told hinted) owners l all below (all_low owners (length (told hinted)) l taken below))))
  where
    one : (p i j : ℕ) → is_at p (get_or (told hinted) i Wanting) ≡ true → is_at p (get_or (told hinted) j Wanting) ≡ true → i ≡ j
    one p i j hi hj = sym (put_here (told hinted) owners p i all hi).2 ∙ (put_here (told hinted) owners p j all hj).2

    filled : (l : ℕ) → is_at (l + 1) (get_or (told hinted) (get_or owners l 0) Wanting) ≡ true → list_any (λ (h : Hinted). is_at (suc l) h.hint) hinted ≡ true
    filled l h = let same : l + 1 ≡ suc l = omega arith in index_any (suc l) (get_or owners l 0) hinted (subst (λ (m : ℕ). is_at m (get_or (told hinted) (get_or owners l 0) Wanting) ≡ true) same h)

-- a position without an owner is not filled
pub hole_whole : (hinted : List Hinted) (owners : List ℕ) → ArePut (told hinted) (length (told hinted)) owners → length owners ≡ accepted_of (told hinted) → list_all (λ owner. nat_lt owner (length (told hinted))) owners ≡ false → is_whole hinted ≡ false
hole_whole hinted owners all long hole = by (is_whole hinted) refl
  where
    low : is_filled hinted (counted hinted) ≡ true → (p : ℕ) → p < length owners → get_or owners p 0 < length (told hinted)
    low filled p below =
        let found = any_index (suc p) hinted (filled_at hinted (counted hinted) p filled (omega (arith, below, long, counted_is hinted))) in
        let put = put_here (told hinted) owners (suc p) found.0 all found.2 in
        let same : suc p - 1 ≡ p = omega arith in
        let owner : get_or owners p 0 ≡ found.0 = ap (λ (m : ℕ). get_or owners m 0) (sym same) ∙ put.2 in
        let few : found.0 < length (told hinted) = found.1 in
        omega (arith, owner, few)

    by : (b : Bool) → is_whole hinted ≡ b → is_whole hinted ≡ false
    by true e =
        let parts = and_parts (are_apart hinted) (is_filled hinted (counted hinted)) e in
        absurd (not_both ⊥ (list_all (λ owner. nat_lt owner (length (told hinted))) owners) (low_all owners (length (told hinted)) (low parts.1)) hole)
    by false e = e

-- ---- the answers in the code

pub whole_of : (hints : List Hint) (owners : List ℕ) → ArePut hints (length hints) owners → length owners ≡ accepted_of hints → (b : Bool) → list_all (λ owner. nat_lt owner (length hints)) owners ≡ b → (hinted : List Hinted) → told hinted ≡ hints → b ≡ is_whole hinted
whole_of hints owners all long b taken hinted e =
    subst (λ (hs : List Hint). ArePut hs (length hs) owners → length owners ≡ accepted_of hs → list_all (λ owner. nat_lt owner (length hs)) owners ≡ b → b ≡ is_whole hinted) e (by b) all long taken
  where
    by : (b : Bool) → ArePut (told hinted) (length (told hinted)) owners → length owners ≡ accepted_of (told hinted) → list_all (λ owner. nat_lt owner (length (told hinted))) owners ≡ b → b ≡ is_whole hinted
    by true all long taken = sym (put_whole hinted owners all long taken)
    by false all long taken = sym (hole_whole hinted owners all long taken)

own_here : (hints : List Declared) (i : ℕ) (d : Declared) (o : Option ℕ) → i < length hints → o ≡ own_of (hint_as (get_or hints i d)) → own_of (get_or (map hint_as hints) i Wanting) ≡ o
own_here [] i d o low e = absurd (omega (arith, low))
own_here (x ∷ hints) zero d o low e = sym e
own_here (x ∷ hints) (suc i) d o low e = own_here hints i d o (omega (arith, low)) e

free_here : (hints : List Declared) (owners : List ℕ) (at : ℕ) → IsFree owners at (length hints) → IsFree owners at (length (map hint_as hints))
free_here hints owners at free = subst (IsFree owners at) (sym (length-map hints hint_as)) free

free_back : (hints : List Declared) (owners : List ℕ) (at : ℕ) → IsFree owners at (length (map hint_as hints)) → IsFree owners at (length hints)
free_back hints owners at free = subst (IsFree owners at) (length-map hints hint_as) free

pub refused_here : (hints : List Declared) (n at : ℕ) (d : Declared) (o : Option ℕ) (owners : List ℕ) → ArePut (map hint_as hints) n owners → n < length hints → length owners ≡ accepted_of (map hint_as hints) → o ≡ own_of (hint_as (get_or hints n d)) → o ≡ Some at
    → (IsFree owners at (length hints) → ⊥) → (hinted : List Hinted) → told hinted ≡ map hint_as hints → is_whole hinted ≡ false
refused_here hints n at d o owners before below long own some unfree =
    refused (map hint_as hints) n at owners before (let size = length-map hints hint_as in omega (arith, size, below)) long (own_here hints n d o below own ∙ some) (λ free. unfree (free_back hints owners at free))

pub none_here : (hints : List Declared) (n : ℕ) (d : Declared) (o : Option ℕ) (owners : List ℕ) → ArePut (map hint_as hints) n owners → n < length hints → o ≡ own_of (hint_as (get_or hints n d)) → o ≡ None → ArePut (map hint_as hints) (n + 1) owners
none_here hints n d o owners before below own none = put_none (map hint_as hints) n owners before (own_here hints n d o below own ∙ none)

pub more_here : (hints : List Declared) (n at : ℕ) (d : Declared) (o : Option ℕ) (owners after : List ℕ) → ArePut (map hint_as hints) n owners → n < length hints → o ≡ own_of (hint_as (get_or hints n d)) → o ≡ Some at
    → IsFree owners at (length hints) × (after ≡ slice_set owners (at - 1) n) → ArePut (map hint_as hints) (n + 1) after
more_here hints n at d o owners after before below own some put =
    subst (ArePut (map hint_as hints) (n + 1)) (sym put.1)
    (put_more (map hint_as hints) n at owners before (let size = length-map hints hint_as in omega (arith, size, below)) (own_here hints n d o below own ∙ some) (free_here hints owners at put.0))

-- what a vector holds again after a loan
pub lent_back : (xs items : List ℕ) (n : ℕ) → length xs ≡ n → take n (xs ++ drop (length xs) items) ≡ xs
lent_back xs items n e = ap (λ (m : ℕ). take m (xs ++ drop (length xs) items)) (sym e) ∙ take-append_seam xs (drop (length xs) items)

pub end_here : (hints : List Declared) (owners held : List ℕ) (b : Bool) → ArePut (map hint_as hints) (length hints) owners → length owners ≡ accepted_of (map hint_as hints) → held ≡ owners → b ≡ list_all (λ owner. nat_lt owner (length hints)) held
    → (hinted : List Hinted) → told hinted ≡ map hint_as hints → b ≡ is_whole hinted
end_here hints owners held b all long same taken =
    let size = sym (length-map hints hint_as) in
    whole_of (map hint_as hints) owners (subst (λ (n : ℕ). ArePut (map hint_as hints) n owners) size all) long b
    (sym (taken ∙ ap (λ (xs : List ℕ). list_all (λ owner. nat_lt owner (length hints)) xs) same ∙ ap (λ (n : ℕ). list_all (λ owner. nat_lt owner n) owners) size))

pub owners_here : (hints : List Declared) (owners held : List ℕ) → ArePut (map hint_as hints) (length hints) owners → length owners ≡ accepted_of (map hint_as hints) → held ≡ owners → true ≡ list_all (λ owner. nat_lt owner (length hints)) held
    → AreOwners (map hint_as hints) owners
owners_here hints owners held all long same taken =
    let size = sym (length-map hints hint_as) in
    put_owners (map hint_as hints) owners (subst (λ (n : ℕ). ArePut (map hint_as hints) n owners) size all) long
    (sym (taken ∙ ap (λ (xs : List ℕ). list_all (λ owner. nat_lt owner (length hints)) xs) same ∙ ap (λ (n : ℕ). list_all (λ owner. nat_lt owner n) owners) size))
