-- The positions of entries: no two at one position, and each position filled.
use Rattle.std.proofs.Common.{◌≡◌, refl, ap, sym, ◌∙◌, ℕ, zero, suc, ◌<◌, List, [], ◌∷◌, map, length, get_or, Bool, true, false, not, cond, Option, Some, None, arith}
use Rattle.std.specs.Prelude.{◌==◌, ◌||◌, find, is_some, nat_lt, slice_get}
use Rattle.std.specs.List.{list_any}
use Rattle.std.proofs.lemmas.Bool.{eq-eqb, eqb-true, and_parts}
use Rattle.std.proofs.lemmas.Bool.Decides.{nat_tests}
use Rattle.std.proofs.lemmas.List.Sums.{sum_by-cons}
use Rattle.list_laws.proofs.ListLemmas.{joined}
use Rattle.record_model.specs.Answered.{Nowhere, Saw, Added, PlannedAndSaw, PlannedAndAdded}
use Rattle.trace_laws.specs.Hints.{Hint, Wanting, Stands}
use Rattle.trace_laws.specs.Rebuilt.{Hinted, is_at}
use Rattle.trace_laws.specs.Verdict.{puts_one}
use Rattle.trace_laws.specs.Passing.{are_apart, is_apart, is_filled}
use Rattle.trace_numbers.specs.Positions.{CountedIsAccepted, OwnerIsFound, own_of}

abbrev pub told : List Hinted → List Hint
told hinted = map (λ h. h.hint) hinted

-- ---- one hint

pub own_at : (hint : Hint) (at n : ℕ) → own_of hint ≡ Some at → is_at n hint ≡ (at == n)
own_at Wanting at n e = cc
own_at (Stands Nowhere) at n e = cc
own_at (Stands (Saw p)) at n e = cc
own_at (Stands (Added p)) at n e = let same : p ≡ at = cc in ap (λ (m : ℕ). m == n) same
own_at (Stands (PlannedAndSaw q p)) at n e = cc
own_at (Stands (PlannedAndAdded q p)) at n e = let same : p ≡ at = cc in ap (λ (m : ℕ). m == n) same

pub own_stands : (hint : Hint) (at : ℕ) → own_of hint ≡ Some at → is_at at hint ≡ true
own_stands hint at e = own_at hint at at e ∙ eq-eqb at at refl

pub at_own : (hint : Hint) (n : ℕ) → is_at n hint ≡ true → own_of hint ≡ Some n
at_own Wanting n e = cc
at_own (Stands Nowhere) n e = cc
at_own (Stands (Saw p)) n e = cc
at_own (Stands (Added p)) n e = ap Some (eqb-true p n e)
at_own (Stands (PlannedAndSaw q p)) n e = cc
at_own (Stands (PlannedAndAdded q p)) n e = ap Some (eqb-true p n e)

apart_own : (hint : Hint) (hinted : List Hinted) (at : ℕ) → own_of hint ≡ Some at → is_apart hint hinted ≡ not (list_any (λ (h : Hinted). is_at at h.hint) hinted)
apart_own Wanting hinted at e = cc
apart_own (Stands Nowhere) hinted at e = cc
apart_own (Stands (Saw p)) hinted at e = cc
apart_own (Stands (Added p)) hinted at e = let same : p ≡ at = cc in ap (λ (m : ℕ). not (list_any (λ (h : Hinted). is_at m h.hint) hinted)) same
apart_own (Stands (PlannedAndSaw q p)) hinted at e = cc
apart_own (Stands (PlannedAndAdded q p)) hinted at e = let same : p ≡ at = cc in ap (λ (m : ℕ). not (list_any (λ (h : Hinted). is_at m h.hint) hinted)) same

apart_nowhere : (hint : Hint) (hinted : List Hinted) → own_of hint ≡ None → is_apart hint hinted ≡ true
apart_nowhere Wanting hinted e = refl
apart_nowhere (Stands Nowhere) hinted e = refl
apart_nowhere (Stands (Saw p)) hinted e = refl
apart_nowhere (Stands (Added p)) hinted e = cc
apart_nowhere (Stands (PlannedAndSaw q p)) hinted e = refl
apart_nowhere (Stands (PlannedAndAdded q p)) hinted e = cc

-- ---- the index of the answer at a position

pub any_index : (n : ℕ) (hinted : List Hinted) → list_any (λ (h : Hinted). is_at n h.hint) hinted ≡ true → (i : ℕ) × (i < length (told hinted)) × (is_at n (get_or (told hinted) i Wanting) ≡ true)
any_index n [] h = cc
any_index n (x ∷ hinted) h = by (is_at n x.hint) refl h (any_index n hinted)
  where
    by : (b : Bool) → is_at n x.hint ≡ b → (b || list_any (λ (h : Hinted). is_at n h.hint) hinted) ≡ true
        → (list_any (λ (h : Hinted). is_at n h.hint) hinted ≡ true → (i : ℕ) × (i < length (told hinted)) × (is_at n (get_or (told hinted) i Wanting) ≡ true))
        → (i : ℕ) × (i < length (told (x ∷ hinted))) × (is_at n (get_or (told (x ∷ hinted)) i Wanting) ≡ true)
    by true e h rest = (0, omega arith, e)
    by false e h rest = let k = rest h in let low : k.0 < length (told hinted) = k.1 in (suc k.0, omega (arith, low), k.2)

pub index_any : (n i : ℕ) (hinted : List Hinted) → is_at n (get_or (told hinted) i Wanting) ≡ true → list_any (λ (h : Hinted). is_at n h.hint) hinted ≡ true
index_any n i [] h = cc
index_any n zero (x ∷ hinted) h = ap (λ (b : Bool). b || list_any (λ (h : Hinted). is_at n h.hint) hinted) h
index_any n (suc i) (x ∷ hinted) h = by (is_at n x.hint) (index_any n i hinted h)
  where
    by : (b : Bool) → list_any (λ (h : Hinted). is_at n h.hint) hinted ≡ true → (b || list_any (λ (h : Hinted). is_at n h.hint) hinted) ≡ true
    by true rest = refl
    by false rest = rest

-- ---- no two at one position

apart_two : (hinted : List Hinted) (p i j : ℕ) → are_apart hinted ≡ true → i < j → is_at p (get_or (told hinted) i Wanting) ≡ true → is_at p (get_or (told hinted) j Wanting) ≡ true → ⊥
apart_two [] p i j apart low hi hj = cc
apart_two (x ∷ hinted) p i zero apart low hi hj = absurd (omega (arith, low))
apart_two (x ∷ hinted) p zero (suc j) apart low hi hj =
    let first = and_parts (is_apart x.hint hinted) (are_apart hinted) apart in
    let no : not (list_any (λ (h : Hinted). is_at p h.hint) hinted) ≡ true = sym (apart_own x.hint hinted p (at_own x.hint p hi)) ∙ first.0 in
    let has : list_any (λ (h : Hinted). is_at p h.hint) hinted ≡ true = index_any p j hinted hj in
    let none : false ≡ true = sym (ap not has) ∙ no in
    cc
apart_two (x ∷ hinted) p (suc i) (suc j) apart low hi hj = apart_two hinted p i j (and_parts (is_apart x.hint hinted) (are_apart hinted) apart).1 (omega (arith, low)) hi hj

pub apart_same : (hinted : List Hinted) (p i j : ℕ) → are_apart hinted ≡ true → is_at p (get_or (told hinted) i Wanting) ≡ true → is_at p (get_or (told hinted) j Wanting) ≡ true → i ≡ j
apart_same hinted p i j apart hi hj = by (i == j) refl
  where
    order : (b : Bool) → nat_lt i j ≡ b → (i == j) ≡ false → i ≡ j
    order true f e = absurd (apart_two hinted p i j apart (grind (arith, nat_tests, f)) hi hj)
    order false f e = absurd (apart_two hinted p j i apart (grind (arith, nat_tests, e, f)) hj hi)

    by : (b : Bool) → (i == j) ≡ b → i ≡ j
    by true e = eqb-true i j e
    by false e = order (nat_lt i j) refl e

pub apart_by : (hinted : List Hinted) → ((p i j : ℕ) → is_at p (get_or (told hinted) i Wanting) ≡ true → is_at p (get_or (told hinted) j Wanting) ≡ true → i ≡ j) → are_apart hinted ≡ true
apart_by [] one = refl
apart_by (x ∷ hinted) one = joined (is_apart x.hint hinted) (are_apart hinted) (head (own_of x.hint) refl) (apart_by hinted (λ p i j hi hj. let same : suc i ≡ suc j = one p (suc i) (suc j) hi hj in omega (arith, same)))
  where
    lone : (at : ℕ) → own_of x.hint ≡ Some at → (b : Bool) → list_any (λ (h : Hinted). is_at at h.hint) hinted ≡ b → not b ≡ true
    lone at e true h = let k = any_index at hinted h in let same : 0 ≡ suc k.0 = one at 0 (suc k.0) (own_stands x.hint at e) k.2 in absurd (omega (arith, same))
    lone at e false h = refl

    head : (o : Option ℕ) → own_of x.hint ≡ o → is_apart x.hint hinted ≡ true
    head None e = apart_nowhere x.hint hinted e
    head (Some at) e = apart_own x.hint hinted at e ∙ lone at e (list_any (λ (h : Hinted). is_at at h.hint) hinted) refl

-- ---- each position filled

pub filled_by : (hinted : List Hinted) (n : ℕ) → ((l : ℕ) → l < n → list_any (λ (h : Hinted). is_at (suc l) h.hint) hinted ≡ true) → is_filled hinted n ≡ true
filled_by hinted zero h = refl
filled_by hinted (suc n) h = joined (list_any (λ (h : Hinted). is_at (suc n) h.hint) hinted) (is_filled hinted n) (h n (omega arith)) (filled_by hinted n (λ l low. h l (omega (arith, low))))

-- ---- the laws

one_accepted : (hint : Hint) → puts_one hint ≡ cond (is_some (own_of hint)) 1 0
one_accepted Wanting = refl
one_accepted (Stands Nowhere) = refl
one_accepted (Stands (Saw at)) = refl
one_accepted (Stands (Added at)) = refl
one_accepted (Stands (PlannedAndSaw pinned at)) = refl
one_accepted (Stands (PlannedAndAdded pinned at)) = refl

pub counted_is : CountedIsAccepted
counted_is [] = refl
counted_is (h ∷ hinted) = omega (arith, one_accepted h.hint, counted_is hinted, sum_by-cons (λ hint. cond (is_some (own_of hint)) 1 0) h.hint (told hinted))

pub owner_found : OwnerIsFound
owner_found [] p i owner = let none = owner.stands in cc
owner_found (x ∷ hinted) p zero owner = ap (λ (b : Bool). cond b (Some x) (find (λ (h : Hinted). is_at p h.hint) hinted)) owner.stands
owner_found (x ∷ hinted) p (suc i) owner =
    let only : (j : ℕ) → is_at p (get_or (told (x ∷ hinted)) j Wanting) ≡ true → j ≡ suc i = owner.only in
    by only (owner_found hinted p i (record { stands = owner.stands; only = λ j h. let same : suc j ≡ suc i = only (suc j) h in omega (arith, same) })) (is_at p x.hint) refl
  where
    by : ((j : ℕ) → is_at p (get_or (told (x ∷ hinted)) j Wanting) ≡ true → j ≡ suc i) → find (λ (h : Hinted). is_at p h.hint) hinted ≡ slice_get hinted i
        → (b : Bool) → is_at p x.hint ≡ b → cond (is_at p x.hint) (Some x) (find (λ (h : Hinted). is_at p h.hint) hinted) ≡ slice_get hinted i
    by only rest true e = let same : 0 ≡ suc i = only 0 e in absurd (omega (arith, same))
    by only rest false e = ap (λ (b : Bool). cond b (Some x) (find (λ (h : Hinted). is_at p h.hint) hinted)) e ∙ rest
