-- The turns of answers and the plans of merges.
use Rattle.std.proofs.Common.{◌≡◌, refl, ap, sym, ◌∙◌, subst, ℕ, zero, suc, ◌+◌, ◌<◌, inl, inr, List, [], ◌∷◌, length, get_or, Bool, false, true≢false, Option, Some, None, Result, Ok, Err, arith}
use Rattle.std.specs.Prelude.{is_some, ◌⊎◌, ◌==◌}
use Rattle.std.specs.Result.{IfOk}
use Rattle.std.specs.List.{Contains, IsDistinct}
use Rattle.std.specs.List.Sorted.{IsNonDecreasingBy, IsPermutation}
use Rattle.std.proofs.lemmas.Bool.{eq-eqb}
use Rattle.std.proofs.lemmas.Bool.Decides.{nat_tests}
use Rattle.std.proofs.lemmas.List.Elements.{Contains-append_cases, Contains-append_left, Contains-append_right}
use Rattle.std.proofs.lemmas.List.Sorted.{Contains-permutation, IsPermutation-sym}
use Rattle.std.proofs.lemmas.Map.Keys.{IsDistinct-IsPermutation, IsDistinct-from_apart, apart_from_distinct}
use Rattle.trace_laws.specs.Hints.{Hint, Wanting}
use Rattle.trace_numbers.specs.declared.order.Plan.{Plan}
use Rattle.trace_numbers.specs.declared.order.Turn.{Turn}
use Rattle.trace_numbers.specs.Positions.{own_of}
use Rattle.trace_numbers.specs.Turns.{made_at, plan_of, plan_with, planned_at, plans_from, turn_with, turns_from}
use Rattle.trace_replay.specs.Stretches.{ArePlansOf, AreTurnsOf, IsPlanOf, IsTurnOf}

-- two facts of an `Ok` value give a third
pub ok_both : {T E : Type 0} (result : Result T E) (P Q R : T → Type 0) → IfOk result P → IfOk result Q → ((value : T) → P value → Q value → R value) → IfOk result R
ok_both (Ok value) P Q R p q both = both value p q
ok_both (Err e) P Q R p q both = tt

-- ---- turns

turns_long : (i : ℕ) (hints : List Hint) → length (turns_from i hints) ≡ length hints
turns_long i [] = refl
turns_long i (h ∷ hints) = ap suc (turns_long (i + 1) hints)

turn_at : (i k n : ℕ) (hints : List Hint) (d : Turn) → n ≡ i + k → k < length hints
    → get_or (turns_from i hints) k d ≡ turn_with (made_at (get_or hints k Wanting)) (is_some (own_of (get_or hints k Wanting))) n
turn_at i k n [] d e low = absurd (omega (arith, low))
turn_at i zero n (h ∷ hints) d e low = ap (turn_with (made_at h) (is_some (own_of h))) (let same : i ≡ n = omega (arith, e) in same)
turn_at i (suc k) n (h ∷ hints) d e low = turn_at (i + 1) k n hints d (omega (arith, e)) (omega (arith, low))

turn_is : (hints : List Hint) (turn : Turn) → Contains (turns_from 0 hints) turn → IsTurnOf hints turn
turn_is hints turn (k, low, is) =
    let inside : k < length hints = let long = turns_long 0 hints in omega (arith, low, long) in
    subst (IsTurnOf hints) (sym (turn_at 0 k k hints turn (omega arith) inside) ∙ is) (record { inside = inside; at = refl; adds = refl })

turn_there : (hints : List Hint) (i : ℕ) → i < length hints → Contains (turns_from 0 hints) (turn_with (made_at (get_or hints i Wanting)) (is_some (own_of (get_or hints i Wanting))) i)
turn_there hints i low =
    let turn : Turn = turn_with (made_at (get_or hints i Wanting)) (is_some (own_of (get_or hints i Wanting))) i in
    let long = turns_long 0 hints in
    (i, omega (arith, low, long), turn_at 0 i i hints turn (omega arith) low)

-- whether two turns belong to one answer
abbrev is_same_turn : Turn → Turn → Bool
is_same_turn a b = a.index == b.index

same_flips : (a b : Turn) → is_same_turn a b ≡ is_same_turn b a
same_flips a b = grind (arith, nat_tests)

other_turn : (i k l : ℕ) (hints : List Hint) (d : Turn) → k < l → l < length hints → is_same_turn (get_or (turns_from i hints) k d) (get_or (turns_from i hints) l d) ≡ false
other_turn i k l hints d before low =
    let first : (get_or (turns_from i hints) k d).index ≡ i + k = ap (λ (t : Turn). t.index) (turn_at i k (i + k) hints d refl (omega (arith, before, low))) in
    let second : (get_or (turns_from i hints) l d).index ≡ i + l = ap (λ (t : Turn). t.index) (turn_at i l (i + l) hints d refl low) in
    grind (arith, nat_tests, first, second, before)

turns_apart : (hints : List Hint) (turns : List Turn) → IsPermutation (turns_from 0 hints) turns → (j k : ℕ) (d : Turn) → j < k → k < length turns → (get_or turns j d).index ≡ (get_or turns k d).index → ⊥
turns_apart hints turns same j k d before low e =
    let start : IsDistinct is_same_turn (turns_from 0 hints) =
    IsDistinct-from_apart is_same_turn (turns_from 0 hints) (λ j k d before low. other_turn 0 j k hints d before (let long = turns_long 0 hints in omega (arith, low, long))) in
    let differ = apart_from_distinct is_same_turn turns j k d (IsDistinct-IsPermutation is_same_turn same_flips (turns_from 0 hints) turns same start) before low in
    true≢false (sym (eq-eqb (get_or turns j d).index (get_or turns k d).index e) ∙ differ)

pub turns_are : (hints : List Hint) (turns : List Turn) → IsPermutation (turns_from 0 hints) turns → IsNonDecreasingBy (λ (turn : Turn). turn.at) turns → AreTurnsOf hints turns
turns_are hints turns same sorted = record {
  sorted = sorted;
  each = λ turn there. turn_is hints turn (Contains-permutation turns (turns_from 0 hints) turn (IsPermutation-sym (turns_from 0 hints) turns same) there);
  all = λ i low. Contains-permutation (turns_from 0 hints) turns (turn_with (made_at (get_or hints i Wanting)) (is_some (own_of (get_or hints i Wanting))) i) same (turn_there hints i low);
  apart = turns_apart hints turns same;
}

-- ---- plans

-- the plan belongs to one of these hints
abbrev IsPlanFrom : ℕ → List Hint → Plan → Type 0
IsPlanFrom i hints plan = (k : ℕ) × (k < length hints) × (plan.index ≡ i + k) × (planned_at (get_or hints k Wanting) ≡ Some plan.at)

first_plan : (i : ℕ) (h : Hint) (hints : List Hint) (at : Option ℕ) (plan : Plan) → planned_at h ≡ at → Contains (plan_of i at) plan → IsPlanFrom i (h ∷ hints) plan
first_plan i h hints None plan e (k, low, is) = absurd (omega (arith, low))
first_plan i h hints (Some at) plan e (zero, low, is) = (0, omega arith, (let index = ap (λ (p : Plan). p.index) (sym is) in omega (arith, index)), e ∙ ap (λ (p : Plan). Some p.at) is)
first_plan i h hints (Some at) plan e (suc k, low, is) = absurd (omega (arith, low))

plan_is : (i : ℕ) (hints : List Hint) (plan : Plan) → Contains (plans_from i hints) plan → IsPlanFrom i hints plan
plan_is i [] plan (k, low, is) = absurd (omega (arith, low))
plan_is i (h ∷ hints) plan there = by (Contains-append_cases (plan_of i (planned_at h)) (plans_from (i + 1) hints) plan there) (plan_is (i + 1) hints plan)
  where
    by : Contains (plan_of i (planned_at h)) plan ⊎ Contains (plans_from (i + 1) hints) plan → (Contains (plans_from (i + 1) hints) plan → IsPlanFrom (i + 1) hints plan) → IsPlanFrom i (h ∷ hints) plan
    by (inl here) later = first_plan i h hints (planned_at h) plan refl here
    by (inr more) later = let p = later more in (suc p.0, (let low = p.1 in omega (arith, low)), (let e = p.2 in omega (arith, e)), p.3)

plan_from : (hints : List Hint) (plan : Plan) → IsPlanFrom 0 hints plan → IsPlanOf hints plan
plan_from hints plan (k, low, index, at) =
    let same : k ≡ plan.index = omega (arith, index) in
    record { inside = omega (arith, low, same); at = ap (λ (n : ℕ). planned_at (get_or hints n Wanting)) (sym same) ∙ at }

-- the plan of a hint that has one
plan_there : (i n : ℕ) (hints : List Hint) (k at : ℕ) → n ≡ i + k → k < length hints → planned_at (get_or hints k Wanting) ≡ Some at → Contains (plans_from i hints) (plan_with at n)
plan_there i n [] k at e low told = absurd (omega (arith, low))
plan_there i n (h ∷ hints) zero at e low told =
    let here : i ≡ n = omega (arith, e) in
    Contains-append_left (plan_of i (planned_at h)) (plans_from (i + 1) hints) (plan_with at n)
    (subst (λ (o : Option ℕ). Contains (plan_of i o) (plan_with at n)) (sym told) (0, omega arith, ap (plan_with at) here))
plan_there i n (h ∷ hints) (suc k) at e low told =
    Contains-append_right (plan_of i (planned_at h)) (plans_from (i + 1) hints) (plan_with at n) (plan_there (i + 1) n hints k at (omega (arith, e)) (omega (arith, low)) told)

pub plans_are : (hints : List Hint) (plans : List Plan) → IsPermutation (plans_from 0 hints) plans → IsNonDecreasingBy (λ (plan : Plan). plan.at) plans → ArePlansOf hints plans
plans_are hints plans same sorted = record {
  sorted = sorted;
  each = λ plan there. plan_from hints plan (plan_is 0 hints plan (Contains-permutation plans (plans_from 0 hints) plan (IsPermutation-sym (plans_from 0 hints) plans same) there));
  all = λ i at low told. Contains-permutation (plans_from 0 hints) plans (plan_with at i) same (plan_there 0 i hints i at (omega arith) low told);
}
