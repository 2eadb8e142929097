-- Turns and plans, one answer after another.
use Rattle.std.proofs.Common.{◌≡◌, ap, sym, ◌∙◌, ℕ, ◌+◌, ◌<◌, ◌≤◌, inl, inr, List, [], ◌∷◌, ◌++◌, append_assoc, map, length, get_or, take, Bool, Option, arith}
use Rattle.std.specs.Prelude.{is_some}
use Rattle.std.specs.List.{AllAdjacentBelow}
use Rattle.std.specs.List.Sorted.{IsNonDecreasingBy}
use Rattle.std.proofs.lemmas.List.{append-nil, length-map, length-take-le, map-append, take_more}
use Rattle.std.proofs.lemmas.List.Sorted.{IsNonDecreasingBy-from_all_adjacent}
use Rattle.trace_laws.specs.Hints.{Hint}
use Rattle.trace_hints.specs.declared.hint.Hint.{Hint as Declared}
use Rattle.trace_hints.specs.Told.{hint_as}
use Rattle.trace_numbers.specs.declared.order.Plan.{Plan}
use Rattle.trace_numbers.specs.declared.order.Turn.{Turn}
use Rattle.trace_numbers.specs.Positions.{own_of}
use Rattle.trace_numbers.specs.Turns.{IsInTurn, IsPlannedInTurn, made_at, plan_of, planned_at, plans_from, turn_with, turns_from}

-- ---- one more answer

front_more : (hints : List Declared) (i : ℕ) (d : Declared) → i < length hints → map hint_as (take (i + 1) hints) ≡ map hint_as (take i hints) ++ hint_as (get_or hints i d) ∷ []
front_more hints i d low = ap (map hint_as) (take_more hints i d low) ∙ map-append hint_as (take i hints) (get_or hints i d ∷ [])

front_size : (hints : List Declared) (i : ℕ) → i < length hints → length (map hint_as (take i hints)) ≡ i
front_size hints i low = length-map (take i hints) hint_as ∙ length-take-le i hints (omega (arith, low))

abbrev turn_of : ℕ → Hint → Turn
turn_of i hint = turn_with (made_at hint) (is_some (own_of hint)) i

turns_push : (i n : ℕ) (hints : List Hint) (h : Hint) → n ≡ i + length hints → turns_from i (hints ++ h ∷ []) ≡ turns_from i hints ++ turn_of n h ∷ []
turns_push i n [] h e = let same : i ≡ n = omega (arith, e) in ap (λ (m : ℕ). turn_of m h ∷ []) same
turns_push i n (x ∷ hints) h e = ap (λ (ts : List Turn). turn_of i x ∷ ts) (turns_push (i + 1) n hints h (omega (arith, e)))

pub turns_more : (hints : List Declared) (i : ℕ) (d : Declared) (at : ℕ) (adds : Bool) (before after : List Turn) → i < length hints → before ≡ turns_from 0 (map hint_as (take i hints))
    → at ≡ made_at (hint_as (get_or hints i d)) → adds ≡ is_some (own_of (hint_as (get_or hints i d))) → after ≡ before ++ turn_with at adds i ∷ [] → after ≡ turns_from 0 (map hint_as (take (i + 1) hints))
turns_more hints i d at adds before after low so_far at_is adds_is pushed =
    let h : Hint = hint_as (get_or hints i d) in
    pushed
    ∙ ap (λ (ts : List Turn). ts ++ turn_with at adds i ∷ []) so_far
    ∙ ap (λ (n : ℕ). turns_from 0 (map hint_as (take i hints)) ++ turn_with n adds i ∷ []) at_is
    ∙ ap (λ (b : Bool). turns_from 0 (map hint_as (take i hints)) ++ turn_with (made_at h) b i ∷ []) adds_is
    ∙ sym (ap (turns_from 0) (front_more hints i d low) ∙ turns_push 0 i (map hint_as (take i hints)) h (let size = front_size hints i low in omega (arith, size)))

plans_push : (i n : ℕ) (hints : List Hint) (h : Hint) → n ≡ i + length hints → plans_from i (hints ++ h ∷ []) ≡ plans_from i hints ++ plan_of n (planned_at h)
plans_push i n [] h e = let same : i ≡ n = omega (arith, e) in append-nil (plan_of i (planned_at h)) ∙ ap (λ (m : ℕ). plan_of m (planned_at h)) same
plans_push i n (x ∷ hints) h e =
    ap (λ (ps : List Plan). plan_of i (planned_at x) ++ ps) (plans_push (i + 1) n hints h (omega (arith, e))) ∙ sym (append_assoc (plan_of i (planned_at x)) (plans_from (i + 1) hints) (plan_of n (planned_at h)))

pub plans_more : (hints : List Declared) (i : ℕ) (d : Declared) (at : Option ℕ) (before after : List Plan) → i < length hints → before ≡ plans_from 0 (map hint_as (take i hints))
    → at ≡ planned_at (hint_as (get_or hints i d)) → after ≡ before ++ plan_of i at → after ≡ plans_from 0 (map hint_as (take (i + 1) hints))
plans_more hints i d at before after low so_far at_is pushed =
    let h : Hint = hint_as (get_or hints i d) in
    pushed
    ∙ ap (λ (ps : List Plan). ps ++ plan_of i at) so_far
    ∙ ap (λ (o : Option ℕ). plans_from 0 (map hint_as (take i hints)) ++ plan_of i o) at_is
    ∙ sym (ap (plans_from 0) (front_more hints i d low) ∙ plans_push 0 i (map hint_as (take i hints)) h (let size = front_size hints i low in omega (arith, size)))

-- ---- positions do not fall

turn_up : (a b : Turn) → IsInTurn a b → a.at ≤ b.at
turn_up a b (inl h) = omega (arith, h)
turn_up a b (inr h) = let same : a.at ≡ b.at = h.0 in omega (arith, same)

pub turns_up : (turns : List Turn) → AllAdjacentBelow IsInTurn turns (length turns) → IsNonDecreasingBy (λ (t : Turn). t.at) turns
turns_up turns h = IsNonDecreasingBy-from_all_adjacent (λ (t : Turn). t.at) turns (λ k d low. turn_up (get_or turns k d) (get_or turns (k + 1) d) (h k d low))

plan_up : (a b : Plan) → IsPlannedInTurn a b → a.at ≤ b.at
plan_up a b (inl h) = omega (arith, h)
plan_up a b (inr h) = let same : a.at ≡ b.at = h.0 in omega (arith, same)

pub plans_up : (plans : List Plan) → AllAdjacentBelow IsPlannedInTurn plans (length plans) → IsNonDecreasingBy (λ (p : Plan). p.at) plans
plans_up plans h = IsNonDecreasingBy-from_all_adjacent (λ (p : Plan). p.at) plans (λ k d low. plan_up (get_or plans k d) (get_or plans (k + 1) d) (h k d low))
