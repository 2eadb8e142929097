-- The laws, derived from the lemmas.
use Rattle.std.proofs.Common.{◌≡◌, refl, ap, sym, ◌∙◌, subst, ℕ, ◌+◌, ◌<◌, List, [], ◌∷◌, ◌++◌, true, false, not, ◌||◌, ◌&&◌, cond, length, Some, None, inl, inr, arith}
use Rattle.std.specs.Prelude.{nat_eq, nat_lt, bytes_eq, find, sum_by, count_by, ◌⊎◌}
use Rattle.std.specs.List.{list_all}
use Rattle.std.proofs.lemmas.Bool.{eqb-true, eq-eqb, not-false, or_cases, or_left, or_right, and_parts}
use Rattle.std.proofs.lemmas.List.{append-nil}
use Rattle.std.proofs.lemmas.List.Concat.{flat_map-append}
use Rattle.std.proofs.lemmas.List.Sums.{sum_by_push}
use Rattle.lake_model.specs.declared.Who.{Who}
use Rattle.lake_model.specs.declared.Counts.{Counts}
use Rattle.lake_model.specs.declared.Policy.{Policy}
use Rattle.lake_model.specs.Tables.{Table, members, key_bytes}
use Rattle.lake_model.specs.Answer.{answer}
use Rattle.lake_model.specs.Journal.{Swapped, Entry, entry_with, is_update, live, loads_of, counts}
use Rattle.lake_model.specs.Layout.{Part, layout, positions_of, unmarked_of, run_of, may_swap, is_legal}
use Rattle.lake_model.specs.Plan.{plan_of, planned_parts}
use Rattle.lake_model.proofs.LayoutLemmas.{live_more, layout_more}
use Rattle.layout_laws.specs.Steps.{numbers_of, positions_in, has_part}
use Rattle.layout_laws.specs.Weight.{weight, does_merge}
use Rattle.layout_laws.specs.LayoutLaws.{PassesOverSwaps, AnswersStay, SwapsStay, PlansMaySwap, PlansStay, SwapsLower, SwapsAreFew}
use Rattle.list_laws.proofs.ListLemmas.{all_weaker, all_map, test_all, find_none, rises_distinct}
use Rattle.layout_laws.proofs.StayLemmas.{has_number, layout_numbers}
use Rattle.layout_laws.proofs.RunLemmas.{swap_later, positions_same, places_same}
use Rattle.layout_laws.specs.Places.{places_of}
use Rattle.layout_laws.proofs.LaidLemmas.{laid_none, laid_out, legal_journal}
use Rattle.layout_laws.proofs.PlanLemmas.{is_planned_run, run_may_swap, run_does_merge}
use Rattle.layout_laws.proofs.WeightLemmas.{weight_swap, light_behind}

-- ---- swaps count for nothing

abbrev counts_with : ℕ → ℕ → ℕ → ℕ → Counts
counts_with live updates members key_bytes = record { live = live; updates = updates; members = members; key_bytes = key_bytes }

pub live_swap : (journal : List Entry) (who : Who) (planned kept : List ℕ) → live (journal ++ entry_with who (Swapped planned kept) ∷ []) ≡ live journal
live_swap journal who planned kept = live_more journal (entry_with who (Swapped planned kept))

pub counts_swap : (journal : List Entry) (who : Who) (planned kept : List ℕ) → counts (journal ++ entry_with who (Swapped planned kept) ∷ []) ≡ counts journal
counts_swap journal who planned kept =
    let entry = entry_with who (Swapped planned kept) in
    let updates : count_by (λ (e : Entry). is_update e.what) (journal ++ entry ∷ []) ≡ count_by (λ (e : Entry). is_update e.what) journal = omega (arith, sum_by_push (λ (e : Entry). cond (is_update e.what) 1 0) journal entry) in
    let loads : loads_of (journal ++ entry ∷ []) ≡ loads_of journal = flat_map-append _ journal (entry ∷ []) ∙ append-nil (loads_of journal) in
    λ i. counts_with (length (live_swap journal who planned kept i)) (updates i) (sum_by members (loads i)) (sum_by key_bytes (loads i))

pub passes : PassesOverSwaps
passes journal who planned kept = (live_swap journal who planned kept, counts_swap journal who planned kept)

pub answers : AnswersStay
answers journal who planned kept query k except = ap (λ (ts : List Table). answer ts query k except) (live_swap journal who planned kept)

-- ---- swaps and plans

pub stays : SwapsStay
stays journal behind planned kept h k =
    let l = swap_later journal behind planned kept h k in
    (l.may, l.same, ap (λ (ns : List ℕ). nat_lt 1 (length planned) || nat_lt (length kept) (length ns)) (positions_same (places_of (run_of planned (layout journal))) (places_of (run_of planned (layout (journal ++ behind)))) (places_same (run_of planned (layout journal)) (run_of planned (layout (journal ++ behind))) l.same)))

some_length : {X : Type 0} (x : X) (xs : List X) → 0 < length (x ∷ xs)
some_length x xs = omega arith

pub plan_may_swap : (policy : Policy) (journal : List Entry) (part : Part) (rest : List Part) → is_legal journal ≡ true → planned_parts policy (layout journal) ≡ part ∷ rest
    → (may_swap (layout journal) (numbers_of (part ∷ rest)) (positions_in (unmarked_of (part ∷ rest))) ≡ true) × (does_merge (layout journal) (numbers_of (part ∷ rest)) (positions_in (unmarked_of (part ∷ rest))) ≡ true)
plan_may_swap policy journal part rest legal h =
    let laid = laid_out journal legal in
    let p = is_planned_run policy (layout journal) part rest laid.filled h in
    let distinct = rises_distinct (positions_of (layout journal)) laid.rising in
    (run_may_swap (layout journal) (part ∷ rest) p.stands laid.numbers distinct (some_length part rest), run_does_merge (layout journal) (part ∷ rest) p.stands laid.numbers distinct p.merging)

pub plans_may_swap : PlansMaySwap
plans_may_swap policy journal planned kept legal h = by (planned_parts policy (layout journal)) refl h
  where
    by : (parts : List Part) → planned_parts policy (layout journal) ≡ parts → plan_of parts ≡ Some (planned, kept) → (may_swap (layout journal) planned kept ≡ true) × (does_merge (layout journal) planned kept ≡ true)
    by [] e g = cc
    by (part ∷ rest) e g =
        let same : (numbers_of (part ∷ rest), positions_in (unmarked_of (part ∷ rest))) ≡ (planned, kept) = cc in
        subst (λ (p : List ℕ × List ℕ). (may_swap (layout journal) p.0 p.1 ≡ true) × (does_merge (layout journal) p.0 p.1 ≡ true)) same (plan_may_swap policy journal part rest legal e)

-- a layout that has a part has its number
pub part_number : (parts : List Part) (planned : Part) → has_part parts planned ≡ true → has_number parts planned.number ≡ true
part_number [] planned h = h
part_number (part ∷ parts) planned h = by (or_cases (nat_eq part.number planned.number && bytes_eq (positions_in part.places) (positions_in planned.places)) (has_part parts planned) h) (part_number parts planned)
  where
    by : ((nat_eq part.number planned.number && bytes_eq (positions_in part.places) (positions_in planned.places)) ≡ true) ⊎ (has_part parts planned ≡ true) → (has_part parts planned ≡ true → has_number parts planned.number ≡ true) → has_number (part ∷ parts) planned.number ≡ true
    by (inl g) rest =
        or_left (nat_eq planned.number part.number) (has_number parts planned.number) (eq-eqb planned.number part.number (sym (eqb-true part.number planned.number (and_parts (nat_eq part.number planned.number) (bytes_eq (positions_in part.places) (positions_in planned.places)) g).0)))
    by (inr g) rest = or_right (nat_eq planned.number part.number) (has_number parts planned.number) (rest g)

-- if no planned part is missing, all their numbers are there
pub none_missing : (parts planned : List Part) → find (λ q. not (has_part parts q)) planned ≡ None → list_all (has_number parts) (numbers_of planned) ≡ true
none_missing parts planned h =
    test_all (has_number parts) (numbers_of planned) (all_map (λ (n : ℕ). has_number parts n ≡ true) (λ (p : Part). p.number) planned
    (all_weaker (λ (p : Part). not (has_part parts p) ≡ false) (λ p. has_number parts p.number ≡ true) planned (λ p f. part_number parts p (not-false (has_part parts p) f)) (find_none (λ (q : Part). not (has_part parts q)) planned h)))

pub plans_stay : PlansStay
plans_stay policy journal behind part rest legal h missing =
    (swap_later journal behind (numbers_of (part ∷ rest)) (positions_in (unmarked_of (part ∷ rest))) (plan_may_swap policy journal part rest (legal_journal journal behind legal) h).0 (none_missing (layout (journal ++ behind)) (part ∷ rest) missing)).may

-- ---- how many swaps there are

pub lowers : SwapsLower
lowers journal who planned kept h k =
    subst (λ (ps : List Part). weight ps < weight (layout journal)) (sym (layout_more journal (entry_with who (Swapped planned kept)))) (weight_swap (1 + length journal) (layout journal) planned kept (layout_numbers journal) h k)

pub are_few : SwapsAreFew
are_few journal legal merging = omega (arith, light_behind [] journal laid_none legal merging (omega arith))
