-- The positions of answers, if they rise along each lane, are within the journal.
use Rattle.std.proofs.Common.{◌≡◌, refl, ap, sym, ◌∙◌, subst, ℕ, zero, suc, ◌+◌, ◌≤◌, ◌<◌, List, [], ◌∷◌, ◌++◌, length, get_or, take, drop, Bool, true, false, Option, Some, None, arith}
use Rattle.std.specs.Prelude.{◌==◌, ◌&&◌, is_some}
use Rattle.std.specs.List.{AllByRecursion, list_all, range_with_len}
use Rattle.std.proofs.lemmas.Bool.{eq-eqb, eqb-true, and_parts}
use Rattle.list_laws.proofs.ListLemmas.{all_append}
use Rattle.script_model.specs.Commands.{Batch, Command, updates}
use Rattle.script_model.specs.Lanes.{IsOfLanes}
use Rattle.record_model.specs.Answered.{Nowhere, Saw, Added, PlannedAndSaw, PlannedAndAdded}
use Rattle.record_model.specs.Play.{merger_commands}
use Rattle.record_model.specs.Right.{Moment, MomentsRise}
use Rattle.record_model.proofs.RightLemmas.{rises_down, rises_le}
use Rattle.trace_laws.specs.Hints.{Hint, Stands, Wanting}
use Rattle.trace_laws.specs.Passing.{are_apart, batches_rise, is_filled, lane_rises, moments_of}
use Rattle.trace_laws.specs.Rebuilt.{Hinted, is_at, pinned_of}
use Rattle.trace_laws.specs.Verdict.{all_commands, counted, hinted_zip}
use Rattle.trace_laws.proofs.HintLemmas.{rises_is}
use Rattle.trace_laws.proofs.LowLemmas.{mine, other_first, own_first}
use Rattle.trace_laws.proofs.PassingLemmas.{in_range}
use Rattle.trace_laws.proofs.VerdictLemmas.{counted_append, zip_append}
use Rattle.trace_numbers.specs.Positions.{accepted_of, numbers_pass, own_of}
use Rattle.trace_numbers.specs.Turns.{made_at, planned_at}
use Rattle.trace_numbers.proofs.ApartLemmas.{at_own, counted_is, own_stands, told}
use Rattle.trace_numbers.proofs.PassLemmas.{merger_lanes, told_zip, zip_lanes}
use Rattle.trace_ends.specs.Within.{AcceptedOwns, ArePositions, IsWithin, OwnerIsMade, PositionsWithin}
use Rattle.trace_numbers.proofs.SlotLemmas.{stands_below}
use Rattle.record_model.proofs.LegalLemmas.{within_batch, within_merges}

-- ---- one answer

pub unplanned_same : (hint : Hint) → planned_at hint ≡ None → pinned_of hint ≡ made_at hint
unplanned_same Wanting e = refl
unplanned_same (Stands Nowhere) e = refl
unplanned_same (Stands (Saw at)) e = refl
unplanned_same (Stands (Added at)) e = refl
unplanned_same (Stands (PlannedAndSaw pinned at)) e = cc
unplanned_same (Stands (PlannedAndAdded pinned at)) e = cc

-- an answer whose positions rise up to some bound
within : (size : ℕ) (hint : Hint) (ms : List Moment) (high : ℕ) → high ≤ size → MomentsRise 0 (moments_of hint ++ ms) high → IsWithin size hint
within size Wanting ms high le h = record { made = omega arith; pinned = omega arith; own = λ p e. cc; planned = λ p e. cc; unplanned = unplanned_same Wanting }
within size (Stands Nowhere) ms high le h = record { made = omega arith; pinned = omega arith; own = λ p e. cc; planned = λ p e. cc; unplanned = unplanned_same (Stands Nowhere) }
within size (Stands (Saw at)) ms high le h =
    let end = rises_le at ms high h.1 in
    record { made = omega (arith, le, end); pinned = omega arith; own = λ p e. cc; planned = λ p e. cc; unplanned = unplanned_same (Stands (Saw at)) }
within size (Stands (Added at)) ms high le h =
    let some : 0 < at = h.0 in
    let end = rises_le at ms high h.1 in
    record {
      made = omega (arith, le, end);
      pinned = omega arith;
      own = λ p e. let same : at ≡ p = cc in (omega (arith, some, same), omega (arith, le, end, same));
      planned = λ p e. cc;
      unplanned = unplanned_same (Stands (Added at));
    }
within size (Stands (PlannedAndSaw pinned at)) ms high le h =
    let before : pinned ≤ at = h.1.0 in
    let end = rises_le at ms high h.1.1 in
    record {
      made = omega (arith, le, end);
      pinned = before;
      own = λ p e. cc;
      planned = λ p e. let same : pinned ≡ p = cc in (omega (arith, same), omega (arith, before, same));
      unplanned = unplanned_same (Stands (PlannedAndSaw pinned at));
    }
within size (Stands (PlannedAndAdded pinned at)) ms high le h =
    let before : pinned < at = h.1.0 in
    let end = rises_le at ms high h.1.1 in
    record {
      made = omega (arith, le, end);
      pinned = omega (arith, before);
      own = λ p e. let same : at ≡ p = cc in (omega (arith, before, same), omega (arith, le, end, same));
      planned = λ p e. let same : pinned ≡ p = cc in (omega (arith, same), omega (arith, before, same));
      unplanned = unplanned_same (Stands (PlannedAndAdded pinned at));
    }

-- ---- the answers of a batch

abbrev AreWithin : ℕ → List Hinted → Type 0
AreWithin size hinted = AllByRecursion (λ (h : Hinted). IsWithin size h.hint) hinted

rises_behind : (low : ℕ) (ms ns : List Moment) (high : ℕ) → MomentsRise low (ms ++ ns) high → MomentsRise 0 ns high
rises_behind low [] ns high h = rises_down 0 low ns high (omega arith) h
rises_behind low (m ∷ ms) ns high h = rises_behind m.at ms ns high h.1

lanes_within : (lanes size high : ℕ) (hinted : List Hinted) → high ≤ size → AllByRecursion (λ (h : Hinted). h.command.lane ≤ lanes) hinted
    → ((lane : ℕ) → lane ≤ lanes → MomentsRise 0 (mine hinted lane) high) → AreWithin size hinted
lanes_within lanes size high [] le of rising = tt
lanes_within lanes size high (h ∷ hinted) le of rising = (
  within size h.hint (mine hinted h.command.lane) high le (subst (λ (ms : List Moment). MomentsRise 0 ms high) (own_first h hinted h.command.lane (eq-eqb h.command.lane h.command.lane refl)) (rising h.command.lane of.0)),
  lanes_within lanes size high hinted le of.1 (λ lane under. by lane (h.command.lane == lane) refl (rising lane under)),
)
  where
    by : (lane : ℕ) (b : Bool) → (h.command.lane == lane) ≡ b → MomentsRise 0 (mine (h ∷ hinted) lane) high → MomentsRise 0 (mine hinted lane) high
    by lane true e k = rises_behind 0 (moments_of h.hint) (mine hinted lane) high (subst (λ (ms : List Moment). MomentsRise 0 ms high) (own_first h hinted lane e) k)
    by lane false e k = subst (λ (ms : List Moment). MomentsRise 0 ms high) (other_first h hinted lane e) k

batch_within : (lanes size from high : ℕ) (merge : Bool) (next : ℕ) (batch : Batch) (hints : List Hint) → high ≤ size → IsOfLanes lanes batch
    → list_all (lane_rises (hinted_zip (batch ++ merger_commands merge next batch) hints) from high) (range_with_len 0 (lanes + 1)) ≡ true
    → AreWithin size (hinted_zip (batch ++ merger_commands merge next batch) hints)
batch_within lanes size from high merge next batch hints le of rising =
    let merges : List Command = merger_commands merge next batch in
    let hinted : List Hinted = hinted_zip (batch ++ merges) hints in
    lanes_within lanes size high hinted le
    (zip_lanes lanes (batch ++ merges) hints (all_append (λ (c : Command). c.lane ≤ lanes) batch merges (within_batch lanes batch of) (within_merges lanes merges (merger_lanes merge next batch))))
    (λ lane under. rises_down 0 from (mine hinted lane) high (omega arith) (rises_is from (mine hinted lane) high (in_range (lane_rises hinted from high) 0 (lanes + 1) lane rising (omega arith) (omega (arith, under)))))

-- ---- the batches

batches_within : (lanes size : ℕ) (merge : Bool) (next from : ℕ) (batches : List Batch) (hints : List Hint) → AllByRecursion (IsOfLanes lanes) batches → batches_rise lanes merge next from batches hints ≡ true
    → from + counted (hinted_zip (all_commands merge next batches) hints) ≤ size → AreWithin size (hinted_zip (all_commands merge next batches) hints)
batches_within lanes size merge next from [] hints of rising le = tt
batches_within lanes size merge next from (batch ∷ batches) hints of rising le =
    let commands : List Command = batch ++ merger_commands merge next batch in
    let later : List Command = all_commands merge (next + updates batch) batches in
    let now : List Hinted = hinted_zip commands (take (length commands) hints) in
    let more : List Hinted = hinted_zip later (drop (length commands) hints) in
    let sync : ℕ = from + counted now in
    let parts : now ++ more ≡ hinted_zip (commands ++ later) hints = zip_append commands later hints in
    let count : counted (hinted_zip (commands ++ later) hints) ≡ counted now + counted more = ap counted (sym parts) ∙ counted_append now more in
    let k = and_parts (list_all (lane_rises now from sync) (range_with_len 0 (lanes + 1))) (batches_rise lanes merge (next + updates batch) sync batches (drop (length commands) hints)) rising in
    subst (AreWithin size) parts
    (all_append (λ (h : Hinted). IsWithin size h.hint) now more (batch_within lanes size from sync merge next batch (take (length commands) hints) (omega (arith, le, count)) of.0 k.0)
    (batches_within lanes size merge (next + updates batch) sync batches (drop (length commands) hints) of.1 k.1 (omega (arith, le, count))))

-- the hint with any index; after the last there is none with a position
each_within : (size : ℕ) (hinted : List Hinted) → AreWithin size hinted → (i : ℕ) → IsWithin size (get_or (told hinted) i Wanting)
each_within size [] h i = within size Wanting [] 0 (omega arith) (omega arith)
each_within size (x ∷ hinted) h zero = h.0
each_within size (x ∷ hinted) h (suc i) = each_within size hinted h.1 i

all_positions : (lanes : ℕ) (merge : Bool) (batches : List Batch) (hints : List Hint) → AllByRecursion (IsOfLanes lanes) batches → numbers_pass lanes merge batches hints ≡ true → ArePositions (all_commands merge 1 batches) hints
all_positions lanes merge batches hints of passed =
    let commands : List Command = all_commands merge 1 batches in
    let hinted : List Hinted = hinted_zip commands hints in
    let a = and_parts (length hints == length commands) (are_apart hinted && (is_filled hinted (counted hinted) && batches_rise lanes merge 1 0 batches hints)) passed in
    let b = and_parts (are_apart hinted) (is_filled hinted (counted hinted) && batches_rise lanes merge 1 0 batches hints) a.1 in
    let c = and_parts (is_filled hinted (counted hinted)) (batches_rise lanes merge 1 0 batches hints) b.1 in
    let one_each : length hints ≡ length commands = eqb-true (length hints) (length commands) a.0 in
    let size : counted hinted ≡ accepted_of hints = counted_is hinted ∙ ap accepted_of (told_zip commands hints one_each) in
    let all : AreWithin (accepted_of hints) hinted = batches_within lanes (accepted_of hints) merge 1 0 batches hints of c.1 (omega (arith, size)) in
    record {
      one_each = one_each;
      size = size;
      each = λ i. subst (λ (hs : List Hint). IsWithin (accepted_of hints) (get_or hs i Wanting)) (told_zip commands hints one_each) (each_within (accepted_of hints) hinted all i);
    }

pub positions_within : PositionsWithin
positions_within lanes merge batches commands hints of is passed = subst (λ (cs : List Command). ArePositions cs hints) (sym is) (all_positions lanes merge batches hints of passed)

-- ---- owners

made_before : (hint : Hint) (before : ℕ) → own_of hint ≡ Some (before + 1) → made_at hint ≡ before
made_before Wanting before e = cc
made_before (Stands Nowhere) before e = cc
made_before (Stands (Saw at)) before e = cc
made_before (Stands (Added at)) before e = let same : at ≡ before + 1 = cc in omega (arith, same)
made_before (Stands (PlannedAndSaw pinned at)) before e = cc
made_before (Stands (PlannedAndAdded pinned at)) before e = let same : at ≡ before + 1 = cc in omega (arith, same)

pub owner_made : OwnerIsMade
owner_made hints before index owner =
    let own : own_of (get_or hints index Wanting) ≡ Some (before + 1) = at_own (get_or hints index Wanting) (before + 1) owner.stands in
    (stands_below hints (before + 1) index owner.stands, own, made_before (get_or hints index Wanting) before own)

pub accepted_owns : AcceptedOwns
accepted_owns hints owners i are inside has = by (own_of (get_or hints i Wanting)) refl has
  where
    by : (o : Option ℕ) → own_of (get_or hints i Wanting) ≡ o → is_some o ≡ true → (made_at (get_or hints i Wanting) < length owners) × (get_or owners (made_at (get_or hints i Wanting)) 0 ≡ i)
    by None e h = cc
    by (Some at) e h =
        let own = inside.own at e in
        let low : made_at (get_or hints i Wanting) < length owners = omega (arith, own.0, own.1) in
        let owner = are.each (made_at (get_or hints i Wanting)) low in
        let stands : is_at at (get_or hints i Wanting) ≡ true = own_stands (get_or hints i Wanting) at e in
        (low, sym (owner.only i (subst (λ (n : ℕ). is_at n (get_or hints i Wanting) ≡ true) own.0 stands)))
