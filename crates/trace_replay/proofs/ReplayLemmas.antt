-- The answers of all positions, one position after another.
use Rattle.std.proofs.Common.{◌≡◌, refl, ap, sym, ◌∙◌, subst, ℕ, ◌+◌, ◌<◌, ◌≤◌, inl, inr, List, [], length, get_or, true, false, true≢false, Option, Some, None, arith}
use Rattle.std.specs.Prelude.{is_some, ◌⊎◌}
use Rattle.std.proofs.lemmas.List.Elements.{Contains-get_or}
use Rattle.std.proofs.lemmas.Bool.{cases_lt}
use Rattle.std.proofs.lemmas.List.{get_or_default}
use Rattle.lake_model.specs.Texts.{Text}
use Rattle.lake_model.specs.Journal.{Entry}
use Rattle.lake_model.specs.Layout.{is_legal}
use Rattle.script_model.specs.Commands.{Command, Merge, command_with}
use Rattle.record_model.specs.Rules.{Rules}
use Rattle.record_model.specs.Play.{who_of}
use Rattle.record_model.specs.Texts.{journal_lines}
use Rattle.trace_laws.specs.Hints.{Hint, reply_by}
use Rattle.trace_laws.specs.Rebuilt.{pinned_of}
use Rattle.trace_groups.specs.Pieces.{group_text}
use Rattle.trace_numbers.specs.declared.order.Plan.{Plan}
use Rattle.trace_numbers.specs.declared.order.Turn.{Turn}
use Rattle.trace_numbers.specs.Positions.{AreOwners, own_of}
use Rattle.trace_numbers.specs.Turns.{made_at, plan_with, planned_at, turn_with}
use Rattle.trace_ends.specs.Ends.{IsAnswered, IsReplayed, journal_of}
use Rattle.trace_ends.specs.Within.{AcceptedOwns, ArePositions, IsWithin}
use Rattle.trace_replay.specs.Lakes.{AreHeld, AreTold, AreToldBefore, IsAt, IsBehindLooks, IsFrom, IsHeldIn, IsReady, IsTold, Keeps, LakeOf, LooksAreTold, TraceOf, front_of, hint_at, trace_with}
use Rattle.trace_replay.specs.Stretches.{ArePlansOf, AreTurnsOf, IsLookOf, IsPlanOf, IsStretchAt, IsTurnOf}

-- ---- one position

-- a turn that was found for a position
pub turn_found : (hints : List Hint) (turns found : List Turn) (at i : ℕ) (d : Turn) → AreTurnsOf hints turns → IsStretchAt (λ (turn : Turn). turn.at) turns at found → i < length found
    → IsTurnOf hints (get_or found i d) × ((get_or found i d).at ≡ at)
turn_found hints turns found at i d are stretch low =
    let there = stretch.each (get_or found i d) (Contains-get_or found i d low) in
    (are.each (get_or found i d) there.0, there.1)

-- a plan that was found for a position
pub plan_found : (hints : List Hint) (plans found : List Plan) (at i : ℕ) (d : Plan) → ArePlansOf hints plans → IsStretchAt (λ (plan : Plan). plan.at) plans at found → i < length found
    → IsPlanOf hints (get_or found i d) × ((get_or found i d).at ≡ at)
plan_found hints plans found at i d are stretch low =
    let there = stretch.each (get_or found i d) (Contains-get_or found i d low) in
    (are.each (get_or found i d) there.0, there.1)

-- the turn with an index, if it only looks, is as in the trace
abbrev pub LookIsTold : TraceOf → List Turn → ℕ → Type 0
LookIsTold trace turns k = (d : Turn) → (get_or turns k d).adds ≡ false → IsTold trace (get_or turns k d).index

pub look_told : (trace : TraceOf) (turns : List Turn) (k : ℕ) (d : Turn) → k < length turns → ((get_or turns k d).adds ≡ false → IsTold trace (get_or turns k d).index) → LookIsTold trace turns k
look_told trace turns k d low told e = subst (λ (turn : Turn). turn.adds ≡ false → IsTold trace turn.index) (get_or_default turns k d e low) told

-- the answers that are made at a position and only look have turns there
pub looks_told : (trace : TraceOf) (turns found : List Turn) (at : ℕ) → length trace.hints ≡ length trace.commands → AreTurnsOf trace.hints turns → IsStretchAt (λ (turn : Turn). turn.at) turns at found
    → ((k : ℕ) → k < length found → LookIsTold trace found k) → LooksAreTold trace at
looks_told trace turns found at size are stretch told i low made none =
    let turn : Turn = turn_with (made_at (hint_at trace i)) (is_some (own_of (hint_at trace i))) i in
    let there = stretch.all turn (are.all i (omega (arith, low, size))) made in
    subst (λ (t : Turn). t.adds ≡ false → IsTold trace t.index) there.2 (told there.0 there.1 turn) (ap (λ (o : Option ℕ). is_some o) none)

-- ---- what is held

-- no turn before a place belongs to the answer with an index and only looks
abbrev pub IsNotAmong : List Turn → ℕ → ℕ → Type 0
IsNotAmong turns k i = (j : ℕ) (d : Turn) → j < k → IsLookOf (get_or turns j d) i → ⊥

-- what is held while those answers of a position are made that only look
abbrev pub IsLeftOf : TraceOf → List Turn → ℕ → ℕ → ℕ → Type 0
IsLeftOf trace turns at k i = IsFrom trace at i × IsNotAmong turns k i

-- two turns of one position belong to two answers
stretch_apart : (hints : List Hint) (turns found : List Turn) (at j k : ℕ) (d : Turn) → AreTurnsOf hints turns → IsStretchAt (λ (turn : Turn). turn.at) turns at found → j < k → k < length found
    → (get_or found j d).index ≡ (get_or found k d).index → ⊥
stretch_apart hints turns found at j k d are stretch before low e = by stretch.part
  where
    by : (from : ℕ) × ((k : ℕ) (turn : Turn) → k < length found → (from + k < length turns) × (get_or found k turn ≡ get_or turns (from + k) turn)) → ⊥
    by (from, is) =
        let first = is j d (omega (arith, before, low)) in
        let second = is k d low in
        are.apart (from + j) (from + k) d (omega (arith, before)) second.0 (sym (ap (λ (t : Turn). t.index) first.1) ∙ e ∙ ap (λ (t : Turn). t.index) second.1)

-- what the next turn needs is held, if it only looks
pub look_ready : (trace : TraceOf) (turns found : List Turn) (at k : ℕ) (d : Turn) (lake : LakeOf) → length trace.hints ≡ length trace.commands → AreTurnsOf trace.hints turns
    → IsStretchAt (λ (turn : Turn). turn.at) turns at found → k < length found → AreHeld trace at (IsLeftOf trace found at k) lake → IsReady trace (get_or found k d).index lake
look_ready trace turns found at k d lake size are stretch low held early =
    let turn : Turn = get_or found k d in
    let here = turn_found trace.hints turns found at k d are stretch low in
    let inside : turn.index < length trace.commands = omega (arith, here.0.inside, size) in
    let made : made_at (hint_at trace turn.index) ≡ at = here.0.at ∙ here.1 in
    held turn.index inside early (omega (arith, early, made)) (
      omega (arith, made),
      λ j e before look.
          let same : (get_or found j e).index ≡ (get_or found j d).index = ap (λ (t : Turn). t.index) (get_or_default found j e d (omega (arith, before, low))) in
          stretch_apart trace.hints turns found at j k d are stretch before low (sym same ∙ sym look.1),
    )

-- one more turn
pub held_more : (trace : TraceOf) (found : List Turn) (at k : ℕ) (d : Turn) (before after : LakeOf) → k < length found → AreHeld trace at (IsLeftOf trace found at k) before
    → Keeps (IsLookOf (get_or found k d)) before.held after.held → AreHeld trace at (IsLeftOf trace found at (k + 1)) after
held_more trace found at k d before after low held keeps i inside early below left =
    keeps i (λ look. left.1 k d (omega arith) look) (held i inside early below (left.0, λ j e earlier look. left.1 j e (omega (arith, earlier)) look))

-- before the first turn, and after the last
pub held_first : (trace : TraceOf) (found : List Turn) (at : ℕ) (lake : LakeOf) → AreHeld trace at (IsFrom trace at) lake → AreHeld trace at (IsLeftOf trace found at 0) lake
held_first trace found at lake held i inside early below left = held i inside early below left.0

pub held_last : (trace : TraceOf) (turns found : List Turn) (at k size : ℕ) (lake : LakeOf) → ((i : ℕ) → IsWithin size (hint_at trace i)) → AreTurnsOf trace.hints turns
    → IsStretchAt (λ (turn : Turn). turn.at) turns at found → k ≡ length found → AreHeld trace at (IsLeftOf trace found at k) lake → AreHeld trace at (IsBehindLooks trace at) lake
held_last trace turns found at k size lake within are stretch all held i inside early below behind = held i inside early below (from behind, λ j d before look. no j d before look behind)
  where
    from : IsBehindLooks trace at i → IsFrom trace at i
    from (inl later) = omega (arith, later)
    from (inr adds) = let own = ((within i).own (at + 1) adds).0 in omega (arith, own)

    no : (j : ℕ) (d : Turn) → j < k → IsLookOf (get_or found j d) i → IsBehindLooks trace at i → ⊥
    no j d before look behind = by behind
      where
        here : IsTurnOf trace.hints (get_or found j d) × ((get_or found j d).at ≡ at)
        here = turn_found trace.hints turns found at j d are stretch (omega (arith, before, all))

        made : made_at (hint_at trace i) ≡ at
        made = ap (λ (n : ℕ). made_at (hint_at trace n)) look.1 ∙ here.0.at ∙ here.1

        none : is_some (own_of (hint_at trace i)) ≡ false
        none = ap (λ (n : ℕ). is_some (own_of (hint_at trace n))) look.1 ∙ here.0.adds ∙ look.0

        by : IsBehindLooks trace at i → ⊥
        by (inl later) = absurd (omega (arith, later, made))
        by (inr adds) = true≢false (sym (ap (λ (o : Option ℕ). is_some o) adds) ∙ none)

-- a merge that is pinned at an earlier position than its answer's was planned
planned_early : (size : ℕ) (hint : Hint) (at : Option ℕ) → IsWithin size hint → pinned_of hint < made_at hint → planned_at hint ≡ at → planned_at hint ≡ Some (pinned_of hint)
planned_early size hint None inside early e = let same = inside.unplanned e in absurd (omega (arith, early, same))
planned_early size hint (Some at) inside early e = e ∙ ap Some (inside.planned at e).0

-- the first plans of a position are held
abbrev pub IsPlannedTo : TraceOf → List Plan → ℕ → LakeOf → Type 0
IsPlannedTo trace plans k lake = (j : ℕ) (d : Plan) → j < k → IsReady trace (get_or plans j d).index lake

pub planned_next : (trace : TraceOf) (found : List Plan) (k : ℕ) (d : Plan) (before after : LakeOf) → k < length found → IsPlannedTo trace found k before → Keeps (λ i. ⊥) before.held after.held
    → IsReady trace (get_or found k d).index after → IsPlannedTo trace found (k + 1) after
planned_next trace found k d before after low planned keeps ready j e under = by (cases_lt j k)
  where
    by : (j < k) ⊎ (k ≤ j) → IsReady trace (get_or found j e).index after
    by (inl earlier) = λ early. keeps (get_or found j e).index (λ no. no) (planned j e earlier early)
    by (inr here) =
        let same : k ≡ j = omega (arith, here, under) in
        subst (λ (p : Plan). IsReady trace p.index after) (get_or_default found k d e low ∙ ap (λ (n : ℕ). get_or found n e) same) ready

pub held_kept : (trace : TraceOf) (below : ℕ) (IsKind : ℕ → Type 0) (before after : LakeOf) → AreHeld trace below IsKind before → Keeps (λ i. ⊥) before.held after.held → AreHeld trace below IsKind after
held_kept trace below IsKind before after held keeps i inside early under kind = keeps i (λ no. no) (held i inside early under kind)

-- all plans of a position are held
pub held_planned : (trace : TraceOf) (plans found : List Plan) (at k size : ℕ) (lake : LakeOf) → ((i : ℕ) → IsWithin size (hint_at trace i)) → length trace.hints ≡ length trace.commands
    → ArePlansOf trace.hints plans → IsStretchAt (λ (plan : Plan). plan.at) plans at found → k ≡ length found → AreHeld trace at (IsBehindLooks trace at) lake → IsPlannedTo trace found k lake
    → AreHeld trace (at + 1) (IsBehindLooks trace at) lake
held_planned trace plans found at k size lake within many are stretch all held planned i inside early below behind = by (cases_lt (pinned_of (hint_at trace i)) at)
  where
    by : (pinned_of (hint_at trace i) < at) ⊎ (at ≤ pinned_of (hint_at trace i)) → IsHeldIn lake.held i
    by (inl earlier) = held i inside early earlier behind
    by (inr here) =
        let pinned : pinned_of (hint_at trace i) ≡ at = omega (arith, here, below) in
        let told : planned_at (hint_at trace i) ≡ Some at = planned_early size (hint_at trace i) (planned_at (hint_at trace i)) (within i) early refl ∙ ap Some pinned in
        let plan : Plan = plan_with at i in
        let there = stretch.all plan (are.all i at (omega (arith, inside, many)) told) refl in
        let ready = planned there.0 plan (omega (arith, there.1, all)) in
        subst (λ (p : Plan). IsReady trace p.index lake) there.2 ready early

-- what the owner of the next entry needs is held
pub owner_ready : (trace : TraceOf) (at owner : ℕ) (lake : LakeOf) → owner < length trace.commands → own_of (hint_at trace owner) ≡ Some (at + 1) → made_at (hint_at trace owner) ≡ at
    → AreHeld trace (at + 1) (IsBehindLooks trace at) lake → IsReady trace owner lake
owner_ready trace at owner lake inside own made held early = held owner inside early (omega (arith, early, made)) (inr own)

-- what later answers need is held after it
pub held_next : (trace : TraceOf) (at owner : ℕ) (before after : LakeOf) → made_at (hint_at trace owner) ≡ at → AreHeld trace (at + 1) (IsBehindLooks trace at) before
    → Keeps (λ i. i ≡ owner) before.held after.held → AreHeld trace (at + 1) (IsFrom trace (at + 1)) after
held_next trace at owner before after made held keeps i inside early below from =
    keeps i (λ same. let same_made = ap (λ (n : ℕ). made_at (hint_at trace n)) same in omega (arith, same_made, made, from)) (held i inside early below (inl (omega (arith, from))))

-- nothing was planned before the first position
pub held_none : (trace : TraceOf) (IsKind : ℕ → Type 0) (lake : LakeOf) → AreHeld trace 0 IsKind lake
held_none trace IsKind lake i inside early below kind = absurd (omega (arith, below))

-- ---- one more position

own_or_look : (own : Option ℕ) → (own ≡ None) ⊎ (is_some own ≡ true)
own_or_look None = inl refl
own_or_look (Some at) = inr refl

owner_within : (trace : TraceOf) (owners : List ℕ) (i : ℕ) → ArePositions trace.commands trace.hints → AreOwners trace.hints owners → IsWithin (length owners) (hint_at trace i)
owner_within trace owners i are own = subst (λ (n : ℕ). IsWithin n (hint_at trace i)) (sym own.many) (are.each i)

-- the answers of one position are those that only look, and the one that made the next entry
told_here : AcceptedOwns → (trace : TraceOf) (owners : List ℕ) (at i : ℕ) → ArePositions trace.commands trace.hints → AreOwners trace.hints owners → i < length trace.commands → made_at (hint_at trace i) ≡ at
    → LooksAreTold trace at → (at < length owners → IsTold trace (get_or owners at 0)) → IsTold trace i
told_here law trace owners at i are own low made looks owner = by (own_or_look (own_of (hint_at trace i)))
  where
    by : (own_of (hint_at trace i) ≡ None) ⊎ (is_some (own_of (hint_at trace i)) ≡ true) → IsTold trace i
    by (inl none) = looks i low made none
    by (inr some) =
        let owned = law trace.hints owners i own (owner_within trace owners i are own) some in
        let mine : get_or owners at 0 ≡ i = ap (λ (n : ℕ). get_or owners n 0) (sym made) ∙ owned.1 in
        subst (IsTold trace) mine (owner (subst (λ (n : ℕ). n < length owners) made owned.0))

pub told_more : AcceptedOwns → (trace : TraceOf) (owners : List ℕ) (at : ℕ) → ArePositions trace.commands trace.hints → AreOwners trace.hints owners
    → AreToldBefore trace at → LooksAreTold trace at → IsTold trace (get_or owners at 0) → AreToldBefore trace (at + 1)
told_more law trace owners at are own told looks owner i low before = by (cases_lt (made_at (hint_at trace i)) at)
  where
    by : (made_at (hint_at trace i) < at) ⊎ (at ≤ made_at (hint_at trace i)) → IsTold trace i
    by (inl earlier) = told i low earlier
    by (inr here) = told_here law trace owners at i are own low (omega (arith, here, before)) looks (λ inside. owner)

pub told_all : AcceptedOwns → (trace : TraceOf) (owners : List ℕ) → ArePositions trace.commands trace.hints → AreOwners trace.hints owners
    → AreToldBefore trace (length owners) → LooksAreTold trace (length owners) → AreTold trace
told_all law trace owners are own told looks i low = by (cases_lt (made_at (hint_at trace i)) (length owners))
  where
    by : (made_at (hint_at trace i) < length owners) ⊎ (length owners ≤ made_at (hint_at trace i)) → IsTold trace i
    by (inl earlier) = told i low earlier
    by (inr here) =
        let inside = owner_within trace owners i are own in
        told_here law trace owners (length owners) i are own low (omega (arith, here, inside.made)) looks (λ past. absurd (omega (arith, past)))

-- ---- the end

-- the journal of the lake at the last position is that of the accepted answers
whole_journal : (trace : TraceOf) (owners : List ℕ) (lake : LakeOf) → ArePositions trace.commands trace.hints → AreOwners trace.hints owners → IsAt trace (length owners) lake
    → lake.journal ≡ journal_of trace.rules trace.commands trace.hints
whole_journal trace owners lake are own at = at.is ∙ ap (front_of trace) (own.many ∙ sym are.size)

-- the answer to the command with an index, whatever default is used after the last command
told_any : (trace : TraceOf) (i : ℕ) (c : Command) → i < length trace.commands → IsTold trace i
    → let command = get_or trace.commands i c in IsAnswered (who_of command) (hint_at trace i) (reply_by trace.rules (journal_of trace.rules trace.commands trace.hints) command (hint_at trace i)) (get_or trace.texts i [])
told_any trace i c low told =
    subst (λ (command : Command). IsAnswered (who_of command) (hint_at trace i) (reply_by trace.rules (journal_of trace.rules trace.commands trace.hints) command (hint_at trace i)) (get_or trace.texts i []))
    (get_or_default trace.commands i (command_with 0 0 (Merge false)) c low) told

pub all_told : (trace : TraceOf) → IsReplayed trace.rules trace.commands trace.hints trace.texts → AreTold trace
all_told trace is i low = is.answers i (command_with 0 0 (Merge false)) low

pub replay_sound : (trace : TraceOf) (owners : List ℕ) (lake : LakeOf) → ArePositions trace.commands trace.hints → AreOwners trace.hints owners → IsAt trace (length owners) lake → AreTold trace
    → get_or trace.texts (length trace.commands) [] ≡ group_text (journal_lines lake.journal) → is_legal lake.journal ≡ true → IsReplayed trace.rules trace.commands trace.hints trace.texts
replay_sound trace owners lake are own at told last legal =
    let whole = whole_journal trace owners lake are own at in
    record {
      answers = λ i c low. told_any trace i c low (told i low);
      last = last ∙ ap (λ (j : List Entry). group_text (journal_lines j)) whole;
      legal = ap is_legal (sym whole) ∙ legal;
    }

pub replay_complete : (trace : TraceOf) (owners : List ℕ) (lake : LakeOf) → ArePositions trace.commands trace.hints → AreOwners trace.hints owners → IsAt trace (length owners) lake
    → IsReplayed trace.rules trace.commands trace.hints trace.texts → get_or trace.texts (length trace.commands) [] ≡ group_text (journal_lines lake.journal)
replay_complete trace owners lake are own at is = is.last ∙ ap (λ (j : List Entry). group_text (journal_lines j)) (sym (whole_journal trace owners lake are own at))

-- the input of the replay, if its hints are those of the groups
pub trace_is : (trace : TraceOf) (rules : Rules) (commands : List Command) (found told hints : List Hint) (texts : List Text) → trace ≡ trace_with rules commands found texts → found ≡ told → told ≡ hints
    → trace ≡ trace_with rules commands hints texts
trace_is trace rules commands found told hints texts is same read = is ∙ ap (λ (hs : List Hint). trace_with rules commands hs texts) (same ∙ read)
