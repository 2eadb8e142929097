-- The lake in which the answers of a trace are made again, from position to position.
use Rattle.std.specs.Prelude.{ℕ, ◌+◌, ◌<◌, ◌≤◌, ◌≡◌, ◌⊎◌, Bool, false, List, [], ◌++◌, length, get_or, take, Some, None}
use Rattle.std.specs.List.{Contains}
use Rattle.lake_model.specs.declared.Counts.{Counts}
use Rattle.lake_model.specs.Texts.{Text}
use Rattle.lake_model.specs.Journal.{Entry}
use Rattle.script_model.specs.Commands.{Command, Merge, command_with}
use Rattle.record_model.specs.Rules.{Rules}
use Rattle.record_model.specs.Replies.{Reply}
use Rattle.record_model.specs.Answered.{answer_to}
use Rattle.record_model.specs.Play.{entries_of, reply_or_denied, who_of}
use Rattle.trace_laws.specs.Hints.{Hint, Wanting, reply_by}
use Rattle.trace_laws.specs.Rebuilt.{pinned_of, rebuilt}
use Rattle.trace_laws.specs.Verdict.{hinted_zip}
use Rattle.trace_numbers.specs.Positions.{own_of}
use Rattle.trace_numbers.specs.Turns.{made_at}
use Rattle.trace_ends.specs.Ends.{IsAnswered, journal_of}
use Rattle.batch_work.specs.Works.{merge_policy}
use Rattle.command_replies.specs.declared.answering.Held.{Held}
use Rattle.command_replies.specs.Held.{IsHeldAt, position_of}

-- the input of a replay: the rules of the run, its commands, and from the trace the hint and the text of each answer
pub record TraceOf : Type 0 where
  pub rules : Rules
  pub commands : List Command
  pub hints : List Hint
  pub texts : List Text

abbrev pub trace_with : Rules → List Command → List Hint → List Text → TraceOf
trace_with rules commands hints texts = record { rules = rules; commands = commands; hints = hints; texts = texts }

-- the command with an index, and its hint
abbrev pub command_at : TraceOf → ℕ → Command
command_at trace i = get_or trace.commands i (command_with 0 0 (Merge false))

abbrev pub hint_at : TraceOf → ℕ → Hint
hint_at trace i = get_or trace.hints i Wanting

-- the journal up to a position
abbrev pub front_of : TraceOf → ℕ → List Entry
front_of trace at = rebuilt trace.rules (hinted_zip trace.commands trace.hints) at

-- The answer with an index is as in the trace: when it is made again at the position of its hint, it has that hint and
-- this text.
abbrev pub IsTold : TraceOf → ℕ → Type 0
IsTold trace i =
    IsAnswered (who_of (command_at trace i)) (hint_at trace i) (reply_by trace.rules (journal_of trace.rules trace.commands trace.hints) (command_at trace i) (hint_at trace i)) (get_or trace.texts i [])

-- all answers are as in the trace
abbrev pub AreTold : TraceOf → Type 0
AreTold trace = (i : ℕ) → i < length trace.commands → IsTold trace i

-- the answers that are made before a position are as in the trace
abbrev pub AreToldBefore : TraceOf → ℕ → Type 0
AreToldBefore trace at = (i : ℕ) → i < length trace.commands → made_at (hint_at trace i) < at → IsTold trace i

-- the answers that are made at a position and only look are as in the trace
abbrev pub LooksAreTold : TraceOf → ℕ → Type 0
LooksAreTold trace at = (i : ℕ) → i < length trace.commands → made_at (hint_at trace i) ≡ at → own_of (hint_at trace i) ≡ None → IsTold trace i

-- a lake: its limits and its journal, what is held for merges that were planned, each with the index of its answer, and
-- the number of entries for which there is room
pub record LakeOf : Type 0 where
  pub limits : Counts
  pub journal : List Entry
  pub held : List (ℕ × Held)
  pub room : ℕ

abbrev pub lake_with : Counts → List Entry → List (ℕ × Held) → ℕ → LakeOf
lake_with limits journal held room = record { limits = limits; journal = journal; held = held; room = room }

-- the merge with an index is planned at an earlier position than the one at which its answer is made
abbrev pub IsEarly : TraceOf → ℕ → Type 0
IsEarly trace i = pinned_of (hint_at trace i) < made_at (hint_at trace i)

-- What is held is for the merge of an answer, was planned at the position of its hint, and is held before the answer is
-- made.
pub record IsHeldFor (trace : TraceOf) (journal : List Entry) (index : ℕ) (held : Held) : Type 0 where
  pub early : IsEarly trace index
  pub position : position_of held ≡ pinned_of (hint_at trace index)
  pub holds : IsHeldAt journal (merge_policy (command_at trace index).task) held

abbrev pub AreHeldFor : TraceOf → List Entry → List (ℕ × Held) → Type 0
AreHeldFor trace journal all = (held : ℕ × Held) → Contains all held → IsHeldFor trace journal held.0 held.1

-- The lake has the entries of the trace up to a position, one for each.
pub record IsAt (trace : TraceOf) (at : ℕ) (lake : LakeOf) : Type 0 where
  pub limits : lake.limits ≡ trace.rules.limits
  pub is : lake.journal ≡ front_of trace at
  pub long : length lake.journal ≡ at
  pub held : AreHeldFor trace lake.journal lake.held

-- something is held for the merge with an index
abbrev pub IsHeldIn : List (ℕ × Held) → ℕ → Type 0
IsHeldIn all i = (held : Held) × Contains all (i, held)

-- what was planned before the answer with an index is held
abbrev pub IsReady : TraceOf → ℕ → LakeOf → Type 0
IsReady trace i lake = IsEarly trace i → IsHeldIn lake.held i

-- What is held is kept, except what may be taken.
abbrev pub Keeps : (ℕ → Type 0) → List (ℕ × Held) → List (ℕ × Held) → Type 0
Keeps IsTaken before after = (i : ℕ) → (IsTaken i → ⊥) → IsHeldIn before i → IsHeldIn after i

-- Of the answers of some kind, all that were planned below a position are held.
abbrev pub AreHeld : TraceOf → ℕ → (ℕ → Type 0) → LakeOf → Type 0
AreHeld trace below IsKind lake = (i : ℕ) → i < length trace.commands → IsEarly trace i → pinned_of (hint_at trace i) < below → IsKind i → IsHeldIn lake.held i

-- the answer with an index is made at a position or at a later one
abbrev pub IsFrom : TraceOf → ℕ → ℕ → Type 0
IsFrom trace at i = at ≤ made_at (hint_at trace i)

-- the answer with an index is made after those that are made at a position and only look
abbrev pub IsBehindLooks : TraceOf → ℕ → ℕ → Type 0
IsBehindLooks trace at i = (at < made_at (hint_at trace i)) ⊎ (own_of (hint_at trace i) ≡ Some (at + 1))

-- The lake has what this reply to the command with an index adds, and its limits are unchanged. What is held for others
-- is kept.
pub record IsAfter (trace : TraceOf) (i : ℕ) (reply : Reply) (before after : LakeOf) : Type 0 where
  pub limits : after.limits ≡ before.limits
  pub adds : after.journal ≡ before.journal ++ entries_of trace.rules (take (pinned_of (hint_at trace i)) before.journal) (command_at trace i) reply
  pub held : AreHeldFor trace after.journal after.held
  pub others : Keeps (λ j. j ≡ i) before.held after.held

-- the reply to the command with an index at this journal
abbrev pub answer_now : TraceOf → ℕ → List Entry → Reply
answer_now trace i now = answer_to trace.rules (command_at trace i).task (take (pinned_of (hint_at trace i)) now) now

-- the reply is this answer, or that memory ran out
abbrev pub AnswersNow : TraceOf → ℕ → List Entry → Reply → Type 0
AnswersNow trace i now reply = (denied : Bool) × (reply ≡ reply_or_denied denied (answer_now trace i now))

-- Of what was held, everything is left except what was held for the merge with an index.
pub record IsLeft (i : ℕ) (before after : LakeOf) : Type 0 where
  pub is : after ≡ lake_with before.limits before.journal after.held before.room
  pub some : (held : ℕ × Held) → Contains after.held held → Contains before.held held
  pub others : Keeps (λ j. j ≡ i) before.held after.held
