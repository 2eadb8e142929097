-- When a command was answered at a lake.
use Rattle.std.specs.Prelude.{ℕ, ◌≡◌, ◌≤◌, Bool, false, List, [], ◌∷◌, ◌++◌, length, take, map}
use Rattle.record_model.specs.Rules.{Rules}
use Rattle.lake_model.specs.Journal.{Entry, What, entry_with, who_with}
use Rattle.turn_lock.specs.History.{Grows}
use Rattle.turn_lock.specs.Passes.{Known, after_seeing, callers_of}
use Rattle.lake.specs.Lawful.{caller_of}
use Rattle.script_model.specs.Commands.{Command}
use Rattle.record_model.specs.Replies.{Reply}
use Rattle.record_model.specs.Answered.{answer_to, has_pin}
use Rattle.record_model.specs.Play.{done_with, entries_of, reply_or_denied}
use Rattle.record_model.specs.Right.{IsRight}

-- The pass saw entries of others, and then what the reply adds, under its caller and this number. The reply is the
-- given function of what was seen just before, or that memory ran out.
pub record IsMade (answer : List Entry → Reply) (adds : Reply → List What) (number : ℕ) (before : Known Entry) (reply : Reply) (after : List Entry) : Type 0 where
  pub found : List Entry
  pub denied : Bool
  pub grows : Grows caller_of (callers_of before) before.seen found
  pub is : reply ≡ reply_or_denied denied (answer found)
  pub added : after ≡ found ++ map (entry_with (who_with before.caller number)) (adds reply)

-- A command was answered at what was seen when it was pinned; for a command without a pin this is what was seen just
-- before the reply.
pub record IsAnswered (rules : Rules) (command : Command) (before : Known Entry) (reply : Reply) (after : List Entry) : Type 0 where
  pub found : List Entry
  pub pinned : List Entry
  pub denied : Bool
  pub grows : Grows caller_of (callers_of before) before.seen found
  pub begins : (length pinned ≤ length found) × (take (length pinned) found ≡ pinned)
  pub late : length before.seen ≤ length pinned
  pub same : has_pin command.task ≡ false → pinned ≡ found
  pub is : reply ≡ reply_or_denied denied (answer_to rules command.task pinned found)
  pub added : after ≡ found ++ entries_of rules pinned command reply

-- A command with its reply takes a pass from what it had seen to what it sees then. Nothing else of the pass changes,
-- and if the command is of the pass's own lane, the one answer is right between the two.
pub record IsStep (rules : Rules) (before : Known Entry) (command : Command) (reply : Reply) (after : Known Entry) : Type 0 where
  pub behind : List Entry
  pub sees : after ≡ after_seeing before (before.seen ++ behind) before.holds
  pub right : command.lane ≡ before.caller → IsRight rules before.caller before.seen behind (done_with command reply ∷ [])
