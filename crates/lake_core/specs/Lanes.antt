-- The lanes of a batch in the code, and the play that they represent.
use Rattle.std.specs.Prelude.{◌≡◌, ℕ, ◌+◌, ⊤, List, [], ◌∷◌, length, map, sum_by, Option, Some, None}
use Rattle.std.specs.List.{AllByRecursion, range_with_len}
use Rattle.lake_model.specs.Journal.{Entry}
use Rattle.script_model.specs.Commands.{Command}
use Rattle.record_model.specs.Play.{Done, Lane, lane_with, lane_of, Play, play_with}
use Rattle.command_replies.specs.Held.{IsHeldAt, position_of}
use Rattle.command_replies.specs.declared.answering.Held.{Held}
use Rattle.batch_work.specs.Works.{merge_policy}

-- a lane: the commands still to do, what is held for the first of them, and what is done
pub record LaneOf : Type 0 where
  pub todo : List Command
  pub held : Option Held
  pub done : List Done

abbrev pub lane_from : List Command → Option Held → List Done → LaneOf
lane_from todo held done = record { todo = todo; held = held; done = done }

abbrev pub pin_of : Option Held → Option ℕ
pin_of None = None
pin_of (Some held) = Some (position_of held)

-- the lane of the play that a lane of the code represents
abbrev pub played : LaneOf → Lane
played lane = lane_with lane.todo (pin_of lane.held) lane.done

abbrev pub play_of : List Entry → List LaneOf → Play
play_of journal lanes = play_with journal (map played lanes)

-- what is held, if anything, is for the first of these commands
abbrev pub IsHeld : List Entry → List Command → Option Held → Type 0
IsHeld journal todo None = ⊤
IsHeld journal [] (Some held) = ⊤
IsHeld journal (command ∷ todo) (Some held) = IsHeldAt journal (merge_policy command.task) held

abbrev pub AreHeld : List Entry → List LaneOf → Type 0
AreHeld journal lanes = AllByRecursion (λ lane. IsHeld journal lane.todo lane.held) lanes

-- the number of commands still to do
abbrev pub left_in : LaneOf → ℕ
left_in lane = length lane.todo

abbrev pub left : List LaneOf → ℕ
left lanes = sum_by left_in lanes

-- a play of one lane alone
abbrev pub alone : List Entry → LaneOf → Play
alone journal lane = play_with journal (played lane ∷ [])

-- no lane has begun
abbrev pub AreNew : List LaneOf → Type 0
AreNew lanes = AllByRecursion (λ lane. (lane.held ≡ None) × (lane.done ≡ [])) lanes

abbrev pub done_in : LaneOf → List Done
done_in lane = lane.done

-- the merger's lane and `count` others, with the commands that each has to do, none of which has begun
pub record AreShared (count : ℕ) (commands : List Command) (lanes : List LaneOf) : Type 0 where
  pub lanes_are : map played lanes ≡ map (lane_of commands) (range_with_len 0 (count + 1))
  pub all : left lanes ≡ length commands
  pub fresh : AreNew lanes
