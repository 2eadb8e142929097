-- A step of a lane alone.
use Rattle.std.proofs.Common.{◌≡◌, ap, sym, ◌∙◌, ◌+◌, List, [], ◌∷◌, ◌++◌, Bool, true, false, length, take, Option, Some, None, arith}
use Rattle.record_model.specs.Rules.{Rules}
use Rattle.lake_model.specs.Journal.{Entry}
use Rattle.script_model.specs.Commands.{Command}
use Rattle.record_model.specs.Replies.{Reply}
use Rattle.record_model.specs.Answered.{answer_to, has_pin}
use Rattle.record_model.specs.Play.{done_with, lane_with, play_with, reply_or_denied, entries_of, lane_step, step_of, step}
use Rattle.command_replies.specs.declared.answering.Held.{Held}
use Rattle.command_replies.specs.Held.{position_of}
use Rattle.command_replies.proofs.HeldLemmas.{held_at_grows}
use Rattle.batch_work.specs.Works.{merge_policy}
use Rattle.lake_core.specs.Lanes.{LaneOf, lane_from, pin_of, played, alone, IsHeld}

-- a lane that has nothing to do
pub none_left : (rules : Rules) (journal : List Entry) (lane : LaneOf) → lane.todo ≡ [] → alone journal lane ≡ step rules (alone journal lane) (0, false)
none_left rules journal lane none = sym (ap (λ (cs : List Command). lane_step rules false journal (played lane ∷ []) 0 cs (played lane)) none)

-- the first command, if it has no pin
pub answered_now : (rules : Rules) (denied : Bool) (journal after : List Entry) (command : Command) (todo : List Command) (reply : Reply) (lane new : LaneOf)
    → lane.todo ≡ command ∷ todo → has_pin command.task ≡ false → reply ≡ reply_or_denied denied (answer_to rules command.task journal journal)
    → after ≡ journal ++ entries_of rules journal command reply → new ≡ lane_from todo None (lane.done ++ done_with command reply ∷ [])
    → alone after new ≡ step rules (alone journal lane) (0, denied)
answered_now rules denied journal after command todo reply lane new first kind said goes is =
    (λ i. alone (goes i) (is i))
    ∙ ap (λ (r : Reply). alone (journal ++ entries_of rules journal command r) (lane_from todo None (lane.done ++ done_with command r ∷ []))) said
    ∙ sym (ap (λ b. step_of rules denied journal (played lane ∷ []) 0 lane.done command todo b (pin_of lane.held)) kind)
    ∙ sym (ap (λ (cs : List Command). lane_step rules denied journal (played lane ∷ []) 0 cs (played lane)) first)

-- the first command, if it has a pin that was not taken yet
pub begun : (rules : Rules) (journal : List Entry) (command : Command) (todo : List Command) (held : Held) (lane new : LaneOf)
    → lane.todo ≡ command ∷ todo → has_pin command.task ≡ true → lane.held ≡ None → position_of held ≡ length journal → new ≡ lane_from lane.todo (Some held) lane.done
    → alone journal new ≡ step rules (alone journal lane) (0, false)
begun rules journal command todo held lane new first kind none here is =
    ap (alone journal) is
    ∙ (λ i. play_with journal (lane_with (first i) (Some (here i)) lane.done ∷ []))
    ∙ sym (ap (λ (h : Option Held). step_of rules false journal (played lane ∷ []) 0 lane.done command todo true (pin_of h)) none)
    ∙ sym (ap (λ b. step_of rules false journal (played lane ∷ []) 0 lane.done command todo b (pin_of lane.held)) kind)
    ∙ sym (ap (λ (cs : List Command). lane_step rules false journal (played lane ∷ []) 0 cs (played lane)) first)

-- the first command, if its pin was taken
pub answered_then : (rules : Rules) (denied : Bool) (journal after : List Entry) (command : Command) (todo : List Command) (held : Held) (reply : Reply) (lane new : LaneOf)
    → lane.todo ≡ command ∷ todo → has_pin command.task ≡ true → lane.held ≡ Some held
    → reply ≡ reply_or_denied denied (answer_to rules command.task (take (position_of held) journal) journal)
    → after ≡ journal ++ entries_of rules (take (position_of held) journal) command reply
    → new ≡ lane_from todo None (lane.done ++ done_with command reply ∷ []) → alone after new ≡ step rules (alone journal lane) (0, denied)
answered_then rules denied journal after command todo held reply lane new first kind holds said goes is =
    let pinned : List Entry = take (position_of held) journal in
    (λ i. alone (goes i) (is i))
    ∙ ap (λ (r : Reply). alone (journal ++ entries_of rules pinned command r) (lane_from todo None (lane.done ++ done_with command r ∷ []))) said
    ∙ sym (ap (λ (h : Option Held). step_of rules denied journal (played lane ∷ []) 0 lane.done command todo true (pin_of h)) holds)
    ∙ sym (ap (λ b. step_of rules denied journal (played lane ∷ []) 0 lane.done command todo b (pin_of lane.held)) kind)
    ∙ sym (ap (λ (cs : List Command). lane_step rules denied journal (played lane ∷ []) 0 cs (played lane)) first)

-- ---- what is held

-- what is held stays valid when entries follow
pub held_grows : (journal more : List Entry) (todo : List Command) (held : Option Held) → IsHeld journal todo held → IsHeld (journal ++ more) todo held
held_grows journal more todo None is = is
held_grows journal more [] (Some held) is = is
held_grows journal more (command ∷ todo) (Some held) is = held_at_grows journal more (merge_policy command.task) held is

-- ---- what is left to do after a step

pub one_less : (lane new : LaneOf) (command : Command) (todo : List Command) → lane.todo ≡ command ∷ todo → new.todo ≡ todo → length new.todo + 1 ≡ length lane.todo
one_less lane new command todo first rest =
    let long : length lane.todo ≡ length (command ∷ todo) = ap (λ (cs : List Command). length cs) first in
    let short : length new.todo ≡ length todo = ap (λ (cs : List Command). length cs) rest in
    omega (arith, long, short)
