-- The play of batches in a stated order, one step at a time.
use Rattle.std.specs.Prelude.{ℕ, ◌+◌, ◌*◌, ◌==◌, ◌≡◌, Bool, true, false, List, [], ◌∷◌, ◌++◌, length, map, take, drop, filter, fold, flat_map, replicate, slice_get, slice_set, get_or, Option, Some, None}
use Rattle.std.specs.List.{range_with_len}
use Rattle.lake_model.specs.declared.Who.{Who}
use Rattle.record_model.specs.Rules.{Rules}
use Rattle.lake_model.specs.Journal.{who_with, Entry, entry_with}
use Rattle.script_model.specs.Commands.{Merge, Command, command_with, Batch, updates}
use Rattle.record_model.specs.Replies.{Reply, NoMemory}
use Rattle.record_model.specs.Answered.{answer_to, adds, has_pin}
use Rattle.script_model.specs.Options.{Options}
use Rattle.record_model.specs.Record.{Answered, answered_with, RunRecord, empty, with_end}

-- a command with its reply
pub record Done : Type 0 where
  pub command : Command
  pub reply : Reply

abbrev pub done_with : Command → Reply → Done
done_with command reply = record { command = command; reply = reply }

abbrev pub who_of : Command → Who
who_of command = who_with command.lane command.number

-- a lane: the commands still to do, the position of the pin of the first of them, and what is done
pub record Lane : Type 0 where
  pub todo : List Command
  pub pin : Option ℕ
  pub done : List Done

pub record Play : Type 0 where
  pub journal : List Entry
  pub lanes : List Lane

abbrev pub lane_with : List Command → Option ℕ → List Done → Lane
lane_with todo pin done = record { todo = todo; pin = pin; done = done }

abbrev pub play_with : List Entry → List Lane → Play
play_with journal lanes = record { journal = journal; lanes = lanes }

abbrev pub reply_or_denied : Bool → Reply → Reply
reply_or_denied true reply = NoMemory
reply_or_denied false reply = reply

-- the entries that a reply adds
abbrev pub entries_of : Rules → List Entry → Command → Reply → List Entry
entries_of rules pinned command reply = map (entry_with (who_of command)) (adds rules command.task pinned reply)

-- a command is answered, and its lane goes on to the next
abbrev pub answered : Rules → Bool → List Entry → List Lane → ℕ → List Done → Command → List Command → List Entry → Play
answered rules denied journal lanes l done command todo pinned =
    let reply = reply_or_denied denied (answer_to rules command.task pinned journal) in
    play_with (journal ++ entries_of rules pinned command reply) (slice_set lanes l (lane_with todo None (done ++ done_with command reply ∷ [])))

abbrev pub step_of : Rules → Bool → List Entry → List Lane → ℕ → List Done → Command → List Command → Bool → Option ℕ → Play
step_of rules denied journal lanes l done command todo true None = play_with journal (slice_set lanes l (lane_with (command ∷ todo) (Some (length journal)) done))
step_of rules denied journal lanes l done command todo true (Some at) = answered rules denied journal lanes l done command todo (take at journal)
step_of rules denied journal lanes l done command todo false pin = answered rules denied journal lanes l done command todo journal

-- the next step of a lane, if it has one; `denied` says that memory runs out, if the step is one that answers
abbrev pub lane_step : Rules → Bool → List Entry → List Lane → ℕ → List Command → Lane → Play
lane_step rules denied journal lanes l [] lane = play_with journal lanes
lane_step rules denied journal lanes l (command ∷ todo) lane = step_of rules denied journal lanes l lane.done command todo (has_pin command.task) lane.pin

abbrev pub step_at : Rules → Bool → List Entry → List Lane → ℕ → Option Lane → Play
step_at rules denied journal lanes l None = play_with journal lanes
step_at rules denied journal lanes l (Some lane) = lane_step rules denied journal lanes l lane.todo lane

abbrev pub step : Rules → Play → ℕ × Bool → Play
step rules play turn = step_at rules turn.1 play.journal play.lanes turn.0 (slice_get play.lanes turn.0)

-- each turn, with whether memory runs out in it; past the end of that list it does not
abbrev pub with_denials : List ℕ → List Bool → List (ℕ × Bool)
with_denials [] denials = []
with_denials (l ∷ order) [] = (l, false) ∷ with_denials order []
with_denials (l ∷ order) (denied ∷ denials) = (l, denied) ∷ with_denials order denials

unfoldable pub play : Rules → List ℕ → List Bool → Play → Play
play rules order denials before = fold (step rules) before (with_denials order denials)

-- the merger's commands in a batch, numbered from its next number on
abbrev pub merger_commands : Bool → ℕ → Batch → List Command
merger_commands false next batch = []
merger_commands true next batch = map (λ n. command_with n 0 (Merge false)) (range_with_len next (updates batch))

-- the same, where the merger's next number is given exactly if there is a merger
abbrev pub merges_of : Option ℕ → Batch → List Command
merges_of None batch = []
merges_of (Some next) batch = merger_commands true next batch

abbrev pub lane_of : Batch → ℕ → Lane
lane_of batch l = lane_with (filter (λ command. command.lane == l) batch) None []

-- the merger, and then lanes 1 to n
abbrev pub lanes_of : ℕ → Batch → List Command → List Lane
lanes_of n batch merges = lane_with merges None [] ∷ map (lane_of batch) (range_with_len 1 n)

-- the piece, and then lane by lane, the merger last; a lane with no step left does nothing
abbrev pub whole_order : List ℕ → ℕ → ℕ → List ℕ
whole_order piece n steps = piece ++ flat_map (λ l. replicate steps l) (range_with_len 1 n ++ 0 ∷ [])

-- the answers of commands in their order, where each lane's answers are in a list of their own
abbrev pub gathered : List Command → List (List Done) → List Done
gathered [] lists = []
gathered (command ∷ commands) lists =
    take 1 (get_or lists command.lane []) ++ gathered commands (slice_set lists command.lane (drop 1 (get_or lists command.lane [])))

abbrev pub play_batch : Rules → ℕ → Batch → List Command → List ℕ → List Bool → List Entry → Play
play_batch rules lanes batch merges piece denials journal =
    play rules (whole_order piece lanes (2 * (length batch + length merges))) denials (play_with journal (lanes_of lanes batch merges))

abbrev pub answers_of : List Done → List Answered
answers_of done = map (λ d. answered_with (who_of d.command) d.reply) done

-- a batch's answers come in the order of the script, and then the merger's
abbrev pub record_after : RunRecord → List Command → Play → RunRecord
record_after before commands play = record before {
  journal = play.journal;
  answers = before.answers ++ answers_of (gathered commands (map (λ lane. lane.done) play.lanes));
  syncs = before.syncs ++ length play.journal ∷ [];
}

abbrev pub head_or_empty : {X : Type 0} → List (List X) → List X
head_or_empty [] = []
head_or_empty (xs ∷ xss) = xs

abbrev pub batch_after : Rules → ℕ → Batch → List Command → List ℕ → List Bool → RunRecord → RunRecord
batch_after rules lanes batch merges piece denials before = record_after before (batch ++ merges) (play_batch rules lanes batch merges piece denials before.journal)

-- the record after these batches, where `next` is the merger's next number
unfoldable pub played_from : Rules → ℕ → Bool → ℕ → List Batch → List (List ℕ) → List (List Bool) → RunRecord → RunRecord
played_from rules lanes merge next [] pieces denials before = before
played_from rules lanes merge next (batch ∷ batches) pieces denials before =
    played_from rules lanes merge (next + updates batch) batches (drop 1 pieces) (drop 1 denials)
    (batch_after rules lanes batch (merger_commands merge next batch) (head_or_empty pieces) (head_or_empty denials) before)

abbrev pub pieces_of : Option (List (List ℕ)) → List (List ℕ)
pieces_of None = []
pieces_of (Some pieces) = pieces

-- the record of these batches with these options, where memory runs out at these turns
abbrev pub played : Rules → Options → List Batch → List (List Bool) → RunRecord
played rules options batches denials = played_from rules options.lanes options.merge 1 batches (pieces_of options.order) denials (empty options)

-- The record was played from these batches with these options, and memory ran out at some turns or at none.
abbrev pub IsPlayed : Rules → Options → List Batch → RunRecord → Type 0
IsPlayed rules options batches made = (denials : List (List Bool)) × (made ≡ with_end made.ended (played rules options batches denials))
