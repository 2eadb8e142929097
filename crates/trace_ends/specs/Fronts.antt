-- The journal at each position of a replay, and the replies that are made there.
use Rattle.std.specs.Prelude.{ℕ, ◌+◌, ◌≤◌, ◌≡◌, Bool, true, List, ◌++◌, length, map, get_or, take, None}
use Rattle.std.specs.List.{AllByRecursion, list_all}
use Rattle.lake_model.specs.Journal.{Entry, entry_with}
use Rattle.script_model.specs.Commands.{Batch, Command}
use Rattle.script_model.specs.Lanes.{IsOfLanes}
use Rattle.record_model.specs.Rules.{Rules}
use Rattle.record_model.specs.Replies.{Reply, NoMemory}
use Rattle.record_model.specs.Answered.{answer_to, change_of}
use Rattle.record_model.specs.Play.{entries_of, who_of}
use Rattle.record_model.specs.Right.{pinned_by}
use Rattle.trace_laws.specs.Hints.{Hint, Stands, Wanting, hint_of, reply_by}
use Rattle.trace_laws.specs.Passing.{tells}
use Rattle.trace_laws.specs.Rebuilt.{Hinted, pinned_of, rebuilt}
use Rattle.trace_laws.specs.Verdict.{all_commands, counted, hinted_zip}
use Rattle.trace_numbers.specs.Positions.{IsOwner, numbers_pass}
use Rattle.trace_numbers.specs.Turns.{made_at, planned_at}
use Rattle.trace_ends.specs.Within.{ArePositions}

-- the reply that is made now to a command that was pinned at a beginning of this journal
abbrev pub reply_at : Rules → List Entry → Command → Hint → Reply
reply_at rules now command Wanting = NoMemory
reply_at rules now command (Stands s) = answer_to rules command.task (take (pinned_by s) now) now

-- An answer that was not planned is pinned where it is made.
abbrev pub UnplannedIsNow : Type 0
UnplannedIsNow = (now : List Entry) (hint : Hint) → planned_at hint ≡ None → made_at hint ≡ length now → take (pinned_of hint) now ≡ now

-- The reply that is made again over the whole journal is the one that is made now, at the position of its hint.
abbrev pub ReplyIsMade : Type 0
ReplyIsMade = (rules : Rules) (commands : List Command) (hints : List Hint) (now : List Entry) (q i : ℕ) (c : Command) → ArePositions commands hints
    → let hinted = hinted_zip commands hints in let command = get_or commands i c in let hint = get_or hints i Wanting in
    now ≡ rebuilt rules hinted q → length now ≡ q → made_at hint ≡ q → reply_by rules (rebuilt rules hinted (counted hinted)) command hint ≡ reply_at rules now command hint

-- The next entry is that of its owner's command.
abbrev pub NextIsRebuilt : Type 0
NextIsRebuilt = (rules : Rules) (commands : List Command) (hints : List Hint) (now : List Entry) (q index : ℕ) (c : Command) → length hints ≡ length commands → IsOwner hints (q + 1) index
    → let hinted = hinted_zip commands hints in let command = get_or commands index c in let hint = get_or hints index Wanting in
    now ≡ rebuilt rules hinted q → rebuilt rules hinted (q + 1) ≡ now ++ map (entry_with (who_of command)) (change_of rules command.task (take (pinned_of hint) now))

-- one entry is added, which is the one that the reply adds
pub record IsPut (rules : Rules) (now next : List Entry) (command : Command) (hint : Hint) : Type 0 where
  pub is : next ≡ now ++ entries_of rules (take (pinned_of hint) now) command (reply_at rules now command hint)
  pub one : length next ≡ length now + 1

-- If the reply to its owner's command has its hint, the next entry is the one that the reply adds.
abbrev pub NextIsPut : Type 0
NextIsPut = (rules : Rules) (commands : List Command) (hints : List Hint) (now : List Entry) (q index : ℕ) (c : Command) → length hints ≡ length commands → IsOwner hints (q + 1) index
    → let hinted = hinted_zip commands hints in let command = get_or commands index c in let hint = get_or hints index Wanting in
    now ≡ rebuilt rules hinted q → hint_of (reply_at rules now command hint) ≡ hint → IsPut rules now (rebuilt rules hinted (q + 1)) command hint

-- If the first positions have one entry each, so do fewer of them, and their entries are the beginning of all that is
-- rebuilt later.
abbrev pub FrontsAreTaken : Type 0
FrontsAreTaken = (rules : Rules) (hinted : List Hinted) (p q size : ℕ) → p ≤ q → p ≤ size → length (rebuilt rules hinted q) ≡ q
    → (length (rebuilt rules hinted p) ≡ p) × (take p (rebuilt rules hinted size) ≡ rebuilt rules hinted p)

-- If each reply that is made again over the whole journal has its hint, each position has its entry.
abbrev pub FrontsAreWhole : Type 0
FrontsAreWhole = (rules : Rules) (lanes : ℕ) (merge : Bool) (batches : List Batch) (hints : List Hint) → AllByRecursion (IsOfLanes lanes) batches → numbers_pass lanes merge batches hints ≡ true
    → let hinted = hinted_zip (all_commands merge 1 batches) hints in let journal = rebuilt rules hinted (counted hinted) in
    list_all (tells rules journal) hinted ≡ true → (q : ℕ) → q ≤ counted hinted → (length (rebuilt rules hinted q) ≡ q) × (take q journal ≡ rebuilt rules hinted q)
