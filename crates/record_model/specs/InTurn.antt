-- One lane without a stated order: its commands, one after another.
use Rattle.std.specs.Prelude.{◌≡◌, Bool, false, List, [], ◌∷◌, ◌++◌, length}
use Rattle.std.specs.List.{AllByRecursion}
use Rattle.record_model.specs.Rules.{Rules}
use Rattle.script_model.specs.Commands.{Command, Batch}
use Rattle.record_model.specs.Answered.{answer_to}
use Rattle.record_model.specs.Record.{answered_with, Answered, RunRecord}
use Rattle.record_model.specs.Play.{who_of, reply_or_denied, entries_of}

-- the record after one more command, which is answered at the journal of that moment; `denied` says that memory runs
-- out
abbrev pub after_command : Rules → RunRecord → Command → Bool → RunRecord
after_command rules before command denied =
    let reply = reply_or_denied denied (answer_to rules command.task before.journal before.journal) in
    record before { journal = before.journal ++ entries_of rules before.journal command reply; answers = before.answers ++ answered_with (who_of command) reply ∷ [] }

-- each command, with whether memory runs out when it is answered; past the end of that list it does not
unfoldable pub in_turn : Rules → List Command → List Bool → RunRecord → RunRecord
in_turn rules [] denials before = before
in_turn rules (command ∷ commands) [] before = in_turn rules commands [] (after_command rules before command false)
in_turn rules (command ∷ commands) (denied ∷ denials) before = in_turn rules commands denials (after_command rules before command denied)

-- the record with more answers
abbrev pub with_answers : List Answered → RunRecord → RunRecord
with_answers answers made = record made { answers = made.answers ++ answers }

-- the record after a batch: the length of the journal is added to its syncs
abbrev pub with_sync : RunRecord → RunRecord
with_sync made = record made { syncs = made.syncs ++ length made.journal ∷ [] }

-- all commands belong to lane 1
abbrev pub IsOneLane : Batch → Type 0
IsOneLane batch = AllByRecursion (λ command. command.lane ≡ 1) batch
