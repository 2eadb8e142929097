-- The facts at the end of a replay that decide the verdict on a trace.
use Rattle.std.specs.Prelude.{ℕ, ◌+◌, ◌^◌, ◌<◌, ◌≡◌, true, List, [], length, flat_map, get_or, map}
use Rattle.std.specs.List.{AllByRecursion}
use Rattle.lake_model.specs.declared.Who.{Who}
use Rattle.lake_model.specs.Texts.{Text}
use Rattle.lake_model.specs.Journal.{Entry}
use Rattle.lake_model.specs.Layout.{is_legal}
use Rattle.script_model.specs.Commands.{Batch, Command}
use Rattle.script_model.specs.Lanes.{IsOfLanes}
use Rattle.script_model.specs.Options.{Options}
use Rattle.record_model.specs.Rules.{Rules}
use Rattle.record_model.specs.Replies.{Reply}
use Rattle.record_model.specs.Record.{answered_with}
use Rattle.record_model.specs.Play.{who_of}
use Rattle.record_model.specs.Texts.{answer_lines, journal_lines}
use Rattle.trace_laws.specs.Hints.{Hint, Wanting, hint_of, reply_by}
use Rattle.trace_laws.specs.Named.{IsBatchNamed}
use Rattle.trace_laws.specs.Passing.{verdict}
use Rattle.trace_laws.specs.Reading.{groups_of, is_cut}
use Rattle.trace_laws.specs.Rebuilt.{rebuilt}
use Rattle.trace_laws.specs.Verdict.{all_commands, counted, hinted_zip, hints_of}
use Rattle.trace_groups.specs.Pieces.{group_text}
use Rattle.trace_numbers.specs.Positions.{numbers_pass}

-- the reply has this hint, and the answer's lines are this text
pub record IsAnswered (who : Who) (hint : Hint) (reply : Reply) (text : Text) : Type 0 where
  pub tells : hint_of reply ≡ hint
  pub is : text ≡ group_text (answer_lines true (answered_with who reply))

-- the journal that results from the accepted answers
abbrev pub journal_of : Rules → List Command → List Hint → List Entry
journal_of rules commands hints = rebuilt rules (hinted_zip commands hints) (counted (hinted_zip commands hints))

-- Each text is that of the command's answer, made again at the position of its hint, and the answer has its hint; the
-- last text is that of the journal that results from the accepted answers, which is legal.
pub record IsReplayed (rules : Rules) (commands : List Command) (hints : List Hint) (texts : List Text) : Type 0 where
  pub answers : (i : ℕ) (c : Command) → i < length commands
      → let command = get_or commands i c in let hint = get_or hints i Wanting in
      IsAnswered (who_of command) hint (reply_by rules (journal_of rules commands hints) command hint) (get_or texts i [])
  pub last : get_or texts (length commands) [] ≡ group_text (journal_lines (journal_of rules commands hints))
  pub legal : is_legal (journal_of rules commands hints) ≡ true

-- The trace is one text for each command, and one for the journal. The hints pass the tests on numbers, and the texts
-- are those of the answers that are made again, and of their journal.
pub record IsWhole (rules : Rules) (options : Options) (batches : List Batch) (trace : Text) (commands : List Command) (hints : List Hint) (texts : List Text) : Type 0 where
  pub whole : flat_map (λ text. text) texts ≡ trace
  pub many : length texts ≡ length commands + 1
  pub numbers : numbers_pass options.lanes options.merge batches hints ≡ true
  pub replayed : IsReplayed rules commands hints texts

-- The verdict is true exactly if the facts hold of the texts of the groups of the trace; and in that case the trace is
-- cut.
abbrev pub EndsDecide : Type 0
EndsDecide = (rules : Rules) (options : Options) (batches : List Batch) (trace : Text) (commands : List Command) (hints : List Hint) (texts : List Text) → AllByRecursion (IsOfLanes options.lanes) batches
    → AllByRecursion IsBatchNamed batches → options.trace ≡ true → length (all_commands options.merge 1 batches) < 2 ^ 64
    → commands ≡ all_commands options.merge 1 batches → hints ≡ hints_of batches options.merge trace → texts ≡ map group_text (groups_of trace)
    → (verdict rules options batches trace ≡ true → (is_cut trace ≡ true) × IsWhole rules options batches trace commands hints texts)
    × (IsWhole rules options batches trace commands hints texts → verdict rules options batches trace ≡ true)
