-- The facts on which the verdict depends for a trace that is cut into groups, stated with the options that it needs.
use Rattle.std.specs.Prelude.{ℕ, ◌+◌, ◌≡◌, Bool, true, List, length, take}
use Rattle.lake_model.specs.Texts.{Text}
use Rattle.script_model.specs.Commands.{Batch, Command}
use Rattle.script_model.specs.Options.{Options}
use Rattle.record_model.specs.Rules.{Rules}
use Rattle.trace_laws.specs.Hints.{Hint}
use Rattle.trace_numbers.specs.Positions.{numbers_pass}
use Rattle.trace_ends.specs.Ends.{IsReplayed}

-- these are the options of a traced run with this number of lanes, with or without a merger
pub record AreOptionsOf (lanes : ℕ) (merge : Bool) (options : Options) : Type 0 where
  pub lanes_are : options.lanes ≡ lanes
  pub merge_is : options.merge ≡ merge
  pub traced : options.trace ≡ true

-- There is one group for each command, and one for the journal; the hints of the commands' groups pass the tests on
-- numbers; and the groups are those of the answers that are made again, and of their journal.
pub record IsRight (rules : Rules) (lanes : ℕ) (merge : Bool) (batches : List Batch) (commands : List Command) (hints : List Hint) (texts : List Text) : Type 0 where
  pub many : length texts ≡ length commands + 1
  pub numbers : numbers_pass lanes merge batches (take (length commands) hints) ≡ true
  pub replayed : IsReplayed rules commands (take (length commands) hints) texts
