-- The checker of a finished run: the batches of its script, and when a trace is that of a right record of them.
use Rattle.std.specs.Prelude.{◌≡◌, true, List}
use Rattle.std.specs.List.{AllByRecursion}
use Rattle.lake_model.specs.Texts.{Text}
use Rattle.script_model.specs.Commands.{Batch}
use Rattle.script_model.specs.Lanes.{IsOfLanes}
use Rattle.script_model.specs.Options.{Options}
use Rattle.record_model.specs.Record.{RunRecord}
use Rattle.record_model.specs.Rules.{Rules}
use Rattle.trace_laws.specs.Verdict.{IsTraceOf}

-- the rules and the options of a run, and the batches of its script so far
pub record CheckerOf : Type 0 where
  pub rules : Rules
  pub options : Options
  pub batches : List Batch

abbrev pub checker_with : Rules → Options → List Batch → CheckerOf
checker_with rules options batches = record { rules = rules; options = options; batches = batches }

-- some right record of the batches has the trace as its text
abbrev pub HasRecord : CheckerOf → Text → Type 0
HasRecord checker trace = (made : RunRecord) × IsTraceOf checker.rules checker.options checker.batches trace made

-- Each command belongs to one of the lanes, and replies are traced.
pub record AreChecked (options : Options) (batches : List Batch) : Type 0 where
  pub lanes : AllByRecursion (IsOfLanes options.lanes) batches
  pub traced : options.trace ≡ true
