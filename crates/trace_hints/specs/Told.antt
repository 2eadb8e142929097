-- The hint of the definitions for a hint of the code.
use Rattle.record_model.specs.Answered as model
use Rattle.trace_laws.specs.Hints.{Hint}
use Rattle.trace_laws.specs.Hints as hint
use Rattle.trace_hints.specs.declared.hint.Hint.{Hint as Declared}
use Rattle.trace_hints.specs.declared.hint.Hint.TheVariants.{Wanting, Nowhere, Saw, Added, PlannedAndSaw, PlannedAndAdded}

abbrev pub hint_as : Declared → Hint
hint_as Wanting = hint.Wanting
hint_as Nowhere = hint.Stands model.Nowhere
hint_as (Saw at) = hint.Stands (model.Saw at)
hint_as (Added at) = hint.Stands (model.Added at)
hint_as (PlannedAndSaw pinned at) = hint.Stands (model.PlannedAndSaw pinned at)
hint_as (PlannedAndAdded pinned at) = hint.Stands (model.PlannedAndAdded pinned at)
