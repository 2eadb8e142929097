use Rattle.std.proofs.Common.{subst, sym, ◌∙◌}
use Rattle.script_model.specs.Commands.{Batch}
use Rattle.script_model.specs.Lanes.{IsOfLanes}
use Rattle.lake_maker.specs.Made.{tasks_of}
use Rattle.lake_maker.proofs.NumberedLemmas.{numbered_lanes}
use Rattle.lake_maker.proofs.numbered.Numbered.batch.Goals as goal

pub returns-clause-lanes : goal.returns-clause-lanes
returns-clause-lanes c = let P : Batch → Type 0 = IsOfLanes 1 in subst P (sym (c.new.ensures ∙ c.self.invariant)) (numbered_lanes (tasks_of c.self.inside.commands.items))
