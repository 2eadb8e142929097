-- The plan of a merge over a version.
use Rattle.std.specs.Prelude.{ℕ, Bool, false, ◌&&◌, nat_eq, List, [], ◌∷◌, length, map, take, Option, Some, None}
use Rattle.std.specs.List.{list_all}
use Rattle.lake_model.specs.declared.Policy.{Policy}
use Rattle.lake_model.specs.Tables.{Table}
use Rattle.lake_model.specs.Layout.{Part}
use Rattle.lake_model.specs.Plan.{planned_parts, tier}
use Rattle.segment_core.specs.Plans.{PlanOf, plan_run}
use Rattle.segment_core.specs.Versions.{VersionOf}

-- the plan of these parts at a position, if there are any
abbrev pub plan_parts : ℕ → List Part → Option PlanOf
plan_parts at [] = None
plan_parts at (part ∷ parts) = Some (plan_run at (part ∷ parts))

abbrev pub plan_at : Policy → VersionOf → Option PlanOf
plan_at policy version = plan_parts version.at (planned_parts policy version.parts)

-- whether there are four parts at the start, all of one tier
abbrev pub begins_run : List Part → Bool
begins_run [] = false
begins_run (part ∷ parts) = let run = take 4 (part ∷ parts) in nat_eq (length run) 4 && list_all (λ other. nat_eq (tier other) (tier part)) run

-- the tables of loads
abbrev pub load_tables : List (ℕ × Table) → List Table
load_tables loads = map (λ load. load.1) loads

-- the positions of loads
abbrev pub load_positions : List (ℕ × Table) → List ℕ
load_positions loads = map (λ load. load.0) loads
