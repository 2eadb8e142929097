-- The lanes of the commands of a batch.
use Rattle.std.specs.Prelude.{ℕ, ◌<◌, ◌≤◌}
use Rattle.std.specs.List.{AllByRecursion}
use Rattle.script_model.specs.Commands.{Batch}

-- every command belongs to one of lanes 1 to n
abbrev pub IsOfLanes : ℕ → Batch → Type 0
IsOfLanes n batch = AllByRecursion (λ command. (0 < command.lane) × (command.lane ≤ n)) batch
