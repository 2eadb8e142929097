-- The commands of a lane, and those that were done.
use Rattle.std.specs.Prelude.{ℕ, ◌==◌, List, filter, map}
use Rattle.script_model.specs.Commands.{Command}
use Rattle.record_model.specs.Play.{Done}

-- the commands of a lane
abbrev pub lane_commands : ℕ → List Command → List Command
lane_commands l commands = filter (λ c. c.lane == l) commands

abbrev pub commands_in : List Done → List Command
commands_in done = map (λ d. d.command) done
