use Rattle.std.proofs.Common.{◌≡◌, take}
use Rattle.batch_work.specs.Named.{HaveNames}
use Rattle.batch_work.specs.Works.{works_of}
use Rattle.batch_work.proofs.work.given.Given as goal

abbrev pub invariant-loop-command : goal.invariant-loop-command
invariant-loop-command l = (works_of l.works.items ≡ take l.command-index l.commands) × HaveNames (take l.command-index l.commands)
