use Rattle.std.proofs.Common.{◌≡◌, false}
use Rattle.std.specs.Prelude.{None}
use Rattle.josie_top.specs.Checking.{IsReading}
use Rattle.josie_top.specs.World.{world_of}
use Rattle.josie_top.proofs.checking.read_script.Given as goal

abbrev pub invariant-loop : goal.invariant-loop
invariant-loop g l =
    IsReading l.initial.checker.options
    (world_of (g.S.Source.left l.initial.source) (g.S.Source.faults l.initial.source) None 0 (g.F.Shelf.files l.initial.shelf) (g.F.Shelf.faults l.initial.shelf))
    (world_of (g.S.Source.left l.source) (g.S.Source.faults l.source) None 0 (g.F.Shelf.files l.shelf) (g.F.Shelf.faults l.shelf))
    l.gather l.checker.batches
    × (l.gather.ended ≡ false) × (l.checker.rules ≡ l.initial.checker.rules) × (l.checker.options ≡ l.initial.checker.options)
