use Rattle.std.proofs.Common.{◌≡◌, ◌≤◌, map, string_bytes, take}
use Rattle.josie_top.specs.Given.{AreTaken}
use Rattle.josie_top.proofs.given.take_queries.Given as goal

abbrev pub invariant-loop-index : goal.invariant-loop-index
invariant-loop-index g l =
    AreTaken (g.F.Shelf.files l.initial.shelf) (g.F.Shelf.faults l.initial.shelf) (g.F.Shelf.faults l.shelf) l.k (take l.index (map string_bytes l.paths)) l.watches
    × (g.F.Shelf.files l.shelf ≡ g.F.Shelf.files l.initial.shelf) × (g.F.Shelf.faults l.initial.shelf ≤ g.F.Shelf.faults l.shelf)
