use Rattle.std.proofs.Common.{◌≡◌, ◌+◌, ◌*◌, ◌-◌, length}
use Rattle.script_text.proofs.BatchLemmas.{IsUnder}
use Rattle.script_text.proofs.gather.Gather.batch.Given as goal

abbrev pub invariant-lines : goal.invariant-lines
invariant-lines g l =
    IsUnder (l.source ≡ l.fn.source) l.fn.self l.self (g.S.Source.left l.fn.source) (g.S.Source.left l.source) (g.F.Shelf.files l.fn.shelf) (g.F.Shelf.files l.shelf) (g.F.Shelf.faults l.fn.shelf) (g.F.Shelf.faults l.shelf) (g.S.Source.faults l.fn.source) (g.S.Source.faults l.source)

abbrev pub decreases-lines : goal.decreases-lines
decreases-lines g l = 2 * (l.self.limits.input + 1 - (l.self.reading.used + length l.self.held)) + length l.self.held
