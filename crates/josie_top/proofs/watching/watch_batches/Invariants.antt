use Rattle.std.proofs.Common.{◌≡◌, false}
use mathlib.Core.List.{IsPrefix}
use Rattle.lake_model.specs.Journal.{standard_limits}
use Rattle.josie_top.specs.Watching.{IsWatchingOn}
use Rattle.josie_top.specs.World.{world_of}
use Rattle.josie_top.proofs.watching.watch_batches.Given as goal

abbrev pub invariant-loop-number : goal.invariant-loop-number
invariant-loop-number g l =
    IsWatchingOn
    (world_of (g.S.Source.left l.initial.source) (g.S.Source.faults l.initial.source) (g.K.Sink.written l.initial.sink) (g.K.Sink.faults l.initial.sink) (g.F.Shelf.files l.initial.shelf) (g.F.Shelf.faults l.initial.shelf))
    (world_of (g.S.Source.left l.source) (g.S.Source.faults l.source) (g.K.Sink.written l.sink) (g.K.Sink.faults l.sink) (g.F.Shelf.files l.shelf) (g.F.Shelf.faults l.shelf))
    l.gather l.out.made l.number l.watches l.initial.watches
    × (l.gather.ended ≡ false) × (l.out.made.journal ≡ l.catalogue.journal) × (l.catalogue.limits ≡ standard_limits) × IsPrefix l.past l.catalogue.journal
