use Rattle.std.proofs.Common.{ap, subst, sym}
use Rattle.option_model.specs.Plain as said
use Rattle.command_line.specs.Words.{mode_of}
use Rattle.lake_model.specs.Texts.{Text}
use Rattle.josie_top.specs.Checking.{Checks}
use Rattle.josie_top.specs.Modes.{EndsModeWell, MeetsMode}
use Rattle.josie_top.specs.World.{World, with_sink, world_of}
use Rattle.josie_top.proofs.CheckFacts.{check_ends_well}
use Rattle.josie_top.proofs.RunFacts.{make_ends_well}
use Rattle.josie_top.proofs.WatchFacts.{watch_ends_well}
use Rattle.josie_top.proofs.run_mode.Goals as goal

pub returns-in-Run-clause-complete : goal.returns-in-Run-clause-complete
returns-in-Run-clause-complete g c =
    let before : World = world_of (g.S.Source.left c.args.source.now) (g.S.Source.faults c.args.source.now) (g.K.Sink.written c.args.sink.now) (g.K.Sink.faults c.args.sink.now) (g.F.Shelf.files c.args.shelf.now) (g.F.Shelf.faults c.args.shelf.now) in
    let now : World = world_of (g.S.Source.left c.run_script.new.source) (g.S.Source.faults c.run_script.new.source) (g.K.Sink.written c.run_script.new.sink) (g.K.Sink.faults c.run_script.new.sink) (g.F.Shelf.files c.run_script.new.shelf) (g.F.Shelf.faults c.run_script.new.shelf) in
    subst (λ (m : said.Mode). EndsModeWell m c.run_script.result before now) (sym (ap mode_of c.in-Run.is)) c.run_script.ensures.complete

pub returns-in-Make-clause-table : goal.returns-in-Make-clause-table
returns-in-Make-clause-table g c =
    let outside : World = world_of (g.S.Source.left c.args.source.now) (g.S.Source.faults c.args.source.now) (g.K.Sink.written c.args.sink.now) (g.K.Sink.faults c.args.sink.now) (g.F.Shelf.files c.args.shelf.now) (g.F.Shelf.faults c.args.shelf.now) in
    subst (λ (m : said.Mode). MeetsMode m c.make_lake.result outside (with_sink (g.K.Sink.written c.make_lake.new.sink) (g.K.Sink.faults c.make_lake.new.sink) outside) c.make_lake.new.out.made) (sym (ap mode_of c.in-Make.is)) (c.make_lake.ensures.table outside)

pub returns-in-Make-clause-moves : goal.returns-in-Make-clause-moves
returns-in-Make-clause-moves g c =
    let outside : World = world_of (g.S.Source.left c.args.source.now) (g.S.Source.faults c.args.source.now) (g.K.Sink.written c.args.sink.now) (g.K.Sink.faults c.args.sink.now) (g.F.Shelf.files c.args.shelf.now) (g.F.Shelf.faults c.args.shelf.now) in
    c.make_lake.ensures.moves outside

pub returns-in-Make-clause-complete : goal.returns-in-Make-clause-complete
returns-in-Make-clause-complete g c =
    let outside : World = world_of (g.S.Source.left c.args.source.now) (g.S.Source.faults c.args.source.now) (g.K.Sink.written c.args.sink.now) (g.K.Sink.faults c.args.sink.now) (g.F.Shelf.files c.args.shelf.now) (g.F.Shelf.faults c.args.shelf.now) in
    subst (λ (m : said.Mode). EndsModeWell m c.make_lake.result outside (with_sink (g.K.Sink.written c.make_lake.new.sink) (g.K.Sink.faults c.make_lake.new.sink) outside)) (sym (ap mode_of c.in-Make.is)) (make_ends_well c.make_lake.result outside (with_sink (g.K.Sink.written c.make_lake.new.sink) (g.K.Sink.faults c.make_lake.new.sink) outside) c.make_lake.ensures.ends (c.make_lake.ensures.moves outside))

pub returns-in-Watch-clause-complete : goal.returns-in-Watch-clause-complete
returns-in-Watch-clause-complete g c =
    let before : World = world_of (g.S.Source.left c.args.source.now) (g.S.Source.faults c.args.source.now) (g.K.Sink.written c.args.sink.now) (g.K.Sink.faults c.args.sink.now) (g.F.Shelf.files c.args.shelf.now) (g.F.Shelf.faults c.args.shelf.now) in
    let now : World = world_of (g.S.Source.left c.watch.new.source) (g.S.Source.faults c.watch.new.source) (g.K.Sink.written c.watch.new.sink) (g.K.Sink.faults c.watch.new.sink) (g.F.Shelf.files c.watch.new.shelf) (g.F.Shelf.faults c.watch.new.shelf) in
    subst (λ (m : said.Mode). EndsModeWell m c.watch.result before now) (sym (ap mode_of c.in-Watch.is))
    (watch_ends_well c.in-Watch.k _ c.watch.result before now c.watch.new.out.made c.watch.ensures.table c.watch.ensures.moves)

pub returns-in-Check-clause-table : goal.returns-in-Check-clause-table
returns-in-Check-clause-table g c =
    let before : World = world_of (g.S.Source.left c.args.source.now) (g.S.Source.faults c.args.source.now) (g.K.Sink.written c.args.sink.now) (g.K.Sink.faults c.args.sink.now) (g.F.Shelf.files c.args.shelf.now) (g.F.Shelf.faults c.args.shelf.now) in
    let now : World = world_of (g.S.Source.left c.check.new.source) (g.S.Source.faults c.check.new.source) (g.K.Sink.written c.check.new.sink) (g.K.Sink.faults c.check.new.sink) (g.F.Shelf.files c.check.new.shelf) (g.F.Shelf.faults c.check.new.shelf) in
    let table = subst (λ (path : Text). Checks path c.in-Check.options c.check.result before now c.args.out.now.made) c.as_str.ensures.value (c.check.ensures.table c.args.out.now.made c.requires.empty) in
    subst (λ (m : said.Mode). MeetsMode m c.check.result before now c.args.out.now.made) (sym (ap mode_of c.in-Check.is)) table

pub returns-in-Check-clause-complete : goal.returns-in-Check-clause-complete
returns-in-Check-clause-complete g c =
    let before : World = world_of (g.S.Source.left c.args.source.now) (g.S.Source.faults c.args.source.now) (g.K.Sink.written c.args.sink.now) (g.K.Sink.faults c.args.sink.now) (g.F.Shelf.files c.args.shelf.now) (g.F.Shelf.faults c.args.shelf.now) in
    let now : World = world_of (g.S.Source.left c.check.new.source) (g.S.Source.faults c.check.new.source) (g.K.Sink.written c.check.new.sink) (g.K.Sink.faults c.check.new.sink) (g.F.Shelf.files c.check.new.shelf) (g.F.Shelf.faults c.check.new.shelf) in
    subst (λ (m : said.Mode). EndsModeWell m c.check.result before now) (sym (ap mode_of c.in-Check.is))
    (check_ends_well c.as_str.result.now c.in-Check.options c.check.result before now c.args.out.now.made (c.check.ensures.table c.args.out.now.made c.requires.empty) c.check.ensures.moves)
