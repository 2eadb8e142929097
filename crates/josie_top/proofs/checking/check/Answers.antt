use Rattle.std.proofs.Common.{arith, inl, refl, subst}
use Rattle.script_model.specs.Commands.{Bytes, File}
use Rattle.commands.specs.Tasks.{file_of}
use Rattle.script_text.specs.Outcomes.{CameOf}
use Rattle.josie_top.specs.World.{HasMoved, World, world_of}
use Rattle.josie_top.proofs.CheckFacts.{checked_by, file_came}
use Rattle.josie_top.proofs.RunFacts.{moves_since}
use Rattle.josie_top.proofs.checking.check.Goals as goal

pub returns-in_default-clause-table : goal.returns-in_default-clause-table
returns-in_default-clause-table g c = λ made none. inl (record { unread = refl; unwritten_is = refl; empty_is = none })

pub returns-in-Err-clause-table : goal.returns-in-Err-clause-table
returns-in-Err-clause-table g c = λ made none.
    let before : World = world_of (g.S.Source.left c.args.source.now) (g.S.Source.faults c.args.source.now) (g.K.Sink.written c.args.sink.now) (g.K.Sink.faults c.args.sink.now) (g.F.Shelf.files c.args.shelf.now) (g.F.Shelf.faults c.args.shelf.now) in (
      refl,
      record {
        file = file_of c.in-Ok.file;
        came = file_came c.args.path.now before (g.F.Shelf.files c.fetch_file.new.shelf) (g.F.Shelf.faults c.fetch_file.new.shelf) (file_of c.in-Ok.file) c.fetch_file.ensures.files c.in-Ok.ensures.came;
        fault = c.in-Err.ensures.fault;
      },
      none,
    )

pub returns-in-Ok-trace_of-clause-table : goal.returns-in-Ok-trace_of-clause-table
returns-in-Ok-trace_of-clause-table g c = λ made none.
    let before : World = world_of (g.S.Source.left c.args.source.now) (g.S.Source.faults c.args.source.now) (g.K.Sink.written c.args.sink.now) (g.K.Sink.faults c.args.sink.now) (g.F.Shelf.files c.args.shelf.now) (g.F.Shelf.faults c.args.shelf.now) in
    let begun : World = world_of (g.S.Source.left c.args.source.now) (g.S.Source.faults c.args.source.now) (g.K.Sink.written c.args.sink.now) (g.K.Sink.faults c.args.sink.now) (g.F.Shelf.files c.fetch_file.new.shelf) (g.F.Shelf.faults c.fetch_file.new.shelf) in
    let now : World = world_of (g.S.Source.left c.check_trace.new.source) (g.S.Source.faults c.check_trace.new.source) (g.K.Sink.written c.check_trace.new.sink) (g.K.Sink.faults c.check_trace.new.sink) (g.F.Shelf.files c.check_trace.new.shelf) (g.F.Shelf.faults c.check_trace.new.shelf) in
    let came : CameOf before.files before.fetch_faults (g.F.Shelf.faults c.fetch_file.new.shelf) c.args.path.now (Bytes c.in-Ok-trace_of.trace.now) =
    subst (λ (file : File). CameOf before.files before.fetch_faults (g.F.Shelf.faults c.fetch_file.new.shelf) c.args.path.now file) c.in-Ok-trace_of.ensures.bytes c.in-Ok.ensures.came in
    checked_by c.args.path.now c.args.options c.in-Ok-trace_of.trace.now c.check_trace.result before begun now made
    (file_came c.args.path.now before (g.F.Shelf.files c.fetch_file.new.shelf) (g.F.Shelf.faults c.fetch_file.new.shelf) (Bytes c.in-Ok-trace_of.trace.now) c.fetch_file.ensures.files came)
    c.check_trace.ensures.checked none

pub returns-in-Ok-trace_of-clause-moves : goal.returns-in-Ok-trace_of-clause-moves
returns-in-Ok-trace_of-clause-moves g c =
    let before : World = world_of (g.S.Source.left c.args.source.now) (g.S.Source.faults c.args.source.now) (g.K.Sink.written c.args.sink.now) (g.K.Sink.faults c.args.sink.now) (g.F.Shelf.files c.args.shelf.now) (g.F.Shelf.faults c.args.shelf.now) in
    let begun : World = world_of (g.S.Source.left c.args.source.now) (g.S.Source.faults c.args.source.now) (g.K.Sink.written c.args.sink.now) (g.K.Sink.faults c.args.sink.now) (g.F.Shelf.files c.fetch_file.new.shelf) (g.F.Shelf.faults c.fetch_file.new.shelf) in
    let now : World = world_of (g.S.Source.left c.check_trace.new.source) (g.S.Source.faults c.check_trace.new.source) (g.K.Sink.written c.check_trace.new.sink) (g.K.Sink.faults c.check_trace.new.sink) (g.F.Shelf.files c.check_trace.new.shelf) (g.F.Shelf.faults c.check_trace.new.shelf) in
    let moved : HasMoved before begun = record { files = c.fetch_file.ensures.files; reads = omega arith; writes = omega arith; fetches = c.fetch_file.ensures.later } in
    moves_since {before = before} {mid = begun} {now = now} c.check_trace.result moved c.check_trace.ensures.moves
