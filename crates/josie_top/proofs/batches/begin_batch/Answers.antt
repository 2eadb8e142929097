use Rattle.std.proofs.Common.{refl, subst, sym, List, [], Ok, length, true, arith}
use Rattle.std.specs.Prelude.{Option}
use Rattle.record_model.specs.declared.Status.{Status}
use Rattle.script_model.specs.Options.{Options}
use Rattle.record_model.specs.Record.{with_end}
use Rattle.record_model.specs.Texts.{text_behind}
use Rattle.script_text.specs.Gathering.{IsWhole}
use Rattle.script_text.specs.Gathers.{Gathers}
use Rattle.josie_top.specs.Ends.{IsWritten}
use Rattle.josie_top.specs.Meets.{Meets}
use Rattle.josie_top.specs.World.{world_of}
use Rattle.josie_top.proofs.RunFacts.{begun, ends_without, ends_gathering}
use Rattle.josie_top.proofs.batches.begin_batch.Goals as goal

pub returns-in-Ok-Some-clause-begun : goal.returns-in-Ok-Some-clause-begun
returns-in-Ok-Some-clause-begun g c =
    let (taken, gathers, late) = c.in-Ok-Some.ensures.gathered in
    let (read, fetched) = c.in-Ok-Some.ensures.later in
    begun _ _ c.args.gather.now c.batch.new.self _ c.in-Ok-Some.batch c.in-Ok-Some.field-0-is (record { files = c.in-Ok-Some.ensures.files; reads = read; writes = omega arith; fetches = fetched }) refl
    taken gathers late c.in-Ok-Some.ensures.limits c.in-Ok-Some.ensures.same_lanes c.in-Ok-Some.ensures.lanes c.in-Ok-Some.ensures.within c.in-Ok-Some.ensures.used

pub returns-in-Ok-None-clause-ends : goal.returns-in-Ok-None-clause-ends
returns-in-Ok-None-clause-ends g c = λ r options before number next way.
    let (taken, gathers, late) = c.in-Ok-None.ensures.gathered in
    let whole : IsWhole c.args.gather.now c.batch.new.self (g.S.Source.left c.batch.new.source) taken.given taken.asked taken.outcomes [] =
    subst (λ (found : Option (List _)). Gathers (Ok found) c.args.gather.now c.batch.new.self (g.S.Source.left c.batch.new.source) taken.given taken.asked taken.outcomes) c.in-Ok-None.field-0-is gathers in
    let rest = subst (λ (o : Options). IsWritten c.finish.result (g.K.Sink.written c.args.sink.now) (g.K.Sink.written c.finish.new.sink) (text_behind o.trace (length c.args.out.now.made.answers) (with_end true c.args.out.now.made))) way.is_made.options_are c.finish.ensures.written in
    ends_without r options c.finish.result before _ (world_of (g.S.Source.left c.batch.new.source) (g.S.Source.faults c.batch.new.source) (g.K.Sink.written c.args.sink.now) (g.K.Sink.faults c.args.sink.now) (g.F.Shelf.files c.batch.new.shelf) (g.F.Shelf.faults c.batch.new.shelf)) (g.K.Sink.written c.finish.new.sink) (g.K.Sink.faults c.finish.new.sink) c.args.gather.now c.batch.new.self c.args.out.now.made c.finish.new.out.made way taken refl whole c.finish.ensures.closed rest

pub returns-in-Err-clause-ends : goal.returns-in-Err-clause-ends
returns-in-Err-clause-ends g c = λ r options before number next way.
    let (taken, gathers, none) = c.in-Err.ensures.gathered in
    let (read, fetched) = c.in-Err.ensures.later in
    subst (λ (s : Status). Meets r options s before (world_of (g.S.Source.left c.batch.new.source) (g.S.Source.faults c.batch.new.source) (g.K.Sink.written c.args.sink.now) (g.K.Sink.faults c.args.sink.now) (g.F.Shelf.files c.batch.new.shelf) (g.F.Shelf.faults c.batch.new.shelf)) c.args.out.now.made) (sym c.status_of_end.ensures)
    (ends_gathering r options c.in-Err.end before _ _ c.args.gather.now c.batch.new.self c.args.out.now.made way taken gathers fetched refl)
