use Rattle.std.proofs.Common.{rules, ◌≡◌, subst, sym, true, false}
use Rattle.std.specs.Io.KnownBytes.{Appends}
use Rattle.record_model.specs.declared.Status.{Status}
use Rattle.record_model.specs.Texts.{text_behind}
use Rattle.josie_top.specs.Meets.{Meets}
use Rattle.josie_top.specs.World.{with_sink}
use Rattle.josie_top.proofs.RunFacts.{answered_goes, answered_ends, answered_stops}
use Rattle.josie_top.proofs.batches.end_batch.Goals as goal

pub returns-in-Err-clause-answered : goal.returns-in-Err-clause-answered
returns-in-Err-clause-answered g c = λ r options before outside number next is.
    let (part, beginning, took) = c.in-Err.ensures.part in
    subst (λ (s : Status). Meets r options s before (with_sink (g.K.Sink.written c.write_record.new.sink) (g.K.Sink.faults c.write_record.new.sink) outside) c.args.out.now.made) (sym c.status_of_stop.ensures)
    (answered_stops r options c.in-Err.stop before (with_sink (g.K.Sink.written c.args.sink.now) (g.K.Sink.faults c.args.sink.now) outside) (g.K.Sink.written c.write_record.new.sink) (g.K.Sink.faults c.write_record.new.sink) c.args.gather.now c.args.out.now.made is part beginning took)

pub returns-then-ended-clause-answered : goal.returns-then-ended-clause-answered
returns-then-ended-clause-answered g c = λ r options before outside number next is.
    let took : Appends (g.K.Sink.written c.args.sink.now) (g.K.Sink.written c.write_record.new.sink) (text_behind c.args.out.now.made.options.trace c.args.first c.args.out.now.made) = search rules in
    let over : c.args.gather.now.ended ≡ true = search rules in
    answered_ends r options c.finish.result before (with_sink (g.K.Sink.written c.args.sink.now) (g.K.Sink.faults c.args.sink.now) outside) (g.K.Sink.written c.write_record.new.sink) (g.K.Sink.written c.finish.new.sink)
    (g.K.Sink.faults c.write_record.new.sink) (g.K.Sink.faults c.finish.new.sink) c.args.gather.now c.args.out.now.made c.finish.new.out.made is over took c.finish.ensures.closed c.finish.ensures.written

pub returns-clause-answered : goal.returns-clause-answered
returns-clause-answered g c = λ r options before outside number next is.
    let took : Appends (g.K.Sink.written c.args.sink.now) (g.K.Sink.written c.write_record.new.sink) (text_behind c.args.out.now.made.options.trace c.args.first c.args.out.now.made) = search rules in
    let on : c.args.gather.now.ended ≡ false = search rules in
    answered_goes r options before (with_sink (g.K.Sink.written c.args.sink.now) (g.K.Sink.faults c.args.sink.now) outside) (g.K.Sink.written c.write_record.new.sink) (g.K.Sink.faults c.write_record.new.sink) c.args.gather.now c.args.out.now.made
    is on c.write_record.ensures.later took
