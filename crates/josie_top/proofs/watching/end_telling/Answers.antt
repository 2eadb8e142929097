use Rattle.std.proofs.Common.{rules, ◌≡◌, refl, subst, sym, true}
use Rattle.std.specs.Io.KnownBytes.{Appends}
use Rattle.lake_model.specs.declared.Keys.TheVariants.{Canonical}
use Rattle.option_model.specs.Generator.{made_options}
use Rattle.record_model.specs.declared.Status.{Status}
use Rattle.record_model.specs.Rules.{standard_rules}
use Rattle.record_model.specs.Statuses.{IsPrefix}
use Rattle.record_model.specs.Watched.{end_text}
use Rattle.josie_top.specs.Ends.{is_done}
use Rattle.josie_top.specs.Meets.{Meets}
use Rattle.josie_top.specs.Watching.{IsWatched, unwritten}
use Rattle.josie_top.specs.World.{World, with_sink}
use Rattle.josie_top.proofs.WatchFacts.{done_status, watched_cut, watched_done}
use Rattle.josie_top.proofs.watching.end_telling.Goals as goal

pub returns-in-Ok-clause-watched : goal.returns-in-Ok-clause-watched
returns-in-Ok-clause-watched g c = λ k queries before outside ran usage told.
    let done : is_done c.args.ended ≡ true = search rules in
    let mid : World = (with_sink (g.K.Sink.written c.args.sink.now) (g.K.Sink.faults c.args.sink.now) outside) in
    let now : World = (with_sink (g.K.Sink.written c.write_text.new.sink) (g.K.Sink.faults c.write_text.new.sink) outside) in
    let ran_done = subst (λ (s : Status). Meets (standard_rules Canonical) made_options s (unwritten before) (unwritten mid) c.args.made.now.made) (done_status c.args.ended done) ran in
    let took : Appends (g.K.Sink.written c.args.sink.now) (g.K.Sink.written c.write_text.new.sink) (end_text c.args.made.now.made.journal) = search rules in
    watched_done k queries before mid now c.args.made.now.made refl ran_done told took

pub returns-clause-watched : goal.returns-clause-watched
returns-clause-watched g c = λ k queries before outside ran usage told.
    let done : is_done c.args.ended ≡ true = search rules in
    let mid : World = (with_sink (g.K.Sink.written c.args.sink.now) (g.K.Sink.faults c.args.sink.now) outside) in
    let now : World = (with_sink (g.K.Sink.written c.write_text.new.sink) (g.K.Sink.faults c.write_text.new.sink) outside) in
    let ran_done = subst (λ (s : Status). Meets (standard_rules Canonical) made_options s (unwritten before) (unwritten mid) c.args.made.now.made) (done_status c.args.ended done) ran in
    let text : c.as_slice.result.now ≡ end_text c.args.made.now.made.journal = search rules in
    let (part, beginning, took) = c.in-Err.ensures.part in
    subst (λ (s : Status). IsWatched k queries s before now c.args.made.now.made) (sym c.status_of_stop.ensures)
    (watched_cut k queries before mid now c.args.made.now.made refl ran_done told c.in-Err.stop part (subst (IsPrefix part) text beginning) took)
