use Rattle.std.proofs.Common.{rules, ◌≡◌, ◌∙◌, ◌+◌, List, [], ◌++◌, ap, arith, drop, false, length, refl, subst, sym, true}
use Rattle.std.specs.Prelude.{None, is_err}
use Rattle.std.specs.Io.KnownBytes.{Appends}
use Rattle.std.proofs.KnownBytes.{Consumes-nil}
use Rattle.lake_model.specs.declared.Counts.{Counts}
use Rattle.lake_model.specs.declared.Keys.TheVariants.{Canonical}
use Rattle.lake_model.specs.Journal.{Entry}
use Rattle.option_model.specs.Generator.{made_options}
use Rattle.script_model.specs.Commands.{updates}
use Rattle.script_model.specs.Options.{Options}
use Rattle.record_model.specs.declared.Status.{Status}
use Rattle.record_model.specs.declared.Status.TheVariants as status
use Rattle.record_model.specs.Record.{RunRecord}
use Rattle.record_model.specs.Rules.{rules_with, standard_rules}
use Rattle.record_model.specs.Statuses.{IsPrefix}
use Rattle.record_model.specs.Watched.{watch_text_behind}
use Rattle.column_watch.specs.Watching.{WatchesOf, watches_with}
use Rattle.josie_top.specs.Given.{all_watched}
use Rattle.josie_top.specs.Progress.{HasOneMore}
use Rattle.command_replies.proofs.PastLemmas.{none_taken}
use Rattle.josie_top.specs.Watching.{IsWatched, unwritten}
use Rattle.josie_top.specs.World.{World, world_of}
use Rattle.josie_top.proofs.RunFacts.{answered_ends, answered_goes, answered_stops, done_moves, ends_between, is_answered, moves_since, moved_on, stands_still, starts}
use Rattle.josie_top.proofs.StreamFacts.{on_err, on_ok}
use Rattle.josie_top.proofs.WatchFacts.{done_unrefused, journal_begins, told_for, told_more, told_nothing, watched_memory, watched_stopped, written_moves}
use Rattle.josie_top.proofs.watching.watch_batches.Goals as goal

pub loop-number-init : goal.loop-number-init
loop-number-init g c =
    let empty : c.args.out.now.made.journal ≡ [] = ap (λ (m : RunRecord). m.journal) c.requires.empty in (
      record {
        next = 1;
        way = starts (standard_rules Canonical) made_options _ c.args.gather.now c.args.out.now.made 1 c.requires.start refl c.requires.empty;
        writes = omega arith;
        taken = ap (λ (j : List Entry). watches_with j c.args.watches.now.queries) (c.requires.new ∙ sym empty);
        told = λ k queries same. told_nothing k queries _ c.args.out.now.made empty;
      },
      search rules,
      search rules,
      search rules,
      none_taken c.new-past.result c.args.catalogue.now.journal c.new-past.ensures,
    )

pub returns-in-Err-clause-watched : goal.returns-in-Err-clause-watched
returns-in-Err-clause-watched g c = λ k queries same.
    let (on, unended, journal, limits, past) = c.loop-number.invariant in
    let outside : World = world_of (g.S.Source.left c.begin_batch.new.source) (g.S.Source.faults c.begin_batch.new.source) (g.K.Sink.written c.loop-number.sink) (g.K.Sink.faults c.loop-number.sink) (g.F.Shelf.files c.begin_batch.new.shelf) (g.F.Shelf.faults c.begin_batch.new.shelf) in
    c.end_telling.ensures.watched k queries _ outside (c.in-Err.ensures.ends _ _ _ _ _ on.way) c.in-Err.ensures.moves.usage
    (told_for k queries _ _ _ c.loop-number.out.made c.begin_batch.new.out.made refl c.begin_batch.ensures.journal (on.told k queries same))

pub returns-in-Err-clause-moves : goal.returns-in-Err-clause-moves
returns-in-Err-clause-moves g c =
    let (on, unended, journal, limits, past) = c.loop-number.invariant in
    let first : World = world_of (g.S.Source.left c.args.source.now) (g.S.Source.faults c.args.source.now) (g.K.Sink.written c.args.sink.now) (g.K.Sink.faults c.args.sink.now) (g.F.Shelf.files c.args.shelf.now) (g.F.Shelf.faults c.args.shelf.now) in
    let outside : World = world_of (g.S.Source.left c.begin_batch.new.source) (g.S.Source.faults c.begin_batch.new.source) (g.K.Sink.written c.loop-number.sink) (g.K.Sink.faults c.loop-number.sink) (g.F.Shelf.files c.begin_batch.new.shelf) (g.F.Shelf.faults c.begin_batch.new.shelf) in
    c.end_telling.ensures.moves first outside (written_moves {before = first} {now = outside} c.in-Err.status on.writes (moves_since c.in-Err.status on.way.moved c.in-Err.ensures.moves))

pub returns-then-is_err-clause-watched : goal.returns-then-is_err-clause-watched
returns-then-is_err-clause-watched g c = λ k queries same.
    let (on, unended, journal, limits, past) = c.loop-number.invariant in
    let begun = c.in-Ok.ensures.begun in
    let failed : is_err c.answer_in_order.result ≡ true = search rules in
    let stands : c.answer_in_order.new.out.made ≡ c.loop-number.out.made = on_err c.answer_in_order.result _ failed c.answer_in_order.ensures.err ∙ c.in-Ok.ensures.stands in
    let still = stands_still (standard_rules Canonical) made_options _ _ c.loop-number.gather c.loop-number.out.made c.answer_in_order.new.out.made stands on.way in
    watched_memory k queries _ (world_of (g.S.Source.left c.begin_batch.new.source) (g.S.Source.faults c.begin_batch.new.source) (g.K.Sink.written c.loop-number.sink) (g.K.Sink.faults c.loop-number.sink) (g.F.Shelf.files c.begin_batch.new.shelf) (g.F.Shelf.faults c.begin_batch.new.shelf)) c.answer_in_order.new.out.made
    (ends_between (standard_rules Canonical) made_options _ _ _ c.loop-number.gather c.answer_in_order.new.out.made begun.taken.given still begun.taken.gave begun.moved.fetches begun.unwritten)
    (told_for k queries _ _ _ c.loop-number.out.made c.answer_in_order.new.out.made refl (ap (λ (m : RunRecord). m.journal) stands) (on.told k queries same))

pub returns-in-Err-tell_batch-clause-watched : goal.returns-in-Err-tell_batch-clause-watched
returns-in-Err-tell_batch-clause-watched g c = λ k queries same.
    let (on, unended, journal, limits, past) = c.loop-number.invariant in
    let fine : is_err c.answer_in_order.result ≡ false = search rules in
    let still = stands_still (standard_rules Canonical) made_options _ _ c.loop-number.gather c.loop-number.out.made c.begin_batch.new.out.made c.in-Ok.ensures.stands on.way in
    let more = subst (λ (l : Counts). HasOneMore (rules_with Canonical l) c.loop-number.number None c.in-Ok.batch c.begin_batch.new.out.made c.answer_in_order.new.out.made) limits (on_ok c.answer_in_order.result _ fine c.answer_in_order.ensures.more) in
    let answered = is_answered (standard_rules Canonical) made_options _ _ _ c.loop-number.gather c.begin_batch.new.gather c.begin_batch.new.out.made c.answer_in_order.new.out.made (length c.begin_batch.new.out.made.answers) c.in-Ok.batch
    false None still c.in-Ok.ensures.begun refl (sym (ap (λ (o : Options). o.merge) still.is_made.options_are)) refl more (on_ok c.answer_in_order.result _ fine c.answer_in_order.ensures.answers) in
    let first : World = world_of (g.S.Source.left c.args.source.now) (g.S.Source.faults c.args.source.now) (g.K.Sink.written c.args.sink.now) (g.K.Sink.faults c.args.sink.now) (g.F.Shelf.files c.args.shelf.now) (g.F.Shelf.faults c.args.shelf.now) in
    let mid : World = world_of (g.S.Source.left c.begin_batch.new.source) (g.S.Source.faults c.begin_batch.new.source) (g.K.Sink.written c.loop-number.sink) (g.K.Sink.faults c.loop-number.sink) (g.F.Shelf.files c.begin_batch.new.shelf) (g.F.Shelf.faults c.begin_batch.new.shelf) in
    let grown = on_ok c.answer_in_order.result _ fine c.answer_in_order.ensures.grows in
    let begins = journal_begins c.loop-number.out.made.journal c.answer_in_order.new.out.made.journal grown.0 (grown.1 ∙ ap (λ (m : RunRecord). m.journal ++ grown.0) c.in-Ok.ensures.stands) in
    let now : World = world_of (g.S.Source.left c.begin_batch.new.source) (g.S.Source.faults c.begin_batch.new.source) (g.K.Sink.written c.tell_batch.new.sink) (g.K.Sink.faults c.tell_batch.new.sink) (g.F.Shelf.files c.begin_batch.new.shelf) (g.F.Shelf.faults c.begin_batch.new.shelf) in
    let watched : c.loop-number.watches.queries ≡ all_watched k queries = ap (λ (w : WatchesOf). w.queries) on.taken ∙ same in
    let (part, beginning, took) = subst (λ (j : List Entry). (part : List _) × IsPrefix part (watch_text_behind k queries j (drop (length j) c.answer_in_order.new.out.made.journal)) × Appends (g.K.Sink.written c.loop-number.sink) (g.K.Sink.written c.tell_batch.new.sink) part) (ap (λ (w : WatchesOf). w.journal) on.taken)
    (c.in-Err-tell_batch.ensures.part k queries watched) in
    let ran = answered_stops (standard_rules Canonical) made_options c.in-Err-tell_batch.stop (unwritten first) (unwritten mid) None 0 c.begin_batch.new.gather c.answer_in_order.new.out.made answered [] (_, refl) tt in
    subst (λ (s : Status). IsWatched k queries s first now c.answer_in_order.new.out.made) (sym c.status_of_stop.ensures)
    (watched_stopped k queries first mid now c.loop-number.out.made c.answer_in_order.new.out.made c.in-Err-tell_batch.stop part (told_for k queries _ _ mid _ _ refl refl (on.told k queries same)) begins.1 beginning took ran)

pub returns-then-ended-clause-watched : goal.returns-then-ended-clause-watched
returns-then-ended-clause-watched g c = λ k queries same.
    let (on, unended, journal, limits, past) = c.loop-number.invariant in
    let fine : is_err c.answer_in_order.result ≡ false = search rules in
    let still = stands_still (standard_rules Canonical) made_options _ _ c.loop-number.gather c.loop-number.out.made c.begin_batch.new.out.made c.in-Ok.ensures.stands on.way in
    let more = subst (λ (l : Counts). HasOneMore (rules_with Canonical l) c.loop-number.number None c.in-Ok.batch c.begin_batch.new.out.made c.answer_in_order.new.out.made) limits (on_ok c.answer_in_order.result _ fine c.answer_in_order.ensures.more) in
    let answered = is_answered (standard_rules Canonical) made_options _ _ _ c.loop-number.gather c.begin_batch.new.gather c.begin_batch.new.out.made c.answer_in_order.new.out.made (length c.begin_batch.new.out.made.answers) c.in-Ok.batch
    false None still c.in-Ok.ensures.begun refl (sym (ap (λ (o : Options). o.merge) still.is_made.options_are)) refl more (on_ok c.answer_in_order.result _ fine c.answer_in_order.ensures.answers) in
    let first : World = world_of (g.S.Source.left c.args.source.now) (g.S.Source.faults c.args.source.now) (g.K.Sink.written c.args.sink.now) (g.K.Sink.faults c.args.sink.now) (g.F.Shelf.files c.args.shelf.now) (g.F.Shelf.faults c.args.shelf.now) in
    let mid : World = world_of (g.S.Source.left c.begin_batch.new.source) (g.S.Source.faults c.begin_batch.new.source) (g.K.Sink.written c.loop-number.sink) (g.K.Sink.faults c.loop-number.sink) (g.F.Shelf.files c.begin_batch.new.shelf) (g.F.Shelf.faults c.begin_batch.new.shelf) in
    let grown = on_ok c.answer_in_order.result _ fine c.answer_in_order.ensures.grows in
    let begins = journal_begins c.loop-number.out.made.journal c.answer_in_order.new.out.made.journal grown.0 (grown.1 ∙ ap (λ (m : RunRecord). m.journal ++ grown.0) c.in-Ok.ensures.stands) in
    let now : World = world_of (g.S.Source.left c.begin_batch.new.source) (g.S.Source.faults c.begin_batch.new.source) (g.K.Sink.written c.tell_batch.new.sink) (g.K.Sink.faults c.tell_batch.new.sink) (g.F.Shelf.files c.begin_batch.new.shelf) (g.F.Shelf.faults c.begin_batch.new.shelf) in
    let over : c.begin_batch.new.gather.ended ≡ true = search rules in
    let watched : c.loop-number.watches.queries ≡ all_watched k queries = ap (λ (w : WatchesOf). w.queries) on.taken ∙ same in
    let took = subst (λ (j : List Entry). Appends (g.K.Sink.written c.loop-number.sink) (g.K.Sink.written c.tell_batch.new.sink) (watch_text_behind k queries j (drop (length j) c.answer_in_order.new.out.made.journal))) (ap (λ (w : WatchesOf). w.journal) on.taken)
    (c.in_default.ensures.all k queries watched) in
    let told = told_more k queries first mid now c.loop-number.out.made c.answer_in_order.new.out.made (told_for k queries _ _ mid _ _ refl refl (on.told k queries same)) begins.1 took in
    let ran = answered_ends (standard_rules Canonical) made_options status.Done (unwritten first) (unwritten mid) None None 0 0 c.begin_batch.new.gather c.answer_in_order.new.out.made c.close.new.self.made answered over tt c.close.ensures.made tt in
    c.end_telling-then-ended.ensures.watched k queries first mid ran done_unrefused
    (told_for k queries _ _ _ c.answer_in_order.new.out.made c.close.new.self.made refl (ap (λ (m : RunRecord). m.journal) c.close.ensures.made) told)

pub returns-then-ended-clause-moves : goal.returns-then-ended-clause-moves
returns-then-ended-clause-moves g c =
    let (on, unended, journal, limits, past) = c.loop-number.invariant in
    let first : World = world_of (g.S.Source.left c.args.source.now) (g.S.Source.faults c.args.source.now) (g.K.Sink.written c.args.sink.now) (g.K.Sink.faults c.args.sink.now) (g.F.Shelf.files c.args.shelf.now) (g.F.Shelf.faults c.args.shelf.now) in
    let now : World = world_of (g.S.Source.left c.begin_batch.new.source) (g.S.Source.faults c.begin_batch.new.source) (g.K.Sink.written c.tell_batch.new.sink) (g.K.Sink.faults c.tell_batch.new.sink) (g.F.Shelf.files c.begin_batch.new.shelf) (g.F.Shelf.faults c.begin_batch.new.shelf) in
    c.end_telling-then-ended.ensures.moves first now (written_moves {before = first} {now = now} status.Done (omega (arith, on.writes, c.tell_batch.ensures.later)) (done_moves (moved_on on.way.moved c.in-Ok.ensures.begun.moved)))

pub loop-number-preserved : goal.loop-number-preserved
loop-number-preserved g c =
    let (on, unended, journal, limits, past) = c.loop-number.invariant in
    let fine : is_err c.answer_in_order.result ≡ false = search rules in
    let still = stands_still (standard_rules Canonical) made_options _ _ c.loop-number.gather c.loop-number.out.made c.begin_batch.new.out.made c.in-Ok.ensures.stands on.way in
    let more = subst (λ (l : Counts). HasOneMore (rules_with Canonical l) c.loop-number.number None c.in-Ok.batch c.begin_batch.new.out.made c.answer_in_order.new.out.made) limits (on_ok c.answer_in_order.result _ fine c.answer_in_order.ensures.more) in
    let answered = is_answered (standard_rules Canonical) made_options _ _ _ c.loop-number.gather c.begin_batch.new.gather c.begin_batch.new.out.made c.answer_in_order.new.out.made (length c.begin_batch.new.out.made.answers) c.in-Ok.batch
    false None still c.in-Ok.ensures.begun refl (sym (ap (λ (o : Options). o.merge) still.is_made.options_are)) refl more (on_ok c.answer_in_order.result _ fine c.answer_in_order.ensures.answers) in
    let first : World = world_of (g.S.Source.left c.args.source.now) (g.S.Source.faults c.args.source.now) (g.K.Sink.written c.args.sink.now) (g.K.Sink.faults c.args.sink.now) (g.F.Shelf.files c.args.shelf.now) (g.F.Shelf.faults c.args.shelf.now) in
    let mid : World = world_of (g.S.Source.left c.begin_batch.new.source) (g.S.Source.faults c.begin_batch.new.source) (g.K.Sink.written c.loop-number.sink) (g.K.Sink.faults c.loop-number.sink) (g.F.Shelf.files c.begin_batch.new.shelf) (g.F.Shelf.faults c.begin_batch.new.shelf) in
    let grown = on_ok c.answer_in_order.result _ fine c.answer_in_order.ensures.grows in
    let begins = journal_begins c.loop-number.out.made.journal c.answer_in_order.new.out.made.journal grown.0 (grown.1 ∙ ap (λ (m : RunRecord). m.journal ++ grown.0) c.in-Ok.ensures.stands) in
    let now : World = world_of (g.S.Source.left c.begin_batch.new.source) (g.S.Source.faults c.begin_batch.new.source) (g.K.Sink.written c.tell_batch.new.sink) (g.K.Sink.faults c.tell_batch.new.sink) (g.F.Shelf.files c.begin_batch.new.shelf) (g.F.Shelf.faults c.begin_batch.new.shelf) in
    let goes : c.begin_batch.new.gather.ended ≡ false = search rules in
    let taken : c.tell_batch.new.watches ≡ watches_with c.answer_in_order.new.out.made.journal c.loop-number.watches.queries = search rules in (
      record {
        next = on.next + updates c.in-Ok.batch;
        way = answered_goes (standard_rules Canonical) made_options (unwritten first) (unwritten mid) None 0 c.begin_batch.new.gather c.answer_in_order.new.out.made answered goes (omega arith) tt;
        writes = omega (arith, on.writes, c.tell_batch.ensures.later);
        taken = taken ∙ ap (λ (w : WatchesOf). watches_with c.answer_in_order.new.out.made.journal w.queries) on.taken;
        told = λ k queries same.
            let watched : c.loop-number.watches.queries ≡ all_watched k queries = ap (λ (w : WatchesOf). w.queries) on.taken ∙ same in
            let took = subst (λ (j : List Entry). Appends (g.K.Sink.written c.loop-number.sink) (g.K.Sink.written c.tell_batch.new.sink) (watch_text_behind k queries j (drop (length j) c.answer_in_order.new.out.made.journal))) (ap (λ (w : WatchesOf). w.journal) on.taken)
            (c.in_default.ensures.all k queries watched) in
            told_more k queries first mid now c.loop-number.out.made c.answer_in_order.new.out.made (told_for k queries _ _ mid _ _ refl refl (on.told k queries same)) begins.1 took;
      },
      goes,
      on_ok c.answer_in_order.result _ fine c.answer_in_order.ensures.journal,
      c.answer_in_order.ensures.limits ∙ limits,
      c.answer_in_order.ensures.past,
    )

pub returns-clause-watched : goal.returns-clause-watched
returns-clause-watched g c = λ k queries same.
    let (on, unended, journal, limits, past) = c.loop-number.invariant in
    watched_memory k queries _ _ c.loop-number.out.made
    (ends_between (standard_rules Canonical) made_options _ _ _ c.loop-number.gather c.loop-number.out.made [] on.way (Consumes-nil _) (omega arith) refl) (on.told k queries same)
