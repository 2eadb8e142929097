use Rattle.std.proofs.Common.{rules, ◌≡◌, refl, ap, sym, ◌∙◌, subst, ℕ, ◌+◌, List, [], true, false, length, arith}
use Rattle.std.specs.Prelude.{is_err}
use Rattle.std.proofs.KnownBytes.{Consumes-nil}
use Rattle.record_model.specs.Rules.{rules_with}
use Rattle.record_model.specs.Record.{Answered, RunRecord}
use Rattle.script_model.specs.Options.{Options}
use Rattle.lake_model.specs.declared.Counts.{Counts}
use Rattle.command_replies.proofs.PastLemmas.{none_taken}
use Rattle.josie_top.specs.Progress.{HasOneMore, IsUnderWay}
use Rattle.josie_top.specs.World.{World, with_sink, world_of}
use Rattle.josie_top.proofs.RunFacts.{starts, ends_between, is_answered, stands_still, moves_since, memory_moves, moved_on}
use Rattle.josie_top.proofs.StreamFacts.{on_ok, on_err}
use Rattle.josie_top.proofs.ordered.run_batches.Goals as goal

pub loop-number-init : goal.loop-number-init
loop-number-init g c = (
  starts (rules_with c.args.keys c.args.catalogue.now.limits) c.args.out.now.made.options _ c.args.gather.now c.args.out.now.made c.args.out.now.made.options.lanes c.requires.start refl c.requires.empty,
  search rules,
  search rules,
  search rules,
  none_taken c.new-past.result c.args.catalogue.now.journal c.new-past.ensures,
)

pub begin_batch-requires : goal.begin_batch-requires
begin_batch-requires g c = let (way, on, journal, limits, past) = c.loop-number.invariant in on

pub returns-in-Err-clause-table : goal.returns-in-Err-clause-table
returns-in-Err-clause-table g c = let (way, on, journal, limits, past) = c.loop-number.invariant in c.in-Err.ensures.ends _ _ _ _ _ way

pub returns-in-Err-clause-moves : goal.returns-in-Err-clause-moves
returns-in-Err-clause-moves g c = let (way, on, journal, limits, past) = c.loop-number.invariant in moves_since c.in-Err.status way.moved c.in-Err.ensures.moves

pub returns-then-is_err-clause-table : goal.returns-then-is_err-clause-table
returns-then-is_err-clause-table g c =
    let (way, on, journal, limits, past) = c.loop-number.invariant in
    let begun = c.in-Ok.ensures.begun in
    let failed : is_err c.answer_in_order.result ≡ true = search rules in
    let same : c.answer_in_order.new.out.made ≡ c.begin_batch.new.out.made = on_err c.answer_in_order.result _ failed c.answer_in_order.ensures.err in
    let still = stands_still (rules_with c.args.keys c.args.catalogue.now.limits) c.args.out.now.made.options _ _ c.loop-number.gather c.loop-number.out.made c.answer_in_order.new.out.made (same ∙ c.in-Ok.ensures.stands) way in
    ends_between (rules_with c.args.keys c.args.catalogue.now.limits) c.args.out.now.made.options _ _ _ c.loop-number.gather c.answer_in_order.new.out.made begun.taken.given still begun.taken.gave begun.moved.fetches begun.unwritten

pub returns-then-is_err-clause-moves : goal.returns-then-is_err-clause-moves
returns-then-is_err-clause-moves g c = let (way, on, journal, limits, past) = c.loop-number.invariant in memory_moves (moved_on way.moved c.in-Ok.ensures.begun.moved)

pub returns-in-Some-clause-table : goal.returns-in-Some-clause-table
returns-in-Some-clause-table g c =
    let (way, on, journal, limits, past) = c.loop-number.invariant in
    let fine : is_err c.answer_in_order.result ≡ false = search rules in
    let still = stands_still (rules_with c.args.keys c.args.catalogue.now.limits) c.args.out.now.made.options _ _ c.loop-number.gather c.loop-number.out.made c.begin_batch.new.out.made c.in-Ok.ensures.stands way in
    let answered = is_answered (rules_with c.args.keys c.args.catalogue.now.limits) c.args.out.now.made.options _ _ _ c.loop-number.gather c.begin_batch.new.gather c.begin_batch.new.out.made c.answer_in_order.new.out.made (length c.answers-first.result.now) c.in-Ok.batch
    c.options.result.now.merge c.merger_from-merger.result still c.in-Ok.ensures.begun (ap (λ (a : List Answered). length a) c.answers-first.ensures) (ap (λ (o : Options). o.merge) c.options.ensures) c.merger_from-merger.ensures
    (subst (λ (l : Counts). HasOneMore (rules_with c.args.keys l) c.loop-number.number c.merger_from-merger.result c.in-Ok.batch c.begin_batch.new.out.made c.answer_in_order.new.out.made) limits (on_ok c.answer_in_order.result _ fine c.answer_in_order.ensures.more)) (on_ok c.answer_in_order.result _ fine c.answer_in_order.ensures.answers) in
    let outside : World = world_of (g.S.Source.left c.begin_batch.new.source) (g.S.Source.faults c.begin_batch.new.source) (g.K.Sink.written c.begin_batch.new.sink) (g.K.Sink.faults c.begin_batch.new.sink) (g.F.Shelf.files c.begin_batch.new.shelf) (g.F.Shelf.faults c.begin_batch.new.shelf) in
    c.in-Some.ensures.answered _ _ _ outside _ _ answered

pub returns-in-Some-clause-moves : goal.returns-in-Some-clause-moves
returns-in-Some-clause-moves g c =
    let (way, on, journal, limits, past) = c.loop-number.invariant in
    let outside : World = world_of (g.S.Source.left c.begin_batch.new.source) (g.S.Source.faults c.begin_batch.new.source) (g.K.Sink.written c.begin_batch.new.sink) (g.K.Sink.faults c.begin_batch.new.sink) (g.F.Shelf.files c.begin_batch.new.shelf) (g.F.Shelf.faults c.begin_batch.new.shelf) in
    moves_since c.in-Some.status (moved_on way.moved c.in-Ok.ensures.begun.moved) (c.in-Some.ensures.moves outside)

pub loop-number-preserved : goal.loop-number-preserved
loop-number-preserved g c =
    let (way, on, journal, limits, past) = c.loop-number.invariant in
    let fine : is_err c.answer_in_order.result ≡ false = search rules in
    let still = stands_still (rules_with c.args.keys c.args.catalogue.now.limits) c.args.out.now.made.options _ _ c.loop-number.gather c.loop-number.out.made c.begin_batch.new.out.made c.in-Ok.ensures.stands way in
    let answered = is_answered (rules_with c.args.keys c.args.catalogue.now.limits) c.args.out.now.made.options _ _ _ c.loop-number.gather c.begin_batch.new.gather c.begin_batch.new.out.made c.answer_in_order.new.out.made (length c.answers-first.result.now) c.in-Ok.batch
    c.options.result.now.merge c.merger_from-merger.result still c.in-Ok.ensures.begun (ap (λ (a : List Answered). length a) c.answers-first.ensures) (ap (λ (o : Options). o.merge) c.options.ensures) c.merger_from-merger.ensures
    (subst (λ (l : Counts). HasOneMore (rules_with c.args.keys l) c.loop-number.number c.merger_from-merger.result c.in-Ok.batch c.begin_batch.new.out.made c.answer_in_order.new.out.made) limits (on_ok c.answer_in_order.result _ fine c.answer_in_order.ensures.more)) (on_ok c.answer_in_order.result _ fine c.answer_in_order.ensures.answers) in
    let first : World = world_of (g.S.Source.left c.args.source.now) (g.S.Source.faults c.args.source.now) (g.K.Sink.written c.args.sink.now) (g.K.Sink.faults c.args.sink.now) (g.F.Shelf.files c.args.shelf.now) (g.F.Shelf.faults c.args.shelf.now) in
    let outside : World = world_of (g.S.Source.left c.begin_batch.new.source) (g.S.Source.faults c.begin_batch.new.source) (g.K.Sink.written c.begin_batch.new.sink) (g.K.Sink.faults c.begin_batch.new.sink) (g.F.Shelf.files c.begin_batch.new.shelf) (g.F.Shelf.faults c.begin_batch.new.shelf) in
    let went = c.end_batch.ensures.goes c.in_default.is in
    let now = c.in_default.ensures.answered _ _ _ outside _ _ answered in (
      subst (λ (n : ℕ). IsUnderWay (rules_with c.args.keys c.args.catalogue.now.limits) c.args.out.now.made.options first (with_sink (g.K.Sink.written c.end_batch.new.sink) (g.K.Sink.faults c.end_batch.new.sink) outside) c.begin_batch.new.gather c.end_batch.new.out.made (c.loop-number.number + 1) (c.loop-number.next + n)) (sym c.updates-next.ensures) now,
      went.1,
      ap (λ (m : RunRecord). m.journal) went.0 ∙ on_ok c.answer_in_order.result _ fine c.answer_in_order.ensures.journal,
      c.answer_in_order.ensures.limits ∙ limits,
      c.answer_in_order.ensures.past,
    )

pub returns-clause-table : goal.returns-clause-table
returns-clause-table g c =
    let (way, on, journal, limits, past) = c.loop-number.invariant in
    ends_between (rules_with c.args.keys c.args.catalogue.now.limits) c.args.out.now.made.options _ _ _ c.loop-number.gather c.loop-number.out.made [] way (Consumes-nil _) (omega arith) refl

pub returns-clause-moves : goal.returns-clause-moves
returns-clause-moves g c = let (way, on, journal, limits, past) = c.loop-number.invariant in memory_moves way.moved
