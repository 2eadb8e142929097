use Rattle.std.proofs.Common.{rules, arith, ap, sym, subst, ◌∙◌, ◌≡◌, ◌∷◌, ◌++◌, [], drop, false, true, Some, None, map, take, List}
use Rattle.lake_model.specs.Journal.{Entry, entry_with}
use Rattle.record_model.specs.Rules.{rules_with}
use Rattle.record_model.specs.Answered.{adds, has_pin}
use Rattle.record_model.specs.Play.{Done, done_with, entries_of, who_of}
use Rattle.record_model.specs.Record.{RunRecord}
use Rattle.run_record.specs.Replies.{reply_of}
use Rattle.lake_core.specs.Lanes.{LaneOf, lane_from, IsHeld}
use Rattle.command_replies.specs.Held.{position_of}
use Rattle.batch_work.specs.Works.{work_of}
use Rattle.lake_core.proofs.LaneLemmas.{answered_now, answered_then, one_less}
use Rattle.lake_core.proofs.lane.Lane.step.Goals as goal

pub returns-then-not-has_pin-clause-steps : goal.returns-then-not-has_pin-clause-steps
returns-then-not-has_pin-clause-steps c =
    let command = work_of c.in-Some.work in
    let todo = drop 1 c.args.self.now.todo in
    let reply = reply_of c.reply_now-reply.result in
    let (denied, said) = c.reply_now-reply.ensures.answered in
    let kind : has_pin command.task ≡ false = sym c.has_pin.ensures ∙ c.if-not-has_pin.true in
    let goes : c.reply_now-reply.new.catalogue.journal ≡ c.args.catalogue.now.journal ++ entries_of (rules_with c.args.keys c.args.catalogue.now.limits) c.args.catalogue.now.journal command reply =
    sym c.reply_now-reply.ensures.adds.journal ∙ ap (λ (m : RunRecord). m.journal) c.reply_now-reply.ensures.adds.made
    ∙ ap (λ (j : List Entry). j ++ map (entry_with (who_of command)) (adds (rules_with c.args.keys c.args.catalogue.now.limits) command.task j reply)) c.requires.journal in (
      denied,
      answered_now (rules_with c.args.keys c.args.catalogue.now.limits) denied c.args.catalogue.now.journal c.reply_now-reply.new.catalogue.journal command todo reply c.args.self.now c.answer.new.self c.in-Some.ensures kind said goes
          (c.answer.ensures command todo c.in-Some.ensures),
    )

pub returns-then-not-has_pin-clause-held : goal.returns-then-not-has_pin-clause-held
returns-then-not-has_pin-clause-held c =
    subst (λ (lane : LaneOf). IsHeld c.reply_now-reply.new.catalogue.journal lane.todo lane.held) (sym (c.answer.ensures (work_of c.in-Some.work) (drop 1 c.args.self.now.todo) c.in-Some.ensures)) tt

pub returns-then-not-has_pin-clause-entries_room : goal.returns-then-not-has_pin-clause-entries_room
returns-then-not-has_pin-clause-entries_room c =
    let command = work_of c.in-Some.work in
    let todo = drop 1 c.args.self.now.todo in
    omega (
      arith,
      c.reply_now-reply.ensures.adds.entries_room,
      one_less c.args.self.now c.answer.new.self command todo c.in-Some.ensures (ap (λ (lane : LaneOf). lane.todo) (c.answer.ensures command todo c.in-Some.ensures)),
    )

pub returns-in-Some-take-clause-steps : goal.returns-in-Some-take-clause-steps
returns-in-Some-take-clause-steps c =
    let command = work_of c.in-Some.work in
    let todo = drop 1 c.args.self.now.todo in
    let journal = c.args.catalogue.now.journal in
    let held = c.in-Some-take.held in
    let same = ap (λ (lane : LaneOf). lane.todo) c.self.view_is in
    let kept = ap (λ (lane : LaneOf). lane.done) c.self.view_is in
    let reply = reply_of c.reply_when_held.result in
    let kind : has_pin command.task ≡ true = sym c.has_pin.ensures ∙ c.if-not-has_pin.false in
    let holds : c.args.self.now.held ≡ Some held = search rules in
    let (denied, said) = c.reply_when_held.ensures.answered in
    let goes : c.reply_when_held.new.catalogue.journal ≡ journal ++ entries_of (rules_with c.args.keys c.args.catalogue.now.limits) (take (position_of held) journal) command reply =
    sym c.reply_when_held.ensures.adds.journal ∙ ap (λ (m : RunRecord). m.journal) c.reply_when_held.ensures.adds.made
    ∙ ap (λ (j : List Entry). j ++ map (entry_with (who_of command)) (adds (rules_with c.args.keys c.args.catalogue.now.limits) command.task (take (position_of held) j) reply)) c.requires.journal in (
      denied,
      answered_then (rules_with c.args.keys c.args.catalogue.now.limits) denied journal c.reply_when_held.new.catalogue.journal command todo held reply c.args.self.now c.answer-in-Some-take.new.self c.in-Some.ensures kind holds said goes
          (c.answer-in-Some-take.ensures command todo (same ∙ c.in-Some.ensures)
          ∙ ap (λ (done : List Done). lane_from todo None (done ++ done_with command reply ∷ [])) kept),
    )

pub returns-in-Some-take-clause-held : goal.returns-in-Some-take-clause-held
returns-in-Some-take-clause-held c =
    subst (λ (lane : LaneOf). IsHeld c.reply_when_held.new.catalogue.journal lane.todo lane.held) (sym (c.answer-in-Some-take.ensures (work_of c.in-Some.work) (drop 1 c.args.self.now.todo) (ap (λ (lane : LaneOf). lane.todo) c.self.view_is ∙ c.in-Some.ensures))) tt

pub returns-in-Some-take-clause-entries_room : goal.returns-in-Some-take-clause-entries_room
returns-in-Some-take-clause-entries_room c =
    let command = work_of c.in-Some.work in
    let todo = drop 1 c.args.self.now.todo in
    omega (
      arith,
      c.reply_when_held.ensures.adds.entries_room,
      one_less c.args.self.now c.answer-in-Some-take.new.self command todo c.in-Some.ensures (ap (λ (lane : LaneOf). lane.todo) (c.answer-in-Some-take.ensures command todo (ap (λ (lane : LaneOf). lane.todo) c.self.view_is ∙ c.in-Some.ensures))),
    )
