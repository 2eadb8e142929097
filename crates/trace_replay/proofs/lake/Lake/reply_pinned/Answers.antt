use Rattle.std.proofs.Common.{ap, sym, ◌∙◌, false}
use Rattle.script_model.specs.Commands.{Command, Merge, command_with}
use Rattle.record_model.specs.Answered.{has_pin}
use Rattle.run_record.specs.Replies.{reply_of}
use Rattle.batch_work.specs.Works.{work_of}
use Rattle.trace_replay.specs.Lakes.{LakeOf}
use Rattle.trace_replay.proofs.LakeLemmas.{holds_here, pinned_replied}
use Rattle.trace_replay.proofs.lake.Lake.reply_pinned.Goals as goal

pub reply_when_held-requires-clause-pins : goal.reply_when_held-requires-clause-pins
reply_when_held-requires-clause-pins c = ap (λ (command : Command). has_pin command.task) (sym (c.work.ensures (command_with 0 0 (Merge false)))) ∙ c.requires.pins

pub reply_when_held-requires-clause-held : goal.reply_when_held-requires-clause-held
reply_when_held-requires-clause-held c =
    holds_here c.args.trace.now c.args.index (work_of c.work.result) c.self.inside.catalogue.journal c.args.self.now.journal c.held_for-held.result (c.work.ensures (command_with 0 0 (Merge false)))
    (ap (λ (l : LakeOf). l.journal) (c.self.view_is ∙ c.held_for-held.ensures.left.is)) c.held_for-held.ensures.holds

pub returns-clause-answered : goal.returns-clause-answered
returns-clause-answered c =
    (pinned_replied c.args.trace.now c.args.index _ _ c.args.self.now c.held_for-held.new.self c.keys.result (work_of c.work.result) c.held_for-held.result (reply_of c.reply_when_held.result)
    c.self.inside.catalogue c.reply_when_held.new.catalogue c.self.inside.run c.reply_when_held.new.out c.self.inside.held.items
    c.requires.at c.held_for-held.ensures.left c.self.view_is c.keys.ensures (c.work.ensures (command_with 0 0 (Merge false))) c.held_for-held.ensures.position c.self.invariant.1
    c.reply_when_held.ensures.answered c.reply_when_held.ensures.adds).0

pub returns-clause-after : goal.returns-clause-after
returns-clause-after c =
    (pinned_replied c.args.trace.now c.args.index _ _ c.args.self.now c.held_for-held.new.self c.keys.result (work_of c.work.result) c.held_for-held.result (reply_of c.reply_when_held.result)
    c.self.inside.catalogue c.reply_when_held.new.catalogue c.self.inside.run c.reply_when_held.new.out c.self.inside.held.items
    c.requires.at c.held_for-held.ensures.left c.self.view_is c.keys.ensures (c.work.ensures (command_with 0 0 (Merge false))) c.held_for-held.ensures.position c.self.invariant.1
    c.reply_when_held.ensures.answered c.reply_when_held.ensures.adds).1
