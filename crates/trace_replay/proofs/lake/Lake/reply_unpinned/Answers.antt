use Rattle.std.proofs.Common.{ap, sym, ◌∙◌, ◌≡◌, false}
use Rattle.script_model.specs.Commands.{Command, Merge, command_with}
use Rattle.record_model.specs.Answered.{has_pin}
use Rattle.run_record.specs.Replies.{reply_of}
use Rattle.batch_work.specs.Works.{work_of}
use Rattle.trace_replay.proofs.LakeLemmas.{unpinned_replied}
use Rattle.trace_replay.proofs.lake.Lake.reply_unpinned.Goals as goal

pub reply_now-requires-clause-pins : goal.reply_now-requires-clause-pins
reply_now-requires-clause-pins c = ap (λ (command : Command). has_pin command.task) (sym (c.work.ensures (command_with 0 0 (Merge false)))) ∙ c.requires.pins

pub returns-clause-answered : goal.returns-clause-answered
returns-clause-answered c =
    let kind : has_pin (work_of c.work.result).task ≡ false = ap (λ (command : Command). has_pin command.task) (sym (c.work.ensures (command_with 0 0 (Merge false)))) ∙ c.requires.pins in
    (unpinned_replied c.args.trace.now c.args.index _ _ c.args.self.now c.keys.result (work_of c.work.result) (reply_of c.reply_now.result)
    c.self.inside.catalogue c.reply_now.new.catalogue c.self.inside.run c.reply_now.new.out c.self.inside.held.items
    c.requires.at c.self.view_is c.keys.ensures (c.work.ensures (command_with 0 0 (Merge false))) kind c.self.invariant.1
    c.reply_now.ensures.answered c.reply_now.ensures.adds).0

pub returns-clause-after : goal.returns-clause-after
returns-clause-after c =
    let kind : has_pin (work_of c.work.result).task ≡ false = ap (λ (command : Command). has_pin command.task) (sym (c.work.ensures (command_with 0 0 (Merge false)))) ∙ c.requires.pins in
    (unpinned_replied c.args.trace.now c.args.index _ _ c.args.self.now c.keys.result (work_of c.work.result) (reply_of c.reply_now.result)
    c.self.inside.catalogue c.reply_now.new.catalogue c.self.inside.run c.reply_now.new.out c.self.inside.held.items
    c.requires.at c.self.view_is c.keys.ensures (c.work.ensures (command_with 0 0 (Merge false))) kind c.self.invariant.1
    c.reply_now.ensures.answered c.reply_now.ensures.adds).1
