use Rattle.std.proofs.Common.{ap, sym, ◌∙◌, false}
use Rattle.script_model.specs.Commands.{Command, Merge, command_with}
use Rattle.record_model.specs.Answered.{has_pin}
use Rattle.trace_replay.proofs.lake.Lake.reply.Goals as goal

pub reply_pinned-requires-clause-pins : goal.reply_pinned-requires-clause-pins
reply_pinned-requires-clause-pins c = ap (λ (command : Command). has_pin command.task) (c.work.ensures (command_with 0 0 (Merge false))) ∙ sym c.has_pin.ensures ∙ c.if-has_pin.true

pub reply_unpinned-requires-clause-pins : goal.reply_unpinned-requires-clause-pins
reply_unpinned-requires-clause-pins c = ap (λ (command : Command). has_pin command.task) (c.work.ensures (command_with 0 0 (Merge false))) ∙ sym c.has_pin.ensures ∙ c.if-has_pin.false
