use Rattle.std.proofs.Common.{ap, sym, ◌∙◌, Bool, cond}
use Rattle.script_model.specs.Commands.{updates}
use Rattle.trace_numbers.proofs.PassLemmas.{merger_size}
use Rattle.trace_numbers.proofs.rising.count_merges.Goals as goal

pub returns-then-merge : goal.returns-then-merge
returns-then-merge c = λ next. merger_size c.args.merge next c.args.batch.now ∙ ap (λ (b : Bool). cond b (updates c.args.batch.now) 0) c.if-merge.true ∙ sym c.updates.ensures
