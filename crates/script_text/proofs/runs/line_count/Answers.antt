use Rattle.std.proofs.Common.{◌∙◌, sym}
use Rattle.script_text.proofs.RunLemmas.{all_counted}
use Rattle.script_text.proofs.runs.line_count.Goals as goal

pub returns-clause-count : goal.returns-clause-count
returns-clause-count c = all_counted c.args.text.now c.loop-rest.rest.now c.loop-rest.count c.loop-rest.invariant (sym c.is_empty.ensures ∙ c.loop-rest-test.false)
