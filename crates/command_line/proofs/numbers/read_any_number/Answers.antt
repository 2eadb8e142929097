use Rattle.std.proofs.Common.{arith, sym, ◌∙◌}
use Rattle.script_model.proofs.NumberLemmas.{positive}
use Rattle.command_line.proofs.numbers.read_any_number.Goals as goal

pub returns-clause-positive : goal.returns-clause-positive
returns-clause-positive c = omega (arith, c.digits_value.ensures, positive c.args.text.now (sym c.is_number.ensures ∙ c.if-not-is_number.false))
