use Rattle.std.proofs.Common.{◌≡◌, ◌<◌, ◌≤◌, arith, false, sym, subst, ◌∙◌}
use Rattle.std.specs.Prelude.{bytes_eq, codes}
use Rattle.script_model.specs.Saying.{Said}
use Rattle.script_model.specs.Words.{first_word, number_of}
use Rattle.script_text.specs.Fronts.{Says}
use Rattle.script_text.proofs.FormLemmas.{lane_at, lane_in}
use Rattle.script_text.proofs.front.lane_said.Goals as goal

pub returns-clause-said : goal.returns-clause-said
returns-clause-said c =
    let text = c.args.text.now in
    let lanes = c.args.lanes in
    let few : lanes < 4294967296 = omega arith in
    let within : c.in-Some.lane ≤ lanes = omega (arith, c.from.ensures) in
    let other : bytes_eq (first_word text) (codes "sync") ≡ false = cc in
    subst (λ (m : Said). Says m c.command_said.result)
    (sym (lane_at lanes c.in-Some.lane text (number_of c.args.digits.now) few c.in-Some.ensures.value ∙ lane_in lanes c.in-Some.lane text within other))
    c.command_said.ensures.said
