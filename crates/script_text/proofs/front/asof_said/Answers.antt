use Rattle.std.proofs.Common.{subst, sym}
use Rattle.script_model.specs.Saying.{Said}
use Rattle.script_text.specs.Fronts.{Says}
use Rattle.script_text.proofs.FormLemmas.{asof_by, no_asof_by}
use Rattle.script_text.proofs.front.asof_said.Goals as goal

pub returns-in_default-clause-said : goal.returns-in_default-clause-said
returns-in_default-clause-said c = no_asof_by c.args.lane c.args.text.now c.behind_word.result.now c.behind_word.ensures c.in_default.ensures.other

pub returns-clause-said : goal.returns-clause-said
returns-clause-said c =
    subst (λ (m : Said). Says m c.read_asof.result)
    (sym (asof_by c.args.lane c.args.text.now c.behind_word.result.now c.first_word.result.now c.in-Some.k.now c.behind_word.ensures c.in-Some.ensures.one c.first_word.ensures))
    c.read_asof.ensures.said
