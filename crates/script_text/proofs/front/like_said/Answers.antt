use Rattle.std.proofs.Common.{subst, sym}
use Rattle.script_model.specs.Saying.{Said}
use Rattle.script_text.specs.Fronts.{Says}
use Rattle.script_text.proofs.FormLemmas.{like_by, no_like_by}
use Rattle.script_text.proofs.front.like_said.Goals as goal

pub returns-in_default-clause-said : goal.returns-in_default-clause-said
returns-in_default-clause-said c =
    no_like_by c.args.lane c.args.text.now c.behind_word-behind_k.result.now c.behind_word.result.now c.behind_word-behind_k.ensures c.behind_word.ensures c.in_default.ensures.other

pub returns-clause-said : goal.returns-clause-said
returns-clause-said c =
    subst (λ (m : Said). Says m c.read_like.result)
    (sym (like_by c.args.lane c.args.text.now c.behind_word-behind_k.result.now c.behind_word.result.now c.first_word.result.now c.first_word-2.result.now c.in-Some.place.now
    c.behind_word-behind_k.ensures c.behind_word.ensures c.in-Some.ensures.one c.first_word.ensures c.first_word-2.ensures))
    c.read_like.ensures.said
