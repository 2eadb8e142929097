use Rattle.std.proofs.Common.{ap, sym, subst, ◌∙◌}
use Rattle.std.specs.Prelude.{bytes_eq, find}
use Rattle.lake_model.specs.Texts.{Text}
use Rattle.script_model.specs.Saying.{Said, forms, of_form, says}
use Rattle.script_model.specs.Words.{words}
use Rattle.script_text.specs.Fronts.{Says, form_of}
use Rattle.script_text.proofs.FormLemmas.{form_said}
use Rattle.script_text.proofs.front.command_said.Goals as goal

pub returns-clause-said : goal.returns-clause-said
returns-clause-said c =
    let text = c.args.text.now in
    let form = form_of c.in-Some.form in
    subst (λ (m : Said). Says m c.says.result)
    (sym (ap (λ (w : Text). of_form c.args.lane text (find (λ f. bytes_eq f.0 w) forms)) (sym c.first_word.ensures)
    ∙ form_said c.args.lane text form (find (λ f. bytes_eq f.0 c.first_word.result.now) forms) c.in-Some.ensures
    ∙ ap (λ (t : Text). says form c.args.lane (words t) t) (sym c.behind_word.ensures)))
    c.says.ensures.said
