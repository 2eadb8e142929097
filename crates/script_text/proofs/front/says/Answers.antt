use Rattle.std.proofs.Common.{sym, subst}
use Rattle.script_model.specs.Saying as model
use Rattle.script_model.specs.Words.{words}
use Rattle.script_text.specs.Fronts.{Says, form_of}
use Rattle.script_text.specs.declared.front.Form.{Form}
use Rattle.script_text.proofs.front.says.Goals as goal

pub returns-in-Sync-clause-said : goal.returns-in-Sync-clause-said
returns-in-Sync-clause-said c =
    subst (λ (f : Form). Says (model.says (form_of f) c.args.lane (words c.args.text.now) c.args.text.now) c.sync_said.result) (sym c.in-Sync.is) (c.sync_said.ensures.said c.args.lane)
