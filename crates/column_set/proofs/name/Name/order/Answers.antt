use Rattle.std.proofs.Common.{◌∙◌, ap, sym}
use Rattle.lake_model.specs.Tables.{is_name}
use Rattle.list_laws.specs.Digits.{digits}
use Rattle.column_set.proofs.NameLemmas.{by_front}
use Rattle.column_set.proofs.name.Name.order.Goals as goal

pub returns-in_default : goal.returns-in_default
returns-in_default c =
    by_front c.args.self.now c.args.other.now c.self.inside.front c.other.inside.front c.cmp.result
    (ap is_name (sym c.self.view_is) ∙ c.self.invariant.1) (ap is_name (sym c.other.view_is) ∙ c.other.invariant.1)
    (c.self.invariant.2 ∙ ap (digits 129 9) c.self.view_is) (c.other.invariant.2 ∙ ap (digits 129 9) c.other.view_is)
    c.cmp.ensures c.in_default.not-Equal
