use Rattle.std.proofs.Common.{◌∙◌, ap}
use Rattle.std.specs.Ordering.{is_eq}
use Rattle.token_order.proofs.KeyedLemmas.{as_same}
use Rattle.token_order.proofs.keyed.same_key.Goals as goal

pub returns : goal.returns
returns c =
    c.is_eq.ensures ∙ ap is_eq c.order.ensures ∙ as_same c.args.tables.now c.args.columns.now c.args.a.now c.args.b.now c.requires.first c.requires.second
