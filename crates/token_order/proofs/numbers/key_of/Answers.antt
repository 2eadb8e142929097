use Rattle.std.proofs.Common.{◌∙◌, ap, sym, []}
use Rattle.std.proofs.lemmas.List.{get_or-map}
use Rattle.token_order.specs.Places.{pointed_by}
use Rattle.token_order.proofs.numbers.key_of.Goals as goal

pub returns-in-Some : goal.returns-in-Some
returns-in-Some c =
    let point = pointed_by c.args.tables.now c.args.columns.now in
    c.key_at.ensures ∙ ap point c.in-Some.ensures.lookup.1 ∙ sym (get_or-map point c.args.tokens.now c.args.number c.in-Some.at.now [] c.in-Some.ensures.lookup.3.0)
