use Rattle.std.proofs.Common.{◌-◌, ◌∙◌, ap, arith, drop, length}
use Rattle.std.proofs.lemmas.List.{length-take}
use Rattle.script_text.proofs.HeldLemmas.{held_less}
use Rattle.script_text.proofs.input.Input.use_up.Goals as goal

pub returns : goal.returns
returns c =
    c.give_back.ensures
    ∙ held_less c.self.inside.start c.self.inside.filled c.args.count c.self.inside.bytes.items
    (omega (arith, c.requires, ap length c.self.view_is, length-take (c.self.inside.filled - c.self.inside.start) (drop c.self.inside.start c.self.inside.bytes.items)))
    ∙ ap (drop c.args.count) c.self.view_is
