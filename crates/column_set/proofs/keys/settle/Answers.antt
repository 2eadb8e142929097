use Rattle.std.proofs.Common.{◌∙◌, drop, sym}
use Rattle.column_set.proofs.GatherLemmas.{settled}
use Rattle.column_set.proofs.SlotLemmas.{differ_where_slotted}
use Rattle.column_set.proofs.keys.settle.Goals as goal

pub returns-then-is_some-clause-distinct : goal.returns-then-is_some-clause-distinct
returns-then-is_some-clause-distinct c =
    settled c.args.from c.args.keys.now (differ_where_slotted (drop c.args.from c.args.keys.now) c.args.slots (λ v. v.items) (sym c.is_some.ensures ∙ c.if-is_some.true) c.requires.slotted)
