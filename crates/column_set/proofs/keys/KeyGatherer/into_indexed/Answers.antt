use Rattle.std.proofs.Common.{◌∙◌, ap, drop, sym}
use Rattle.lake_model.specs.Tables.{distinct}
use Rattle.column_set.proofs.GatherLemmas.{from_front, indexed_current}
use Rattle.column_set.proofs.SlotLemmas.{set_where_slotted}
use Rattle.column_set.proofs.keys.KeyGatherer.into_indexed.Goals as goal

pub returns-in-Some-clause-keys : goal.returns-in-Some-clause-keys
returns-in-Some-clause-keys c =
    let set = set_where_slotted (drop c.self.inside.from c.self.inside.keys) c.self.inside.slots c.in-Some.slots (λ v. v.items) c.in-Some.is c.self.invariant.1 in
    indexed_current c.self.inside.from c.self.inside.keys c.self.invariant.0 (ap (λ g. g.finished) c.self.view_is ∙ c.requires) set.different
    ∙ ap (λ g. g.current) c.self.view_is

pub returns-clause-keys : goal.returns-clause-keys
returns-clause-keys c =
    let behind = from_front c.self.inside.from c.self.inside.keys c.self.invariant.0 (ap (λ g. g.finished) c.self.view_is ∙ c.requires) in
    c.in_ok-order.ensures.left ∙ ap distinct (sym behind) ∙ ap (λ g. g.current) c.self.view_is
