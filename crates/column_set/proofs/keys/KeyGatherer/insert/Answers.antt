use Rattle.std.proofs.Common.{◌∙◌, List, ap, drop, string_bytes, sym}
use Rattle.lake_model.specs.Tables.{add_key}
use Rattle.lake_model.specs.Texts.{Text}
use Rattle.column_set.proofs.GatherLemmas.{entered_current}
use Rattle.column_set.proofs.SlotLemmas.{set_where_slotted}
use Rattle.column_set.proofs.keys.KeyGatherer.insert.Goals as goal

pub invariant_of-self-in_err-self-inside : goal.invariant_of-self-in_err-self-inside
invariant_of-self-in_err-self-inside c = (c.entered.ensures.within, rw c.take.ensures.after tt)

pub returns-clause-added : goal.returns-clause-added
returns-clause-added c =
    let key = string_bytes c.args.key.now in
    let set = set_where_slotted (drop c.self.inside.from c.self.inside.keys) c.self.inside.slots c.in-Some.slots (λ v. v.items) (sym c.in-Some.ensures.value) c.self.invariant.1 in
    entered_current c.self.inside.from c.self.inside.keys key c.entered.new.keys c.self.invariant.0 set.different c.in_ok-self-inside.ensures.keys
    ∙ ap (λ (keys : List Text). add_key keys key) (ap (λ g. g.current) c.self.view_is)
