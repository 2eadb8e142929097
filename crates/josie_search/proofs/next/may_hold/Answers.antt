use Rattle.std.proofs.Common.{◌∙◌, ◌-◌, sym, ap, length}
use Rattle.std.specs.Prelude.{slice_get}
use Rattle.search_model.specs.Looks.{unseen_open}
use Rattle.josie_search.specs.Costs.{threshold_of}
use Rattle.josie_search.proofs.NextLemmas.{threshold_same}
use Rattle.josie_search.proofs.next.may_hold.Goals as goal

pub returns : goal.returns
returns c =
    let last = slice_get c.args.top.now.rows (c.args.top.now.k - 1) in
    c.unseen_open.ensures ∙ ap (unseen_open (length c.args.tokens.now)) (c.threshold.ensures ∙ ap threshold_of c.worst_overlap.ensures.overlap ∙ sym (threshold_same last))
