use Rattle.std.proofs.Common.{◌∙◌, List, [], ap, get_or}
use Rattle.lake_model.specs.Texts.{Text}
use Rattle.lake_model.specs.Tables.{overlap}
use Rattle.column_set.proofs.OverlapLemmas.{overlap_both_ways}
use Rattle.column_set.proofs.query.QuerySet.shared_with.Goals as goal

pub returns : goal.returns
returns c =
    let column = get_or c.args.lists.now c.args.list [] in
    c.overlap.ensures ∙ overlap_both_ways column c.self.inside.keys c.requires.different c.self.invariant.0.different ∙ ap (λ (keys : List Text). overlap keys column) c.self.view_is
