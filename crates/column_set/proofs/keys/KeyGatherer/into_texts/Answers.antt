use Rattle.std.proofs.Common.{◌∙◌, ap}
use Rattle.column_set.proofs.GatherLemmas.{finished_all}
use Rattle.column_set.proofs.keys.KeyGatherer.into_texts.Goals as goal

pub returns : goal.returns
returns c =
    c.shrink_to_fit.ensures ∙ finished_all c.self.inside.from c.self.inside.keys (ap (λ g. g.current) c.self.view_is ∙ c.requires) ∙ ap (λ g. g.finished) c.self.view_is
