use Rattle.std.proofs.Common.{◌∙◌, ap, map}
use Rattle.text_region.specs.Spans.{text_at}
use Rattle.column_set.proofs.RegionLemmas.{same_texts, still_stand}
use Rattle.column_set.proofs.texts.Texts.shrink_to_fit.Goals as goal

pub invariant_of-self : goal.invariant_of-self
invariant_of-self c =
    let spans = c.self.inside.spans.items in
    rw c.shrink_to_fit-2.ensures.items (record { stand = still_stand _ _ spans c.shrink_to_fit.ensures.kept c.self.invariant.stand; few = c.self.invariant.few })

pub returns : goal.returns
returns c =
    let spans = c.self.inside.spans.items in
    ap (map (text_at c.shrink_to_fit.new.self)) c.shrink_to_fit-2.ensures.items ∙ same_texts _ _ spans c.shrink_to_fit.ensures.kept c.self.invariant.stand ∙ c.self.view_is
