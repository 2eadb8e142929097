use Rattle.std.proofs.Common.{◌∙◌, ◌++◌, List, ℕ, refl, sym, ap}
use Rattle.text_region.proofs.SpanLemmas.{span_put}
use Rattle.text_region.proofs.region.Region.put.Goals as goal

pub returns-clause-span : goal.returns-clause-span
returns-clause-span c =
    span_put _ _ c.as_str.result.now c.args.text.now (c.in-Ok.ensures.bytes ∙ ap (λ (bytes : List ℕ). bytes ++ c.args.text.now) (sym c.as_str.ensures.value)) refl refl c.as_str.utf8 c.utf8.text
