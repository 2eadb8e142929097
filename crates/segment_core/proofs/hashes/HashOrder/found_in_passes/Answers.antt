use Rattle.std.proofs.Common.{◌∙◌, ap, sym, subst, List}
use Rattle.std.specs.List.Sorted.{IsPermutation}
use Rattle.search_model.specs.Segment.{segment, tokens_in}
use Rattle.search_model.proofs.FilterLemmas.{rising}
use Rattle.segment_core.specs.Among.{found_by, hit_keys}
use Rattle.segment_core.specs.declared.finding.Hit.{Hit}
use Rattle.segment_core.proofs.hashes.HashOrder.found_in_passes.Goals as goal

pub returns : goal.returns
returns c tables is =
    let tokens = (segment tables).tokens in
    let keys = c.args.query.now in
    let found = c.in_ok-tokens_of_hits.ensures tables is ∙ ap (λ (hits : List Hit). found_by tokens (hit_keys keys hits)) c.deref-2.ensures.value in
    c.in_order.ensures (tokens_in tokens keys) (rising tokens keys) (subst (IsPermutation (tokens_in tokens keys)) (sym found) (c.in_ok-hits.ensures.all tables is))
