use Rattle.search_model.specs.Segment.{segment, tokens_in}
use Rattle.search_model.proofs.FilterLemmas.{rising}
use Rattle.segment_core.proofs.hashes.HashOrder.asked_tokens.Goals as goal

pub returns : goal.returns
returns c tables is =
    let tokens = (segment tables).tokens in
    let keys = c.args.query.now in
    c.in_order.ensures (tokens_in tokens keys) (rising tokens keys) (c.in_ok-tokens_asked.ensures tables is)
