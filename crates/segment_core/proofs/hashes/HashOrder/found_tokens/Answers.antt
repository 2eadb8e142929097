use Rattle.std.proofs.Common.{◌∙◌, ap, sym, subst, ℕ, ◌<◌, List, [], None, get_or, length, arith}
use Rattle.std.specs.Prelude.{bytes_eq}
use Rattle.std.specs.List.{IsDistinct}
use Rattle.search_model.specs.Segment.{segment, tokens_in}
use Rattle.search_model.proofs.FilterLemmas.{rising}
use Rattle.std.proofs.lemmas.List.{get_or-map, length-map}
use Rattle.search_model.specs.Arrays.{IsToken}
use Rattle.segment_core.specs.Hashes.{hash_of}
use Rattle.segment_core.proofs.FoundLemmas.{none_in, tokens_differ}
use Rattle.segment_core.proofs.HashLemmas.{lacks_hash}
use Rattle.segment_core.proofs.hashes.HashOrder.found_tokens.Goals as goal

pub returns : goal.returns
returns c tables is =
    let tokens = (segment tables).tokens in
    let keys = c.args.query.now in
    c.in_order.ensures (tokens_in tokens keys) (rising tokens keys) (c.in_ok-tokens_of_few.ensures tables is)

pub returns-then-not-may_have_any : goal.returns-then-not-may_have_any
returns-then-not-may_have_any c tables is =
    let tokens = (segment tables).tokens in
    let keys = c.args.query.now in
    let hashes = c.hashes.result.now in
    let distinct = subst (IsDistinct bytes_eq) c.query.ensures c.len-count.ensures.different in
    let denied = c.may_have_any.ensures c.if-not-may_have_any.true in
    let none : (i : ℕ) → i < length keys → IsToken tokens (get_or keys i []) None =
    λ i h. lacks_hash tables c.args.self.now is (get_or hashes i 0) (get_or keys i []) (ap (λ (hs : List ℕ). get_or hs i 0) c.hashes.ensures ∙ get_or-map hash_of keys i [] 0 h) (denied i 0 (omega (arith, h, ap length c.hashes.ensures, length-map keys hash_of))) in
    c.new.ensures.items ∙ sym (none_in tokens keys distinct (tokens_differ tables) none)
