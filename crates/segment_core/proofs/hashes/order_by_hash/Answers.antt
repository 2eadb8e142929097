use Rattle.std.proofs.Common.{◌∙◌, ap, sym, subst, map, ℕ, List}
use Rattle.std.specs.List.Sorted.{IsNonDecreasingBy}
use Rattle.segment_core.specs.Hashes.{all_keyed, entry_hash}
use Rattle.segment_core.specs.declared.hashes.HashedToken.{HashedToken}
use Rattle.segment_core.proofs.HashLemmas.{by_hash_of, hashes_rise, hashes_same}
use Rattle.segment_core.proofs.hashes.order_by_hash.Goals as goal

pub of-requires-clause-rising : goal.of-requires-clause-rising
of-requires-clause-rising c =
    let entries = c.sorted_tokens-entries.result.items in
    let keys = c.sorted_tokens-entries.new.keys in
    let is = c.deref-2.ensures.value ∙ c.in_ok-hashes.ensures ∙ ap (λ (es : List HashedToken). map entry_hash es) c.deref.ensures.value in
    subst (IsNonDecreasingBy (λ (n : ℕ). n)) (hashes_same keys entries ∙ sym is) (hashes_rise (all_keyed keys entries) c.sorted_tokens-entries.ensures.order)

pub returns : goal.returns
returns c tables are =
    by_hash_of tables (all_keyed c.args.keys c.args.hashed.items) (all_keyed c.sorted_tokens-entries.new.keys c.sorted_tokens-entries.result.items) are c.sorted_tokens-entries.ensures.same
