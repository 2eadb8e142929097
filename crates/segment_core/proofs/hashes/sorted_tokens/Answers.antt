use Rattle.std.proofs.Common.{◌≡◌, sym, subst, List}
use Rattle.std.specs.List.{All}
use Rattle.std.specs.List.Sorted.{IsPermutation}
use Rattle.std.proofs.lemmas.List.Sorted.{length_permutation, All-permutation, IsPermutation-map}
use Rattle.text_region.specs.Spans.{IsSpan}
use Rattle.segment_core.specs.Hashes.{all_keyed, hash_of, keyed_in, KeyedToken}
use Rattle.segment_core.specs.declared.hashes.HashedToken.{HashedToken}
use Rattle.segment_core.proofs.HashLemmas.{in_order_of, keyed_kept, sorted_keyed, spans_kept}
use Rattle.segment_core.proofs.hashes.sorted_tokens.Goals as goal

pub returns : goal.returns
returns c =
    let old = c.args.keys.now in
    let new = c.shrink_to_fit.new.self in
    let hashed = c.args.hashed.items in
    let sorted = c.sorted_by_hash.result.items in
    let kept = c.shrink_to_fit.ensures.kept in
    let same = c.sorted_by_hash.ensures.same in
    let texts = keyed_kept old new hashed kept c.requires.keyed in
    let hashes = subst (All (λ (entry : KeyedToken). entry.hash ≡ hash_of entry.key)) (sym texts) c.requires.hashes in
    let moved = IsPermutation-map (keyed_in new) hashed sorted same in
    record {
      keyed = All-permutation (λ (entry : HashedToken). IsSpan new entry.key) hashed sorted same (spans_kept old new hashed kept c.requires.keyed);
      order = in_order_of (all_keyed new hashed) (all_keyed new sorted) hashes moved (sorted_keyed new sorted c.sorted_by_hash.ensures.rising);
      same = subst (λ (ks : List KeyedToken). IsPermutation ks (all_keyed new sorted)) texts moved;
      long = length_permutation hashed sorted same;
    }
