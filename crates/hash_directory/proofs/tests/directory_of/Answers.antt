use Rattle.std.proofs.Common.{ℕ, ◌+◌, get_or}
use Rattle.std.proofs.lemmas.List.Sorted.{IsNonDecreasingBy-from_all_adjacent}
use Rattle.std.proofs.lemmas.Map.Keys.{le_from_is_le}
use Rattle.hash_directory.proofs.tests.directory_of.Goals as goal

pub of-requires-clause-rising : goal.of-requires-clause-rising
of-requires-clause-rising c =
    let hashes = c.args.hashes.now in
    IsNonDecreasingBy-from_all_adjacent (λ (n : ℕ). n) hashes (λ k d h. le_from_is_le (get_or hashes k d) (get_or hashes (k + 1) d) (c.if-not-is_sorted.ensures.cases k d h))
