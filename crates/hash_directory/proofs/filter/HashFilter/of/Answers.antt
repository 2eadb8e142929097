use Rattle.std.proofs.Common.{◌≡◌, ℕ, arith, true}
use Rattle.std.proofs.lemmas.List.Elements.{recursion_from_All}
use Rattle.hash_directory.specs.Buckets.{may_have}
use Rattle.hash_directory.proofs.FilterLemmas.{one_more}
use Rattle.hash_directory.proofs.filter.HashFilter.of.Goals as goal

pub loop-hash-preserved : goal.loop-hash-preserved
loop-hash-preserved c = one_more (may_have c.loop-hash.filter) (may_have c.add.new.self) c.args.hashes.now c.loop-hash.hash-index (omega arith) c.add.ensures.kept c.add.ensures.added c.loop-hash.invariant

pub returns : goal.returns
returns c =
    recursion_from_All (λ (hash : ℕ). may_have c.loop-hash.filter hash ≡ true) c.args.hashes.now (λ k d h. c.loop-hash.invariant k d (omega (arith, h)))
