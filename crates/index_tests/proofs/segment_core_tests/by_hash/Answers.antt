use Rattle.std.proofs.Common.{sym, subst, ◌∷◌, [], List}
use Rattle.segment_core.specs.Hashes.{all_keyed, AreKeyed, AreKeyedTokens}
use Rattle.segment_core.specs.declared.hashes.HashedToken.{HashedToken}
use Rattle.index_tests.specs.Worked.{worked_table}
use Rattle.index_tests.proofs.WorkedSegment.{worked_keyed, worked_spans}
use Rattle.index_tests.proofs.segment_core_tests.by_hash.Goals as goal

pub order_by_hash-requires-clause-keyed : goal.order_by_hash-requires-clause-keyed
order_by_hash-requires-clause-keyed c =
    subst (AreKeyed c.new-3.new.keys) (sym c.in_ok-vec.ensures.items) (worked_spans c.new-2.new.keys c.new-3.new.keys c.in_ok-z.z c.in_ok-a.a c.in_ok-a.ensures.kept c.in_ok-z.ensures.span c.in_ok-a.ensures.span)

pub returns : goal.returns
returns c =
    c.order_by_hash.ensures (worked_table ∷ [])
    (subst (λ (es : List HashedToken). AreKeyedTokens (worked_table ∷ []) (all_keyed c.new-3.new.keys es)) (sym c.in_ok-vec.ensures.items)
    (worked_keyed c.new-2.new.keys c.new-3.new.keys c.in_ok-z.z c.in_ok-a.a c.in_ok-a.ensures.kept c.in_ok-z.ensures.span c.in_ok-z.ensures.key c.in_ok-a.ensures.key))
