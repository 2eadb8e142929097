use Rattle.std.proofs.Common.{◌∙◌, [], append-nil, subst, sym}
use Rattle.block_pool.specs.Blocks.{Blocks}
use Rattle.block_pool.specs.Chains.{AllKept}
use Rattle.block_pool.proofs.GiveLemmas.{grown_kept}
use Rattle.block_pool.proofs.KeptLemmas.{pool_with}
use Rattle.block_pool.proofs.pool.Pool.add_spare.Goals as goal

pub returns-in_err-push-clause-kept : goal.returns-in_err-push-clause-kept
returns-in_err-push-clause-kept c =
    let held = c.self.inside in
    let pool = pool_with held.blocks.items held.slots.items held.free.items in
    let after = pool_with c.push.new.self.items c.extend_from_slice.new.self.items c.reserve.new.self.items in
    subst (λ (p : Blocks). AllKept p after) c.self.view_is (grown_kept pool after [] _ c.self.invariant.0 (c.in_err-push.ensures.items ∙ sym (append-nil held.blocks.items)) c.in_ok-extend_from_slice.ensures.items)

pub returns-clause-kept : goal.returns-clause-kept
returns-clause-kept c =
    let held = c.self.inside in
    let pool = pool_with held.blocks.items held.slots.items held.free.items in
    let after = pool_with c.push.new.self.items c.extend_from_slice.new.self.items c.push-2.new.self.items in
    subst (λ (p : Blocks). AllKept p after) c.self.view_is (grown_kept pool after _ _ c.self.invariant.0 c.in_ok-push.ensures.items c.in_ok-extend_from_slice.ensures.items)
