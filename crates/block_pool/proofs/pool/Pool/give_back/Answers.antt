use Rattle.std.proofs.Common.{◌≡◌, ap, ℕ, ◌<◌, ◌^◌, length, subst, sym, arith}
use Rattle.block_pool.specs.Blocks.{Blocks, Links}
use Rattle.block_pool.specs.Chains.{blocks_for, IsGiving}
use Rattle.block_pool.proofs.CountLemmas.{few_blocks}
use Rattle.block_pool.proofs.GiveLemmas.{giving_ends, giving_more, giving_owned, giving_starts, giving_there}
use Rattle.block_pool.proofs.pool.Pool.give_back.Goals as goal

pub overflow_add-count : goal.overflow_add-count
overflow_add-count c =
    let few : length c.args.self.now.blocks < 2 ^ 32 = subst (λ (p : Blocks). length p.blocks < 2 ^ 32) c.self.view_is c.self.invariant.0.few in
    let same : c.what.inside.length ≡ c.args.what.length = ap (λ (l : Links). l.length) c.what.view_is in
    omega (arith, few_blocks c.args.self.now.blocks c.args.what.first c.args.what.last (blocks_for c.args.what.length) c.requires, few, same)

pub loop-init : goal.loop-init
loop-init c =
    let few : length c.args.self.now.blocks < 2 ^ 32 = subst (λ (p : Blocks). length p.blocks < 2 ^ 32) c.self.view_is c.self.invariant.0.few in
    let first : c.what.inside.first ≡ c.args.what.first = ap (λ (l : Links). l.first) c.what.view_is in
    record {
      few = few;
      giving = subst (IsGiving c.args.self.now c.args.self.now c.args.what.first (blocks_for c.args.what.length) 0) (sym first) (giving_starts c.args.self.now c.args.what few c.requires);
    }

pub free_block-number-requires-clause-there : goal.free_block-number-requires-clause-there
free_block-number-requires-clause-there c =
    let same : c.what.inside.length ≡ c.args.what.length = ap (λ (l : Links). l.length) c.what.view_is in
    let low : c.loop.counter < blocks_for c.args.what.length = subst (λ (n : ℕ). c.loop.counter < blocks_for n) same c.loop-test.true in
    giving_there c.args.self.now c.args.what c.loop.invariant.few c.requires c.loop.self c.loop.counter c.loop.number c.loop.invariant.giving low

pub free_block-number-requires-clause-owned : goal.free_block-number-requires-clause-owned
free_block-number-requires-clause-owned c =
    let same : c.what.inside.length ≡ c.args.what.length = ap (λ (l : Links). l.length) c.what.view_is in
    let low : c.loop.counter < blocks_for c.args.what.length = subst (λ (n : ℕ). c.loop.counter < blocks_for n) same c.loop-test.true in
    giving_owned c.args.self.now c.args.what c.loop.invariant.few c.requires c.loop.self c.loop.counter c.loop.number c.loop.invariant.giving low

pub loop-preserved : goal.loop-preserved
loop-preserved c =
    let same : c.what.inside.length ≡ c.args.what.length = ap (λ (l : Links). l.length) c.what.view_is in
    let low : c.loop.counter < blocks_for c.args.what.length = subst (λ (n : ℕ). c.loop.counter < blocks_for n) same c.loop-test.true in
    record {
      few = c.loop.invariant.few;
      giving =
          giving_more c.args.self.now c.args.what c.loop.invariant.few c.requires c.loop.self c.loop.counter c.loop.number c.loop.invariant.giving low c.free_block-number.new.self c.free_block-number.result
          c.free_block-number.ensures;
    }

pub returns-clause-spare : goal.returns-clause-spare
returns-clause-spare c =
    let same : c.what.inside.length ≡ c.args.what.length = ap (λ (l : Links). l.length) c.what.view_is in
    omega (arith, c.loop.invariant.giving.spare, c.loop.auto.counter-end, c.loop-test.false, ap blocks_for same)

pub returns-clause-others : goal.returns-clause-others
returns-clause-others c =
    let same : c.what.inside.length ≡ c.args.what.length = ap (λ (l : Links). l.length) c.what.view_is in
    let end : c.loop.counter ≡ blocks_for c.args.what.length = omega (arith, c.loop.auto.counter-end, c.loop-test.false, ap blocks_for same) in
    giving_ends c.args.self.now c.args.what c.loop.invariant.few c.requires c.loop.self c.loop.number
    (subst (λ (j : ℕ). IsGiving c.args.self.now c.loop.self c.args.what.first (blocks_for c.args.what.length) j c.loop.number) end c.loop.invariant.giving)
