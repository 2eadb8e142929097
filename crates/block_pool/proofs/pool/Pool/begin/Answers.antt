use Rattle.std.proofs.Common.{◌∙◌, ap, set, subst}
use Rattle.block_pool.specs.Blocks.{Blocks, Links}
use Rattle.block_pool.specs.Chains.{IsReady}
use Rattle.block_pool.proofs.KeptLemmas.{block_with, links_with, pool_with}
use Rattle.block_pool.proofs.TakeLemmas.{begun_ready}
use Rattle.block_pool.proofs.pool.Pool.begin.Goals as goal

pub returns : goal.returns
returns c =
    let held = c.self.inside in
    let links = c.to.inside in
    let number = c.in-Some.number in
    let pool = pool_with held.blocks.items held.slots.items held.free.items in
    let chain = links_with links.first links.last links.length in
    let empty = ap (λ (l : Links). l.length) c.to.view_is ∙ c.requires.empty in
    let ready = begun_ready pool c.pop.new.self.items number c.self.invariant.0 c.in-Some.ensures.items chain empty in
    let after = pool_with (set held.blocks.items number (block_with 0 number 0)) held.slots.items c.pop.new.self.items in
    let now = links_with number number links.length in
    subst (λ (p : Blocks). IsReady p after c.args.to.now now) c.self.view_is (subst (λ (l : Links). IsReady pool after l now) c.to.view_is ready)
