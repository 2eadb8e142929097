use Rattle.std.proofs.Common.{◌≡◌, ◌∙◌, ap, subst, ℕ, ◌/◌, ◌%◌, ◌<◌, set, arith}
use Rattle.block_pool.specs.Blocks.{Blocks, Links}
use Rattle.block_pool.specs.Chains.{blocks_for, IsReady}
use Rattle.block_pool.proofs.KeptLemmas.{block_with, has_there, links_with, pool_with}
use Rattle.block_pool.proofs.TakeLemmas.{more_ready}
use Rattle.block_pool.proofs.pool.Pool.go_on.Goals as goal

pub returns : goal.returns
returns c =
    let held = c.self.inside in
    let links = c.to.inside in
    let number = c.in-Some.number in
    let last = c.index-last.result.now in
    let pool = pool_with held.blocks.items held.slots.items held.free.items in
    let chain = links_with links.first links.last links.length in
    let same : links.length ≡ c.args.to.now.length = ap (λ (l : Links). l.length) c.to.view_is in
    let own = has_there c.args.self.now pool c.args.to.now chain blocks_for c.self.view_is c.to.view_is c.requires.own in
    let some : 0 < links.length = omega (arith, same, c.requires.long) in
    let full : links.length % 16 ≡ 0 = ap (λ (n : ℕ). n % 16) same ∙ c.requires.full in
    let ready = more_ready pool c.pop.new.self.items number c.self.invariant.0 c.in-Some.ensures.items chain own some full last c.index-last.ensures in
    let linked = set held.blocks.items links.last (block_with number last.owner last.place) in
    let after = pool_with (set linked number (block_with 0 links.first (links.length / 16))) held.slots.items c.pop.new.self.items in
    let now = links_with links.first number links.length in
    subst (λ (p : Blocks). IsReady p after c.args.to.now now) c.self.view_is (subst (λ (l : Links). IsReady pool after l now) c.to.view_is ready)
