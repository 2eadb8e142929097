use Rattle.std.proofs.Common.{◌≡◌, ◌≢◌, ℕ, ◌+◌, ◌*◌, ◌/◌, ◌%◌, ◌++◌, ◌∷◌, [], subst, set, arith}
use Rattle.block_pool.specs.Blocks.{Blocks, Links}
use Rattle.block_pool.specs.Chains.{list_of, IsKept, IsOf}
use Rattle.block_pool.proofs.CountLemmas.{few_blocks}
use Rattle.block_pool.proofs.KeptLemmas.{has_there, links_with, pool_with}
use Rattle.block_pool.proofs.WriteLemmas.{written, written_others}
use Rattle.block_pool.proofs.pool.Pool.write.Goals as goal

pub overflow_add-to : goal.overflow_add-to
overflow_add-to c =
    let held = c.self.inside in
    let links = c.to.inside in
    let pool = pool_with held.blocks.items held.slots.items held.free.items in
    let has = has_there c.args.self.now pool c.args.to.now (links_with links.first links.last links.length) (λ (l : ℕ). l / 16 + 1) c.self.view_is c.to.view_is c.requires in
    omega (arith, few_blocks held.blocks.items links.first links.last (links.length / 16 + 1) has, c.self.invariant.0.few)

pub returns-clause-appended : goal.returns-clause-appended
returns-clause-appended c =
    let held = c.self.inside in
    let links = c.to.inside in
    let pool = pool_with held.blocks.items held.slots.items held.free.items in
    let has = has_there c.args.self.now pool c.args.to.now (links_with links.first links.last links.length) (λ (l : ℕ). l / 16 + 1) c.self.view_is c.to.view_is c.requires in
    let after = pool_with held.blocks.items (set held.slots.items (links.last * 16 + links.length % 16) c.args.item) held.free.items in
    let list = list_of after (links_with links.first links.last (links.length + 1)) in
    subst (λ (p : Blocks). list ≡ list_of p c.args.to.now ++ c.args.item ∷ []) c.self.view_is
    (subst (λ (l : Links). list ≡ list_of pool l ++ c.args.item ∷ []) c.to.view_is (written pool links.first links.last links.length c.args.item c.self.invariant.0 has))

pub returns-clause-others : goal.returns-clause-others
returns-clause-others c =
    let held = c.self.inside in
    let links = c.to.inside in
    let pool = pool_with held.blocks.items held.slots.items held.free.items in
    let has = has_there c.args.self.now pool c.args.to.now (links_with links.first links.last links.length) (λ (l : ℕ). l / 16 + 1) c.self.view_is c.to.view_is c.requires in
    let after = pool_with held.blocks.items (set held.slots.items (links.last * 16 + links.length % 16) c.args.item) held.free.items in
    subst (λ (p : Blocks). (other : Links) → IsOf p other → c.args.to.now.first ≢ other.first → IsKept p after other) c.self.view_is
    (subst (λ (l : Links). (other : Links) → IsOf pool other → l.first ≢ other.first → IsKept pool after other) c.to.view_is
    (written_others pool links.first links.last links.length c.args.item c.self.invariant.0 has))
