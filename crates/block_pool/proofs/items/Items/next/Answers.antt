use Rattle.std.proofs.Common.{◌≡◌, ◌∙◌, ap, sym, ℕ, ◌+◌, ◌-◌, ◌<◌, List, ◌∷◌, map, subst, arith}
use Rattle.std.specs.List.{range_with_len}
use Rattle.block_pool.specs.Blocks.{Item}
use Rattle.block_pool.specs.Chains.{item_at, IsWithin}
use Rattle.block_pool.proofs.ItemLemmas.{first_item, first_within, next_items, next_within}
use Rattle.block_pool.proofs.items.Items.next.Goals as goal

pub item-item-requires-clause-block : goal.item-item-requires-clause-block
item-item-requires-clause-block c =
    let held = c.self.inside in
    first_within held.pool.now held.block held.place held.left c.self.invariant.0 (omega (arith, c.if-self-eq0.false)) c.self.invariant.1

pub returns-then-self-lt-BLOCK : goal.returns-then-self-lt-BLOCK
returns-then-self-lt-BLOCK c =
    let held = c.self.inside in
    let rest = map (item_at held.pool.now held.block) (range_with_len (held.place + 1) (held.left - 1)) in
    sym c.self.view_is ∙ first_item held.pool.now held.block held.place held.left c.self.invariant.0 (omega (arith, c.if-self-eq0.false)) ∙ ap (λ (x : Item). x ∷ rest) (sym c.item-item.ensures)

pub behind-self-inside-requires : goal.behind-self-inside-requires
behind-self-inside-requires c =
    let held = c.self.inside in
    first_within held.pool.now held.block held.place held.left c.self.invariant.0 (omega (arith, c.if-self-eq0.false)) c.self.invariant.1

pub invariant_of-self-2 : goal.invariant_of-self-2
invariant_of-self-2 c =
    let held = c.self.inside in
    let full : held.place + 1 ≡ 16 = omega (arith, c.self.invariant.0, c.if-self-lt-BLOCK.false) in
    let within = next_within held.pool.now held.block held.place held.left c.self.invariant.0 (omega (arith, c.if-self-eq0.false)) full c.self.invariant.1 in
    (omega arith, subst (λ (x : ℕ). IsWithin held.pool.now.blocks x 0 (held.left - 1)) (sym c.behind-self-inside.ensures) within)

pub returns : goal.returns
returns c =
    let held = c.self.inside in
    let full : held.place + 1 ≡ 16 = omega (arith, c.self.invariant.0, c.if-self-lt-BLOCK.false) in
    let some : 0 < held.left = omega (arith, c.if-self-eq0.false) in
    let rest = map (item_at held.pool.now held.block) (range_with_len (held.place + 1) (held.left - 1)) in
    let item = c.item-item.result in
    sym c.self.view_is
    ∙ first_item held.pool.now held.block held.place held.left c.self.invariant.0 some
    ∙ ap (λ (x : Item). x ∷ rest) (sym c.item-item.ensures)
    ∙ ap (λ (xs : List Item). item ∷ xs) (next_items held.pool.now held.block held.place held.left c.self.invariant.0 some full)
    ∙ ap (λ (x : ℕ). item ∷ map (item_at held.pool.now x) (range_with_len 0 (held.left - 1))) (sym c.behind-self-inside.ensures)
