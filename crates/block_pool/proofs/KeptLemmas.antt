-- A list of a pool is unchanged if its blocks and their items are.
use Rattle.std.proofs.Common.{◌≡◌, refl, ap, sym, ◌∙◌, subst, ℕ, zero, suc, ◌+◌, ◌*◌, ◌/◌, ◌%◌, ◌<◌, List, [], map, length, get_or, arith}
use Rattle.std.specs.List.{range_with_len}
use Rattle.std.proofs.lemmas.List.{ext_get_or, get_or-map, length-map}
use Rattle.std.proofs.lemmas.List.FromFn.{get_or-range_with_len, length-range_with_len}
use Rattle.block_pool.specs.Blocks.{block_of, Blocks, Item, Links}
use Rattle.block_pool.specs.Chains.{block_at, blocks_for, item_at, list_of, HasBlocks, IsBlock, IsKept, IsOf, Keeps}
use Rattle.block_pool.specs.declared.pool.Block.{Block}

abbrev pub pool_with : List Block → List Item → List ℕ → Blocks
pool_with blocks slots free = record { blocks = blocks; slots = slots; free = free }

abbrev pub block_with : ℕ → ℕ → ℕ → Block
block_with next owner place = record { next = next; owner = owner; place = place }

abbrev pub links_with : ℕ → ℕ → ℕ → Links
links_with first last length = record { first = first; last = last; length = length }

-- ---- lists that are made alike

pub same_map : (f g : ℕ → Item) (n : ℕ) → ((i : ℕ) → i < n → f i ≡ g i) → map f (range_with_len 0 n) ≡ map g (range_with_len 0 n)
same_map f g n h =
    let all = range_with_len 0 n in
    ext_get_or [] (map f all) (map g all) (omega (arith, length-map all f, length-map all g))
    (λ i b. let inside : i < length all = omega (arith, b, length-map all f) in
    let low : i < n = omega (arith, inside, length-range_with_len 0 n) in
    let at : get_or all i 0 ≡ i = get_or-range_with_len 0 n i 0 low ∙ (let z : 0 + i ≡ i = omega arith in z) in
    get_or-map f all i 0 [] inside ∙ ap f at ∙ h i low ∙ sym (get_or-map g all i 0 [] inside ∙ ap g at))

-- ---- a list is unchanged if its blocks are

pub block_first : (blocks : List Block) (first : ℕ) → block_at blocks first 0 ≡ first
unfolding block_at
block_first blocks first = refl

pub block_next : (blocks : List Block) (first j : ℕ) → block_at blocks first (suc j) ≡ (block_of blocks (block_at blocks first j)).next
unfolding block_at
block_next blocks first j = refl

pub kept_blocks : (before after : Blocks) (first n : ℕ) → Keeps before after first → ((j : ℕ) → j < n → IsBlock before.blocks first j (block_at before.blocks first j)) → (j : ℕ) → j < n → block_at after.blocks first j ≡ block_at before.blocks first j
kept_blocks before after first n keeps each zero b = block_first after.blocks first ∙ sym (block_first before.blocks first)
kept_blocks before after first n keeps each (suc j) b =
    let is = each j (omega (arith, b)) in
    block_next after.blocks first j
    ∙ ap (λ (x : ℕ). (block_of after.blocks x).next) (kept_blocks before after first n keeps each j (omega (arith, b)))
    ∙ ap (λ (x : Block). x.next) (keeps.blocks (block_at before.blocks first j) is.there is.owner)
    ∙ sym (block_next before.blocks first j)

kept_block : (before after : Blocks) (first j x : ℕ) → Keeps before after first → IsBlock before.blocks first j x → IsBlock after.blocks first j x
kept_block before after first j x keeps is =
    let same = keeps.blocks x is.there is.owner in
    record { there = omega (arith, is.there, keeps.long); owner = ap (λ (b : Block). b.owner) same ∙ is.owner; place = ap (λ (b : Block). b.place) same ∙ is.place }

pub kept_has : (before after : Blocks) (first last n : ℕ) → Keeps before after first → HasBlocks before.blocks first last n → HasBlocks after.blocks first last n
kept_has before after first last n keeps is =
    let same = kept_blocks before after first n keeps is.each in
    record {
      each = λ j b. subst (IsBlock after.blocks first j) (sym (same j b)) (kept_block before after first j (block_at before.blocks first j) keeps (is.each j b));
      ends = λ j e. is.ends j e ∙ sym (same j (omega (arith, e)));
    }

pub kept_list : (before after : Blocks) (first last n : ℕ) → Keeps before after first → HasBlocks before.blocks first last (blocks_for n) → map (item_at after first) (range_with_len 0 n) ≡ map (item_at before first) (range_with_len 0 n)
kept_list before after first last n keeps is =
    same_map (item_at after first) (item_at before first) n
    (λ i b. let j = i / 16 in
    let inside : i / 16 < (n + 15) / 16 = omega (arith, b) in
    let low : i % 16 < 16 = omega arith in
    let at = is.each j inside in
    ap (λ (x : ℕ). get_or after.slots (x * 16 + i % 16) []) (kept_blocks before after first (blocks_for n) keeps is.each j inside)
    ∙ keeps.slots (block_at before.blocks first j) (i % 16) at.there at.owner low)

pub kept : (before after : Blocks) (chain : Links) → Keeps before after chain.first → IsOf before chain → IsKept before after chain
kept before after chain keeps is =
    record {
      own = kept_has before after chain.first chain.last (blocks_for chain.length) keeps is;
      same = kept_list before after chain.first chain.last chain.length keeps is;
    }

-- an empty list is in any pool
pub none_of : (pool : Blocks) (chain : Links) → chain.length ≡ 0 → IsOf pool chain
none_of pool chain e =
    let none : blocks_for chain.length ≡ 0 = omega (arith, e) in
    record { each = λ j b. absurd (omega (arith, b, none)); ends = λ j is. absurd (omega (arith, is, none)) }

-- the models of a pool and a list, and what holds of them
pub has_there : (pool held : Blocks) (chain links : Links) (n : ℕ → ℕ) → held ≡ pool → links ≡ chain → HasBlocks pool.blocks chain.first chain.last (n chain.length) → HasBlocks held.blocks links.first links.last (n links.length)
has_there pool held chain links n e f has =
    subst (λ (l : Links). HasBlocks held.blocks l.first l.last (n l.length)) (sym f) (subst (λ (p : Blocks). HasBlocks p.blocks chain.first chain.last (n chain.length)) (sym e) has)

pub empty_list : (pool : Blocks) (chain : Links) → chain.length ≡ 0 → list_of pool chain ≡ []
empty_list pool chain e = ap (λ (n : ℕ). map (item_at pool chain.first) (range_with_len 0 n)) e
