-- The lists in a pool.
use Rattle.std.specs.Prelude.{◌≡◌, ◌≢◌, ℕ, zero, suc, ◌+◌, ◌*◌, ◌/◌, ◌%◌, ◌-◌, ◌<◌, ◌≤◌, ◌==◌, List, [], get_or, if◌then◌else◌, length, map}
use Rattle.std.specs.List.{range_with_len}
use Rattle.block_pool.specs.Blocks.{block_of, Blocks, Item, Links}
use Rattle.block_pool.specs.declared.pool.Block.{Block}

-- the block of a list at a place, from 0
unfoldable pub block_at : List Block → ℕ → ℕ → ℕ
block_at blocks first zero = first
block_at blocks first (suc j) = (block_of blocks (block_at blocks first j)).next

-- an item of a list
abbrev pub item_at : Blocks → ℕ → ℕ → Item
item_at pool first i = get_or pool.slots (block_at pool.blocks first (i / 16) * 16 + i % 16) []

-- the items of a list
abbrev pub list_of : Blocks → Links → List Item
list_of pool chain = map (item_at pool chain.first) (range_with_len 0 chain.length)

-- the number of blocks of a list of `n` items, and how many more items fit into the last block of a list
abbrev pub blocks_for : ℕ → ℕ
blocks_for n = (n + 15) / 16

abbrev pub room_of : Links → ℕ
room_of chain = blocks_for chain.length * 16 - chain.length

-- the block belongs to the list with this first block, at this place there
pub record IsBlock (blocks : List Block) (first j number : ℕ) : Type 0 where
  pub there : number < length blocks
  pub owner : (block_of blocks number).owner ≡ first
  pub place : (block_of blocks number).place ≡ j

-- the list has `n` blocks, from the first to the last
pub record HasBlocks (blocks : List Block) (first last n : ℕ) : Type 0 where
  pub each : (j : ℕ) → j < n → IsBlock blocks first j (block_at blocks first j)
  pub ends : (j : ℕ) → j + 1 ≡ n → last ≡ block_at blocks first j

-- the list is one of this pool
abbrev pub IsOf : Blocks → Links → Type 0
IsOf pool chain = HasBlocks pool.blocks chain.first chain.last (blocks_for chain.length)

-- one of two lists is empty, or they begin in different blocks
abbrev pub IsApart : Links → Links → Type 0
IsApart chain other = 0 < chain.length → 0 < other.length → chain.first ≢ other.first

-- the list is still in the pool, and has the items that it had
pub record IsKept (before after : Blocks) (chain : Links) : Type 0 where
  pub own : IsOf after chain
  pub same : list_of after chain ≡ list_of before chain

-- while one list changed, every other list of the pool was kept, and is still apart from it
abbrev pub KeepsOthers : Blocks → Blocks → Links → Links → Type 0
KeepsOthers before after old new = (other : Links) → IsOf before other → IsApart old other → IsKept before after other × IsApart new other

-- from one pool to another, the blocks of this owner, and their items, are unchanged
pub record Keeps (before after : Blocks) (first : ℕ) : Type 0 where
  pub long : length before.blocks ≤ length after.blocks
  pub blocks : (x : ℕ) → x < length before.blocks → (block_of before.blocks x).owner ≡ first → block_of after.blocks x ≡ block_of before.blocks x
  pub slots : (x r : ℕ) → x < length before.blocks → (block_of before.blocks x).owner ≡ first → r < 16 → get_or after.slots (x * 16 + r) [] ≡ get_or before.slots (x * 16 + r) []

-- what holds after a list took one more block: the list has it, and no list has changed
pub record IsReady (before after : Blocks) (old new : Links) : Type 0 where
  pub has : HasBlocks after.blocks new.first new.last (old.length / 16 + 1)
  pub long : new.length ≡ old.length
  pub same : list_of after new ≡ list_of before old
  pub others : (other : Links) → IsOf before other → IsApart old other → IsKept before after other
  pub apart : (other : Links) → IsOf before other → IsApart old other → 0 < other.length → new.first ≢ other.first
  pub spare : length after.free + 1 ≡ length before.free

-- what holds after room was made for one more item: the list has it, in a new block only if it had no room, and no list
-- has changed
pub record IsRoomy (before after : Blocks) (old new : Links) : Type 0 where
  pub has : HasBlocks after.blocks new.first new.last (old.length / 16 + 1)
  pub long : new.length ≡ old.length
  pub same : list_of after new ≡ list_of before old
  pub others : (other : Links) → IsOf before other → IsApart old other → IsKept before after other
  pub apart : (other : Links) → IsOf before other → IsApart old other → 0 < other.length → new.first ≢ other.first
  pub spare : length after.free + (if room_of old == 0 then 1 else 0) ≡ length before.free

-- every list is kept
abbrev pub AllKept : Blocks → Blocks → Type 0
AllKept before after = (chain : Links) → IsOf before chain → IsKept before after chain

-- a block was made spare, and `next` was the block after it
pub record IsFreed (before after : Blocks) (number next : ℕ) : Type 0 where
  pub behind : next ≡ (block_of before.blocks number).next
  pub long : length after.blocks ≡ length before.blocks
  pub blocks : (x : ℕ) → x ≢ number → block_of after.blocks x ≡ block_of before.blocks x
  pub slots : after.slots ≡ before.slots
  pub spare : length after.free ≡ length before.free + 1

-- while a list is given back: its first j blocks are spare, and all other blocks are as before
pub record IsGiving (before now : Blocks) (first n j number : ℕ) : Type 0 where
  pub at : j < n → number ≡ block_at before.blocks first j
  pub long : length now.blocks ≡ length before.blocks
  pub blocks : (x : ℕ) → ((i : ℕ) → i < j → x ≢ block_at before.blocks first i) → block_of now.blocks x ≡ block_of before.blocks x
  pub slots : now.slots ≡ before.slots
  pub spare : length now.free ≡ length before.free + j

-- the blocks are there that hold the `left` items from a place on
abbrev pub IsWithin : List Block → ℕ → ℕ → ℕ → Type 0
IsWithin blocks first place left = (j : ℕ) → j * 16 < place + left → block_at blocks first j < length blocks

-- two lists of a pool
pub record AreTwo (pool : Blocks) (a b : Links) : Type 0 where
  pub first : IsOf pool a
  pub second : IsOf pool b
  pub apart : IsApart a b
