-- The blocks of a pool, and the model of a list in it.
use Rattle.std.specs.Prelude.{◌≡◌, ℕ, ◌*◌, ◌<◌, ◌≤◌, ◌^◌, List, get_or, length}
use Rattle.block_pool.specs.declared.pool.Block.{Block}

abbrev pub Item : Type 0
Item = List ℕ

-- the blocks, the places for items, sixteen for each block, and the blocks that are spare
pub record Blocks : Type 0 where
  pub blocks : List Block
  pub slots : List Item
  pub free : List ℕ

-- a list in a pool: its first block, its last, and the number of its items
pub record Links : Type 0 where
  pub first : ℕ
  pub last : ℕ
  pub length : ℕ

-- the owner of a spare block
abbrev pub nobody : ℕ
nobody = 4294967295

abbrev pub no_block : Block
no_block = record { next = 0; owner = 0; place = 0 }

-- the block with this number
abbrev pub block_of : List Block → ℕ → Block
block_of blocks number = get_or blocks number no_block

abbrev pub spare_of : Blocks → ℕ
spare_of pool = length pool.free

-- a spare block: it has no owner, and its place is its index among the spare blocks
pub record IsSpare (pool : Blocks) (k : ℕ) : Type 0 where
  pub there : get_or pool.free k 0 < length pool.blocks
  pub free : (block_of pool.blocks (get_or pool.free k 0)).owner ≡ nobody
  pub place : (block_of pool.blocks (get_or pool.free k 0)).place ≡ k

-- there are places for the items of all blocks, and the blocks listed as spare are spare
pub record AreBlocks (pool : Blocks) : Type 0 where
  pub few : length pool.blocks < 2 ^ 32
  pub room : 16 * length pool.blocks ≤ length pool.slots
  pub spare : (k : ℕ) → k < length pool.free → IsSpare pool k
