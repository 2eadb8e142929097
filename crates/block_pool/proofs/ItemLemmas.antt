-- The items of a list, one at a time.
use Rattle.std.proofs.Common.{◌≡◌, refl, ap, sym, ◌∙◌, subst, ℕ, zero, suc, ◌+◌, ◌*◌, ◌/◌, ◌%◌, ◌-◌, ◌<◌, List, [], ◌∷◌, map, length, get_or, arith}
use Rattle.std.specs.List.{range_with_len}
use Rattle.std.proofs.lemmas.List.{ext_get_or}
use Rattle.std.proofs.lemmas.List.FromFn.{get_or-map-range_with_len, length-map-range_with_len}
use Rattle.block_pool.specs.Blocks.{block_of, Blocks, Item}
use Rattle.block_pool.specs.Chains.{block_at, item_at, IsWithin}
use Rattle.block_pool.specs.declared.pool.Block.{Block}
use Rattle.block_pool.proofs.KeptLemmas.{block_first, block_next}

pub block_shift : (blocks : List Block) (first j : ℕ) → block_at blocks first (suc j) ≡ block_at blocks (block_of blocks first).next j
block_shift blocks first zero = block_next blocks first 0 ∙ ap (λ (x : ℕ). (block_of blocks x).next) (block_first blocks first) ∙ sym (block_first blocks (block_of blocks first).next)
block_shift blocks first (suc j) = block_next blocks first (suc j) ∙ ap (λ (x : ℕ). (block_of blocks x).next) (block_shift blocks first j) ∙ sym (block_next blocks (block_of blocks first).next j)

moved_map : (f g : ℕ → Item) (a n : ℕ) → ((k : ℕ) → k < n → f (a + k) ≡ g k) → map f (range_with_len a n) ≡ map g (range_with_len 0 n)
moved_map f g a n h =
    ext_get_or [] (map f (range_with_len a n)) (map g (range_with_len 0 n)) (length-map-range_with_len f a n ∙ sym (length-map-range_with_len g 0 n))
    (λ i b. let low : i < n = omega (arith, b, length-map-range_with_len f a n) in
    let z : 0 + i ≡ i = omega arith in
    get_or-map-range_with_len f a n i (a + i) [] low refl ∙ h i low ∙ sym (get_or-map-range_with_len g 0 n i i [] low z))

module _ (pool : Blocks) (block place left : ℕ) (low : place < 16) (some : 0 < left) where
  -- the first of them
  pub first_item : map (item_at pool block) (range_with_len place left) ≡ get_or pool.slots (block * 16 + place) [] ∷ map (item_at pool block) (range_with_len (place + 1) (left - 1))
  first_item =
      let e : left ≡ suc (left - 1) = omega (arith, some) in
      let j : place / 16 ≡ 0 = omega (arith, low) in
      let r : place % 16 ≡ place = omega (arith, low) in
      let at : block_at pool.blocks block (place / 16) ≡ block = ap (block_at pool.blocks block) j ∙ block_first pool.blocks block in
      let one : item_at pool block place ≡ get_or pool.slots (block * 16 + place) [] = ap (λ (x : ℕ). get_or pool.slots (x * 16 + place % 16) []) at ∙ ap (λ (k : ℕ). get_or pool.slots (block * 16 + k) []) r in
      ap (λ (n : ℕ). map (item_at pool block) (range_with_len place n)) e ∙ ap (λ (x : Item). x ∷ map (item_at pool block) (range_with_len (place + 1) (left - 1))) one

  pub first_within : IsWithin pool.blocks block place left → block < length pool.blocks
  first_within within = subst (λ (x : ℕ). x < length pool.blocks) (block_first pool.blocks block) (within 0 (omega (arith, some)))

  -- the others, in the same block and in the next
  pub next_within : place + 1 ≡ 16 → IsWithin pool.blocks block place left → IsWithin pool.blocks (block_of pool.blocks block).next 0 (left - 1)
  next_within full within j b = subst (λ (x : ℕ). x < length pool.blocks) (block_shift pool.blocks block j) (within (suc j) (omega (arith, full, b, some)))

  pub next_items : place + 1 ≡ 16 → map (item_at pool block) (range_with_len (place + 1) (left - 1)) ≡ map (item_at pool (block_of pool.blocks block).next) (range_with_len 0 (left - 1))
  next_items full =
      moved_map (item_at pool block) (item_at pool (block_of pool.blocks block).next) (place + 1) (left - 1)
      (λ k b. let j : (place + 1 + k) / 16 ≡ suc (k / 16) = omega (arith, full) in
      let r : (place + 1 + k) % 16 ≡ k % 16 = omega (arith, full) in
      ap (λ (i : ℕ). get_or pool.slots (block_at pool.blocks block i * 16 + (place + 1 + k) % 16) []) j
      ∙ ap (λ (i : ℕ). get_or pool.slots (block_at pool.blocks block (suc (k / 16)) * 16 + i) []) r
      ∙ ap (λ (x : ℕ). get_or pool.slots (x * 16 + k % 16) []) (block_shift pool.blocks block (k / 16)))
