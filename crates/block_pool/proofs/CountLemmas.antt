-- A list has no more blocks than the pool, and the pool has no more spare blocks than blocks.
use Rattle.std.proofs.Common.{◌≡◌, refl, ap, sym, ◌∙◌, ℕ, ◌+◌, ◌<◌, ◌≤◌, List, map, length, get_or, Bool, true, false, eqb, arith}
use Rattle.std.specs.List.{IsDistinct, list_any, range_with_len}
use Rattle.std.proofs.lemmas.Bool.{eqb-true}
use Rattle.std.proofs.lemmas.List.Folds.{Any-from_list_any}
use Rattle.std.proofs.lemmas.List.FromFn.{get_or-map-range_with_len, length-map-range_with_len}
use Rattle.std.proofs.lemmas.Map.Keys.{IsDistinct-from_apart}
use Rattle.std.proofs.lemmas.Map.Steps.{length-le_from_distinct_below}
use Rattle.block_pool.specs.Blocks.{block_of}
use Rattle.block_pool.specs.Chains.{block_at, HasBlocks}
use Rattle.block_pool.specs.declared.pool.Block.{Block}

-- numbers below m that have different places are at most m
pub few_places : (f place : ℕ → ℕ) (m n : ℕ) → ((j : ℕ) → j < n → (f j < m) × (place (f j) ≡ j)) → n ≤ m
few_places f place m n h =
    let xs = map f (range_with_len 0 n) in
    let long : length xs ≡ n = length-map-range_with_len f 0 n in
    let at : (i d : ℕ) → i < n → get_or xs i d ≡ f i = λ i d b. get_or-map-range_with_len f 0 n i i d b (let z : 0 + i ≡ i = omega arith in z) in
    let differ : IsDistinct eqb xs = IsDistinct-from_apart eqb xs (λ i j d l b. apart (get_or xs i d) (get_or xs j d) (λ e.
    (let low : i < n = omega (arith, l, b, long) in
    let high : j < n = omega (arith, b, long) in
    let same : i ≡ j = sym (h i low).1 ∙ ap place (sym (at i d low) ∙ e ∙ at j d high) ∙ (h j high).1 in
    omega (arith, same, l)))) in
    let below : (q : ℕ) → list_any (eqb q) xs ≡ true → q < m = λ q e.
    (let any = Any-from_list_any (eqb q) xs e in
    let k = any.0 in
    let low : k < n = omega (arith, any.2, long) in
    let is : q ≡ f k = eqb-true q any.1 any.4 ∙ sym any.3 ∙ at k any.1 low in
    omega (arith, is, (h k low).0)) in
    omega (arith, length-le_from_distinct_below xs m differ below, long)
  where
    apart : (x y : ℕ) → (x ≡ y → ⊥) → eqb x y ≡ false
    apart x y n = by (eqb x y) refl
      where
        by : (b : Bool) → eqb x y ≡ b → b ≡ false
        by false e = refl
        by true e = absurd (n (eqb-true x y e))

-- a list has no more blocks than the pool
pub few_blocks : (blocks : List Block) (first last n : ℕ) → HasBlocks blocks first last n → n ≤ length blocks
few_blocks blocks first last n is =
    few_places (block_at blocks first) (λ (x : ℕ). (block_of blocks x).place) (length blocks) n (λ j b. ((is.each j b).there, (is.each j b).place))
