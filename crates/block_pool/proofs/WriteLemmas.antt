-- An item is written after the last one of a list.
use Rattle.std.proofs.Common.{◌≡◌, ◌≢◌, refl, ap, sym, ◌∙◌, subst, ℕ, ◌+◌, ◌*◌, ◌/◌, ◌%◌, ◌<◌, List, [], ◌∷◌, ◌++◌, length, get_or, set, arith, get_or-set_other, get_or-set_same}
use Rattle.std.proofs.lemmas.List.FromFn.{map-range_with_len_more}
use Rattle.block_pool.specs.Blocks.{block_of, AreBlocks, Blocks, Item, Links}
use Rattle.block_pool.specs.Chains.{block_at, item_at, list_of, HasBlocks, IsBlock, IsKept, IsOf}
use Rattle.block_pool.proofs.KeptLemmas.{kept, links_with, pool_with, same_map}

module _ (pool : Blocks) (first last l : ℕ) (item : Item) (are : AreBlocks pool) (is : HasBlocks pool.blocks first last (l / 16 + 1)) where
  abbrev index : ℕ
  index = last * 16 + l % 16

  abbrev after : Blocks
  after = pool_with pool.blocks (set pool.slots index item) pool.free

  here : IsBlock pool.blocks first (l / 16) last
  here = subst (IsBlock pool.blocks first (l / 16)) (sym (is.ends (l / 16) refl)) (is.each (l / 16) (omega arith))

  low : (n : ℕ) → n % 16 < 16
  low n = omega arith

  inside : index < length pool.slots
  inside = omega (arith, here.there, are.room, low l)

  before_it : (i : ℕ) → i < l → item_at after first i ≡ item_at pool first i
  before_it i b =
      let j = i / 16 in
      let early : i / 16 < l / 16 + 1 = omega (arith, b) in
      let x = block_at pool.blocks first j in
      let there = is.each j early in
      let ne : x * 16 + i % 16 ≢ index = λ e.
      (let same : x ≡ last = omega (arith, e, low i, low l) in
      let place : j ≡ l / 16 = sym there.place ∙ ap (λ (k : ℕ). (block_of pool.blocks k).place) same ∙ here.place in
      omega (arith, e, same, place, b, low i, low l)) in
      get_or-set_other pool.slots index (x * 16 + i % 16) item [] ne

  at_it : item_at after first l ≡ item
  at_it = ap (λ (x : ℕ). get_or (set pool.slots index item) (x * 16 + l % 16) []) (sym (is.ends (l / 16) refl)) ∙ get_or-set_same pool.slots index item [] inside

  pub written : list_of after (links_with first last (l + 1)) ≡ list_of pool (links_with first last l) ++ item ∷ []
  written =
      let z : 0 + l ≡ l = omega arith in
      map-range_with_len_more (item_at after first) 0 l l z
      ∙ ap (λ (xs : List Item). xs ++ item_at after first l ∷ []) (same_map (item_at after first) (item_at pool first) l before_it)
      ∙ ap (λ (x : Item). list_of pool (links_with first last l) ++ x ∷ []) at_it

  pub written_others : (other : Links) → IsOf pool other → first ≢ other.first → IsKept pool after other
  written_others other own ne =
      kept pool after other (record {
        long = omega arith;
        blocks = λ x b e. refl;
        slots = λ x r b e low_r.
            (let apart : x * 16 + r ≢ index = λ same.
            (let equal : x ≡ last = omega (arith, same, low_r, low l) in
            ne (sym here.owner ∙ ap (λ (k : ℕ). (block_of pool.blocks k).owner) (sym equal) ∙ e)) in
            get_or-set_other pool.slots index (x * 16 + r) item [] apart);
      }) own
