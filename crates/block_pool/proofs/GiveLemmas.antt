-- Blocks are added to a pool, and a list gives its blocks back.
use Rattle.std.proofs.Common.{◌≡◌, ◌≢◌, refl, ap, sym, ◌∙◌, subst, ℕ, suc, ◌+◌, ◌*◌, ◌<◌, ◌≤◌, ◌^◌, List, [], ◌∷◌, ◌++◌, length, get_or, set, inl, inr, arith, get_or-set_other, get_or-set_same, length-append}
use Rattle.std.proofs.lemmas.Bool.{cases_lt}
use Rattle.std.proofs.lemmas.List.{get_or_append_left, get_or_push}
use Rattle.block_pool.specs.Blocks.{block_of, no_block, nobody, AreBlocks, Blocks, Item, Links}
use Rattle.block_pool.specs.Chains.{block_at, blocks_for, AllKept, IsApart, IsBlock, IsFreed, IsGiving, IsKept, IsOf}
use Rattle.block_pool.specs.declared.pool.Block.{Block}
use Rattle.block_pool.proofs.KeptLemmas.{block_first, block_next, block_with, empty_list, kept, none_of}
use Rattle.block_pool.proofs.CountLemmas.{few_places}

-- ---- more blocks

-- if blocks and places for items are added, each list is kept
pub grown_kept : (before after : Blocks) (xs : List Block) (ys : List Item) → AreBlocks before → after.blocks ≡ before.blocks ++ xs → after.slots ≡ before.slots ++ ys → AllKept before after
grown_kept before after xs ys are more_blocks more_slots chain own =
    kept before after chain (record {
      long = omega (arith, ap (λ (bs : List Block). length bs) more_blocks, length-append before.blocks xs);
      blocks = λ x b owner. ap (λ (bs : List Block). get_or bs x no_block) more_blocks ∙ get_or_append_left before.blocks xs no_block x b;
      slots = λ x r b owner low.
          (let inside : x * 16 + r < length before.slots = omega (arith, b, low, are.room) in
          ap (λ (is : List Item). get_or is (x * 16 + r) []) more_slots ∙ get_or_append_left before.slots ys [] (x * 16 + r) inside);
    }) own

pub all_kept : (before now then : Blocks) → AllKept before now → AllKept now then → AllKept before then
all_kept before now then first second chain own =
    let one = first chain own in
    let two = second chain one.own in
    record { own = two.own; same = two.same ∙ one.same }

-- ---- a list is given back

-- a block that has an owner is not among the spare ones, so these are fewer than the blocks
pub room_to_free : (pool : Blocks) (number : ℕ) → AreBlocks pool → number < length pool.blocks → (block_of pool.blocks number).owner ≢ nobody → length pool.free + 1 ≤ length pool.blocks
room_to_free pool number are there owned =
    let spare : Block = block_with 0 nobody (length pool.free) in
    let then = set pool.blocks number spare in
    few_places (λ (j : ℕ). get_or (pool.free ++ number ∷ []) j 0) (λ (x : ℕ). (block_of then x).place) (length pool.blocks) (length pool.free + 1)
    (λ j b. elim (cases_lt j (length pool.free)) [
      | inl l ↦
          let at : get_or (pool.free ++ number ∷ []) j 0 ≡ get_or pool.free j 0 = get_or_append_left pool.free (number ∷ []) 0 j l in
          let is = are.spare j l in
          let ne : get_or pool.free j 0 ≢ number = λ e. owned (ap (λ (x : ℕ). (block_of pool.blocks x).owner) (sym e) ∙ is.free) in (
            subst (λ (x : ℕ). x < length pool.blocks) (sym at) is.there,
            ap (λ (x : ℕ). (block_of then x).place) at ∙ ap (λ (b : Block). b.place) (get_or-set_other pool.blocks number (get_or pool.free j 0) spare no_block ne) ∙ is.place,
          )
      | inr g ↦
          let e : j ≡ length pool.free = omega (arith, g, b) in
          let at : get_or (pool.free ++ number ∷ []) j 0 ≡ number = get_or_push pool.free number 0 j (sym e) in (
            subst (λ (x : ℕ). x < length pool.blocks) (sym at) there,
            ap (λ (x : ℕ). (block_of then x).place) at ∙ ap (λ (b : Block). b.place) (get_or-set_same pool.blocks number spare no_block there) ∙ sym e,
          )
    ])

pub kept_self : (pool : Blocks) → AllKept pool pool
kept_self pool chain own = record { own = own; same = refl }

module _ (pool : Blocks) (chain : Links) (few : length pool.blocks < 2 ^ 32) (own : IsOf pool chain) where
  abbrev count_of : ℕ
  count_of = blocks_for chain.length

  pub giving_starts : IsGiving pool pool chain.first count_of 0 chain.first
  giving_starts = record { at = λ b. sym (block_first pool.blocks chain.first); long = refl; blocks = λ x h. refl; slots = refl; spare = omega arith }

  not_nobody : 0 < count_of → chain.first ≢ nobody
  not_nobody b e =
      let is = subst (IsBlock pool.blocks chain.first 0) (block_first pool.blocks chain.first) (own.each 0 b) in
      omega (arith, e, is.there, few)

  module _ (now : Blocks) (j number : ℕ) (giving : IsGiving pool now chain.first count_of j number) (b : j < count_of) where
    begins_here : IsBlock pool.blocks chain.first j number
    begins_here = subst (IsBlock pool.blocks chain.first j) (sym (giving.at b)) (own.each j b)

    same_here : block_of now.blocks number ≡ block_of pool.blocks number
    same_here = giving.blocks number (λ i l e. (let place : j ≡ i = sym begins_here.place ∙ ap (λ (x : ℕ). (block_of pool.blocks x).place) e ∙ (own.each i (omega (arith, l, b))).place in omega (arith, place, l)))

    pub giving_there : number < length now.blocks
    giving_there = omega (arith, begins_here.there, giving.long)

    pub giving_owned : (block_of now.blocks number).owner ≢ nobody
    giving_owned e = not_nobody (omega (arith, b)) (sym begins_here.owner ∙ sym (ap (λ (k : Block). k.owner) same_here) ∙ e)

    pub giving_more : (then : Blocks) (next : ℕ) → IsFreed now then number next → IsGiving pool then chain.first count_of (j + 1) next
    giving_more then next freed = record {
      at = λ l.
          (let e : suc j ≡ j + 1 = omega arith in
          freed.behind
          ∙ ap (λ (k : Block). k.next) same_here
          ∙ ap (λ (x : ℕ). (block_of pool.blocks x).next) (giving.at b)
          ∙ sym (block_next pool.blocks chain.first j)
          ∙ ap (block_at pool.blocks chain.first) e);
      long = freed.long ∙ giving.long;
      blocks = λ x h. freed.blocks x (λ e. h j (omega arith) (e ∙ giving.at b)) ∙ giving.blocks x (λ i l. h i (omega (arith, l)));
      slots = freed.slots ∙ giving.slots;
      spare = omega (arith, freed.spare, giving.spare);
    }

  pub giving_ends : (now : Blocks) (number : ℕ) → IsGiving pool now chain.first count_of count_of number → (other : Links) → IsOf pool other → IsApart chain other → IsKept pool now other
  giving_ends now number giving other other_own apart = elim (cases_lt 0 other.length) [
    | inl some ↦ kept pool now other (record {
      long = omega (arith, giving.long);
      blocks = λ x b owner. giving.blocks x (λ i l e. apart (let up : 0 < chain.length = omega (arith, l) in up) some (sym (own.each i l).owner ∙ ap (λ (k : ℕ). (block_of pool.blocks k).owner) (sym e) ∙ owner));
      slots = λ x r b owner low. ap (λ (is : List Item). get_or is (x * 16 + r) []) giving.slots;
    }) other_own
    | inr none ↦
        let e : other.length ≡ 0 = omega (arith, none) in
        record { own = none_of now other e; same = empty_list now other e ∙ sym (empty_list pool other e) }
  ]
