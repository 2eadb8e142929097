-- A list takes a spare block.
use Rattle.std.proofs.Common.{◌≡◌, ◌≢◌, refl, ap, sym, ◌∙◌, subst, ℕ, zero, suc, ◌+◌, ◌*◌, ◌/◌, ◌%◌, ◌-◌, ◌<◌, List, [], ◌∷◌, ◌++◌, length, get_or, set, inl, inr, arith, get_or-set_other, get_or-set_same}
use Rattle.std.proofs.lemmas.Bool.{cases_eq, cases_lt}
use Rattle.std.proofs.lemmas.List.{get_or_default, get_or_push, length-set, length_push}
use Rattle.block_pool.specs.Blocks.{block_of, no_block, nobody, AreBlocks, Blocks, IsSpare, Links}
use Rattle.block_pool.specs.Chains.{block_at, blocks_for, item_at, IsBlock, IsOf, IsReady}
use Rattle.block_pool.specs.declared.pool.Block.{Block}
use Rattle.block_pool.proofs.KeptLemmas.{block_first, block_next, empty_list, kept, links_with, none_of, pool_with, same_map}

module _ (pool : Blocks) (free : List ℕ) (number : ℕ) (are : AreBlocks pool) (popped : pool.free ≡ free ++ number ∷ []) where
  pub taken : IsSpare pool (length free)
  taken = are.spare (length free) (omega (arith, ap (λ (ns : List ℕ). length ns) popped, length_push free number))

  is_number : get_or pool.free (length free) 0 ≡ number
  is_number = ap (λ (ns : List ℕ). get_or ns (length free) 0) popped ∙ get_or_push free number 0 (length free) refl

  pub number_there : number < length pool.blocks
  number_there = subst (λ (x : ℕ). x < length pool.blocks) is_number taken.there

  nobodys : (block_of pool.blocks number).owner ≡ nobody
  nobodys = subst (λ (x : ℕ). (block_of pool.blocks x).owner ≡ nobody) is_number taken.free

  pub one_less : length free + 1 ≡ length pool.free
  one_less = sym (ap (λ (ns : List ℕ). length ns) popped ∙ length_push free number)

  -- the first block of a list
  begins : (other : Links) → IsOf pool other → 0 < other.length → IsBlock pool.blocks other.first 0 other.first
  begins other own some =
      subst (IsBlock pool.blocks other.first 0) (block_first pool.blocks other.first) (own.each 0 (let up : 0 < (other.length + 15) / 16 = omega (arith, some) in up))

  -- no list has the block
  pub not_taken : (other : Links) → IsOf pool other → 0 < other.length → (x : ℕ) → (block_of pool.blocks x).owner ≡ other.first → x ≢ number
  not_taken other own some x owner e =
      let is : other.first ≡ nobody = sym owner ∙ ap (λ (k : ℕ). (block_of pool.blocks k).owner) e ∙ nobodys in
      omega (arith, is, (begins other own some).there, are.few)

  pub begins_apart : (other : Links) → IsOf pool other → 0 < other.length → number ≢ other.first
  begins_apart other own some e = not_taken other own some other.first (begins other own some).owner (sym e)

  -- the first block of an empty list
  module _ (chain : Links) (empty : chain.length ≡ 0) where
    abbrev begun : Block
    begun = record { next = 0; owner = number; place = 0 }

    abbrev blocks_then : List Block
    blocks_then = set pool.blocks number begun

    begun_there : block_of blocks_then number ≡ begun
    begun_there = get_or-set_same pool.blocks number begun no_block number_there

    begun_is : IsBlock blocks_then number 0 number
    begun_is = record {
      there = omega (arith, number_there, length-set pool.blocks number begun);
      owner = ap (λ (b : Block). b.owner) begun_there;
      place = ap (λ (b : Block). b.place) begun_there;
    }

    pub begun_ready : IsReady pool (pool_with blocks_then pool.slots free) chain (links_with number number chain.length)
    begun_ready = record {
      has = record {
        each = λ j b.
            (let z : 0 ≡ j = omega (arith, b, empty) in
            subst (λ (i : ℕ). IsBlock blocks_then number i (block_at blocks_then number i)) z (subst (IsBlock blocks_then number 0) (sym (block_first blocks_then number)) begun_is));
        ends = λ j e. (let z : 0 ≡ j = omega (arith, e, empty) in sym (block_first blocks_then number) ∙ ap (block_at blocks_then number) z);
      };
      long = refl;
      same = empty_list (pool_with blocks_then pool.slots free) (links_with number number chain.length) empty ∙ sym (empty_list pool chain empty);
      others = λ other own apart. elim (cases_lt 0 other.length) [
        | inl some ↦ kept pool (pool_with blocks_then pool.slots free) other (record {
          long = omega (arith, length-set pool.blocks number begun);
          blocks = λ x b owner. get_or-set_other pool.blocks number x begun no_block (not_taken other own some x owner);
          slots = λ x r b owner low. refl;
        }) own
        | inr none ↦
            let e : other.length ≡ 0 = omega (arith, none) in
            record { own = none_of (pool_with blocks_then pool.slots free) other e; same = empty_list (pool_with blocks_then pool.slots free) other e ∙ sym (empty_list pool other e) }
      ];
      apart = λ other own apart some. begins_apart other own some;
      spare = one_less;
    }

  -- one more block for a list all of whose blocks are full
  module _ (chain : Links) (own : IsOf pool chain) (some : 0 < chain.length) (full : chain.length % 16 ≡ 0) (held : Block) (at : held ≡ get_or pool.blocks chain.last held) where
    abbrev n : ℕ
    n = chain.length / 16

    abbrev linked : Block
    linked = record { next = number; owner = held.owner; place = held.place }

    abbrev added : Block
    added = record { next = 0; owner = chain.first; place = n }

    abbrev linked_blocks : List Block
    linked_blocks = set pool.blocks chain.last linked

    abbrev blocks_more : List Block
    blocks_more = set linked_blocks number added

    abbrev more : Blocks
    more = pool_with blocks_more pool.slots free

    count : blocks_for chain.length ≡ n
    count = omega (arith, full)

    each : (j : ℕ) → j < n → IsBlock pool.blocks chain.first j (block_at pool.blocks chain.first j)
    each j b = own.each j (omega (arith, b, count))

    last_at : (j : ℕ) → j + 1 ≡ n → chain.last ≡ block_at pool.blocks chain.first j
    last_at j e = own.ends j (e ∙ sym count)

    last_is : IsBlock pool.blocks chain.first (n - 1) chain.last
    last_is =
        let e : n - 1 + 1 ≡ n = omega (arith, some, full) in
        subst (IsBlock pool.blocks chain.first (n - 1)) (sym (last_at (n - 1) e)) (each (n - 1) (omega (arith, e)))

    last_not : chain.last ≢ number
    last_not = not_taken chain own some chain.last last_is.owner

    held_is : held ≡ block_of pool.blocks chain.last
    held_is = at ∙ get_or_default pool.blocks chain.last held no_block last_is.there

    long_more : length blocks_more ≡ length pool.blocks
    long_more = length-set linked_blocks number added ∙ length-set pool.blocks chain.last linked

    -- other blocks are unchanged
    stays : (x : ℕ) → x ≢ number → x ≢ chain.last → block_of blocks_more x ≡ block_of pool.blocks x
    stays x ne nl = get_or-set_other linked_blocks number x added no_block ne ∙ get_or-set_other pool.blocks chain.last x linked no_block nl

    linked_is : block_of blocks_more chain.last ≡ linked
    linked_is = get_or-set_other linked_blocks number chain.last added no_block last_not ∙ get_or-set_same pool.blocks chain.last linked no_block last_is.there

    added_is : block_of blocks_more number ≡ added
    added_is = get_or-set_same linked_blocks number added no_block (omega (arith, number_there, length-set pool.blocks chain.last linked))

    is_still : (j x : ℕ) → IsBlock pool.blocks chain.first j x → IsBlock blocks_more chain.first j x
    is_still j x is = elim (cases_eq x chain.last) [
      | inl e ↦ record {
        there = omega (arith, is.there, long_more);
        owner = ap (λ (k : ℕ). (block_of blocks_more k).owner) e ∙ ap (λ (b : Block). b.owner) linked_is ∙ ap (λ (b : Block). b.owner) held_is ∙ ap (λ (k : ℕ). (block_of pool.blocks k).owner) (sym e) ∙ is.owner;
        place = ap (λ (k : ℕ). (block_of blocks_more k).place) e ∙ ap (λ (b : Block). b.place) linked_is ∙ ap (λ (b : Block). b.place) held_is ∙ ap (λ (k : ℕ). (block_of pool.blocks k).place) (sym e) ∙ is.place;
      }
      | inr ne ↦
          let same = stays x (not_taken chain own some x is.owner) ne in
          record { there = omega (arith, is.there, long_more); owner = ap (λ (b : Block). b.owner) same ∙ is.owner; place = ap (λ (b : Block). b.place) same ∙ is.place }
    ]

    same_at : (j : ℕ) → j < n → block_at blocks_more chain.first j ≡ block_at pool.blocks chain.first j
    same_at zero b = block_first blocks_more chain.first ∙ sym (block_first pool.blocks chain.first)
    same_at (suc j) b =
        let is = each j (omega (arith, b)) in
        let x = block_at pool.blocks chain.first j in
        let not_last : x ≢ chain.last = λ e. (let place : j ≡ n - 1 = sym is.place ∙ ap (λ (k : ℕ). (block_of pool.blocks k).place) e ∙ last_is.place in omega (arith, place, b)) in
        block_next blocks_more chain.first j
        ∙ ap (λ (k : ℕ). (block_of blocks_more k).next) (same_at j (omega (arith, b)))
        ∙ ap (λ (b : Block). b.next) (stays x (not_taken chain own some x is.owner) not_last)
        ∙ sym (block_next pool.blocks chain.first j)

    ends_more : (m : ℕ) → m + 1 ≡ n → block_at blocks_more chain.first (suc m) ≡ number
    ends_more m e =
        block_next blocks_more chain.first m
        ∙ ap (λ (k : ℕ). (block_of blocks_more k).next) (same_at m (omega (arith, e)) ∙ sym (last_at m e))
        ∙ ap (λ (b : Block). b.next) linked_is

    end_at : block_at blocks_more chain.first n ≡ number
    end_at =
        let e : n - 1 + 1 ≡ n = omega (arith, some, full) in
        let f : n ≡ suc (n - 1) = omega (arith, e) in
        ap (block_at blocks_more chain.first) f ∙ ends_more (n - 1) e

    added_there : IsBlock blocks_more chain.first n number
    added_there = record {
      there = omega (arith, number_there, long_more);
      owner = ap (λ (b : Block). b.owner) added_is;
      place = ap (λ (b : Block). b.place) added_is;
    }

    pub more_ready : IsReady pool more chain (links_with chain.first number chain.length)
    more_ready = record {
      has = record {
        each = λ j b. elim (cases_lt j n) [
          | inl l ↦ subst (IsBlock blocks_more chain.first j) (sym (same_at j l)) (is_still j (block_at pool.blocks chain.first j) (each j l))
          | inr g ↦
              let z : n ≡ j = omega (arith, g, b) in
              subst (λ (i : ℕ). IsBlock blocks_more chain.first i (block_at blocks_more chain.first i)) z (subst (IsBlock blocks_more chain.first n) (sym end_at) added_there)
        ];
        ends = λ j e. (let z : n ≡ j = omega (arith, e) in sym end_at ∙ ap (block_at blocks_more chain.first) z);
      };
      long = refl;
      same = same_map (item_at more chain.first) (item_at pool chain.first) chain.length
          (λ i b. let early : i / 16 < chain.length / 16 = omega (arith, b, full) in
          ap (λ (x : ℕ). get_or pool.slots (x * 16 + i % 16) []) (same_at (i / 16) early));
      others = λ other other_own apart. elim (cases_lt 0 other.length) [
        | inl there ↦ kept pool more other (record {
          long = omega (arith, long_more);
          blocks = λ x b owner. stays x (not_taken other other_own there x owner) (λ e. apart some there (sym last_is.owner ∙ ap (λ (k : ℕ). (block_of pool.blocks k).owner) (sym e) ∙ owner));
          slots = λ x r b owner low. refl;
        }) other_own
        | inr none ↦
            let e : other.length ≡ 0 = omega (arith, none) in
            record { own = none_of more other e; same = empty_list more other e ∙ sym (empty_list pool other e) }
      ];
      apart = λ other other_own apart there. apart some there;
      spare = one_less;
    }
