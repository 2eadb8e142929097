-- Blocks of puts, and the parts over them.
use Rattle.std.proofs.Common.{◌≡◌, ◌≢◌, nat_eq, refl, ap, sym, ◌∙◌, subst, ℕ, zero, suc, ◌+◌, ◌-◌, ◌*◌, ◌<◌, ◌≤◌, List, [], ◌∷◌, ◌++◌, Bool, true, false, not, ◌&&◌, length, get_or, arith, drop, take, map, min, append_assoc, append-nil, inl, inr}
use Rattle.std.specs.Prelude.{slice_set, sum_by, ◌⊎◌}
use Rattle.std.specs.List.{AllByRecursion, filter}
use Rattle.std.proofs.lemmas.List.{drop-drop, drop-map, drop_min, get_or-set_other, get_or-set_same, length-append, length-drop, length-set, length-take, map-append, take-append-le, take-append-drop, take-map, take_min, take_more}
use Rattle.std.proofs.Math.ListN.{drop_of_length-le}
use Rattle.std.proofs.Math.Nat.{le-mul_of_pos_right}
use Rattle.std.proofs.lemmas.Bool.{lt-leb}
use Rattle.std.proofs.lemmas.Bool.Decides.{eqb_tells}
use Rattle.std.proofs.lemmas.List.Concat.{flat_map-append}
use Rattle.std.proofs.lemmas.List.Sums.{sum_by-append, sum_by-cons}
use Rattle.lake_model.specs.Tables.{Table, members}
use Rattle.layout_laws.specs.Places.{places_of}
use Rattle.lake_model.specs.Layout.{Part, Place, positions_of}
use Rattle.list_laws.specs.Distinct.{Rises, AreDistinct}
use Rattle.list_laws.proofs.ListLemmas.{all_unmap, all_weaker, filter_none, rises_distinct, rises_left, rises_right}
use Rattle.std.proofs.lemmas.List.Elements.{filter-append}
use Rattle.segment_core.specs.Versions.{live_of, part_with, places_with}
use Rattle.asof_search.specs.Puts.{AreBlocks, IsKeptAt, IsOfBlock, PutOf, has_ended, place_of, positions_put, tables_put, was_live}
use Rattle.asof_search.proofs.HistoryLemmas.{filter_alike}

-- ---- the places of a part

pub places_are : (asked : ℕ) (puts : List PutOf) → places_with (positions_put puts) (tables_put puts) (map (λ put. not (was_live asked put)) puts) ≡ map (place_of asked) puts
places_are asked [] = refl
places_are asked (put ∷ puts) = ap (λ places. place_of asked put ∷ places) (places_are asked puts)

not_not : (b : Bool) → not (not b) ≡ b
not_not true = refl
not_not false = refl

-- the unmarked ones are those that were live
unmarked_are : (asked : ℕ) (puts : List PutOf) → map (λ place. place.table) (filter (λ place. not place.marked) (map (place_of asked) puts)) ≡ tables_put (filter (was_live asked) puts)
unmarked_are asked puts = filter_alike (place_of asked) (λ (place : Place). not place.marked) (was_live asked) (λ (place : Place). place.table) (λ (put : PutOf). put.table) puts (all puts)
  where
    all : (us : List PutOf) → AllByRecursion (λ put. (not (not (was_live asked put)) ≡ was_live asked put) × (put.table ≡ put.table)) us
    all [] = tt
    all (put ∷ us) = ((not_not (was_live asked put), refl), all us)

positions_are : (asked : ℕ) (puts : List PutOf) → map (λ place. place.position) (map (place_of asked) puts) ≡ positions_put puts
positions_are asked [] = refl
positions_are asked (put ∷ puts) = ap (λ ns. put.position ∷ ns) (positions_are asked puts)

-- ---- the parts so far

-- b parts are made, over the first blocks; the rest is still to come.
pub record IsUnderWay (size asked b : ℕ) (puts rest : List PutOf) (parts : List Part) : Type 0 where
  pub many : length parts ≡ b
  pub left : rest ≡ drop (b * size) puts
  pub all : places_of parts ++ map (place_of asked) rest ≡ map (place_of asked) puts

pub under_way_first : (size asked : ℕ) (puts : List PutOf) → IsUnderWay size asked 0 puts puts []
under_way_first size asked puts = let e : 0 * size ≡ 0 = grind arith in record { many = refl; left = sym (ap (λ (n : ℕ). drop n puts) e); all = refl }

module _ (size asked b : ℕ) (puts rest these others : List PutOf) (parts : List Part) (part : Part) (h : IsUnderWay size asked b puts rest parts)
    (first : these ≡ take (min size (length rest)) rest) (second : others ≡ drop (min size (length rest)) rest) (places : part.places ≡ map (place_of asked) these) where
  pub under_way_more : IsUnderWay size asked (b + 1) puts others (parts ++ part ∷ [])
  under_way_more =
      let next : b * size + size ≡ (b + 1) * size = grind arith in
      let split : these ++ others ≡ rest = (λ i. first i ++ second i) ∙ take-append-drop (min size (length rest)) rest in
      let one : places_of (part ∷ []) ≡ map (place_of asked) these = append-nil part.places ∙ places in
      record {
        many = length-append parts (part ∷ []) ∙ ap (λ (n : ℕ). n + 1) h.many;
        left = second ∙ drop_min size rest ∙ ap (drop size) h.left ∙ drop-drop size (b * size) puts ∙ ap (λ (n : ℕ). drop n puts) next;
        all = ap (λ ps. ps ++ map (place_of asked) others) (flat_map-append (λ (p : Part). p.places) parts (part ∷ []) ∙ ap (λ ps. places_of parts ++ ps) one)
            ∙ append_assoc (places_of parts) (map (place_of asked) these) (map (place_of asked) others)
            ∙ ap (λ ps. places_of parts ++ ps) (sym (map-append (place_of asked) these others) ∙ ap (map (place_of asked)) split) ∙ h.all;
      }

-- the tables of a block
pub block_tables : (size b : ℕ) (puts rest these : List PutOf) → rest ≡ drop (b * size) puts → these ≡ take (min size (length rest)) rest → tables_put these ≡ take size (drop (b * size) (tables_put puts))
block_tables size b puts rest these e f =
    ap tables_put (f ∙ take_min size rest ∙ ap (take size) e) ∙ sym (take-map (λ (p : PutOf). p.table) size (drop (b * size) puts)) ∙ ap (take size) (sym (drop-map (λ (p : PutOf). p.table) (b * size) puts))

-- ---- what the parts are in the end

module _ (size asked b : ℕ) (puts rest : List PutOf) (parts : List Part) (h : IsUnderWay size asked b puts rest parts) where
  pub past_live : filter (was_live asked) rest ≡ [] → live_of parts ≡ tables_put (filter (was_live asked) puts)
  past_live none =
      let free : Place → Bool = λ place. not place.marked in
      let left : map (λ (p : Place). p.table) (filter free (map (place_of asked) rest)) ≡ [] = unmarked_are asked rest ∙ ap tables_put none in
      sym (append-nil (live_of parts)) ∙ ap (λ ts. live_of parts ++ ts) (sym left) ∙ sym (map-append (λ (p : Place). p.table) (filter free (places_of parts)) (filter free (map (place_of asked) rest)))
      ∙ ap (map (λ (p : Place). p.table)) (sym (filter-append free (places_of parts) (map (place_of asked) rest)) ∙ ap (filter free) h.all) ∙ unmarked_are asked puts

  pub past_positions : Rises (positions_put puts) → AreDistinct (positions_of parts)
  past_positions rising =
      let all : positions_of parts ++ positions_put rest ≡ positions_put puts =
      ap (λ ns. positions_of parts ++ ns) (sym (positions_are asked rest)) ∙ sym (map-append (λ (p : Place). p.position) (places_of parts) (map (place_of asked) rest)) ∙ ap (map (λ (p : Place). p.position)) h.all ∙ positions_are asked puts in
      rises_distinct (positions_of parts) (rises_left (positions_of parts) (positions_put rest) (subst Rises (sym all) rising))

pub rest_rises : (puts rest : List PutOf) (n : ℕ) → rest ≡ drop n puts → Rises (positions_put puts) → Rises (positions_put rest)
rest_rises puts rest n e h =
    let split : positions_put (take n puts) ++ positions_put (drop n puts) ≡ positions_put puts = sym (map-append (λ (p : PutOf). p.position) (take n puts) (drop n puts)) ∙ ap positions_put (take-append-drop n puts) in
    subst (λ (us : List PutOf). Rises (positions_put us)) (sym e) (rises_right (positions_put (take n puts)) (positions_put (drop n puts)) (subst Rises (sym split) h))

-- the members of a block are some of all members
pub block_light : (most size n : ℕ) (tables : List Table) → sum_by members tables < most → sum_by members (take size (drop n tables)) < most
block_light most size n tables h =
    let outer : sum_by members (take n tables) + sum_by members (drop n tables) ≡ sum_by members tables = sym (sum_by-append members (take n tables) (drop n tables)) ∙ ap (sum_by members) (take-append-drop n tables) in
    let inner : sum_by members (take size (drop n tables)) + sum_by members (drop size (drop n tables)) ≡ sum_by members (drop n tables) =
    sym (sum_by-append members (take size (drop n tables)) (drop size (drop n tables))) ∙ ap (sum_by members) (take-append-drop size (drop n tables)) in
    omega (arith, outer, inner, h)

-- ---- kept blocks

-- appending does not change the first n elements from an index on
take_drop_append : {X : Type 0} (n m : ℕ) (xs ys : List X) → n ≤ length (drop m xs) → take n (drop m (xs ++ ys)) ≡ take n (drop m xs)
take_drop_append n zero xs ys h = take-append-le n xs ys h
take_drop_append zero (suc m) [] ys h = refl
take_drop_append (suc n) (suc m) [] ys h = absurd (omega (arith, h))
take_drop_append n (suc m) (x ∷ xs) ys h = take_drop_append n m xs ys h

take_of_take : {X : Type 0} (n m : ℕ) (xs : List X) → n ≤ m → take n (take m xs) ≡ take n xs
take_of_take zero m xs h = refl
take_of_take (suc n) zero xs h = absurd (omega (arith, h))
take_of_take (suc n) (suc m) [] h = refl
take_of_take (suc n) (suc m) (x ∷ xs) h = ap (λ us. x ∷ us) (take_of_take n m xs (omega (arith, h)))

-- more tables do not change what is kept of a block
block_stays : (size b : ℕ) (tables more block : List Table) → IsOfBlock size b tables block → IsOfBlock size b (tables ++ more) block
block_stays size b tables more block h = record {
  small = h.small;
  within = omega (arith, h.within, length-drop (b * size) tables, length-drop (b * size) (tables ++ more), length-append tables more);
  first = h.first ∙ sym (take_drop_append (length block) (b * size) tables more h.within);
}

pub blocks_stay : (size : ℕ) (tables more : List Table) (blocks : List (List Table)) → AreBlocks size tables blocks → AreBlocks size (tables ++ more) blocks
blocks_stay size tables more blocks h b within = block_stays size b tables more (get_or blocks b []) (h b within)

-- all tables that a block has
whole_block : (size b : ℕ) (tables these : List Table) → these ≡ take size (drop (b * size) tables) → IsOfBlock size b tables these
whole_block size b tables these is =
    let long : length these ≡ min size (length (drop (b * size) tables)) = ap length is ∙ length-take size (drop (b * size) tables) in
    record {
      small = omega (arith, long);
      within = omega (arith, long);
      first = is ∙ sym (take_min size (drop (b * size) tables)) ∙ ap (λ (n : ℕ). take n (drop (b * size) tables)) (sym long);
    }

-- one more block, or one in place of what was kept of it
pub blocks_more : (size b : ℕ) (tables these : List Table) (before after : List (List Table)) → AreBlocks size tables before → these ≡ take size (drop (b * size) tables) → IsKeptAt b these before after → AreBlocks size tables after
blocks_more size b tables these before after h is k c within = by (eqb_tells c b)
  where
    by : ((nat_eq c b ≡ true) × (c ≡ b)) ⊎ ((nat_eq c b ≡ false) × (c ≢ b)) → IsOfBlock size c tables (get_or after c [])
    by (inl same) =
        let there : get_or after c [] ≡ these = ap (λ (n : ℕ). get_or after n []) same.1 ∙ k.here in
        subst (IsOfBlock size c tables) (sym there) (subst (λ (n : ℕ). IsOfBlock size n tables these) (sym same.1) (whole_block size b tables these is))
    by (inr other) = let old = k.others c within other.1 in subst (IsOfBlock size c tables) (sym old.1) (h c old.0)

pub blocks_none : (size : ℕ) (tables : List Table) → AreBlocks size tables []
blocks_none size tables b l = absurd (omega (arith, l))

-- what is kept of a block is the first of all tables that it has
pub block_kept : (size b : ℕ) (tables these block : List Table) → these ≡ take size (drop (b * size) tables) → IsOfBlock size b tables block → block ≡ take (length block) these
block_kept size b tables these block is h = h.first ∙ sym (take_of_take (length block) size (drop (b * size) tables) h.small) ∙ ap (take (length block)) (sym is)

-- in place of another
pub kept_there : (b : ℕ) (these : List Table) (before : List (List Table)) → b < length before → IsKeptAt b these before (slice_set before b these)
kept_there b these before h = record {
  here = get_or-set_same before b these [] h;
  others = λ c within other. (omega (arith, within, length-set before b these), get_or-set_other before b c these [] other);
}

-- ---- what is still to come

put_later : (asked : ℕ) (put : PutOf) → asked < put.position → was_live asked put ≡ false
put_later asked put h = ap (λ b. b && not (has_ended asked put.end)) (lt-leb put.position asked h)

-- if the first was put later, so were all
pub all_later : (asked : ℕ) (puts : List PutOf) (first : PutOf) → Rises (positions_put puts) → first ≡ get_or puts 0 first → asked < first.position → filter (was_live asked) puts ≡ []
all_later asked [] first rising is h = refl
all_later asked (put ∷ puts) first rising is h =
    let here : asked < put.position = subst (λ (p : PutOf). asked < p.position) is h in
    filter_none (was_live asked) (put ∷ puts) (put_later asked put here, all_weaker (λ (p : PutOf). put.position < p.position) (λ p. was_live asked p ≡ false) puts (λ p b. put_later asked p (omega (arith, here, b))) (all_unmap (λ (n : ℕ). put.position < n) (λ (p : PutOf). p.position) puts rising.0))

-- ---- the width of tables

-- one more table, of at most `most` columns
pub wider : (most n : ℕ) (puts : List PutOf) (put : PutOf) → put ≡ get_or puts n put → length put.table.columns ≤ most → n < length puts → sum_by (λ (table : Table). length table.columns) (tables_put (take n puts)) ≤ most * n
    → sum_by (λ (table : Table). length table.columns) (tables_put (take (n + 1) puts)) ≤ most * (n + 1)
wider most n puts put is narrow within so_far =
    let next : take (n + 1) puts ≡ take n puts ++ put ∷ [] = take_more puts n put within ∙ ap (λ (p : PutOf). take n puts ++ p ∷ []) (sym is) in
    let widths : List Table → ℕ = sum_by (λ (table : Table). length table.columns) in
    let sum : widths (tables_put (take (n + 1) puts)) ≡ widths (tables_put (take n puts)) + length put.table.columns =
    ap (λ (us : List PutOf). widths (tables_put us)) next ∙ ap widths (map-append (λ (p : PutOf). p.table) (take n puts) (put ∷ []))
    ∙ sum_by-append (λ (table : Table). length table.columns) (tables_put (take n puts)) (put.table ∷ []) ∙ ap (λ (m : ℕ). widths (tables_put (take n puts)) + m) (sum_by-cons (λ (table : Table). length table.columns) put.table [] ∙ plus_none (length put.table.columns)) in
    let product : most * (n + 1) ≡ most * n + most = grind arith in
    omega (arith, sum, narrow, so_far, product)
  where
    plus_none : (n : ℕ) → n + 0 ≡ n
    plus_none n = omega arith

-- ---- a part

pub part_is : (part : Part) (number asked : ℕ) (puts : List PutOf) (positions : List ℕ) (tables : List Table) (marks : List Bool) → positions ≡ positions_put puts → tables ≡ tables_put puts → marks ≡ map (λ (put : PutOf). not (was_live asked put)) puts
    → part ≡ part_with number (places_with positions tables marks) → part.places ≡ map (place_of asked) puts
part_is part number asked puts positions tables marks e f g is = ap (λ (p : Part). p.places) is ∙ (λ i. places_with (e i) (f i) (g i)) ∙ places_are asked puts

-- ---- one more block

pub blocks_after : (size b : ℕ) (tables these : List Table) (before after : List (List Table)) → AreBlocks size tables before → these ≡ take size (drop (b * size) tables) → (after ≡ before) ⊎ IsKeptAt b these before after → AreBlocks size tables after
blocks_after size b tables these before after h is (inl e) = subst (AreBlocks size tables) (sym e) h
blocks_after size b tables these before after h is (inr k) = blocks_more size b tables these before after h is k

-- nothing is left after as many blocks as there are puts
pub none_left : (size asked : ℕ) (puts rest : List PutOf) → rest ≡ drop (length puts * size) puts → 0 < size → filter (was_live asked) rest ≡ []
none_left size asked puts rest e some =
    let enough : length puts ≤ length puts * size = le-mul_of_pos_right (length puts) some in
    ap (filter (was_live asked)) (e ∙ drop_of_length-le puts enough)

pub few_these : (most size : ℕ) (rest these : List PutOf) → these ≡ take (min size (length rest)) rest → size ≤ most → length these ≤ most
few_these most size rest these e small = omega (arith, ap length (e ∙ take_min size rest), length-take size rest, small)

-- the rest of a slice after a cut
pub drop_rest : (n size : ℕ) (rest : List PutOf) → n ≡ min size (length rest) → take (length rest - n) (drop n rest) ≡ drop (min size (length rest)) rest
drop_rest n size rest e =
    let enough : length (drop n rest) ≤ length rest - n = omega (arith, length-drop n rest) in
    take_all_of (length rest - n) (drop n rest) enough ∙ ap (λ (k : ℕ). drop k rest) e
  where
    take_all_of : (k : ℕ) (us : List PutOf) → length us ≤ k → take k us ≡ us
    take_all_of zero [] h = refl
    take_all_of (suc k) [] h = refl
    take_all_of zero (u ∷ us) h = absurd (omega (arith, h))
    take_all_of (suc k) (u ∷ us) h = ap (λ vs. u ∷ vs) (take_all_of k us (omega (arith, h)))
