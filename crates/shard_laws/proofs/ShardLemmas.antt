-- The first k rows of the shards' answers are the first k of all rows.
use Rattle.std.proofs.Common.{◌≡◌, refl, ap, sym, ◌∙◌, subst, ℕ, zero, suc, ◌<◌, ◌≤◌, ◌==◌, List, [], ◌∷◌, ◌++◌, map, Bool, true, false, arith, cond, take, append_assoc, Option, ltb}
use Rattle.std.proofs.lemmas.Bool.{eqb-true, eq-eqb, ltb-true, ltb-false}
use Rattle.std.specs.List.{flat_map, AllByRecursion}
use Rattle.std.specs.List.Sorted.{IsPermutation}
use Rattle.std.specs.Cmp.{IsTotalOrder}
use Rattle.std.specs.declared.cmp.Ordering.{Ordering}
use Rattle.std.specs.declared.cmp.Ordering.TheVariants.{Equal}
use Rattle.std.proofs.lemmas.List.Sorted.{IsPermutation-refl, IsPermutation-trans, IsPermutation-append_left, IsPermutation-append_right, IsPermutation-append_comm}
use Rattle.lake_model.specs.Sorting.{in_order, put_in_order}
use Rattle.lake_model.specs.Texts.{Text}
use Rattle.lake_model.specs.Tables.{Table}
use Rattle.lake_model.specs.Answer.{Row, row_cmp, all_rows, answer, Query}
use Rattle.lake_model.proofs.AnswerLemmas.{row_cmp_total, row_cmp_exact}
use Rattle.lake_model.proofs.SortingLemmas.{Ordered, less, less_order, ordered_in_order, stays, by_test}
use Rattle.search_laws.specs.Select.{best}
use Rattle.search_laws.proofs.SelectLemmas.{best_append, best_IsPermutation}
use Rattle.search_laws.proofs.TableLemmas.{all_rows-append}
use Rattle.shard_laws.specs.Shards.{all_tables, sharded_answer, placed, shards_below}
use Rattle.shard_laws.specs.ShardLaws.{MergedIsAnswer, PlacedIsAnswer}

take_again : {X : Type 0} (k : ℕ) (xs : List X) → take k (take k xs) ≡ take k xs
take_again zero xs = refl
take_again (suc k) [] = refl
take_again (suc k) (x ∷ xs) = ap (λ us. x ∷ us) (take_again k xs)

all_take : {X : Type 0} (P : X → Type 0) (k : ℕ) (xs : List X) → AllByRecursion P xs → AllByRecursion P (take k xs)
all_take P zero xs h = tt
all_take P (suc k) [] h = tt
all_take P (suc k) (x ∷ xs) h = (h.0, all_take P k xs h.1)

module _ {X : Type 0} {R : X → X → Ordering} (total : IsTotalOrder R) (exact : (x y : X) → R x y ≡ Equal → x ≡ y) where
  own_order : (k : ℕ) (xs : List X) → Ordered (less total) (less_order total) xs → in_order R (take k xs) ≡ take k xs
  unfolding in_order
  own_order zero xs up = refl
  own_order (suc k) [] up = refl
  own_order (suc k) (x ∷ xs) up = ap (put_in_order R x) (own_order k xs up.1) ∙ stays total x (take k xs) (all_take (λ w. less total w x ≡ false) k xs up.0)

  -- the first k of the first k
  best_again : (k : ℕ) (xs : List X) → best R k (best R k xs) ≡ best R k xs
  best_again k xs = ap (take k) (own_order k (in_order R xs) (ordered_in_order total xs)) ∙ take_again k (in_order R xs)

  -- lists with the same first k, joined to lists with the same first k, give the same first k
  best_both : (k : ℕ) (xs ys us vs : List X) → best R k xs ≡ best R k ys → best R k us ≡ best R k vs → best R k (xs ++ us) ≡ best R k (ys ++ vs)
  best_both k xs ys us vs e f =
      best_append total exact k xs ys us e
      ∙ sym (best_IsPermutation total exact k (ys ++ us) (us ++ ys) (IsPermutation-append_comm ys us))
      ∙ best_append total exact k us vs ys f
      ∙ best_IsPermutation total exact k (ys ++ vs) (vs ++ ys) (IsPermutation-append_comm ys vs)

  -- the first k of each of some lists are enough for the first k of all
  best_of_each : {S : Type 0} (f : S → List X) (k : ℕ) (ss : List S) → best R k (flat_map (λ xs. xs) (map (λ s. best R k (f s)) ss)) ≡ best R k (flat_map f ss)
  best_of_each f k [] = refl
  best_of_each f k (s ∷ ss) = best_both k (best R k (f s)) (f s) (flat_map (λ xs. xs) (map (λ s. best R k (f s)) ss)) (flat_map f ss) (best_again k (f s)) (best_of_each f k ss)

module _ (keys : List Text) (k : ℕ) (except : Option Text) where
  abbrev query : Query
  query = record { keys = keys; k = k; except = except }

  abbrev rows : List Table → List Row
  rows tables = all_rows tables keys except

  rows_of_all : (shards : List (List Table)) → flat_map rows shards ≡ rows (all_tables shards)
  rows_of_all [] = refl
  rows_of_all (shard ∷ shards) = ap (λ us. rows shard ++ us) (rows_of_all shards) ∙ sym (all_rows-append query shard (all_tables shards))

  first_rows : (shards : List (List Table)) → sharded_answer shards keys k except ≡ best row_cmp k (flat_map rows shards)
  first_rows shards = best_of_each row_cmp_total row_cmp_exact rows k shards

  pub joined : (shards : List (List Table)) → sharded_answer shards keys k except ≡ answer (all_tables shards) keys k except
  joined shards = first_rows shards ∙ ap (best row_cmp k) (rows_of_all shards)

  module _ (shard_of : Text → ℕ) where
    abbrev spread : ℕ → List Table → List Row
    spread n tables = flat_map rows (shards_below shard_of n tables)

    at_shard : (n : ℕ) (table : Table) (tables : List Table) (b : Bool) → (shard_of table.name == n) ≡ b → placed shard_of n (table ∷ tables) ≡ cond b (table ∷ placed shard_of n tables) (placed shard_of n tables)
    at_shard n table tables b e = ap (λ b. cond b (table ∷ placed shard_of n tables) (placed shard_of n tables)) e

    -- a table that is placed in a shard of number n or more is in none of the shards below n
    passed : (n : ℕ) (table : Table) (tables : List Table) → n ≤ shard_of table.name → spread n (table ∷ tables) ≡ spread n tables
    passed zero table tables h = refl
    passed (suc n) table tables h =
        let other : (shard_of table.name == n) ≡ false = by_test (shard_of table.name == n) (λ e. absurd (let same = eqb-true (shard_of table.name) n e in omega arith)) (λ e. e) in
        (λ i. rows (at_shard n table tables false other i) ++ passed n table tables (omega arith) i)

    -- and one that is placed below n is in one of them
    added : (n : ℕ) (table : Table) (tables : List Table) → shard_of table.name < n → IsPermutation (rows (table ∷ []) ++ spread n tables) (spread n (table ∷ tables))
    added zero table tables h = absurd (omega arith)
    added (suc n) table tables h =
        let one = rows (table ∷ []) in
        let here = rows (placed shard_of n tables) in
        by_test (shard_of table.name == n)
        (λ e.
        let same = eqb-true (shard_of table.name) n e in
        let front : rows (placed shard_of n (table ∷ tables)) ≡ one ++ here = ap rows (at_shard n table tables true e) ∙ all_rows-append query (table ∷ []) (placed shard_of n tables) in
        let whole : (one ++ (here ++ spread n tables)) ≡ spread (suc n) (table ∷ tables) = sym ((λ i. front i ++ passed n table tables (omega arith) i) ∙ append_assoc one here (spread n tables)) in
        subst (IsPermutation (one ++ (here ++ spread n tables))) whole (IsPermutation-refl (one ++ (here ++ spread n tables))))
        (λ e.
        let lower : shard_of table.name < n = below (shard_of table.name) n h e in
        let front : rows (placed shard_of n (table ∷ tables)) ≡ here = ap rows (at_shard n table tables false e) in
        let whole : (here ++ spread n (table ∷ tables)) ≡ spread (suc n) (table ∷ tables) = ap (λ us. us ++ spread n (table ∷ tables)) (sym front) in
        let moved : IsPermutation ((one ++ here) ++ spread n tables) ((here ++ one) ++ spread n tables) = IsPermutation-append_left (spread n tables) (one ++ here) (here ++ one) (IsPermutation-append_comm one here) in
        let start : IsPermutation (one ++ (here ++ spread n tables)) (here ++ (one ++ spread n tables)) = subst (λ us. IsPermutation us (here ++ (one ++ spread n tables))) (append_assoc one here (spread n tables)) (subst (IsPermutation ((one ++ here) ++ spread n tables)) (append_assoc here one (spread n tables)) moved) in
        let end : IsPermutation (here ++ (one ++ spread n tables)) (here ++ spread n (table ∷ tables)) = IsPermutation-append_right here (one ++ spread n tables) (spread n (table ∷ tables)) (added n table tables lower) in
        subst (IsPermutation (one ++ (here ++ spread n tables))) whole (IsPermutation-trans _ _ _ start end))
      where
        below : (m n : ℕ) → m < suc n → (m == n) ≡ false → m < n
        below m n h e = by_test (ltb m n) (λ l. ltb-true m n l) (λ l. absurd (let up : n ≤ m = ltb-false m n l in let same : m ≡ n = omega arith in let f : true ≡ false = sym (eq-eqb m n same) ∙ e in cc))

    none : (n : ℕ) → spread n [] ≡ []
    none zero = refl
    none (suc n) = none n

    all_rows_spread : (count : ℕ) (tables : List Table) → AllByRecursion (λ table. shard_of table.name < count) tables → IsPermutation (rows tables) (spread count tables)
    all_rows_spread count [] h = subst (IsPermutation []) (sym (none count)) (IsPermutation-refl [])
    all_rows_spread count (table ∷ tables) h =
        let one = rows (table ∷ []) in
        let split : (one ++ rows tables) ≡ rows (table ∷ tables) = sym (all_rows-append query (table ∷ []) tables) in
        let rest : IsPermutation (one ++ rows tables) (one ++ spread count tables) = IsPermutation-append_right one (rows tables) (spread count tables) (all_rows_spread count tables h.1) in
        subst (λ us. IsPermutation us (spread count (table ∷ tables))) split (IsPermutation-trans _ _ _ rest (added count table tables h.0))

    pub placed_answer : (count : ℕ) (tables : List Table) → AllByRecursion (λ table. shard_of table.name < count) tables → sharded_answer (shards_below shard_of count tables) keys k except ≡ answer tables keys k except
    placed_answer count tables h =
        first_rows (shards_below shard_of count tables) ∙ best_IsPermutation row_cmp_total row_cmp_exact k (rows tables) (spread count tables) (all_rows_spread count tables h)

pub merged_is_answer : MergedIsAnswer
merged_is_answer shards keys k except = joined keys k except shards

pub placed_is_answer : PlacedIsAnswer
placed_is_answer shard_of count tables keys k except h = placed_answer keys k except shard_of count tables h
