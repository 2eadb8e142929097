-- Columns that are appended to others, one at a time and one table at a time.
use Rattle.std.proofs.Common.{◌≡◌, refl, ap, sym, ◌∙◌, ℕ, ◌+◌, ◌-◌, ◌<◌, ◌≤◌, List, [], ◌∷◌, ◌++◌, map, length, get_or, take, arith, append-nil, append_assoc, length-append}
use Rattle.std.specs.Prelude.{bytes_eq, sum_by}
use Rattle.std.specs.List.{enumerate_from, IsDistinct}
use Rattle.std.proofs.lemmas.List.{get_or-map, map-append}
use Rattle.std.proofs.lemmas.List.Concat.{flat_map-append}
use Rattle.std.proofs.lemmas.List.Sums.{sum_by-append, sum_by-cons, sum_by_more, sum_by-take-le}
use Rattle.lake_model.specs.Tables.{Column, Table, column_with, keys_at, members}
use Rattle.search_model.specs.declared.Owner.{Owner}
use Rattle.search_model.specs.Arrays.{all_of, no_table, no_titled, owner_of, starts_of, table_at}
use Rattle.search_model.specs.Segment.{Titled, Token, columns_of, segment, titled, tokens_in, columns_in, titled_in}
use Rattle.search_model.proofs.ColumnLemmas.{columns_from, column_in, length-columns_in}
use Rattle.segment_core.proofs.FoundLemmas.{tokens_differ}
use Rattle.segment_build.specs.Holding.{all_tokens, ends_of, held_with, key_count, sets_for, Held, HasMore}

-- ---- lists after one another

ends_append : {X : Type 0} (n : ℕ) (ls ms : List (List X)) → ends_of n (ls ++ ms) ≡ ends_of n ls ++ ends_of (n + length (all_of ls)) ms
ends_append n [] ms = let z : n ≡ n + 0 = omega arith in ap (λ (k : ℕ). ends_of k ms) z
ends_append n (l ∷ ls) ms =
    let e : n + length l + length (all_of ls) ≡ n + length (l ++ all_of ls) = omega (arith, length-append l (all_of ls)) in
    ap (λ (ns : List ℕ). (n + length l) ∷ ns) (ends_append (n + length l) ls ms ∙ ap (λ (k : ℕ). ends_of (n + length l) ls ++ ends_of k ms) e)

pub starts_ends : {X : Type 0} (n : ℕ) (ls : List (List X)) → n ∷ ends_of n ls ≡ starts_of n ls
starts_ends n [] = refl
starts_ends n (l ∷ ls) = ap (λ (ns : List ℕ). n ∷ ns) (starts_ends (n + length l) ls)

-- ---- more columns

pub more_none : (tokens : List Token) (old : Held) → HasMore tokens old old []
more_none tokens old = record { owned = sym (append-nil old.owners); bounds = sym (append-nil old.starts); held = sym (append-nil old.tokens); long = omega arith }

pub more_more : (tokens : List Token) (old mid new : Held) (cs ds : List Titled) → HasMore tokens old mid cs → HasMore tokens mid new ds → HasMore tokens old new (cs ++ ds)
more_more tokens old mid new cs ds first second =
    let split : sets_for tokens (cs ++ ds) ≡ sets_for tokens cs ++ sets_for tokens ds = map-append (λ (c : Titled). tokens_in tokens c.column.keys) cs ds in
    let from = length old.tokens in
    let long : length mid.tokens ≡ from + length (all_of (sets_for tokens cs)) = omega (arith, ap length first.held, length-append old.tokens (all_of (sets_for tokens cs))) in
    record {
      owned = second.owned ∙ ap (λ (os : List Owner). os ++ map owner_of ds) first.owned ∙ append_assoc old.owners (map owner_of cs) (map owner_of ds) ∙ ap (λ (os : List Owner). old.owners ++ os) (sym (map-append owner_of cs ds));
      bounds =
          second.bounds
          ∙ (λ i. first.bounds i ++ ends_of (long i) (sets_for tokens ds))
          ∙ append_assoc old.starts (ends_of from (sets_for tokens cs)) (ends_of (from + length (all_of (sets_for tokens cs))) (sets_for tokens ds))
          ∙ ap (λ (ns : List ℕ). old.starts ++ ns) (sym (ends_append from (sets_for tokens cs) (sets_for tokens ds)))
          ∙ ap (λ (ls : List (List ℕ)). old.starts ++ ends_of from ls) (sym split);
      held =
          second.held
          ∙ ap (λ (ts : List ℕ). ts ++ all_of (sets_for tokens ds)) first.held
          ∙ append_assoc old.tokens (all_of (sets_for tokens cs)) (all_of (sets_for tokens ds))
          ∙ ap (λ (ts : List ℕ). old.tokens ++ ts) (sym (flat_map-append (λ (l : List ℕ). l) (sets_for tokens cs) (sets_for tokens ds)))
          ∙ ap (λ (ls : List (List ℕ)). old.tokens ++ all_of ls) (sym split);
      long = omega (arith, first.long, second.long, sum_by-append (λ (c : Titled). length c.column.keys) cs ds);
    }

keys_there : (table : Table) (place : ℕ) → 0 < place → place ≤ length table.columns → keys_at table place ≡ (get_or table.columns (place - 1) (column_with [] [])).keys
keys_there table place low high = get_or-map (λ (c : Column). c.keys) table.columns (place - 1) (column_with [] []) [] (omega arith)

-- one column
pub more_push : (tokens : List Token) (old : Held) (number : ℕ) (table : Table) (place : ℕ) (owner : Owner) (set all : List ℕ) (end : ℕ) → 0 < place → place ≤ length table.columns
    → set ≡ tokens_in tokens (keys_at table place) → length set ≡ length (keys_at table place) → owner ≡ owner_of (titled_in number table place) → all ≡ old.tokens ++ set → end ≡ length all
    → HasMore tokens old (held_with (old.owners ++ owner ∷ []) (old.starts ++ end ∷ []) all) (titled_in number table place ∷ [])
more_push tokens old number table place owner set all end low high is many owns grown ends =
    let keys = (get_or table.columns (place - 1) (column_with [] [])).keys in
    let there = keys_there table place low high in
    let now : set ≡ tokens_in tokens keys = is ∙ ap (tokens_in tokens) there in
    let long : end ≡ length old.tokens + length (tokens_in tokens keys) = omega (arith, ends, ap length grown, length-append old.tokens set, ap length now) in
    record {
      owned = ap (λ (o : Owner). old.owners ++ o ∷ []) owns;
      bounds = ap (λ (n : ℕ). old.starts ++ n ∷ []) long;
      held = grown ∙ ap (λ (ts : List ℕ). old.tokens ++ ts) (now ∙ sym (append-nil (tokens_in tokens keys)));
      long = omega (arith, ap length grown, length-append old.tokens set, many, ap length there, sum_by-cons (λ (c : Titled). length c.column.keys) (titled_in number table place) []);
    }

-- ---- how many keys

count_in : (number : ℕ) (name : List ℕ) (n : ℕ) (columns : List Column) → key_count (map (λ c. titled number name c.0 c.1) (enumerate_from n columns)) ≡ sum_by (λ c. length c.keys) columns
count_in number name n [] = refl
count_in number name n (c ∷ columns) =
    omega (
      arith,
      count_in number name (n + 1) columns,
      sum_by-cons (λ (c : Column). length c.keys) c columns,
      sum_by-cons (λ (c : Titled). length c.column.keys) (titled number name n c) (map (λ (c : ℕ × Column). titled number name c.0 c.1) (enumerate_from (n + 1) columns)),
    )

pub count_columns_in : (number : ℕ) (table : Table) → key_count (columns_in number table) ≡ members table
count_columns_in number table = count_in number table.name 1 table.columns

count_from : (n : ℕ) (tables : List Table) → key_count (columns_from n tables) ≡ sum_by members tables
count_from n [] = refl
count_from n (t ∷ tables) =
    omega (arith, sum_by-append (λ (c : Titled). length c.column.keys) (columns_in n t) (columns_from (n + 1) tables), count_columns_in n t, count_from (n + 1) tables, sum_by-cons members t tables)

pub count_columns_of : (tables : List Table) → key_count (columns_of tables) ≡ sum_by members tables
count_columns_of tables = count_from 0 tables

-- and how many with one more column of a table
pub count_more : (number : ℕ) (table : Table) (i : ℕ) → i < length table.columns → key_count (take (i + 1) (columns_in number table)) ≡ key_count (take i (columns_in number table)) + length (keys_at table (i + 1))
count_more number table i h =
    let size : Titled → ℕ = λ c. length c.column.keys in
    omega (
      arith,
      sum_by_more size (columns_in number table) i no_titled (omega (arith, length-columns_in number table)),
      ap size (column_in number table i h),
      ap length (keys_there table (i + 1) (omega arith) (omega arith)),
    )

-- there is room for one more column of a table if there is room for the table
pub room_in : (number : ℕ) (table : Table) (i : ℕ) → i < length table.columns → key_count (take i (columns_in number table)) + length (keys_at table (i + 1)) ≤ members table
room_in number table i h =
    let size : Titled → ℕ = λ c. length c.column.keys in
    let at = column_in number table i h in
    let there = keys_there table (i + 1) (omega arith) (omega arith) in
    omega (
      arith,
      sum_by_more size (columns_in number table) i no_titled (omega (arith, length-columns_in number table)),
      sum_by-take-le size (columns_in number table) (i + 1),
      count_columns_in number table,
      ap size at,
      ap length there,
    )

-- and for one more table
pub room_of : (tables : List Table) (i : ℕ) → i < length tables → key_count (columns_of (take i tables)) + members (table_at tables i) ≤ sum_by members tables
room_of tables i h = omega (arith, count_columns_of (take i tables), sum_by_more members tables i no_table h, sum_by-take-le members tables (i + 1))

-- no two tokens have the same key
pub tokens_apart : (tables : List Table) → IsDistinct bytes_eq (map (λ t. t.key) (all_tokens tables))
unfolding segment
tokens_apart tables = tokens_differ tables
