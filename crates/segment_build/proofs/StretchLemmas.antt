-- The keys of a column, in the list of the keys of all columns, begin at the number of tokens that were added before.
use Rattle.std.proofs.Common.{◌≡◌, refl, ap, sym, ◌∙◌, subst, ℕ, zero, suc, ◌+◌, ◌-◌, ◌<◌, List, [], ◌∷◌, ◌++◌, map, length, get_or, take, drop, arith, append-nil, append_assoc, length-append}
use Rattle.std.specs.List.{flat_map, enumerate_from}
use Rattle.std.proofs.lemmas.List.{get_or-append_right, get_or_append_left, length-map, take-append-drop, take_more}
use Rattle.std.proofs.lemmas.List.Concat.{flat_map-append}
use Rattle.std.proofs.lemmas.List.Sums.{sum_by-cons}
use Rattle.lake_model.specs.Texts.{Text}
use Rattle.lake_model.specs.Tables.{Column, Table, keys_at, sets_of}
use Rattle.search_model.specs.Arrays.{all_of, no_table, table_at}
use Rattle.search_model.specs.Segment.{Titled, columns_of, titled, columns_in}
use Rattle.token_order.specs.Places.{keys_in, keys_of}
use Rattle.token_order.proofs.PlaceLemmas.{length-keys_of}
use Rattle.segment_build.specs.Holding.{key_count, IsStretch}
use Rattle.segment_build.proofs.HoldLemmas.{count_columns_of}

stretch_at : (before keys after : List Text) → IsStretch (before ++ (keys ++ after)) keys (length before)
stretch_at before keys after =
    record {
      fits = omega (arith, length-append before (keys ++ after), length-append keys after);
      each = λ i b.
          (let back : length before + i - length before ≡ i = omega arith in
          get_or-append_right before (keys ++ after) (length before) (length before + i) [] refl (omega arith) ∙ ap (λ (n : ℕ). get_or (keys ++ after) n []) back ∙ get_or_append_left keys after [] i b);
    }

stretch_part : {X : Type 0} (f : X → List Text) (xs : List X) (i : ℕ) (d : X) → i < length xs → IsStretch (flat_map f xs) (f (get_or xs i d)) (length (flat_map f (take i xs)))
stretch_part f xs i d h =
    let x = get_or xs i d in
    let before = flat_map f (take i xs) in
    let after = flat_map f (drop (i + 1) xs) in
    let split : before ++ (f x ++ after) ≡ flat_map f xs =
    sym (append_assoc before (f x) after)
    ∙ ap (λ (ks : List Text). (before ++ ks) ++ after) (sym (append-nil (f x)))
    ∙ ap (λ (ks : List Text). ks ++ after) (sym (flat_map-append f (take i xs) (x ∷ [])) ∙ ap (flat_map f) (sym (take_more xs i d h)))
    ∙ sym (flat_map-append f (take (i + 1) xs) (drop (i + 1) xs))
    ∙ ap (flat_map f) (take-append-drop (i + 1) xs) in
    subst (λ (ks : List Text). IsStretch ks (f x) (length before)) split (stretch_at before (f x) after)

stretch_within : (all keys part : List Text) (from at : ℕ) → IsStretch all keys from → IsStretch keys part at → IsStretch all part (from + at)
stretch_within all keys part from at outer inner =
    record {
      fits = omega (arith, outer.fits, inner.fits);
      each = λ i b.
          (let e : from + at + i ≡ from + (at + i) = omega arith in ap (λ (n : ℕ). get_or all n []) e ∙ outer.each (at + i) (omega (arith, b, inner.fits)) ∙ inner.each i b);
    }

count_take : (number : ℕ) (name : List ℕ) (n : ℕ) (columns : List Column) (i : ℕ) → key_count (take i (map (λ c. titled number name c.0 c.1) (enumerate_from n columns))) ≡ length (all_of (take i (map (λ c. c.keys) columns)))
count_take number name n [] zero = refl
count_take number name n [] (suc i) = refl
count_take number name n (c ∷ columns) zero = refl
count_take number name n (c ∷ columns) (suc i) =
    omega (
      arith,
      count_take number name (n + 1) columns i,
      length-append c.keys (all_of (take i (map (λ (c : Column). c.keys) columns))),
      sum_by-cons (λ (c : Titled). length c.column.keys) (titled number name n c) (take i (map (λ (c : ℕ × Column). titled number name c.0 c.1) (enumerate_from (n + 1) columns))),
    )

-- the keys of one more column of a table, if this many tokens were added before
pub column_stretch : (all : List Text) (number : ℕ) (table : Table) (from i now : ℕ) → i < length table.columns → IsStretch all (keys_in table) from → now ≡ from + key_count (take i (columns_in number table)) → IsStretch all (keys_at table (i + 1)) now
column_stretch all number table from i now h outer e =
    let back : i ≡ i + 1 - 1 = omega arith in
    let inner = stretch_part (λ (keys : List Text). keys) (sets_of table) i [] (omega (arith, length-map table.columns (λ (c : Column). c.keys))) in
    let here : IsStretch all (get_or (sets_of table) i []) now =
    subst (IsStretch all (get_or (sets_of table) i [])) (ap (λ (n : ℕ). from + n) (sym (count_take number table.name 1 table.columns i)) ∙ sym e) (stretch_within all (keys_in table) (get_or (sets_of table) i []) from (length (all_of (take i (sets_of table)))) outer inner) in
    subst (λ (n : ℕ). IsStretch all (get_or (sets_of table) n []) now) back here

-- and of one more table
pub table_stretch : (tables : List Table) (i now : ℕ) → i < length tables → now ≡ key_count (columns_of (take i tables)) → IsStretch (keys_of tables) (keys_in (table_at tables i)) now
table_stretch tables i now h e =
    subst (IsStretch (keys_of tables) (keys_in (table_at tables i))) (length-keys_of (take i tables) ∙ sym (count_columns_of (take i tables)) ∙ sym e) (stretch_part keys_in tables i no_table h)
