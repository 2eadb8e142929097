-- What is counted for each query and each column, and the rows that follow.
use Rattle.std.proofs.Common.{◌≡◌, refl, ap, sym, ◌∙◌, subst, ℕ, zero, suc, ◌+◌, ◌-◌, ◌<◌, ◌≤◌, List, [], ◌∷◌, ◌++◌, Bool, true, false, length, get_or, arith, take, drop, map, replicate, Option, Some, None}
use Rattle.std.specs.Prelude.{count_by}
use Rattle.std.specs.Int.{bit_at}
use Rattle.std.specs.List.{All}
use Rattle.std.specs.Global.{Vec}
use Rattle.std.specs.Result.{IfOk}
use Rattle.std.proofs.Common.{Result, Ok, Err}
use Rattle.std.proofs.Math.Seq.{take-append_seam, take-suc}
use Rattle.std.proofs.lemmas.Grind.{same_number_lists}
use Rattle.std.proofs.lemmas.List.{get_or-map, length-map, map-append}
use Rattle.std.proofs.lemmas.List.Elements.{All-map}
use Rattle.std.proofs.lemmas.List.Sums.{sum_by-append, sum_by-cons}
use Rattle.lake_model.specs.Texts.{Text}
use Rattle.lake_model.specs.Tables.{Column, Table, Titles, has_key, keys_at, overlap, sets_of, titles_of}
use Rattle.lake_model.specs.Answer.{Row, row_at, rows_from}
use Rattle.lake_model.proofs.AnswerLemmas.{rows_from_skipped, rows_from_taken}
use Rattle.column_watch.specs.Held.{HasColumns, IsColumn, IsCounted}
use Rattle.column_watch.specs.Hits.{hit_keys}
use Rattle.column_watch.specs.Index.{has_query}
use Rattle.column_watch.specs.declared.overlaps.Hit.{Hit}
use Rattle.column_watch.proofs.HolderLemmas.{bit_once}
use Rattle.list_laws.proofs.TestLemmas.{once}

pub count_more : {X : Type 0} (p : X → Bool) (xs : List X) (i : ℕ) (d : X) → i < length xs → count_by p (take (i + 1) xs) ≡ count_by p (take i xs) + once (p (get_or xs i d))
count_more p xs i d h =
    let e : i + 1 ≡ suc i = omega arith in
    let one : count_by p (get_or xs i d ∷ []) ≡ once (p (get_or xs i d)) = omega (arith, sum_by-cons (λ y. once (p y)) (get_or xs i d) []) in
    ap (λ (n : ℕ). count_by p (take n xs)) e ∙ ap (count_by p) (take-suc xs i d h) ∙ sum_by-append (λ y. once (p y)) (take i xs) (get_or xs i d ∷ []) ∙ ap (λ (n : ℕ). count_by p (take i xs) + n) one

once_small : (b : Bool) → once b ≤ 1
once_small true = omega arith
once_small false = omega arith

pub count_few : {X : Type 0} (p : X → Bool) (xs : List X) (i : ℕ) → count_by p (take i xs) ≤ i
count_few p [] zero = omega arith
count_few p [] (suc i) = omega arith
count_few p (x ∷ xs) zero = omega arith
count_few p (x ∷ xs) (suc i) = omega (arith, sum_by-cons (λ y. once (p y)) x (take i xs), once_small (p x), count_few p xs i)

pub count_within : {X : Type 0} (p : X → Bool) (xs : List X) (i : ℕ) → count_by p (take i xs) ≤ length xs
count_within p [] zero = omega arith
count_within p [] (suc i) = omega arith
count_within p (x ∷ xs) zero = omega arith
count_within p (x ∷ xs) (suc i) = omega (arith, sum_by-cons (λ y. once (p y)) x (take i xs), once_small (p x), count_within p xs i)

abbrev pub zeros : ℕ → List ℕ
zeros n = replicate n 0

pub zero_at : (n w : ℕ) → get_or (zeros n) w 0 ≡ 0
zero_at zero w = refl
zero_at (suc n) zero = refl
zero_at (suc n) (suc w) = zero_at n w

-- what is counted for each query is its overlap
pub counted_all : (queries : List (List Text)) (keys : List Text) (counts : List ℕ) → length counts ≡ length queries → ((w : ℕ) → w < length queries → get_or counts w 0 ≡ overlap (get_or queries w []) keys) → counts ≡ map (λ (query : List Text). overlap query keys) queries
counted_all queries keys counts same counted =
    same_number_lists counts (map (λ (query : List Text). overlap query keys) queries) (same ∙ sym (length-map queries (λ (query : List Text). overlap query keys)))
    (λ k h. let within : k < length queries = omega (arith, h, length-map queries (λ (query : List Text). overlap query keys)) in
    counted k within ∙ sym (get_or-map (λ (query : List Text). overlap query keys) queries k [] 0 within))

-- the keys of the column at index i
pub column_keys : (table : Table) (i : ℕ) (d : Column) → i < length table.columns → keys_at table (i + 1) ≡ (get_or table.columns i d).keys
column_keys table i d h =
    let place : i + 1 - 1 ≡ i = omega arith in
    ap (λ (n : ℕ). get_or (sets_of table) n []) place ∙ get_or-map (λ c. c.keys) table.columns i d [] h

-- one more column
pub overlaps_more : (queries : List (List Text)) (table : Table) (i : ℕ) (counts : List (List ℕ)) (numbers : List ℕ) → i < length table.columns
    → counts ≡ map (λ (column : Column). map (λ (keys : List Text). overlap keys column.keys) queries) (take i table.columns) → numbers ≡ map (λ (keys : List Text). overlap keys (keys_at table (i + 1))) queries
    → counts ++ numbers ∷ [] ≡ map (λ (column : Column). map (λ (keys : List Text). overlap keys column.keys) queries) (take (i + 1) table.columns)
overlaps_more queries table i counts numbers h e f =
    let d : Column = record { name = []; keys = [] } in
    let n : i + 1 ≡ suc i = omega arith in
    let of : Column → List ℕ = λ (column : Column). map (λ (keys : List Text). overlap keys column.keys) queries in
    let one : numbers ≡ of (get_or table.columns i d) = f ∙ ap (λ (us : List Text). map (λ (keys : List Text). overlap keys us) queries) (column_keys table i d h) in
    (λ j. e j ++ one j ∷ []) ∙ sym (map-append of (take i table.columns) (get_or table.columns i d ∷ [])) ∙ ap (map of) (sym (take-suc table.columns i d h)) ∙ ap (λ (m : ℕ). map of (take m table.columns)) (sym n)

-- ---- the numbers of one query

width : (queries : List (List Text)) (columns : List Column) (w : ℕ) → w < length queries → All (λ (numbers : List ℕ). w < length numbers) (map (λ (column : Column). map (λ (keys : List Text). overlap keys column.keys) queries) columns)
width queries columns w h = All-map (λ (numbers : List ℕ). w < length numbers) (λ (column : Column). map (λ (keys : List Text). overlap keys column.keys) queries) columns (λ k d b. omega (arith, length-map queries (λ (keys : List Text). overlap keys (get_or columns k d).keys)))

pub has_columns : (table : Option Table) (queries : List (List Text)) (counts : List (List ℕ)) (w : ℕ) → IsCounted table queries counts → w < length queries → HasColumns table counts w
has_columns None queries counts w e h = tt
has_columns (Some table) queries counts w e h =
    (ap length e ∙ length-map table.columns (λ (column : Column). map (λ (keys : List Text). overlap keys column.keys) queries), subst (All (λ (numbers : List ℕ). w < length numbers)) (sym e) (width queries table.columns w h))

column_of : (queries : List (List Text)) (columns : List Column) (w : ℕ) → w < length queries
    → map (λ (numbers : List ℕ). get_or numbers w 0) (map (λ (column : Column). map (λ (keys : List Text). overlap keys column.keys) queries) columns) ≡ map (λ (column : Column). overlap (get_or queries w []) column.keys) columns
column_of queries [] w h = refl
column_of queries (column ∷ columns) w h = λ i. get_or-map (λ (keys : List Text). overlap keys column.keys) queries w [] 0 h i ∷ column_of queries columns w h i

pub is_column : (table : Option Table) (queries : List (List Text)) (counts : List (List ℕ)) (w : ℕ) → IsCounted table queries counts → w < length queries → IsColumn table counts w (get_or queries w [])
is_column None queries counts w e h = tt
is_column (Some table) queries counts w e h = ap (map (λ (numbers : List ℕ). get_or numbers w 0)) e ∙ column_of queries table.columns w h

-- the number that is counted for the query at a column
pub number_at : (counts : List (List ℕ)) (table : Table) (w : ℕ) (keys : List Text) (i : ℕ) (d : List ℕ) → i < length table.columns → i < length counts → map (λ (numbers : List ℕ). get_or numbers w 0) counts ≡ map (λ (column : Column). overlap keys column.keys) table.columns
    → get_or (get_or counts i d) w 0 ≡ overlap keys (keys_at table (i + 1))
number_at counts table w keys i d h k e =
    let c : Column = record { name = []; keys = [] } in
    sym (get_or-map (λ (numbers : List ℕ). get_or numbers w 0) counts i d 0 k) ∙ ap (λ (us : List ℕ). get_or us i 0) e ∙ get_or-map (λ (column : Column). overlap keys column.keys) table.columns i c 0 h ∙ ap (overlap keys) (sym (column_keys table i c h))

-- one more key, with a mask of the queries that hold it
pub counted_more : (queries : List (List Text)) (keys : List Text) (i : ℕ) (key : Text) (mask : ℕ) (olds news : List ℕ) → i < length keys → key ≡ get_or keys i [] → ((w : ℕ) → has_query mask w ≡ has_key (get_or queries w []) key)
    → ((w : ℕ) → w < length queries → get_or olds w 0 ≡ count_by (has_key (get_or queries w [])) (take i keys)) → ((w : ℕ) → w < length queries → get_or news w 0 ≡ get_or olds w 0 + bit_at mask w)
    → (w : ℕ) → w < length queries → get_or news w 0 ≡ count_by (has_key (get_or queries w [])) (take (i + 1) keys)
counted_more queries keys i key mask olds news h e held before raised w within =
    let once_more : bit_at mask w ≡ once (has_key (get_or queries w []) (get_or keys i [])) = bit_once mask w ∙ ap once (held w) ∙ ap (λ k. once (has_key (get_or queries w []) k)) e in
    omega (arith, raised w within, before w within, once_more, count_more (has_key (get_or queries w [])) keys i [] h)

-- the key of a hit
pub hit_key : (keys : List Text) (hits : List Hit) (i : ℕ) (d : Hit) (key : Text) → i < length hits → key ≡ get_or keys (get_or hits i d).index [] → key ≡ get_or (hit_keys keys hits) i []
hit_key keys hits i d key h e = e ∙ sym (get_or-map (λ (hit : Hit). get_or keys hit.index []) hits i d [] h)

-- the counts over the hits of a column, if they equal those over all its keys
pub counted_hits : {E : Type 0} (queries : List (List Text)) (keys hits : List Text) (result : Result (Vec ℕ) E) → ((w : ℕ) → w < length queries → count_by (has_key (get_or queries w [])) hits ≡ overlap (get_or queries w []) keys)
    → IfOk result (λ counts. length counts.items ≡ length queries) → IfOk result (λ counts. (w : ℕ) → w < length queries → get_or counts.items w 0 ≡ count_by (has_key (get_or queries w [])) hits) → IfOk result (λ counts. counts.items ≡ map (λ (query : List Text). overlap query keys) queries)
counted_hits queries keys hits (Ok counts) all same counted = counted_all queries keys counts.items same (λ w h. counted w h ∙ all w h)
counted_hits queries keys hits (Err e) all same counted = tt

-- one more hit after the others, and a key that no query holds
pub hits_more : (p : Text → Bool) (keys : List Text) (hits : List Hit) (hit : Hit) → hit.index < length keys → count_by p (hit_keys keys hits) ≡ count_by p (take hit.index keys) → count_by p (hit_keys keys (hits ++ hit ∷ [])) ≡ count_by p (take (hit.index + 1) keys)
hits_more p keys hits hit h e =
    let key : Hit → Text = λ h. get_or keys h.index [] in
    let one : count_by p (key hit ∷ []) ≡ once (p (key hit)) = omega (arith, sum_by-cons (λ y. once (p y)) (key hit) []) in
    let both : count_by p (hit_keys keys hits ++ key hit ∷ []) ≡ count_by p (hit_keys keys hits) + count_by p (key hit ∷ []) = sum_by-append (λ y. once (p y)) (hit_keys keys hits) (key hit ∷ []) in
    ap (count_by p) (map-append key hits (hit ∷ [])) ∙ omega (arith, both, one, e, count_more p keys hit.index [] h)

pub hits_same : (p : Text → Bool) (keys : List Text) (n i : ℕ) → i < length keys → p (get_or keys i []) ≡ false → n ≡ count_by p (take i keys) → n ≡ count_by p (take (i + 1) keys)
hits_same p keys n i h none e = omega (arith, e, count_more p keys i [] h, ap once none)

-- a list that is overwritten in full
pub written : {X : Type 0} (n : ℕ) (news rest : List X) → n ≡ length news → take n (news ++ rest) ≡ news
written n news rest e = ap (λ (m : ℕ). take m (news ++ rest)) e ∙ take-append_seam news rest

-- ---- the rows of one query

pub row_taken : (query : List Text) (table : Table) (i : ℕ) (rows total after : List Row) (held : Row) (titles : Titles) (n : ℕ) → i < length table.columns → rows ++ rows_from query table.name (i + 1) (drop i table.columns) ≡ total
    → n ≡ overlap query (keys_at table (i + 1)) → titles ≡ titles_of table → 0 < n → held ≡ row_at n titles (i + 1) → after ≡ rows ++ held ∷ [] → after ++ rows_from query table.name (i + 1 + 1) (drop (i + 1) table.columns) ≡ total
row_taken query table i rows total after held titles n within so_far is same some e f =
    ap (λ us. us ++ rows_from query table.name (i + 1 + 1) (drop (i + 1) table.columns)) (f ∙ ap (λ (row : Row). rows ++ row ∷ []) e) ∙ rows_from_taken query table i rows total within so_far n is titles same some

pub row_passed : (query : List Text) (table : Table) (i : ℕ) (rows total after : List Row) (n : ℕ) → i < length table.columns → rows ++ rows_from query table.name (i + 1) (drop i table.columns) ≡ total
    → n ≡ overlap query (keys_at table (i + 1)) → n ≤ 0 → after ≡ rows → after ++ rows_from query table.name (i + 1 + 1) (drop (i + 1) table.columns) ≡ total
row_passed query table i rows total after n within so_far is none e =
    ap (λ us. us ++ rows_from query table.name (i + 1 + 1) (drop (i + 1) table.columns)) e ∙ rows_from_skipped query table i rows total within so_far n is none

-- the number that the vector at an index has for a query
pub numbers_at : (vectors : List (Vec ℕ)) (i : ℕ) (v : Vec ℕ) → i < length vectors → v ≡ get_or vectors i v → get_or (map (λ (v : Vec ℕ). v.items) vectors) i [] ≡ v.items
numbers_at vectors i v h e = get_or-map (λ (v : Vec ℕ). v.items) vectors i v [] h ∙ ap (λ (v : Vec ℕ). v.items) (sym e)
