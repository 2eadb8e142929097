-- The runs of all members, in their order, are what a vocabulary holds.
use Rattle.std.proofs.Common.{◌≡◌, refl, ap, sym, ◌∙◌, subst, ℕ, ◌+◌, ◌<◌, List, [], ◌∷◌, map, length, get_or, ◌^◌, ◌≤◌, false, inl, inr, arith, eqb}
use Rattle.std.specs.Prelude.{bytes_eq, sum_by}
use Rattle.std.specs.List.{All, IsDistinct, enumerate_from, range_with_len}
use Rattle.std.specs.List.Sorted.{IsNonDecreasingBy, IsPermutation, IsSorted}
use Rattle.std.specs.Cmp.{nat_cmp_is}
use Rattle.std.specs.Cmp.Lexicographic.{slice_cmp}
use Rattle.std.specs.Ordering.{is_lt, nat_cmp, ordering_then}
use Rattle.std.specs.declared.cmp.Ordering.TheVariants.{Equal, Greater}
use Rattle.std.proofs.lemmas.Bool.{cases_lt, eqb-false}
use Rattle.std.proofs.lemmas.Cmp.{nat_eq_equiv}
use Rattle.std.proofs.lemmas.Bool.Decides.{eqb_tells}
use Rattle.std.proofs.lemmas.Map.Keys.{IsDistinct-from_apart, IsDistinct-IsPermutation, apart_from_distinct}
use Rattle.std.proofs.lemmas.List.{ext_get_or, get_or_default, get_or-map, length-map}
use Rattle.std.proofs.lemmas.List.Elements.{All-map}
use Rattle.std.proofs.lemmas.List.FromFn.{get_or-enumerate_from, get_or-range_with_len, length-enumerate_from, length-range_with_len}
use Rattle.std.proofs.lemmas.List.Sorted.{All-permutation, IsPermutation-map, IsPermutation-sym, length_permutation, sum_by-IsPermutation}
use Rattle.std.proofs.lemmas.List.Sums.{sum_by-cons}
use Rattle.list_laws.proofs.DigitLemmas.{scaled_cmp}
use Rattle.column_set.specs.Columns.{HasDistinctKeys}
use Rattle.lake_model.specs.Texts.{Text}
use Rattle.lake_model.specs.Tables.{Table}
use Rattle.search_model.specs.declared.TokenAt.{TokenAt}
use Rattle.search_model.specs.Arrays.{key_of, numbers_of, token_keys, token_with, IsByKey}
use Rattle.search_model.specs.Segment.{Token, columns_of, token_cmp, tokens_of}
use Rattle.token_order.specs.Counted.{AreCounted, AreNumbers, ArePlaces}
use Rattle.token_order.specs.Places.{keys_of, pointed_by, IsThere}
use Rattle.token_order.specs.Ranks.{names_of, IsRank}
use Rattle.token_order.specs.Runs.{run_cmp, run_number, run_token, AreRanked}
use Rattle.token_order.specs.Vocabulary.{frequencies_of, IsVocabulary}
use Rattle.token_order.specs.declared.columns.ColumnAt.{ColumnAt}
use Rattle.token_order.specs.declared.runs.Run.{Run}
use Rattle.token_order.proofs.NameLemmas.{differ_moved, places_compare, same_place}
use Rattle.token_order.proofs.PlaceLemmas.{length-keys_of}
use Rattle.token_order.proofs.RankLemmas.{runs_named}
use Rattle.token_order.proofs.SortLemmas.{TextsRise, rises, sorted_from_rises}
use Rattle.token_order.proofs.TokenLemmas.{tokens_are}

abbrev pub rank_of : Run → ℕ
rank_of run = run.rank

-- the runs' numbers are a permutation of those below the number of runs
pub numbered : (runs moved : List Run) → AreRanked runs → IsPermutation runs moved → AreNumbers (map rank_of moved)
numbered runs moved ranked perm =
    let long : length (map rank_of moved) ≡ length runs = length-map moved rank_of ∙ length_permutation runs moved perm in
    let same : range_with_len 0 (length (map rank_of moved)) ≡ map rank_of runs =
    ext_get_or 0 (range_with_len 0 (length (map rank_of moved))) (map rank_of runs) (omega (arith, length-range_with_len 0 (length (map rank_of moved)), length-map runs rank_of, long))
    (λ i b. let inside : i < length runs = omega (arith, b, length-range_with_len 0 (length (map rank_of moved)), long) in
    let no : Run = record { first = record { column = 0; index = 0 }; frequency = 0; rank = 0 } in
    let z : 0 + i ≡ i = omega arith in
    get_or-range_with_len 0 (length (map rank_of moved)) i 0 (omega (arith, inside, long)) ∙ z ∙ sym (get_or-map rank_of runs i no 0 inside ∙ ranked i no inside)) in
    subst (λ (ns : List ℕ). IsPermutation ns (map rank_of moved)) (sym same) (IsPermutation-map rank_of runs moved perm)

-- ---- the number by which runs are sorted

not_less : (a b : ℕ) → a ≤ b → is_lt (nat_cmp b a) ≡ false
not_less a b h = elim (cases_lt a b) [
  | inl l ↦ (let e : Greater ≡ nat_cmp b a = nat_cmp_is b a Greater l in ap is_lt (sym e))
  | inr g ↦ (let same : b ≡ a = omega (arith, h, g) in let e : Equal ≡ nat_cmp b a = nat_cmp_is b a Equal same in ap is_lt (sym e))
]

-- runs that are sorted by that number are sorted by their frequencies, and then by their ranks
pub sorted_by_number : (runs : List Run) → All (λ r. r.rank < 2 ^ 32) runs → IsNonDecreasingBy run_number runs → IsSorted run_cmp runs
sorted_by_number runs few rising k d low h =
    let x = get_or runs k d in
    let y = get_or runs (k + 1) d in
    let same = scaled_cmp (2 ^ 32) y.frequency x.frequency y.rank x.rank (few (k + 1) d h) (few k d (omega (arith, h))) in
    ap is_lt (sym same) ∙ not_less (run_number x) (run_number y) (rising k (k + 1) d (omega arith) h)

-- ---- a list of all numbers, and their indices

pub numbers_below : (ranks : List ℕ) → AreNumbers ranks → All (λ r. r < length ranks) ranks
numbers_below ranks all =
    All-permutation (λ r. r < length ranks) (range_with_len 0 (length ranks)) ranks all
    (λ k d b. let h : k < length ranks = omega (arith, b, length-range_with_len 0 (length ranks)) in omega (arith, get_or-range_with_len 0 (length ranks) k d h))

differ : (m n : ℕ) → m < n → eqb m n ≡ false
differ m n l = elim (eqb_tells m n) [
  | inl e ↦ absurd (omega (arith, l, e.1))
  | inr e ↦ e.0
]

-- no two of them are equal
pub numbers_apart : (numbers : List ℕ) → AreNumbers numbers → (r s : ℕ) → r < s → s < length numbers → get_or numbers r 0 ≡ get_or numbers s 0 → ⊥
numbers_apart numbers all r s l b =
    let all_below = range_with_len 0 (length numbers) in
    let distinct : IsDistinct eqb all_below =
    IsDistinct-from_apart eqb all_below (λ i j d m h. let late : j < length numbers = omega (arith, h, length-range_with_len 0 (length numbers)) in
    differ (get_or all_below i d) (get_or all_below j d) (omega (arith, m, get_or-range_with_len 0 (length numbers) i d (omega (arith, m, late)), get_or-range_with_len 0 (length numbers) j d late))) in
    eqb-false (get_or numbers r 0) (get_or numbers s 0) (apart_from_distinct eqb numbers r s 0 (IsDistinct-IsPermutation eqb nat_eq_equiv.symm all_below numbers all distinct) l b)

-- the run with this number has the rank
abbrev pub IsSlot : List Run → ℕ → ℕ → Type 0
IsSlot runs rank number = (number < length (map rank_of runs)) × (get_or (map rank_of runs) number 0 ≡ rank)

-- a run's rank is below the number of runs
pub rank_below : (runs : List Run) (i : ℕ) (d : Run) → AreNumbers (map rank_of runs) → i < length runs → (get_or runs i d).rank < length runs
rank_below runs i d all h =
    let ranks = map rank_of runs in
    let inside : i < length ranks = omega (arith, h, length-map runs rank_of) in
    omega (arith, numbers_below ranks all i 0 inside, get_or-map rank_of runs i d 0 h, length-map runs rank_of)

-- a run has the rank of its number
pub rank_here : (runs : List Run) (i : ℕ) (d : Run) → i < length runs → IsSlot runs (get_or runs i d).rank i
rank_here runs i d h = (omega (arith, h, length-map runs rank_of), get_or-map rank_of runs i d 0 h)

-- the numbers written for all runs are the indices
pub places_are : (runs : List Run) (numbers : List ℕ) → AreNumbers (map rank_of runs) → length numbers ≡ length runs → All (λ r. IsSlot runs r.rank (get_or numbers r.rank 0)) runs → ArePlaces (map rank_of runs) numbers
places_are runs numbers all long written =
    let ranks = map rank_of runs in
    let IsHere : ℕ → Type 0 = λ r. IsSlot runs r (get_or numbers r 0) in
    let each : All IsHere (range_with_len 0 (length ranks)) = All-permutation IsHere ranks (range_with_len 0 (length ranks)) (IsPermutation-sym _ _ all) (All-map IsHere rank_of runs written) in
    record {
      long = long ∙ sym (length-map runs rank_of);
      each = λ r b.
          (let at : get_or (range_with_len 0 (length ranks)) r 0 ≡ r = get_or-range_with_len 0 (length ranks) r 0 b ∙ (let z : 0 + r ≡ r = omega arith in z) in
          subst IsHere at (each r 0 (omega (arith, b, length-range_with_len 0 (length ranks)))));
    }

number_at : (tokens : List Token) (i : ℕ) → i < length tokens → get_or (numbers_of tokens) i 0 ≡ i
number_at tokens i h =
    let b : i < length (enumerate_from 0 tokens) = omega (arith, length-enumerate_from 0 tokens) in
    let z : 0 + i ≡ i = omega arith in
    get_or-map (λ (t : ℕ × Token). t.0) (enumerate_from 0 tokens) i (0, token_with [] 0) 0 b ∙ ap (λ (t : ℕ × Token). t.0) (get_or-enumerate_from 0 tokens i (0, token_with [] 0) h) ∙ z

-- the indices are the tokens' numbers by key, if the keys of the numbers are distinct and increase
pub places_by_key : (tokens : List Token) (names : List Text) (ranks places : List ℕ) → TextsRise names → IsDistinct bytes_eq names → IsPermutation names (map (λ t. t.key) tokens) → AreNumbers ranks → length ranks ≡ length tokens
    → ((t : ℕ) → t < length tokens → key_of tokens t ≡ get_or names (get_or ranks t 0) []) → ArePlaces ranks places → IsByKey tokens places
places_by_key tokens names ranks places rise differ moved all long key are =
    let keys = map (λ (t : Token). t.key) tokens in
    let apart : IsDistinct bytes_eq keys = differ_moved names keys moved differ in
    let count : length keys ≡ length tokens = length-map tokens (λ (t : Token). t.key) in
    let few : length names ≡ length tokens = sym (length_permutation names keys moved) ∙ count in
    let at : ℕ → ℕ = λ r. get_or places r 0 in
    let named : (r : ℕ) → r < length ranks → key_of tokens (at r) ≡ get_or names r [] = λ r b. key (at r) (omega (arith, (are.each r b).0, long)) ∙ ap (λ (n : ℕ). get_or names n []) (are.each r b).1 in
    let back : (t : ℕ) → t < length tokens → at (get_or ranks t 0) ≡ t = λ t b.
    (let r = get_or ranks t 0 in
    let inside : r < length ranks = numbers_below ranks all t 0 (omega (arith, b, long)) in
    same_place keys apart (at r) t (omega (arith, (are.each r inside).0, long, count)) (omega (arith, b, count)) (named r inside ∙ sym (key t b))) in
    let all_places : map at (range_with_len 0 (length ranks)) ≡ places =
    ext_get_or 0 (map at (range_with_len 0 (length ranks))) places (omega (arith, length-map (range_with_len 0 (length ranks)) at, length-range_with_len 0 (length ranks), are.long))
    (λ i b. let c : i < length (range_with_len 0 (length ranks)) = omega (arith, b, length-map (range_with_len 0 (length ranks)) at) in
    let z : 0 + i ≡ i = omega arith in
    get_or-map at (range_with_len 0 (length ranks)) i 0 0 c ∙ ap at (get_or-range_with_len 0 (length ranks) i 0 (omega (arith, c, length-range_with_len 0 (length ranks))) ∙ z)) in
    let all_numbers : map at ranks ≡ numbers_of tokens =
    ext_get_or 0 (map at ranks) (numbers_of tokens) (omega (arith, length-map ranks at, long, length-map (enumerate_from 0 tokens) (λ (t : ℕ × Token). t.0), length-enumerate_from 0 tokens))
    (λ i b. let c : i < length ranks = omega (arith, b, length-map ranks at) in
    let e : i < length tokens = omega (arith, c, long) in
    get_or-map at ranks i 0 0 c ∙ back i e ∙ sym (number_at tokens i e)) in
    let same : IsPermutation places (numbers_of tokens) =
    subst (λ (ns : List ℕ). IsPermutation ns (numbers_of tokens)) all_places (subst (IsPermutation (map at (range_with_len 0 (length ranks)))) all_numbers (IsPermutation-map at (range_with_len 0 (length ranks)) ranks all)) in
    record {
      rising = λ k d a b.
          (let first : k < length places = omega (arith, b) in
          let one = named k (omega (arith, first, are.long)) in
          let two = named (k + 1) (omega (arith, b, are.long)) in
          let up : is_lt (slice_cmp nat_cmp (get_or names (k + 1) []) (get_or names k [])) ≡ false = sorted_from_rises names rise k [] (omega arith) (omega (arith, b, are.long, long, few)) in
          let same_at : get_or places k d ≡ at k = get_or_default places k d 0 first in
          let same_next : get_or places (k + 1) d ≡ at (k + 1) = get_or_default places (k + 1) d 0 b in
          ap (λ (n : ℕ). is_lt (slice_cmp nat_cmp (key_of tokens n) (key_of tokens (get_or places k d)))) same_next
          ∙ ap (λ (n : ℕ). is_lt (slice_cmp nat_cmp (key_of tokens (at (k + 1))) (key_of tokens n))) same_at
          ∙ ap (λ (x : Text). is_lt (slice_cmp nat_cmp x (key_of tokens (at k)))) two
          ∙ ap (λ (x : Text). is_lt (slice_cmp nat_cmp (get_or names (k + 1) []) x)) one
          ∙ up);
      same = IsPermutation-sym places (numbers_of tokens) same;
    }

-- ---- the vocabulary

-- the runs' first members have the tokens' keys
places_named : (tables : List Table) (columns : List ColumnAt) (runs : List Run) → map (pointed_by tables columns) (map (λ r. r.first) runs) ≡ token_keys (map (run_token tables columns) runs)
places_named tables columns [] = refl
places_named tables columns (r ∷ runs) = ap (λ (keys : List Text). pointed_by tables columns r.first ∷ keys) (places_named tables columns runs)

-- and they are as long as the tokens are frequent
as_frequent : (tables : List Table) (columns : List ColumnAt) (runs : List Run) → map (λ r. r.frequency) runs ≡ frequencies_of (map (run_token tables columns) runs)
as_frequent tables columns [] = refl
as_frequent tables columns (r ∷ runs) = ap (λ (ns : List ℕ). r.frequency ∷ ns) (as_frequent tables columns runs)

summed : (tokens : List Token) → sum_by (λ n. n) (frequencies_of tokens) ≡ sum_by (λ t. t.frequency) tokens
summed [] = refl
summed (t ∷ tokens) =
    omega (arith, sum_by-cons (λ (n : ℕ). n) t.frequency (frequencies_of tokens), sum_by-cons (λ (t : Token). t.frequency) t tokens, summed tokens)

module _ (tables : List Table) (columns : List ColumnAt) (runs ordered : List Run) (ranks : List ℕ) (counted : AreCounted tables columns runs ranks) (perm : IsPermutation runs ordered) where
  abbrev counts : List Token
  counts = map (run_token tables columns) runs

  abbrev names : List Text
  names = token_keys counts

  abbrev tokens : List Token
  tokens = map (run_token tables columns) ordered

  abbrev HasRank : Run → Type 0
  HasRank run = IsRank names (pointed_by tables columns run.first) run.rank

  rise : TextsRise names
  rise = rises names counted.tokens.rising

  moved : IsPermutation counts tokens
  moved = IsPermutation-map (run_token tables columns) runs ordered perm

  have_ranks : All HasRank ordered
  have_ranks =
      let key : Token → Text = λ t. t.key in
      let long : length names ≡ length runs = length-map counts key ∙ length-map runs (run_token tables columns) in
      All-permutation HasRank runs ordered perm (λ i d b.
      (let r = get_or runs i d in
      let here : i < length (map (run_token tables columns) runs) = omega (arith, b, length-map runs (run_token tables columns)) in
      let at : get_or names i [] ≡ pointed_by tables columns r.first =
      get_or-map key (map (run_token tables columns) runs) i (run_token tables columns d) [] here ∙ ap key (get_or-map (run_token tables columns) runs i d (run_token tables columns d) b) in
      subst (IsRank names (pointed_by tables columns r.first)) (sym (counted.numbered i d b)) (omega (arith, b, long), at)))

  -- two runs compare as their tokens
  same_order : (a b : Run) → HasRank a → HasRank b → token_cmp (run_token tables columns a) (run_token tables columns b) ≡ run_cmp a b
  same_order a b h g =
      ap (ordering_then (nat_cmp a.frequency b.frequency))
      (ap (λ (k : Text). slice_cmp nat_cmp k (pointed_by tables columns b.first)) (sym h.1) ∙ ap (slice_cmp nat_cmp (get_or names a.rank [])) (sym g.1) ∙ places_compare names rise counted.tokens.different a.rank b.rank h.0 g.0)

  tokens_up : IsSorted run_cmp ordered → IsSorted token_cmp tokens
  tokens_up up k d a b =
      let no : Run = record { first = record { column = 0; index = 0 }; frequency = 0; rank = 0 } in
      let late : k + 1 < length ordered = omega (arith, b, length-map ordered (run_token tables columns)) in
      let early : k < length ordered = omega (arith, late) in
      let x = get_or ordered k no in
      let y = get_or ordered (k + 1) no in
      ap (λ (t : Token). is_lt (token_cmp t (get_or tokens k d))) (get_or-map (run_token tables columns) ordered (k + 1) no d late)
      ∙ ap (λ (t : Token). is_lt (token_cmp (run_token tables columns y) t)) (get_or-map (run_token tables columns) ordered k no d early)
      ∙ ap is_lt (same_order y x (have_ranks (k + 1) no late) (have_ranks k no early))
      ∙ up k no (omega arith) late

  pub vocabulary : (places : List TokenAt) (frequencies by_key : List ℕ) → All HasDistinctKeys tables → IsSorted run_cmp ordered → ArePlaces (map rank_of ordered) by_key → places ≡ map (λ r. r.first) ordered → frequencies ≡ map (λ r. r.frequency) ordered
      → IsVocabulary tables columns places frequencies by_key ranks
  vocabulary places frequencies by_key different up are made sized =
      let key : Token → Text = λ t. t.key in
      let first : Run → TokenAt = λ r. r.first in
      let named : tokens ≡ tokens_of (columns_of tables) = tokens_are tables counts tokens different counted.tokens moved (tokens_up up) in
      let within : All (IsThere tables columns) places = subst (All (IsThere tables columns)) (sym made) (All-map (IsThere tables columns) first ordered (All-permutation (λ r. IsThere tables columns r.first) runs ordered perm counted.within)) in
      let frequent : frequencies ≡ frequencies_of tokens = sized ∙ as_frequent tables columns ordered in
      let as_long : length (map rank_of ordered) ≡ length tokens = length-map ordered rank_of ∙ sym (length-map ordered (run_token tables columns)) in
      let no : Run = record { first = record { column = 0; index = 0 }; frequency = 0; rank = 0 } in
      let keys_at_ranks : (t : ℕ) → t < length tokens → key_of tokens t ≡ get_or names (get_or (map rank_of ordered) t 0) [] = λ t b.
      (let h : t < length ordered = omega (arith, b, length-map ordered (run_token tables columns)) in
      let r = get_or ordered t no in
      get_or-map key tokens t (run_token tables columns no) [] b
      ∙ ap key (get_or-map (run_token tables columns) ordered t no (run_token tables columns no) h)
      ∙ sym (have_ranks t no h).1
      ∙ ap (λ (n : ℕ). get_or names n []) (sym (get_or-map rank_of ordered t no 0 h))) in
      let sorted : IsByKey tokens by_key =
      places_by_key tokens names (map rank_of ordered) by_key rise counted.tokens.different (IsPermutation-map key counts tokens moved) (numbered runs ordered counted.numbered perm) as_long keys_at_ranks are in
      let ranked : names ≡ names_of (tokens_of (columns_of tables)) = runs_named counts tokens counted.tokens.rising moved ∙ ap names_of named in
      record {
        owned = counted.owned;
        named = ap (map (pointed_by tables columns)) made ∙ places_named tables columns ordered ∙ ap token_keys named;
        within = within;
        frequent = frequent ∙ ap frequencies_of named;
        sorted = subst (λ (ts : List Token). IsByKey ts by_key) named sorted;
        few = omega (arith, ap (λ (ats : List TokenAt). length ats) made, length-map ordered first, length_permutation runs ordered perm, counted.few);
        counted =
            ap (sum_by (λ n. n)) frequent
            ∙ summed tokens
            ∙ sum_by-IsPermutation (λ (t : Token). t.frequency) counts tokens moved
            ∙ counted.tokens.total
            ∙ length-keys_of tables;
        ranked = record {
          long = counted.long;
          each = λ n b. subst (λ (ks : List Text). IsRank ks (get_or (keys_of tables) n []) (get_or ranks n 0)) ranked (counted.ranked n b);
        };
      }
