-- The keys of the queries: their order, how equal ones are merged, and what a search finds.
use Rattle.std.proofs.Common.{◌≡◌, refl, ap, sym, ◌∙◌, subst, inl, inr, ℕ, zero, suc, ◌+◌, ◌-◌, ◌<◌, ◌≤◌, ◌^◌, List, [], ◌∷◌, ◌++◌, Bool, true, false, ◌||◌, ◌&&◌, length, get_or, arith, take, drop, append_assoc, append-nil}
use Rattle.std.specs.Prelude.{bytes_eq}
use Rattle.std.specs.Cmp.{IsTotalOrder, nat_cmp_is}
use Rattle.std.specs.Cmp.Lexicographic.{slice_cmp}
use Rattle.std.specs.Int.RustNames.{bit_or}
use Rattle.std.specs.List.{AllByRecursion, list_any}
use Rattle.std.specs.List.Sorted.{IsNonDecreasingBy, IsPartitionPoint, IsPermutation, IsSorted, IsStrictlySortedBy}
use Rattle.std.specs.Ordering.{is_eq, is_lt, nat_cmp, ordering_index, ordering_reverse, ordering_then}
use Rattle.std.specs.declared.cmp.Ordering.{Ordering}
use Rattle.std.specs.declared.cmp.Ordering.TheVariants.{Less, Equal, Greater}
use Rattle.std.proofs.lemmas.Bool.{cases_lt}
use Rattle.std.proofs.lemmas.Cmp.{nat_list_cmp_total, on_total, tied_itself}
use Rattle.std.proofs.lemmas.List.{get_or_default, length-append}
use Rattle.std.proofs.Math.Seq.{take-length}
use Rattle.std.proofs.lemmas.List.Elements.{All-from_recursion, recursion_from_All}
use Rattle.std.proofs.lemmas.List.Folds.{list_any-append, list_any_more, list_any_none}
use Rattle.std.proofs.lemmas.List.Sorted.{list_any-IsPermutation, searchable_from_sorted, All-permutation}
use Rattle.std.proofs.lemmas.Map.Keys.{Less-from_sorted}
use Rattle.std.proofs.lemmas.Map.Lookups.{exact_bytes}
use Rattle.std.proofs.lemmas.Slice.Eq.{bytes_eq-Decides}
use Rattle.std.proofs.Math.Bool.{and-false, or-false}
use Rattle.list_laws.proofs.ListLemmas.{all_append, all_both, all_left, all_right, any_none}
use Rattle.lake_model.specs.Texts.{Text}
use Rattle.lake_model.specs.Tables.{has_key}
use Rattle.column_watch.specs.Held.{StateOf}
use Rattle.column_set.specs.Hashes.{sip_of}
use Rattle.column_watch.specs.Index.{AreKeysOf, IsHashed, IsIndexOf, IsStretch, all_from, has_query, key_cmp, key_with, keys_from, says, sorted_by, text_of}
use Rattle.column_watch.specs.declared.holders.KeyAt.{KeyAt}
use Rattle.column_watch.proofs.HolderLemmas.{keys_of, query_itself, query_of_both, query_other}

-- ---- the order

pub key_cmp_total : (queries : List (List Text)) → IsTotalOrder (key_cmp queries)
key_cmp_total queries = on_total (sorted_by queries) nat_list_cmp_total

first_less : (a b : ℕ) (r : Ordering) → ordering_then (nat_cmp a b) r ≡ Less → a ≤ b
first_less a b r e = elim (cases_lt b a) [
  | inl l ↦ absurd (let f : Greater ≡ Less = ap (λ o. ordering_then o r) (nat_cmp_is a b Greater l) ∙ e in let g : false ≡ true = ap is_lt f in cc)
  | inr m ↦ m
]

-- keys in order by hash and text are in order by hash
pub hashes_rise : (queries : List (List Text)) (keys : List KeyAt) → IsStrictlySortedBy (key_cmp queries) keys → IsNonDecreasingBy (λ at. at.hash) keys
hashes_rise queries keys up i j d l h = elim (cases_lt i j) [
  | inl less ↦
      let a = get_or keys i d in
      let b = get_or keys j d in
      first_less a.hash b.hash (slice_cmp nat_cmp (text_of queries a) (text_of queries b)) (Less-from_sorted (key_cmp queries) keys i j d up less h)
  | inr more ↦
      let e : i ≡ j = omega (arith, l, more) in
      let f : (get_or keys i d).hash ≡ (get_or keys j d).hash = ap (λ (n : ℕ). (get_or keys n d).hash) e in
      omega (arith, f)
]

-- ---- lists that rise at each step

module _ {X : Type 0} (c : X → X → Ordering) where
  pub strict_push : (xs : List X) (x : X) → IsStrictlySortedBy c xs → AllByRecursion (λ y. c y x ≡ Less) xs → IsStrictlySortedBy c (xs ++ x ∷ [])
  unfolding IsStrictlySortedBy
  strict_push [] x up below = (tt, tt)
  strict_push (y ∷ xs) x up below = (all_append (λ z. c y z ≡ Less) xs (x ∷ []) up.0 (below.0, tt), strict_push xs x up.1 below.1)

  pub strict_left : (xs ys : List X) → IsStrictlySortedBy c (xs ++ ys) → IsStrictlySortedBy c xs
  unfolding IsStrictlySortedBy
  strict_left [] ys up = tt
  strict_left (x ∷ xs) ys up = (all_left (λ z. c x z ≡ Less) xs ys up.0, strict_left xs ys up.1)

  pub strict_right : (xs ys : List X) → IsStrictlySortedBy c (xs ++ ys) → IsStrictlySortedBy c ys
  unfolding IsStrictlySortedBy
  strict_right [] ys up = up
  strict_right (x ∷ xs) ys up = strict_right xs ys up.1

  -- what holds of all below the last element and of the last holds of all
  below_last : (P : X → Type 0) (xs : List X) (x : X) → ((y : X) → c y x ≡ Less → P y) → P x → IsStrictlySortedBy c (xs ++ x ∷ []) → AllByRecursion P (xs ++ x ∷ [])
  unfolding IsStrictlySortedBy
  below_last P [] x less last up = (last, tt)
  below_last P (y ∷ xs) x less last up = (less y (all_right (λ z. c y z ≡ Less) xs (x ∷ []) up.0).0, below_last P xs x less last up.1)

  -- an element that the last one is less than, appended
  pub strict_next : IsTotalOrder c → (xs : List X) (x y : X) → IsStrictlySortedBy c (xs ++ x ∷ []) → c x y ≡ Less → IsStrictlySortedBy c ((xs ++ x ∷ []) ++ y ∷ [])
  strict_next total xs x y up less = strict_push (xs ++ x ∷ []) y up (below_last (λ z. c z y ≡ Less) xs x (λ z h. total.trans z x y h less) less up)

  -- another element in the place of the last
  pub strict_other : (xs : List X) (x y : X) → ((z : X) → c z x ≡ Less → c z y ≡ Less) → IsStrictlySortedBy c (xs ++ x ∷ []) → IsStrictlySortedBy c (xs ++ y ∷ [])
  unfolding IsStrictlySortedBy
  strict_other [] x y same up = (tt, tt)
  strict_other (z ∷ xs) x y same up =
      (all_append (λ u. c z u ≡ Less) xs (y ∷ []) (all_left (λ u. c z u ≡ Less) xs (x ∷ []) up.0) (same z (all_right (λ u. c z u ≡ Less) xs (x ∷ []) up.0).0, tt), strict_other xs x y same up.1)

-- ---- tests

spread_right : (a b h : Bool) → ((a && h) || (b && h)) ≡ ((a || b) && h)
spread_right true true true = refl
spread_right true true false = refl
spread_right true false true = refl
spread_right true false false = refl
spread_right false b h = refl

spread_left : (a b h : Bool) → (h && (a || b)) ≡ ((h && a) || (h && b))
spread_left a b true = refl
spread_left a b false = refl

always : (a : Bool) → (a && true) ≡ a
always true = refl
always false = refl

-- ---- the keys, one query after another

module _ (queries : List (List Text)) where
  -- these are the keys of a query from index i on, and those of the queries from index v on
  abbrev AreRead : ℕ → ℕ → List Text → Type 0
  AreRead v i keys = (j : ℕ) → get_or (get_or queries v []) (i + j) [] ≡ get_or keys j []

  abbrev AllRead : ℕ → List (List Text) → Type 0
  AllRead v rest = (j : ℕ) → get_or queries (v + j) [] ≡ get_or rest j []

  first_key : (v i : ℕ) (key : Text) (keys : List Text) → AreRead v i (key ∷ keys) → get_or (get_or queries v []) i [] ≡ key
  first_key v i key keys read = let e : i ≡ i + 0 = omega arith in ap (λ (n : ℕ). get_or (get_or queries v []) n []) e ∙ read 0

  next_keys : (v i : ℕ) (key : Text) (keys : List Text) → AreRead v i (key ∷ keys) → AreRead v (i + 1) keys
  next_keys v i key keys read j = let e : i + 1 + j ≡ i + suc j = omega arith in ap (λ (n : ℕ). get_or (get_or queries v []) n []) e ∙ read (suc j)

  first_query : (v : ℕ) (keys : List Text) (rest : List (List Text)) → AllRead v (keys ∷ rest) → AreRead v 0 keys
  first_query v keys rest read j =
      let e : v ≡ v + 0 = omega arith in
      let f : 0 + j ≡ j = omega arith in
      ap (λ (n : ℕ). get_or (get_or queries v []) n []) f ∙ ap (λ (us : List Text). get_or us j []) (ap (λ (n : ℕ). get_or queries n []) e ∙ read 0)

  next_queries : (v : ℕ) (keys : List Text) (rest : List (List Text)) → AllRead v (keys ∷ rest) → AllRead (v + 1) rest
  next_queries v keys rest read j = let e : v + 1 + j ≡ v + suc j = omega arith in ap (λ (n : ℕ). get_or queries n []) e ∙ read (suc j)

  hashed_keys : (v i : ℕ) (keys : List Text) → AreRead v i keys → AllByRecursion (IsHashed queries) (keys_from v i keys)
  hashed_keys v i [] read = tt
  hashed_keys v i (key ∷ keys) read = (ap sip_of (sym (first_key v i key keys read)), hashed_keys v (i + 1) keys (next_keys v i key keys read))

  hashed_all : (v : ℕ) (rest : List (List Text)) → AllRead v rest → AllByRecursion (IsHashed queries) (all_from v rest)
  hashed_all v [] read = tt
  hashed_all v (keys ∷ rest) read =
      all_append (IsHashed queries) (keys_from v 0 keys) (all_from (v + 1) rest) (hashed_keys v 0 keys (first_query v keys rest read)) (hashed_all (v + 1) rest (next_queries v keys rest read))

  module _ (key : Text) where
    said_keys : (v i w : ℕ) (keys : List Text) → AreRead v i keys → list_any (says queries key w) (keys_from v i keys) ≡ (has_key keys key && has_query (2 ^ v) w)
    said_keys v i w [] read = refl
    said_keys v i w (k ∷ keys) read =
        let here : bytes_eq key (get_or (get_or queries v []) i []) ≡ bytes_eq key k = ap (bytes_eq key) (first_key v i k keys read) in
        (λ j. (here j && has_query (2 ^ v) w) || said_keys v (i + 1) w keys (next_keys v i k keys read) j) ∙ spread_right (bytes_eq key k) (has_key keys key) (has_query (2 ^ v) w)

    -- a query of a lower index holds none of them
    said_below : (v w : ℕ) (rest : List (List Text)) → w < v → AllRead v rest → list_any (says queries key w) (all_from v rest) ≡ false
    said_below v w [] h read = refl
    said_below v w (keys ∷ rest) h read =
        let other = query_other v w (λ (e : w ≡ v). omega (arith, e, h)) in
        list_any-append (says queries key w) (keys_from v 0 keys) (all_from (v + 1) rest)
        ∙ (λ j. (said_keys v 0 w keys (first_query v keys rest read) ∙ ap (λ b. has_key keys key && b) other ∙ and-false (has_key keys key)) j || said_below (v + 1) w rest (omega (arith, h)) (next_queries v keys rest read) j)

    said_at : (v j : ℕ) (rest : List (List Text)) → AllRead v rest → list_any (says queries key (v + j)) (all_from v rest) ≡ has_key (get_or rest j []) key
    said_at v j [] read = refl
    said_at v zero (keys ∷ rest) read =
        let e : v + 0 ≡ v = omega arith in
        ap (λ (w : ℕ). list_any (says queries key w) (all_from v (keys ∷ rest))) e
        ∙ list_any-append (says queries key v) (keys_from v 0 keys) (all_from (v + 1) rest)
        ∙ (λ j. (said_keys v 0 v keys (first_query v keys rest read) ∙ ap (λ b. has_key keys key && b) (query_itself v) ∙ always (has_key keys key)) j || said_below (v + 1) v rest (omega arith) (next_queries v keys rest read) j)
        ∙ or-false (has_key keys key)
    said_at v (suc j) (keys ∷ rest) read =
        let e : v + suc j ≡ v + 1 + j = omega arith in
        let other = query_other v (v + suc j) (λ (f : v + suc j ≡ v). omega (arith, f)) in
        list_any-append (says queries key (v + suc j)) (keys_from v 0 keys) (all_from (v + 1) rest)
        ∙ (λ i. (said_keys v 0 (v + suc j) keys (first_query v keys rest read) ∙ ap (λ b. has_key keys key && b) other ∙ and-false (has_key keys key)) i
        || (ap (λ (w : ℕ). list_any (says queries key w) (all_from (v + 1) rest)) e ∙ said_at (v + 1) j rest (next_queries v keys rest read)) i)

  all_read : AllRead 0 queries
  all_read j = let e : 0 + j ≡ j = omega arith in ap (λ (n : ℕ). get_or queries n []) e

  pub all_are_keys : AreKeysOf queries (all_from 0 queries)
  all_are_keys = record {
    hashed = hashed_all 0 queries all_read;
    held = λ key w. let e : w ≡ 0 + w = omega arith in ap (λ (v : ℕ). list_any (says queries key v) (all_from 0 queries)) e ∙ said_at key 0 w queries all_read;
  }

  -- keys in another order
  pub keys_moved : (keys moved : List KeyAt) → IsPermutation keys moved → AreKeysOf queries keys → AreKeysOf queries moved
  keys_moved keys moved same whole = record {
    hashed = recursion_from_All (IsHashed queries) moved (All-permutation (IsHashed queries) keys moved same (All-from_recursion (IsHashed queries) keys whole.hashed));
    held = λ key w. sym (list_any-IsPermutation (says queries key w) keys moved same) ∙ whole.held key w;
  }

-- ---- the keys, appended one by one

keys_suc : (w n : ℕ) (keys : List Text) (i : ℕ) → i < length keys → keys_from w n (take (suc i) keys) ≡ keys_from w n (take i keys) ++ key_with (sip_of (get_or keys i [])) w (n + i) (2 ^ w) ∷ []
keys_suc w n [] i h = absurd (omega arith)
keys_suc w n (key ∷ keys) zero h = let e : n ≡ n + 0 = omega arith in ap (λ (m : ℕ). key_with (sip_of key) w m (2 ^ w) ∷ []) e
keys_suc w n (key ∷ keys) (suc i) h =
    let e : n + 1 + i ≡ n + suc i = omega arith in
    ap (λ us. key_with (sip_of key) w n (2 ^ w) ∷ us) (keys_suc w (n + 1) keys i (omega arith) ∙ ap (λ (m : ℕ). keys_from w (n + 1) (take i keys) ++ key_with (sip_of (get_or keys i [])) w m (2 ^ w) ∷ []) e)

-- one more key
pub keys_more : (w : ℕ) (keys : List Text) (i hash mask : ℕ) (start before after : List KeyAt) → i < length keys → hash ≡ sip_of (get_or keys i []) → mask ≡ 2 ^ w → before ≡ start ++ keys_from w 0 (take i keys) → after ≡ before ++ key_with hash w i mask ∷ []
    → after ≡ start ++ keys_from w 0 (take (i + 1) keys)
keys_more w keys i hash mask start before after h e m so_far push =
    let n : suc i ≡ i + 1 = omega arith in
    let z : i ≡ 0 + i = omega arith in
    push ∙ (λ j. so_far j ++ key_with (e j) w (z j) (m j) ∷ []) ∙ append_assoc start (keys_from w 0 (take i keys)) (key_with (sip_of (get_or keys i [])) w (0 + i) (2 ^ w) ∷ [])
    ∙ ap (λ us. start ++ us) (sym (keys_suc w 0 keys i h)) ∙ ap (λ (m : ℕ). start ++ keys_from w 0 (take m keys)) n

pub length-keys_from : (w i : ℕ) (keys : List Text) → length (keys_from w i keys) ≡ length keys
length-keys_from w i [] = refl
length-keys_from w i (key ∷ keys) = ap suc (length-keys_from w (i + 1) keys)

all_suc : (n : ℕ) (states : List StateOf) (i : ℕ) (d : StateOf) → i < length states → all_from n (keys_of (take (suc i) states)) ≡ all_from n (keys_of (take i states)) ++ keys_from (n + i) 0 (get_or states i d).keys
all_suc n [] i d h = absurd (omega arith)
all_suc n (state ∷ states) zero d h = let e : n ≡ n + 0 = omega arith in append-nil (keys_from n 0 state.keys) ∙ ap (λ (m : ℕ). keys_from m 0 state.keys) e
all_suc n (state ∷ states) (suc i) d h =
    let e : n + 1 + i ≡ n + suc i = omega arith in
    ap (λ us. keys_from n 0 state.keys ++ us) (all_suc (n + 1) states i d (omega arith) ∙ ap (λ (m : ℕ). all_from (n + 1) (keys_of (take i states)) ++ keys_from m 0 (get_or states i d).keys) e)
    ∙ sym (append_assoc (keys_from n 0 state.keys) (all_from (n + 1) (keys_of (take i states))) (keys_from (n + suc i) 0 (get_or states i d).keys))

-- one more query
pub all_more : (states : List StateOf) (i : ℕ) (state : StateOf) (keys : List Text) (olds news : List KeyAt) → i < length states → state ≡ get_or states i state → keys ≡ state.keys → olds ≡ all_from 0 (keys_of (take i states)) → news ≡ olds ++ keys_from i 0 keys
    → news ≡ all_from 0 (keys_of (take (i + 1) states))
all_more states i state keys olds news h is same before e =
    let n : suc i ≡ i + 1 = omega arith in
    let z : i ≡ 0 + i = omega arith in
    e ∙ (λ j. before j ++ keys_from (z j) 0 ((same ∙ ap (λ (s : StateOf). s.keys) is) j)) ∙ sym (all_suc 0 states i state h) ∙ ap (λ (m : ℕ). all_from 0 (keys_of (take m states))) n

-- ---- equal keys, merged

-- a key, with the queries of another mask added to its own
abbrev pub joined : KeyAt → ℕ → KeyAt
joined at mask = key_with at.hash at.query at.index (bit_or at.holders mask)

-- Of keys that are in order, the first i and one more were taken: those that are done, distinct, and the last, which
-- may equal the next.
pub record Merges (queries : List (List Text)) (keys : List KeyAt) (i : ℕ) (done : List KeyAt) (last : KeyAt) : Type 0 where
  pub rising : IsStrictlySortedBy (key_cmp queries) (done ++ last ∷ [])
  pub hashed : AllByRecursion (IsHashed queries) (done ++ last ∷ [])
  pub held : (key : Text) (w : ℕ) → list_any (says queries key w) (done ++ last ∷ []) ≡ list_any (says queries key w) (take (i + 1) keys)
  pub tied : (d : KeyAt) → sorted_by queries last ≡ sorted_by queries (get_or keys i d)
  pub few : length done ≤ i

exact : (a b : List ℕ) (o : Ordering) → o ≡ slice_cmp nat_cmp a b → is_eq o ≡ true → a ≡ b
exact a b Less e f = absurd (let g : false ≡ true = f in cc)
exact a b Equal e f = exact_bytes a b (sym e)
exact a b Greater e f = absurd (let g : false ≡ true = f in cc)

-- if neither less nor equal, the reverse is less
turned : (o p : Ordering) → o ≡ ordering_reverse p → is_lt p ≡ false → is_eq o ≡ false → o ≡ Less
turned Less p e f g = refl
turned Equal p e f g = absurd (let h : true ≡ false = g in cc)
turned Greater Less e f g = absurd (let h : true ≡ false = f in cc)
turned Greater Equal e f g = absurd (let h : is_lt Greater ≡ is_eq Greater = refl in let k : true ≡ false = sym (ap is_eq e) in cc)
turned Greater Greater e f g = absurd (let k : false ≡ true = ap is_lt e in cc)

module _ (queries : List (List Text)) (keys : List KeyAt) (whole : AreKeysOf queries keys) (up : IsSorted (key_cmp queries) keys) where
  pub merges_first : (first : KeyAt) (rest : List KeyAt) → keys ≡ first ∷ rest → Merges queries keys 0 [] first
  unfolding IsStrictlySortedBy
  merges_first first rest e =
      let hashed : AllByRecursion (IsHashed queries) (first ∷ rest) = subst (AllByRecursion (IsHashed queries)) e whole.hashed in
      record {
        rising = (tt, tt);
        hashed = (hashed.0, tt);
        held = λ key w. ap (λ us. list_any (says queries key w) (take 1 us)) (sym e);
        tied = λ d. ap (λ us. sorted_by queries (get_or us 0 d)) (sym e);
        few = omega arith;
      }

  module _ (i : ℕ) (done : List KeyAt) (last at : KeyAt) (so_far : Merges queries keys i done last) (within : i + 1 < length keys) (is : at ≡ get_or keys (i + 1) at) where
    said_more : (key : Text) (w : ℕ) → list_any (says queries key w) (take (i + 1 + 1) keys) ≡ (list_any (says queries key w) (take (i + 1) keys) || says queries key w at)
    said_more key w = list_any_more (says queries key w) keys (i + 1) at within ∙ ap (λ a. list_any (says queries key w) (take (i + 1) keys) || says queries key w a) (sym is)

    here : (d : KeyAt) → sorted_by queries at ≡ sorted_by queries (get_or keys (i + 1) d)
    here d = ap (sorted_by queries) (is ∙ get_or_default keys (i + 1) at d within)

    own : IsHashed queries at
    own = subst (IsHashed queries) (sym is) (All-from_recursion (IsHashed queries) keys whole.hashed (i + 1) at within)

    pub merges_equal : (o : Ordering) → o ≡ key_cmp queries last at → is_eq o ≡ true → Merges queries keys (i + 1) done (joined last at.holders)
    merges_equal o e tied =
        let same : sorted_by queries last ≡ sorted_by queries at = exact (sorted_by queries last) (sorted_by queries at) o e tied in
        let text : text_of queries last ≡ text_of queries at = ap tail same in
        record {
          rising = strict_other (key_cmp queries) done last (joined last at.holders) (λ z h. h) so_far.rising;
          hashed = all_append (IsHashed queries) done (joined last at.holders ∷ []) (all_left (IsHashed queries) done (last ∷ []) so_far.hashed) (all_right (IsHashed queries) done (last ∷ []) so_far.hashed);
          held = λ key w.
              let p = says queries key w in
              let both : p (joined last at.holders) ≡ (p last || p at) =
              ap (λ b. bytes_eq key (text_of queries last) && b) (query_of_both last.holders at.holders w) ∙ spread_left (has_query last.holders w) (has_query at.holders w) (bytes_eq key (text_of queries last))
              ∙ ap (λ t. (bytes_eq key (text_of queries last) && has_query last.holders w) || (bytes_eq key t && has_query at.holders w)) text in
              list_any-append p done (joined last at.holders ∷ []) ∙ ap (λ b. list_any p done || (b || false)) both ∙ regroup (list_any p done) (p last) (p at)
              ∙ ap (λ b. b || p at) (sym (list_any-append p done (last ∷ [])) ∙ so_far.held key w) ∙ sym (said_more key w);
          tied = λ d. same ∙ here d;
          few = omega (arith, so_far.few);
        }
      where
        tail : List ℕ → List ℕ
        tail [] = []
        tail (n ∷ ns) = ns

        regroup : (a b c : Bool) → (a || ((b || c) || false)) ≡ ((a || (b || false)) || c)
        regroup true b c = refl
        regroup false true c = refl
        regroup false false true = refl
        regroup false false false = refl

    pub merges_next : (o : Ordering) → o ≡ key_cmp queries last at → is_eq o ≡ false → (after : List KeyAt) → after ≡ done ++ last ∷ [] → Merges queries keys (i + 1) after at
    merges_next o e apart after f = subst (λ (us : List KeyAt). Merges queries keys (i + 1) us at) (sym f) (record {
      rising = strict_next (key_cmp queries) (key_cmp_total queries) done last at so_far.rising less;
      hashed = all_append (IsHashed queries) (done ++ last ∷ []) (at ∷ []) so_far.hashed (own, tt);
      held = λ key w.
          let p = says queries key w in
          list_any-append p (done ++ last ∷ []) (at ∷ []) ∙ (λ j. so_far.held key w j || or-false (p at) j) ∙ sym (said_more key w);
      tied = here;
      few = omega (arith, so_far.few, ap length f, length-append done (last ∷ []));
    })
      where
        less : key_cmp queries last at ≡ Less
        less =
            let later : is_lt (key_cmp queries (get_or keys (i + 1) at) (get_or keys i at)) ≡ false = up i at (omega arith) within in
            let back : is_lt (key_cmp queries at last) ≡ false = (λ j. is_lt (slice_cmp nat_cmp (here at j) (so_far.tied at j))) ∙ later in
            turned (key_cmp queries last at) (key_cmp queries at last) ((key_cmp_total queries).antisymm last at) back (ap is_eq (sym e) ∙ apart)

  pub merges_end : (i : ℕ) (done after : List KeyAt) (last : KeyAt) → Merges queries keys i done last → i + 1 ≡ length keys → after ≡ done ++ last ∷ [] → IsIndexOf queries after
  merges_end i done after last so_far all e = subst (IsIndexOf queries) (sym e) (record {
    rising = so_far.rising;
    keys = record {
      hashed = so_far.hashed;
      held = λ key w. so_far.held key w ∙ ap (λ (n : ℕ). list_any (says queries key w) (take n keys)) all ∙ ap (list_any (says queries key w)) (take-length keys) ∙ whole.held key w;
    };
  })

-- the first key and those after it
pub cut_first : (keys : List KeyAt) (d : KeyAt) → 1 ≤ length keys → keys ≡ get_or keys 0 d ∷ take (length keys - 1) (drop 1 keys)
cut_first [] d h = absurd (omega arith)
cut_first (key ∷ keys) d h = let e : suc (length keys) - 1 ≡ length keys = omega arith in ap (λ us. key ∷ us) (sym (ap (λ (n : ℕ). take n keys) e ∙ take-length keys))

pub behind_first : (first : KeyAt) (rest : List KeyAt) (i : ℕ) (d : KeyAt) → i < length rest → get_or rest i d ≡ get_or (first ∷ rest) (i + 1) (get_or rest i d)
behind_first first rest i d h = let e : suc i ≡ i + 1 = omega arith in get_or_default rest i d (get_or rest i d) h ∙ ap (λ (n : ℕ). get_or (first ∷ rest) n (get_or rest i d)) e

pub index_of_none : (queries : List (List Text)) (keys index : List KeyAt) → length keys < 1 → AreKeysOf queries keys → index ≡ [] → IsIndexOf queries index
unfolding IsStrictlySortedBy
index_of_none queries [] index h whole e = subst (IsIndexOf queries) (sym e) (record { rising = tt; keys = whole })
index_of_none queries (key ∷ keys) index h whole e = absurd (omega arith)

-- ---- a key that is searched for

pub same_lists_tie : (a b : List ℕ) → a ≡ b → slice_cmp nat_cmp a b ≡ Equal
same_lists_tie a b e = ap (slice_cmp nat_cmp a) (sym e) ∙ tied_itself nat_list_cmp_total a

not_less_itself : (a b : List ℕ) → a ≡ b → slice_cmp nat_cmp a b ≡ Less → ⊥
not_less_itself a b e less = let f : Equal ≡ Less = sym (same_lists_tie a b e) ∙ less in let g : false ≡ true = ap is_lt f in cc

-- keys that rise can be searched
pub searchable : (queries : List (List Text)) (key : Text) (hash : ℕ) (keys : List KeyAt) → IsStrictlySortedBy (key_cmp queries) keys → IsNonDecreasingBy (λ at. ordering_index (slice_cmp nat_cmp (sorted_by queries at) (hash ∷ key))) keys
searchable queries key hash keys up = searchable_from_sorted nat_list_cmp_total (sorted_by queries) keys (hash ∷ key) (λ k d low h.
    let total = nat_list_cmp_total in
    let a = sorted_by queries (get_or keys k d) in
    let b = sorted_by queries (get_or keys (k + 1) d) in
    ap is_lt (total.antisymm b a ∙ ap ordering_reverse (Less-from_sorted (key_cmp queries) keys k (k + 1) d up (omega arith) h)))

-- if a search ends without finding anything, no element compares as equal
pub parted_nowhere : {X : Type 0} (ord : X → Ordering) (xs : List X) (i : ℕ) → IsPartitionPoint (λ x. ord x ≡ Less) (λ x. ord x ≡ Greater) xs i → (k : ℕ) (d : X) → k < length xs → ord (get_or xs k d) ≡ Equal → ⊥
parted_nowhere ord xs i parted k d h e = elim (cases_lt k i) [
  | inl l ↦ let f : Less ≡ Equal = sym (parted.0 k d (omega arith) l) ∙ e in let g : true ≡ false = ap is_lt f in cc
  | inr m ↦ let f : Greater ≡ Equal = sym (parted.1 k d m h) ∙ e in let g : false ≡ true = ap is_eq f in cc
]

-- a test that only one element can pass
only_one : {X : Type 0} (p : X → Bool) (xs : List X) (i : ℕ) (d : X) → i < length xs → ((k : ℕ) → k < length xs → (k ≡ i → ⊥) → p (get_or xs k d) ≡ false) → list_any p xs ≡ p (get_or xs i d)
only_one p [] i d h others = absurd (omega arith)
only_one p (x ∷ xs) zero d h others =
    ap (λ b. p x || b) (list_any_none p xs (λ k e l. ap p (get_or_default xs k e d l) ∙ others (suc k) (omega (arith, l)) (λ f. omega (arith, f)))) ∙ or-false (p x)
only_one p (x ∷ xs) (suc i) d h others =
    ap (λ b. b || list_any p xs) (others 0 (omega arith) (λ f. omega (arith, f))) ∙ only_one p xs i d (omega (arith, h)) (λ k l apart. others (suc k) (omega (arith, l)) (λ f. apart (omega (arith, f))))

module _ (queries : List (List Text)) (key : Text) (hash : ℕ) (own : hash ≡ sip_of key) where
  -- an entry that does not compare equal to the key says nothing of it
  says_nothing : (w : ℕ) (at : KeyAt) → IsHashed queries at → (sorted_by queries at ≡ hash ∷ key → ⊥) → says queries key w at ≡ false
  says_nothing w at hashed apart = by (bytes_eq key (text_of queries at)) refl
    where
      by : (b : Bool) → bytes_eq key (text_of queries at) ≡ b → (b && has_query at.holders w) ≡ false
      by false e = refl
      by true e =
          let same : text_of queries at ≡ key = sym ((bytes_eq-Decides key (text_of queries at)).0 e) in
          absurd (apart (λ j. (hashed ∙ ap sip_of same ∙ sym own) j ∷ same j))

  other_hash : (w : ℕ) (keys : List KeyAt) → AllByRecursion (IsHashed queries) keys → AllByRecursion (λ at. at.hash ≡ hash → ⊥) keys → AllByRecursion (λ at. says queries key w at ≡ false) keys
  other_hash w keys hashed apart = all_both (IsHashed queries) (λ at. at.hash ≡ hash → ⊥) (λ at. says queries key w at ≡ false) keys (λ at h a. says_nothing w at h (λ e. a (ap head e))) hashed apart
    where
      head : List ℕ → ℕ
      head [] = 0
      head (n ∷ ns) = n

  -- if no key has the hash, no query holds the key
  pub none_holds : (keys : List KeyAt) → IsIndexOf queries keys → AllByRecursion (λ at. at.hash ≡ hash → ⊥) keys → (w : ℕ) → has_key (get_or queries w []) key ≡ false
  none_holds keys index apart w = sym (index.keys.held key w) ∙ any_none (says queries key w) keys (other_hash w keys index.keys.hashed apart)

  -- what a stretch says of a key is what all keys say
  pub stretch_says : (keys stretch : List KeyAt) → AllByRecursion (IsHashed queries) keys → IsStretch hash keys stretch → (w : ℕ) → list_any (says queries key w) stretch ≡ list_any (says queries key w) keys
  stretch_says keys stretch hashed cut w =
      let p = says queries key w in
      let all : AllByRecursion (IsHashed queries) (cut.front ++ (stretch ++ cut.back)) = subst (AllByRecursion (IsHashed queries)) cut.whole hashed in
      let rest = all_right (IsHashed queries) cut.front (stretch ++ cut.back) all in
      let front = any_none p cut.front (other_hash w cut.front (all_left (IsHashed queries) cut.front (stretch ++ cut.back) all) cut.before) in
      let back = any_none p cut.back (other_hash w cut.back (all_right (IsHashed queries) stretch cut.back rest) cut.behind) in
      sym (ap (list_any p) cut.whole ∙ list_any-append p cut.front (stretch ++ cut.back) ∙ (λ j. front j || (list_any-append p stretch cut.back ∙ ap (λ b. list_any p stretch || b) back ∙ or-false (list_any p stretch)) j))

  -- if the first is another key, those after it say the same as all
  pub says_behind : (keys : List KeyAt) (first : KeyAt) (rest : List KeyAt) → keys ≡ first ∷ rest → AllByRecursion (IsHashed queries) keys → (sorted_by queries first ≡ hash ∷ key → ⊥) → (w : ℕ) → list_any (says queries key w) rest ≡ list_any (says queries key w) keys
  says_behind keys first rest e hashed apart w =
      let all : AllByRecursion (IsHashed queries) (first ∷ rest) = subst (AllByRecursion (IsHashed queries)) e hashed in
      sym (ap (list_any (says queries key w)) e ∙ ap (λ b. b || list_any (says queries key w) rest) (says_nothing w first all.0 apart))

  module _ (keys : List KeyAt) (hashed : AllByRecursion (IsHashed queries) keys) where
    own_hash : (k : ℕ) (d : KeyAt) → k < length keys → IsHashed queries (get_or keys k d)
    own_hash = All-from_recursion (IsHashed queries) keys hashed

    pub says_none : ((k : ℕ) (d : KeyAt) → k < length keys → slice_cmp nat_cmp (sorted_by queries (get_or keys k d)) (hash ∷ key) ≡ Equal → ⊥) → (w : ℕ) → list_any (says queries key w) keys ≡ false
    says_none apart w =
        any_none (says queries key w) keys (recursion_from_All (λ at. says queries key w at ≡ false) keys (λ k d h. says_nothing w (get_or keys k d) (own_hash k d h) (λ e. apart k d h (same_lists_tie (sorted_by queries (get_or keys k d)) (hash ∷ key) e))))

    pub says_found : IsStrictlySortedBy (key_cmp queries) keys → (i : ℕ) (at : KeyAt) → i < length keys → at ≡ get_or keys i at → slice_cmp nat_cmp (sorted_by queries at) (hash ∷ key) ≡ Equal → (w : ℕ) → has_query at.holders w ≡ list_any (says queries key w) keys
    says_found up i at h is tied w =
        let p = says queries key w in
        let same : sorted_by queries at ≡ hash ∷ key = exact_bytes (sorted_by queries at) (hash ∷ key) tied in
        let text : key ≡ text_of queries at = sym (ap tail same) in
        let own_text : p at ≡ has_query at.holders w = ap (λ b. b && has_query at.holders w) ((bytes_eq-Decides key (text_of queries at)).1 text) in
        sym (only_one p keys i at h (others same) ∙ ap p (sym is) ∙ own_text)
      where
        tail : List ℕ → List ℕ
        tail [] = []
        tail (n ∷ ns) = ns

        others : sorted_by queries at ≡ hash ∷ key → (k : ℕ) → k < length keys → (k ≡ i → ⊥) → says queries key w (get_or keys k at) ≡ false
        others same k l apart = says_nothing w (get_or keys k at) (own_hash k at l) (λ e. by (sym (ap (sorted_by queries) (sym is) ∙ same)) e)
          where
            strictly : i ≤ k → (k ≡ i → ⊥) → i < k
            strictly more apart = elim (cases_lt i k) [
              | inl l ↦ l
              | inr m ↦ absurd (apart (omega (arith, more, m)))
            ]

            by : hash ∷ key ≡ sorted_by queries (get_or keys i at) → sorted_by queries (get_or keys k at) ≡ hash ∷ key → ⊥
            by a e = elim (cases_lt k i) [
              | inl less ↦ not_less_itself (sorted_by queries (get_or keys k at)) (sorted_by queries (get_or keys i at)) (e ∙ a) (Less-from_sorted (key_cmp queries) keys k i at up less h)
              | inr more ↦ not_less_itself (sorted_by queries (get_or keys i at)) (sorted_by queries (get_or keys k at)) (sym (e ∙ a)) (Less-from_sorted (key_cmp queries) keys i k at up (strictly more apart) l)
            ]
