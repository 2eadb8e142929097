-- The tokens in the order of the hashes of their keys: how they are sorted, and what a search among them finds.
use Rattle.std.proofs.Common.{◌≡◌, refl, ap, sym, ◌∙◌, subst, inl, inr, ℕ, suc, ◌+◌, ◌-◌, ◌<◌, ◌≤◌, List, [], ◌∷◌, Bool, true, false, map, length, get_or, drop, Option, Some, None, arith}
use Rattle.std.specs.Prelude.{IfNone, IfSome, bytes_eq}
use Rattle.std.specs.Cmp.{nat_cmp_is}
use Rattle.std.specs.Cmp.Lexicographic.{slice_cmp}
use Rattle.std.specs.List.{list_any, enumerate_from, slice_range, All}
use Rattle.std.specs.List.Sorted.{IsNonDecreasingBy, IsPermutation, IsSortedByKey}
use Rattle.std.specs.Ordering.{is_eq, is_lt, nat_cmp, ordering_index}
use Rattle.std.specs.declared.cmp.Ordering.{Ordering}
use Rattle.std.specs.declared.cmp.Ordering.TheVariants.{Less, Equal, Greater}
use Rattle.std.proofs.lemmas.Bool.{cases_lt}
use Rattle.std.proofs.lemmas.Cmp.{nat_list_cmp_total}
use Rattle.std.proofs.lemmas.List.{get_or_default, get_or-drop, get_or-map, get_or-take, length-drop, length-map, length-take}
use Rattle.std.proofs.lemmas.List.Elements.{All-from_recursion}
use Rattle.std.proofs.lemmas.List.Folds.{list_any_at, list_any_none}
use Rattle.std.proofs.lemmas.List.FromFn.{get_or-enumerate_from, length-enumerate_from}
use Rattle.std.proofs.lemmas.List.Sorted.{length_permutation, ranks_by, searchable_from_sorted, sorted_far, All-permutation, IsNonDecreasingBy-drop, IsNonDecreasingBy-take, IsPermutation-map, IsPermutation-sym}
use Rattle.std.proofs.lemmas.Map.Lookups.{exact_bytes}
use Rattle.std.proofs.lemmas.Map.Text.{is_eq-slice_cmp}
use Rattle.std.proofs.lemmas.Slice.Eq.{bytes_eq-Decides}
use Rattle.lake_model.specs.Texts.{Text}
use Rattle.lake_model.specs.Tables.{Table}
use Rattle.search_model.specs.Segment.{Token, segment}
use Rattle.search_model.specs.Arrays.{key_of, numbers_of, token_with, IsToken}
use Rattle.hash_directory.specs.Buckets.{FilterOf, may_have, AreIn, IsNear}
use Rattle.text_region.specs.Spans.{text_at, KeepsSpans}
use Rattle.text_region.specs.Written.{Written}
use Rattle.segment_core.specs.Hashes.{KeyedToken, all_keyed, entry_hash, hash_of, keyed_at, keyed_from, keyed_in, sorted_by, token_hash, token_number, AreInOrder, AreKeyed, AreKeyedTokens, IsByHash, IsHashed, IsSplit, IsSplitIn}
use Rattle.segment_core.specs.declared.hashes.HashedToken.{HashedToken}
use Rattle.search_model.proofs.RankLemmas.{first_late}

-- ---- the tokens' numbers

pub length-numbers : (tokens : List Token) → length (numbers_of tokens) ≡ length tokens
length-numbers tokens = length-map (enumerate_from 0 tokens) (λ (t : ℕ × Token). t.0) ∙ length-enumerate_from 0 tokens

pub number_at : (tokens : List Token) (k d : ℕ) → k < length tokens → get_or (numbers_of tokens) k d ≡ k
number_at tokens k d h =
    let b : k < length (enumerate_from 0 tokens) = omega (arith, length-enumerate_from 0 tokens) in
    let z : 0 + k ≡ k = omega arith in
    get_or-map (λ (t : ℕ × Token). t.0) (enumerate_from 0 tokens) k (0, token_with [] 0) d b ∙ ap (λ (t : ℕ × Token). t.0) (get_or-enumerate_from 0 tokens k (0, token_with [] 0) h) ∙ z

-- what holds of each of the numbers, in any order, holds of each token
each_token : (tokens : List Token) (numbers : List ℕ) (P : ℕ → Type 0) → IsPermutation (numbers_of tokens) numbers → All P numbers → (n : ℕ) → n < length tokens → P n
each_token tokens numbers P same all n h =
    subst P (number_at tokens n 0 h) (All-permutation P numbers (numbers_of tokens) (IsPermutation-sym (numbers_of tokens) numbers same) all n 0 (omega (arith, length-numbers tokens)))

-- no token has the key
pub none_of : (tokens : List Token) (key : Text) → ((n : ℕ) → n < length tokens → key_of tokens n ≡ key → ⊥) → list_any (λ t. bytes_eq t.key key) tokens ≡ false
none_of tokens key apart = list_any_none (λ t. bytes_eq t.key key) tokens (λ k d h. by k d h (bytes_eq (get_or tokens k d).key key) refl)
  where
    by : (k : ℕ) (d : Token) → k < length tokens → (b : Bool) → bytes_eq (get_or tokens k d).key key ≡ b → b ≡ false
    by k d h false e = refl
    by k d h true e = absurd (apart k h (get_or-map (λ (t : Token). t.key) tokens k d [] h ∙ (bytes_eq-Decides (get_or tokens k d).key key).0 e))

-- ---- tokens whose keys are in a region

abbrev pub blank : KeyedToken
blank = keyed_from 0 0 []

abbrev pub no_entry : HashedToken
no_entry = record { hash = 0; token = 0; key = record { start = 0; len = 0 } }

pub hashes_same : (keys : Written) (entries : List HashedToken) → map token_hash (all_keyed keys entries) ≡ map entry_hash entries
hashes_same keys [] = refl
hashes_same keys (entry ∷ entries) = ap (λ (hs : List ℕ). entry.hash ∷ hs) (hashes_same keys entries)

module _ (keys : Written) (entries : List HashedToken) where
  pub length-keyed : length (all_keyed keys entries) ≡ length entries
  length-keyed = length-map entries (keyed_in keys)

  pub keyed_there : (i : ℕ) (d : HashedToken) → i < length entries → keyed_at (all_keyed keys entries) i ≡ keyed_in keys (get_or entries i d)
  keyed_there i d h = get_or-map (keyed_in keys) entries i d blank h

  -- what holds of each entry with its key
  pub each_keyed : (P : KeyedToken → Type 0) → ((k : ℕ) → k < length entries → P (keyed_in keys (get_or entries k no_entry))) → All P (all_keyed keys entries)
  each_keyed P all k d h =
      let b : k < length entries = omega (arith, h, length-keyed) in
      subst P (sym (get_or-map (keyed_in keys) entries k no_entry d b)) (all k b)

  pub sorted_keyed : IsSortedByKey (λ entry. sorted_by (keyed_in keys entry)) (slice_cmp nat_cmp) entries → IsSortedByKey sorted_by (slice_cmp nat_cmp) (all_keyed keys entries)
  sorted_keyed up k d a b =
      let h : k + 1 < length entries = omega (arith, b, length-keyed) in
      let here = get_or-map (keyed_in keys) entries k no_entry d (omega (arith, h)) in
      let next = get_or-map (keyed_in keys) entries (k + 1) no_entry d h in
      (λ j. is_lt (slice_cmp nat_cmp (sorted_by (next j)) (sorted_by (here j)))) ∙ up k no_entry a h

  sorted_entries : IsSortedByKey sorted_by (slice_cmp nat_cmp) (all_keyed keys entries) → IsSortedByKey (λ entry. sorted_by (keyed_in keys entry)) (slice_cmp nat_cmp) entries
  sorted_entries up k d a h =
      let b : k + 1 < length (all_keyed keys entries) = omega (arith, h, length-keyed) in
      let here = get_or-map (keyed_in keys) entries k d blank (omega (arith, h)) in
      let next = get_or-map (keyed_in keys) entries (k + 1) d blank h in
      (λ j. is_lt (slice_cmp nat_cmp (sorted_by (sym next j)) (sorted_by (sym here j)))) ∙ up k blank a b

-- texts that stay where they are
pub keyed_kept : (old new : Written) (entries : List HashedToken) → KeepsSpans old new → AreKeyed old entries → all_keyed new entries ≡ all_keyed old entries
keyed_kept old new [] kept spans = refl
keyed_kept old new (entry ∷ entries) kept spans =
    let text : text_at new entry.key ≡ text_at old entry.key = (kept entry.key (spans 0 entry (omega arith))).1 in
    let rest = keyed_kept old new entries kept (λ k d h. spans (suc k) d (omega (arith, h))) in
    (λ j. keyed_from entry.hash entry.token (text j) ∷ rest j)

pub spans_kept : (old new : Written) (entries : List HashedToken) → KeepsSpans old new → AreKeyed old entries → AreKeyed new entries
spans_kept old new entries kept spans k d h = (kept (get_or entries k d).key (spans k d h)).0

-- ---- sorting

-- the tokens with their hashes, sorted
pub in_order_of : (keyed sorted : List KeyedToken) → All (λ entry. entry.hash ≡ hash_of entry.key) keyed → IsPermutation keyed sorted → IsSortedByKey sorted_by (slice_cmp nat_cmp) sorted → AreInOrder sorted
in_order_of keyed sorted hashes same up = record { hashes = All-permutation (λ entry. entry.hash ≡ hash_of entry.key) keyed sorted same hashes; rising = up }

pub by_hash_of : (tables : List Table) (keyed sorted : List KeyedToken) → AreKeyedTokens tables keyed → IsPermutation keyed sorted → IsByHash tables sorted
by_hash_of tables keyed sorted are same = record {
  hashed = All-permutation (IsHashed tables) keyed sorted same are.hashed;
  same = subst (λ (ns : List ℕ). IsPermutation ns (map token_number sorted)) are.numbers (IsPermutation-map token_number keyed sorted same);
}

pub by_hash_count : (tables : List Table) (order : List KeyedToken) → IsByHash tables order → length order ≡ length (segment tables).tokens
by_hash_count tables order is = omega (arith, length_permutation (numbers_of (segment tables).tokens) (map token_number order) is.same, length-map order token_number, length-numbers (segment tables).tokens)

-- ---- what the order says

abbrev first_of : List ℕ → ℕ
first_of [] = 0
first_of (n ∷ ns) = n

abbrev behind : List ℕ → List ℕ
behind [] = []
behind (n ∷ ns) = ns

not_more : (a b : ℕ) → is_lt (nat_cmp b a) ≡ false → a ≤ b
not_more a b e = elim (cases_lt b a) [
  | inl l ↦ absurd (let f : true ≡ false = ap is_lt (nat_cmp_is b a Less l) ∙ e in cc)
  | inr m ↦ m
]

order_rises : (order : List KeyedToken) → AreInOrder order → IsNonDecreasingBy token_hash order
order_rises order is i j d l m =
    let x = get_or order i d in
    let y = get_or order j d in
    let far = sorted_far (λ x y. is_lt (slice_cmp nat_cmp (sorted_by x) (sorted_by y))) (ranks_by nat_list_cmp_total sorted_by) order is.rising i j d l m in
    not_more x.hash y.hash (first_late (nat_cmp y.hash x.hash) (slice_cmp nat_cmp y.key x.key) far)

pub hashes_rise : (order : List KeyedToken) → AreInOrder order → IsNonDecreasingBy (λ (n : ℕ). n) (map token_hash order)
hashes_rise order is i j d l m =
    let b : j < length order = omega (arith, m, length-map order token_hash) in
    omega (arith, order_rises order is i j blank l b, get_or-map token_hash order i blank d (omega (arith, l, b)), get_or-map token_hash order j blank d b)

pub entries_rise : (keys : Written) (entries : List HashedToken) → AreInOrder (all_keyed keys entries) → IsNonDecreasingBy entry_hash entries
entries_rise keys entries is i j d l m =
    let b : j < length (all_keyed keys entries) = omega (arith, m, length-keyed keys entries) in
    omega (arith, order_rises (all_keyed keys entries) is i j blank l b, ap token_hash (keyed_there keys entries i d (omega (arith, l, m))), ap token_hash (keyed_there keys entries j d m))

module _ (tables : List Table) (order : List KeyedToken) (is : IsByHash tables order) where
  abbrev tokens : List Token
  tokens = (segment tables).tokens

  -- what holds of each of these tokens holds of each token
  each_hashed : (P : ℕ → Type 0) → All (λ entry. P entry.token) order → (n : ℕ) → n < length tokens → P n
  each_hashed P all = each_token tokens (map token_number order) P is.same (λ k d h.
      (let b : k < length order = omega (arith, h, length-map order token_number) in subst P (sym (get_or-map token_number order k blank d b)) (all k blank b)))

  -- no token has the key
  pub lacks_key : (key : Text) → All (λ entry. entry.key ≡ key → ⊥) order → IsToken tokens key None
  lacks_key key apart = none_of tokens key (each_hashed (λ n. key_of tokens n ≡ key → ⊥) (λ k d h e. apart k d h ((is.hashed k d h).key ∙ e)))

  -- none of the hashes is that of the key, so no token has it
  pub lacks_hash : (hash : ℕ) (key : Text) → hash ≡ hash_of key → All (λ entry. hash_of entry.key ≡ hash → ⊥) order → IsToken tokens key None
  lacks_hash hash key own apart = lacks_key key (λ k d h e. apart k d h (ap hash_of e ∙ sym own))

  -- the token at an index has the key
  pub has_key_at : (at : ℕ) (key : Text) → at < length order → (keyed_at order at).key ≡ key → IsToken tokens key (Some (keyed_at order at).token)
  has_key_at at key h e = let here = is.hashed at blank h in (here.there, sym here.key ∙ e)

  -- what a search by hash and key gives
  pub searched : (hash : ℕ) (key : Text) (found : Option ℕ) → IfSome found (λ token. (at : ℕ) × (at < length order) × (keyed_at order at ≡ keyed_from hash token key)) → IfNone found (All (λ entry. entry.key ≡ key → ⊥) order)
      → IsToken tokens key found
  searched hash key None some none = lacks_key key none
  searched hash key (Some token) (at, h, e) none = subst (λ (n : ℕ). IsToken tokens key (Some n)) (ap token_number e) (has_key_at at key h (ap (λ (t : KeyedToken). t.key) e))

-- ---- a search by hash and key

module _ (keys : Written) (entries : List HashedToken) (is : AreInOrder (all_keyed keys entries)) (hash : ℕ) (key : Text) where
  abbrev pub compare : HashedToken → Ordering
  compare entry = slice_cmp nat_cmp (sorted_by (keyed_in keys entry)) (hash ∷ key)

  pub rising : IsNonDecreasingBy (λ entry. ordering_index (compare entry)) entries
  rising = searchable_from_sorted nat_list_cmp_total (λ entry. sorted_by (keyed_in keys entry)) entries (hash ∷ key) (sorted_entries keys entries is.rising)

  pub found : (at : ℕ) → at < length entries → compare (get_or entries at no_entry) ≡ Equal → keyed_at (all_keyed keys entries) at ≡ keyed_from hash (get_or entries at no_entry).token key
  found at h same =
      let entry = get_or entries at no_entry in
      let whole = exact_bytes (sorted_by (keyed_in keys entry)) (hash ∷ key) same in
      keyed_there keys entries at no_entry h ∙ (λ j. keyed_from (first_of (whole j)) entry.token (behind (whole j)))

  differs : hash ≡ hash_of key → (k : ℕ) → k < length entries → is_eq (compare (get_or entries k no_entry)) ≡ false → text_at keys (get_or entries k no_entry).key ≡ key → ⊥
  differs same_hash k h e same =
      let entry = get_or entries k no_entry in
      let there = keyed_there keys entries k no_entry h in
      let own : entry.hash ≡ hash = ap token_hash (sym there) ∙ is.hashes k blank (omega (arith, h, length-keyed keys entries)) ∙ ap (λ (t : KeyedToken). hash_of t.key) there ∙ ap hash_of same ∙ sym same_hash in
      let whole : sorted_by (keyed_in keys entry) ≡ (hash ∷ key) = (λ i. own i ∷ same i) in
      let yes : bytes_eq (sorted_by (keyed_in keys entry)) (hash ∷ key) ≡ true = (bytes_eq-Decides (sorted_by (keyed_in keys entry)) (hash ∷ key)).1 whole in
      let not_equal : bytes_eq (sorted_by (keyed_in keys entry)) (hash ∷ key) ≡ false = sym (is_eq-slice_cmp (sorted_by (keyed_in keys entry)) (hash ∷ key)) ∙ e in
      let wrong : true ≡ false = sym yes ∙ not_equal in
      cc

  pub none : hash ≡ hash_of key → (at : ℕ) → ((k : ℕ) (d : HashedToken) → k < at → compare (get_or entries k d) ≡ Less) → ((k : ℕ) (d : HashedToken) → at ≤ k → k < length entries → compare (get_or entries k d) ≡ Greater)
      → All (λ entry. entry.key ≡ key → ⊥) (all_keyed keys entries)
  none same_hash at less greater = each_keyed keys entries (λ entry. entry.key ≡ key → ⊥) (λ k h. elim (cases_lt k at) [
    | inl l ↦ differs same_hash k h (ap is_eq (less k no_entry l))
    | inr g ↦ differs same_hash k h (ap is_eq (greater k no_entry g h))
  ])

-- ---- the first that has a hash

pub rise_in : (order : List HashedToken) (from to : ℕ) → IsNonDecreasingBy entry_hash order → IsNonDecreasingBy entry_hash (slice_range order from to)
rise_in order from to up = IsNonDecreasingBy-take entry_hash (to - from) (drop from order) (IsNonDecreasingBy-drop entry_hash from order up)

-- nothing has a hash that is not at the index where it would have to be
pub none_from : (order : List HashedToken) (hash at : ℕ) → IsNonDecreasingBy entry_hash order → IsSplit order hash at → ((d : HashedToken) → at < length order → (get_or order at d).hash ≡ hash → ⊥) → All (λ entry. entry.hash ≡ hash → ⊥) order
none_from order hash at up split apart k d h e = elim (cases_lt k at) [
  | inl l ↦ (let low = split.lower k d l h in omega (arith, low, e))
  | inr g ↦
      let there : at < length order = omega (arith, g, h) in
      let high = split.others at d (omega arith) there in
      apart d there (omega (arith, high, up at k d g h, e))
]

-- one more hash is counted
module _ (entries : List HashedToken) (hash at i : ℕ) (up : IsNonDecreasingBy entry_hash entries) (within : i < length entries) (split : IsSplitIn i entries hash at) where
  pub one_lower : (get_or entries i no_entry).hash < hash → IsSplitIn (i + 1) entries hash (at + 1)
  one_lower h = record {
    within = omega (arith, split.within);
    lower = λ k d l m. elim (cases_lt k at) [
      | inl b ↦ split.lower k d b (omega (arith, b, split.within))
      | inr g ↦ (let same : k ≡ i = omega (arith, all_lower, g, l) in omega (arith, ap (λ (n : ℕ). (get_or entries n d).hash) same, ap entry_hash (get_or_default entries i no_entry d within), h))
    ];
    others = λ k d l m. absurd (omega (arith, all_lower, l, m));
  }
    where
      -- a hash before it that is not lower would be greater
      all_lower : at ≡ i
      all_lower = elim (cases_lt at i) [
        | inl b ↦ absurd (omega (arith, split.others at no_entry (omega arith) b, up at i no_entry (omega (arith, b)) within, h))
        | inr g ↦ omega (arith, split.within, g)
      ]

  pub none_lower : hash ≤ (get_or entries i no_entry).hash → IsSplitIn (i + 1) entries hash at
  none_lower h = record {
    within = omega (arith, split.within);
    lower = λ k d l m. split.lower k d l (omega (arith, l, split.within));
    others = λ k d l m. elim (cases_lt k i) [
      | inl b ↦ split.others k d l b
      | inr g ↦ (let same : k ≡ i = omega (arith, g, m) in omega (arith, ap (λ (n : ℕ). (get_or entries n d).hash) same, ap entry_hash (get_or_default entries i no_entry d within), h))
    ];
  }

-- ---- the range that a directory gives

-- none of the tokens has the hash if none of those near it has
pub none_near : (order : List HashedToken) (hash from to : ℕ) → IsNear (map entry_hash order) hash from to → All (λ entry. entry.hash ≡ hash → ⊥) (slice_range order from to) → All (λ entry. entry.hash ≡ hash → ⊥) order
none_near order hash from to near apart k d h e =
    let long = length-map order entry_hash in
    let here : get_or (map entry_hash order) k 0 ≡ hash = get_or-map entry_hash order k d 0 h ∙ e in
    elim (cases_lt k from) [
      | inl l ↦ near.before k 0 l here
      | inr m ↦ elim (cases_lt k to) [
        | inl l ↦
            let back : from + (k - from) ≡ k = omega (arith, m) in
            let within : k - from < length (slice_range order from to) = omega (arith, length-take (to - from) (drop from order), length-drop from order, near.within, long, l, m) in
            let there : get_or (slice_range order from to) (k - from) d ≡ get_or order k d =
            get_or-take (to - from) (drop from order) (k - from) d (omega (arith, l, m)) ∙ get_or-drop from order (k - from) d ∙ ap (λ (n : ℕ). get_or order n d) back in
            apart (k - from) d within (ap entry_hash there ∙ e)
        | inr n ↦ near.behind k 0 n (omega (arith, h, long)) here
      ]
    ]

-- none of the tokens has the hash if the first near it that could have it has another
pub none_at : (keys : Written) (entries : List HashedToken) (hash from to at : ℕ) → AreInOrder (all_keyed keys entries) → IsNear (map token_hash (all_keyed keys entries)) hash from to → IsSplit (slice_range entries from to) hash at
    → ((d : HashedToken) → from + at < to → (get_or entries (from + at) d).hash ≡ hash → ⊥) → All (λ entry. hash_of entry.key ≡ hash → ⊥) (all_keyed keys entries)
none_at keys entries hash from to at is near split apart =
    let close = subst (λ (hs : List ℕ). IsNear hs hash from to) (hashes_same keys entries) near in
    let long : length (slice_range entries from to) ≤ to - from = omega (arith, length-take (to - from) (drop from entries)) in
    let other = none_near entries hash from to close (none_from (slice_range entries from to) hash at (rise_in entries from to (entries_rise keys entries is)) split (λ d h e. apart d (omega (arith, h, long))
    (ap entry_hash (sym (get_or-take (to - from) (drop from entries) at d (omega (arith, h, long)) ∙ get_or-drop from entries at d)) ∙ e))) in
    each_keyed keys entries (λ entry. hash_of entry.key ≡ hash → ⊥) (λ k h e.
    (let there = keyed_there keys entries k no_entry h in
    let own = is.hashes k blank (omega (arith, h, length-keyed keys entries)) in
    other k no_entry h (ap token_hash (sym there) ∙ own ∙ ap (λ (t : KeyedToken). hash_of t.key) there ∙ e)))

-- no key has a hash that the filter denies
pub denied : (keys : Written) (entries : List HashedToken) (filter : FilterOf) (hashes : List ℕ) → AreInOrder (all_keyed keys entries) → AreIn filter (map entry_hash entries) → list_any (may_have filter) hashes ≡ false
    → All (λ hash. All (λ entry. hash_of entry.key ≡ hash → ⊥) (all_keyed keys entries)) hashes
denied keys entries filter hashes is are none k d h i e l same =
    let b : i < length entries = omega (arith, l, length-keyed keys entries) in
    let entry : get_or (all_keyed keys entries) i e ≡ keyed_in keys (get_or entries i no_entry) = get_or-map (keyed_in keys) entries i no_entry e b in
    let own : entry_hash (get_or entries i no_entry) ≡ get_or hashes k d = ap token_hash (sym entry) ∙ is.hashes i e l ∙ same in
    let there : may_have filter (get_or (map entry_hash entries) i 0) ≡ true = All-from_recursion (λ hash. may_have filter hash ≡ true) (map entry_hash entries) are i 0 (omega (arith, b, length-map entries entry_hash)) in
    let passes : may_have filter (get_or hashes k d) ≡ true = ap (may_have filter) (sym own ∙ sym (get_or-map entry_hash entries i no_entry 0 b)) ∙ there in
    let wrong : true ≡ false = sym (list_any_at (may_have filter) hashes k d h passes) ∙ none in
    cc
