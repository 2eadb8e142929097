-- The arrays of a segment, from the columns' sets and the posting lists.
use Rattle.std.proofs.Common.{◌≡◌, refl, ap, sym, ◌∙◌, subst, ℕ, zero, suc, ◌+◌, ◌-◌, ◌<◌, ◌≤◌, ◌^◌, ◌||◌, List, [], ◌∷◌, ◌++◌, Bool, true, false, cond, map, length, get_or, take, arith, eqb as nat_eq}
use Rattle.std.specs.Prelude.{sum_by}
use Rattle.std.specs.List.{All, AllByRecursion, count_by, flat_map, enumerate_from, list_any}
use Rattle.std.proofs.lemmas.Bool.Decides.{nat_tests}
use Rattle.std.proofs.lemmas.List.{get_or-map, length-map, take_more}
use Rattle.std.proofs.lemmas.List.Sums.{sum_by-cons}
use Rattle.lake_model.specs.Texts.{Text}
use Rattle.lake_model.specs.Tables.{Table, distinct, has_key}
use Rattle.lake_model.proofs.SortingLemmas.{all_in_order}
use Rattle.search_model.specs.declared.Owner.{Owner}
use Rattle.search_model.specs.declared.Posting.{Posting}
use Rattle.search_model.specs.declared.TokenAt.{TokenAt}
use Rattle.search_model.specs.Arrays.{all_of, key_of, pointed, starts_of, token_keys, AreArrays, IsAt, IsByKey}
use Rattle.search_model.specs.Segment.{Titled, Token, columns_of, postings_of, segment, token_of, tokens_in, tokens_of}
use Rattle.search_model.proofs.FilterLemmas.{rising}
use Rattle.search_model.proofs.OverlapLemmas.{front, tokens_from, tokens_from-cons}
use Rattle.search_model.proofs.TokenLemmas.{token_cmp_total}
use Rattle.list_laws.proofs.ListLemmas.{all_at}
use Rattle.token_order.specs.Vocabulary.{frequencies_of}
use Rattle.segment_build.specs.Holding.{all_tokens, held_with, sets_for, HasMore}
use Rattle.segment_build.specs.Inverse.{lists_from, sets_in, sums_from, AreFlat, AreSets, IsSet}
use Rattle.segment_build.proofs.HoldLemmas.{starts_ends}
use Rattle.segment_build.proofs.InverseLemmas.{length-lists_from, length-postings, sets_in_is}
use Rattle.segment_core.proofs.ListsLemmas.{length-starts_of}
use Rattle.segment_core.proofs.SegmentLemmas.{columns_counted}
use Rattle.std.proofs.lemmas.Bool.{eq-eqb}

-- ---- sums

starts_sums : {X : Type 0} (n : ℕ) (lists : List (List X)) → starts_of n lists ≡ sums_from n (map (λ l. length l) lists)
starts_sums n [] = refl
starts_sums n (l ∷ lists) = ap (λ (ns : List ℕ). n ∷ ns) (starts_sums (n + length l) lists)

sums_push : (n size : ℕ) (sizes : List ℕ) → sums_from n (sizes ++ size ∷ []) ≡ sums_from n sizes ++ (n + sum_by (λ s. s) sizes + size) ∷ []
sums_push n size [] = let e : n + size ≡ n + 0 + size = omega arith in ap (λ (k : ℕ). n ∷ k ∷ []) e
sums_push n size (s ∷ sizes) =
    let e : n + s + sum_by (λ s. s) sizes + size ≡ n + sum_by (λ s. s) (s ∷ sizes) + size = omega (arith, sum_by-cons (λ (s : ℕ). s) s sizes) in
    ap (λ (ns : List ℕ). n ∷ ns) (sums_push (n + s) size sizes ∙ ap (λ (k : ℕ). sums_from (n + s) sizes ++ k ∷ []) e)

sum-plain : (sizes : List ℕ) → 0 + sum_by (λ n. n) sizes ≡ sum_by (λ n. n) sizes
sum-plain sizes = omega arith

-- one more of the numbers that are summed
pub sums_more : (sizes : List ℕ) (i : ℕ) → i < length sizes → sums_from 0 (take (i + 1) sizes) ≡ sums_from 0 (take i sizes) ++ (sum_by (λ n. n) (take i sizes) + get_or sizes i 0) ∷ []
sums_more sizes i h =
    ap (sums_from 0) (take_more sizes i 0 h) ∙ sums_push 0 (get_or sizes i 0) (take i sizes) ∙ ap (λ (k : ℕ). sums_from 0 (take i sizes) ++ (k + get_or sizes i 0) ∷ []) (sum-plain (take i sizes))

-- ---- a token is in the sets of the columns that hold its key

differ : (a b : ℕ) → b < a → nat_eq a b ≡ false
differ a b h = grind (arith, nat_tests)

differ_below : (a b : ℕ) → a < b → nat_eq a b ≡ false
differ_below a b h = grind (arith, nat_tests)

none_before : (j n : ℕ) (tokens : List Token) (keys : List Text) → j < n → list_any (nat_eq j) (tokens_from n tokens keys) ≡ false
none_before j n [] keys h = refl
none_before j n (token ∷ tokens) keys h = ap (λ (set : List ℕ). list_any (nat_eq j) set) (tokens_from-cons n token tokens keys) ∙ by (has_key keys token.key) (none_before j (n + 1) tokens keys (omega arith))
  where
    by : (b : Bool) → list_any (nat_eq j) (tokens_from (n + 1) tokens keys) ≡ false → list_any (nat_eq j) (front b n (tokens_from (n + 1) tokens keys)) ≡ false
    by true later = ap (λ b. b || list_any (nat_eq j) (tokens_from (n + 1) tokens keys)) (differ_below j n h) ∙ later
    by false later = later

has_from : (n m : ℕ) (tokens : List Token) (keys : List Text) → m < length tokens → list_any (nat_eq (n + m)) (tokens_from n tokens keys) ≡ has_key keys (key_of tokens m)
has_from n m [] keys h = absurd (omega arith)
has_from n zero (token ∷ tokens) keys h =
    ap (λ (set : List ℕ). list_any (nat_eq (n + 0)) set) (tokens_from-cons n token tokens keys) ∙ by (has_key keys token.key) (none_before (n + 0) (n + 1) tokens keys (omega arith))
  where
    by : (b : Bool) → list_any (nat_eq (n + 0)) (tokens_from (n + 1) tokens keys) ≡ false → list_any (nat_eq (n + 0)) (front b n (tokens_from (n + 1) tokens keys)) ≡ b
    by true later = ap (λ b. b || list_any (nat_eq (n + 0)) (tokens_from (n + 1) tokens keys)) (eq-eqb (n + 0) n (omega arith))
    by false later = later
has_from n (suc m) (token ∷ tokens) keys h =
    let e : n + suc m ≡ n + 1 + m = omega arith in
    ap (λ (set : List ℕ). list_any (nat_eq (n + suc m)) set) (tokens_from-cons n token tokens keys)
    ∙ by (has_key keys token.key)
    ∙ ap (λ (k : ℕ). list_any (nat_eq k) (tokens_from (n + 1) tokens keys)) e
    ∙ has_from (n + 1) m tokens keys (omega arith)
  where
    by : (b : Bool) → list_any (nat_eq (n + suc m)) (front b n (tokens_from (n + 1) tokens keys)) ≡ list_any (nat_eq (n + suc m)) (tokens_from (n + 1) tokens keys)
    by true = ap (λ b. b || list_any (nat_eq (n + suc m)) (tokens_from (n + 1) tokens keys)) (differ (n + suc m) n (omega arith))
    by false = refl

has_token : (m : ℕ) (tokens : List Token) (keys : List Text) → m < length tokens → list_any (nat_eq m) (tokens_in tokens keys) ≡ has_key keys (key_of tokens m)
has_token m tokens keys h = let z : m ≡ 0 + m = omega arith in ap (λ (k : ℕ). list_any (nat_eq k) (tokens_in tokens keys)) z ∙ has_from 0 m tokens keys h

count-map : {X Y : Type 0} (p : Y → Bool) (f : X → Y) (xs : List X) → count_by p (map f xs) ≡ count_by (λ x. p (f x)) xs
count-map p f [] = refl
count-map p f (x ∷ xs) = omega (arith, sum_by-cons (λ y. cond (p y) 1 0) (f x) (map f xs), sum_by-cons (λ x. cond (p (f x)) 1 0) x xs, count-map p f xs)

-- ---- a posting list is as long as the token is frequent

abbrev IsCounted : List Titled → Token → Type 0
IsCounted columns t = t.frequency ≡ count_by (λ c. has_key c.column.keys t.key) columns

each_counted : (columns : List Titled) (keys : List Text) → AllByRecursion (IsCounted columns) (map (token_of columns) keys)
each_counted columns [] = tt
each_counted columns (key ∷ keys) = (refl, each_counted columns keys)

all_counted : (columns : List Titled) → AllByRecursion (IsCounted columns) (tokens_of columns)
unfolding tokens_of
all_counted columns = all_in_order token_cmp_total (IsCounted columns) _ (each_counted columns (distinct (flat_map (λ c. c.column.keys) columns)))

pub frequency_at : (columns : List Titled) (m : ℕ) (d : Token) → m < length (tokens_of columns) → length (postings_of (sets_for (tokens_of columns) columns) m) ≡ (get_or (tokens_of columns) m d).frequency
frequency_at columns m d h =
    let tokens = tokens_of columns in
    let set : Titled → List ℕ = λ c. tokens_in tokens c.column.keys in
    let has : Titled → Bool = λ c. list_any (nat_eq m) (set c) in
    let holds : Text → Titled → Bool = λ key c. has_key c.column.keys key in
    let same : (c : Titled) → has c ≡ holds (key_of tokens m) c = λ c. has_token m tokens c.column.keys h in
    let key : key_of tokens m ≡ (get_or tokens m d).key = get_or-map (λ (t : Token). t.key) tokens m d [] h in
    length-postings m (sets_for tokens columns)
    ∙ count-map (λ (s : List ℕ). list_any (nat_eq m) s) set columns
    ∙ (λ i. count_by (λ c. same c i) columns)
    ∙ ap (λ (k : Text). count_by (holds k) columns) key
    ∙ sym (all_at (IsCounted columns) tokens m d (all_counted columns) h)

lengths_from : (sets : List (List ℕ)) (n : ℕ) (tokens : List Token) → ((m : ℕ) (d : Token) → m < length tokens → length (postings_of sets (n + m)) ≡ (get_or tokens m d).frequency)
    → map (λ l. length l) (lists_from sets n (length tokens)) ≡ map (λ t. t.frequency) tokens
lengths_from sets n [] h = refl
lengths_from sets n (t ∷ tokens) h =
    let z : n ≡ n + 0 = omega arith in
    let first : length (postings_of sets n) ≡ t.frequency = ap (λ (k : ℕ). length (postings_of sets k)) z ∙ h 0 t (omega arith) in
    let rest = lengths_from sets (n + 1) tokens (λ m d l. (let e : n + 1 + m ≡ n + suc m = omega arith in ap (λ (k : ℕ). length (postings_of sets k)) e) ∙ h (suc m) d (omega arith)) in
    λ i. first i ∷ rest i

-- ---- the sets are sorted and within bounds

lower : (n : ℕ) (m : ℕ) (set : List ℕ) → n ≤ m → AllByRecursion (λ t. t < n) set → AllByRecursion (λ t. t < m) set
lower n m [] h a = tt
lower n m (t ∷ set) h a = ((let b = a.0 in omega arith), lower n m set h a.1)

below_from : (n : ℕ) (tokens : List Token) (keys : List Text) → AllByRecursion (λ t. t < n + length tokens) (tokens_from n tokens keys)
below_from n [] keys = tt
below_from n (token ∷ tokens) keys =
    subst (λ (set : List ℕ). AllByRecursion (λ t. t < n + length (token ∷ tokens)) set) (sym (tokens_from-cons n token tokens keys))
    (by (has_key keys token.key) (lower (n + 1 + length tokens) (n + length (token ∷ tokens)) (tokens_from (n + 1) tokens keys) (omega arith) (below_from (n + 1) tokens keys)))
  where
    by : (b : Bool) → AllByRecursion (λ t. t < n + length (token ∷ tokens)) (tokens_from (n + 1) tokens keys) → AllByRecursion (λ t. t < n + length (token ∷ tokens)) (front b n (tokens_from (n + 1) tokens keys))
    by true h = (omega arith, h)
    by false h = h

each_set : (tokens : List Token) (columns : List Titled) → AllByRecursion (IsSet (length tokens)) (sets_for tokens columns)
each_set tokens [] = tt
each_set tokens (c ∷ columns) = ((rising tokens c.column.keys, lower (0 + length tokens) (length tokens) _ (omega arith) (below_from 0 tokens c.column.keys)), each_set tokens columns)

-- ---- the arrays

lists_enumerated : (sets : List (List ℕ)) (n : ℕ) (tokens : List Token) → lists_from sets n (length tokens) ≡ map (λ t. postings_of sets t.0) (enumerate_from n tokens)
lists_enumerated sets n [] = refl
lists_enumerated sets n (t ∷ tokens) = ap (λ (ls : List (List Posting)). postings_of sets n ∷ ls) (lists_enumerated sets (n + 1) tokens)

-- what the columns, the tokens and the starts of the lists are, if all belong to the tables
pub record IsMade (tables : List Table) (owners : List Owner) (tokens : List TokenAt) (list_starts set_starts set_tokens : List ℕ) : Type 0 where
  pub more : HasMore (all_tokens tables) (held_with [] (0 ∷ []) []) (held_with owners set_starts set_tokens) (columns_of tables)
  pub named : map (pointed tables) tokens ≡ token_keys (all_tokens tables)
  pub starts : list_starts ≡ sums_from 0 (frequencies_of (all_tokens tables))

pub is_made : (tables : List Table) (owners : List Owner) (tokens : List TokenAt) (list_starts set_starts set_tokens : List ℕ) (held given : List Table) (frequencies counted : List ℕ) → held ≡ tables → given ≡ tables → counted ≡ frequencies
    → HasMore (all_tokens given) (held_with [] (0 ∷ []) []) (held_with owners set_starts set_tokens) (columns_of given) → map (pointed held) tokens ≡ token_keys (all_tokens held) → frequencies ≡ frequencies_of (all_tokens held) → list_starts ≡ sums_from 0 counted
    → IsMade tables owners tokens list_starts set_starts set_tokens
is_made tables owners tokens list_starts set_starts set_tokens held given frequencies counted e f g more named frequent starts =
    record {
      more = subst (λ (ts : List Table). HasMore (all_tokens ts) (held_with [] (0 ∷ []) []) (held_with owners set_starts set_tokens) (columns_of ts)) f more;
      named = subst (λ (ts : List Table). map (pointed ts) tokens ≡ token_keys (all_tokens ts)) e named;
      starts = starts ∙ ap (sums_from 0) (g ∙ frequent ∙ ap (λ (ts : List Table). frequencies_of (all_tokens ts)) e);
    }

module _ (tables : List Table) (owners : List Owner) (tokens : List TokenAt) (list_starts set_starts set_tokens : List ℕ) (made : IsMade tables owners tokens list_starts set_starts set_tokens) where
  abbrev sets : List (List ℕ)
  sets = sets_for (all_tokens tables) (columns_of tables)

  set_bounds : set_starts ≡ starts_of 0 sets
  set_bounds = made.more.bounds ∙ starts_ends 0 sets

  pub sets_are : sets_in set_starts set_tokens ≡ sets
  sets_are = (λ i. sets_in (set_bounds i) (made.more.held i)) ∙ sets_in_is sets

  list_bounds : list_starts ≡ starts_of 0 (lists_from sets 0 (length (all_tokens tables)))
  list_bounds =
      let lists = lists_from sets 0 (length (all_tokens tables)) in
      let lengths : map (λ l. length l) lists ≡ map (λ t. t.frequency) (all_tokens tables) =
      lengths_from sets 0 (all_tokens tables) (λ m d h. (let z : 0 + m ≡ m = omega arith in ap (λ (k : ℕ). length (postings_of sets k)) z) ∙ frequency_at (columns_of tables) m d h) in
      made.starts
      ∙ ap (sums_from 0) (sym lengths)
      ∙ sym (starts_sums 0 lists)

  pub one_more : length list_starts ≡ length (all_tokens tables) + 1
  one_more = ap length list_bounds ∙ length-starts_of 0 (lists_from sets 0 (length (all_tokens tables))) ∙ ap (λ (n : ℕ). n + 1) (length-lists_from sets 0 (length (all_tokens tables)))

  counted : length (all_tokens tables) ≡ length list_starts - 1
  counted = omega (arith, one_more)

  pub bounds_ready : list_starts ≡ starts_of 0 (lists_from (sets_in set_starts set_tokens) 0 (length list_starts - 1))
  bounds_ready = list_bounds ∙ (λ i. starts_of 0 (lists_from (sym sets_are i) 0 (counted i)))

  pub sets_ready : AreSets (length list_starts - 1) (sets_in set_starts set_tokens) set_starts set_tokens
  sets_ready =
      let flat : AreFlat sets set_starts set_tokens = record { bounds = set_bounds; held = made.more.held } in
      let are : AreSets (length (all_tokens tables)) sets set_starts set_tokens = record { lists = flat; each = each_set (all_tokens tables) (columns_of tables) } in
      subst (λ (n : ℕ). AreSets n (sets_in set_starts set_tokens) set_starts set_tokens) counted (subst (λ (ls : List (List ℕ)). AreSets (length (all_tokens tables)) ls set_starts set_tokens) (sym sets_are) are)

  pub length-sets : length (sets_in set_starts set_tokens) ≡ sum_by (λ t. length t.columns) tables
  length-sets = ap length sets_are ∙ length-map (columns_of tables) (λ (c : Titled). tokens_in (all_tokens tables) c.column.keys) ∙ columns_counted tables

  pub arrays : (by_key : List ℕ) (postings : List Posting) → All (IsAt tables) tokens → IsByKey (all_tokens tables) by_key → sum_by (λ t. length t.columns) tables < 2 ^ 32 → length tokens < 2 ^ 32
      → postings ≡ all_of (lists_from (sets_in set_starts set_tokens) 0 (length list_starts - 1)) → AreArrays tables owners tokens by_key list_starts postings set_starts set_tokens
  unfolding segment
  arrays by_key postings within sorted small few posted =
      let lists_are : lists_from sets 0 (length (all_tokens tables)) ≡ map (λ t. postings_of sets t.0) (enumerate_from 0 (all_tokens tables)) = lists_enumerated sets 0 (all_tokens tables) in
      record {
        owned = made.more.owned;
        named = made.named;
        within = within;
        sorted = sorted;
        list_bounds = list_bounds ∙ ap (starts_of 0) lists_are;
        posted = posted ∙ (λ i. all_of (lists_from (sets_are i) 0 (sym counted i))) ∙ ap all_of lists_are;
        set_bounds = set_bounds;
        held = made.more.held;
        small = omega (arith, columns_counted tables, small);
        few = few;
      }
