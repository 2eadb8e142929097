-- The entries of tokens, written while the members are walked: one more member, and at the end all tokens.
use Rattle.std.proofs.Common.{◌≡◌, refl, ap, sym, ◌∙◌, subst, inl, inr, ℕ, suc, ◌+◌, ◌<◌, List, [], ◌∷◌, Bool, true, false, ◌||◌, map, length, get_or, replicate, set, arith}
use Rattle.std.specs.Prelude.{bytes_eq}
use Rattle.std.specs.List.{flat_map, list_any}
use Rattle.std.proofs.lemmas.Bool.{cases_eq, cases_lt}
use Rattle.std.proofs.lemmas.List.{ext_get_or, get_or-map, get_or-replicate, get_or-set_other, get_or-set_same, length-map, length-replicate, length-set}
use Rattle.std.proofs.lemmas.List.Folds.{list_any_at}
use Rattle.std.proofs.lemmas.List.Sorted.{list_any-IsPermutation, IsPermutation-map}
use Rattle.std.proofs.lemmas.Map.Keys.{apart_from_distinct}
use Rattle.std.proofs.lemmas.Slice.Eq.{bytes_eq-Decides}
use Rattle.lake_model.specs.Texts.{Text}
use Rattle.lake_model.specs.Tables.{Table, distinct}
use Rattle.lake_model.proofs.DistinctLemmas.{distinct_keeps}
use Rattle.lake_model.proofs.SortingLemmas.{in_order_moves}
use Rattle.search_model.specs.Arrays.{key_of, numbers_of}
use Rattle.search_model.specs.Segment.{Titled, Token, columns_of, segment, token_cmp, token_of, tokens_of}
use Rattle.search_model.proofs.TokenLemmas.{itself, keys_back}
use Rattle.segment_core.specs.Hashes.{KeyedToken, all_keyed, hash_of, keyed_from, keyed_in, token_number, AreKeyedTokens, IsHashed}
use Rattle.segment_core.specs.declared.hashes.HashedToken.{HashedToken}
use Rattle.segment_core.proofs.HashLemmas.{each_keyed, length-keyed, length-numbers, no_entry, number_at}
use Rattle.segment_build.specs.Hashing.{token_keyed, AreHashed, IsMet}
use Rattle.segment_build.specs.Holding.{all_tokens}
use Rattle.segment_build.proofs.HoldLemmas.{tokens_apart}
use Rattle.text_region.specs.Spans.{IsSpan, KeepsSpans}
use Rattle.text_region.specs.Written.{Written}
use Rattle.token_order.specs.Places.{keys_of}
use Rattle.token_order.proofs.PlaceLemmas.{keys_of_columns}

-- ---- each token has a member

abbrev IsAmong : Text → List Text → Type 0
IsAmong key keys = (i : ℕ) × (i < length keys) × (get_or keys i [] ≡ key)

find_here : (key first : Text) (keys : List Text) (b : Bool) → bytes_eq key first ≡ b → (b || list_any (bytes_eq key) keys) ≡ true → (list_any (bytes_eq key) keys ≡ true → IsAmong key keys) → IsAmong key (first ∷ keys)
find_here key first keys true e h rest = (0, omega arith, sym ((bytes_eq-Decides key first).0 e))
find_here key first keys false e h rest = let r = rest h in (suc r.0, omega (arith, r.1), r.2)

find_at : (key : Text) (keys : List Text) → list_any (bytes_eq key) keys ≡ true → IsAmong key keys
find_at key [] h = cc
find_at key (first ∷ keys) h = find_here key first keys (bytes_eq key first) refl h (find_at key keys)

-- the keys of the tokens are those of the columns
tokens_held : (columns : List Titled) (key : Text) → list_any (bytes_eq key) (map (λ t. t.key) (tokens_of columns)) ≡ list_any (bytes_eq key) (flat_map (λ c. c.column.keys) columns)
unfolding tokens_of
tokens_held columns key =
    let all = flat_map (λ (c : Titled). c.column.keys) columns in
    let made = map (token_of columns) (distinct all) in
    let name : Token → Text = λ t. t.key in
    sym (list_any-IsPermutation (bytes_eq key) _ _ (IsPermutation-map name _ _ (in_order_moves token_cmp made)))
    ∙ ap (list_any (bytes_eq key)) (keys_back columns (distinct all))
    ∙ distinct_keeps all key

token_held : (tables : List Table) (k : ℕ) → k < length (all_tokens tables) → IsAmong (key_of (all_tokens tables) k) (keys_of tables)
token_held tables k h =
    let tokens = all_tokens tables in
    let key = key_of tokens k in
    let within : k < length (map (λ (t : Token). t.key) tokens) = omega (arith, h, length-map tokens (λ (t : Token). t.key)) in
    find_at key (keys_of tables) (ap (list_any (bytes_eq key)) (sym (keys_of_columns tables)) ∙ sym (tokens_held (columns_of tables) key) ∙ list_any_at (bytes_eq key) (map (λ (t : Token). t.key) tokens) k [] within (itself key))

-- no two tokens have the same key
apart : (tables : List Table) (s t : ℕ) → s < t → t < length (all_tokens tables) → key_of (all_tokens tables) s ≡ key_of (all_tokens tables) t → ⊥
apart tables s t l h e =
    let keys = map (λ (t : Token). t.key) (all_tokens tables) in
    let differ = apart_from_distinct bytes_eq keys s t [] (tokens_apart tables) l (omega (arith, h, length-map (all_tokens tables) (λ (t : Token). t.key))) in
    let same : bytes_eq (get_or keys s []) (get_or keys t []) ≡ true = (bytes_eq-Decides (get_or keys s []) (get_or keys t [])).1 e in
    let wrong : true ≡ false = sym same ∙ differ in
    cc

one_token : (tables : List Table) (s t : ℕ) → s < length (all_tokens tables) → t < length (all_tokens tables) → key_of (all_tokens tables) s ≡ key_of (all_tokens tables) t → s ≡ t
one_token tables s t a b e = elim (cases_lt s t) [
  | inl l ↦ absurd (apart tables s t l b e)
  | inr m ↦ elim (cases_lt t s) [
    | inl l ↦ absurd (apart tables t s l a (sym e))
    | inr n ↦ omega (arith, m, n)
  ]
]

-- ---- one more member

module _ (tables : List Table) (keys : Written) (entries : List HashedToken) (count token : ℕ) (key : Text) (hashed : AreHashed tables keys entries count) (there : token < length (all_tokens tables)) (named : key_of (all_tokens tables) token ≡ key)
    (member : get_or (keys_of tables) count [] ≡ key) where
  -- whose token's entry was written before
  pub met_again : ((d : HashedToken) → (get_or entries token d).token ≡ token) → AreHashed tables keys entries (count + 1)
  met_again written = record {
    long = hashed.long;
    spans = hashed.spans;
    right = hashed.right;
    met = λ m h. elim (cases_lt m count) [
      | inl l ↦ hashed.met m l
      | inr g ↦ (let last : m ≡ count = omega (arith, g, h) in record { token = token; there = there; named = named ∙ sym member ∙ ap (λ (n : ℕ). get_or (keys_of tables) n []) (sym last); written = written })
    ];
  }

  -- whose token's entry is written now
  module _ (grown : Written) (entry : HashedToken) (kept : KeepsSpans keys grown) (span : IsSpan grown entry.key) (is : keyed_in grown entry ≡ keyed_from (hash_of key) token key) where
    within : token < length entries
    within = omega (arith, there, hashed.long)

    -- what is read at an index afterwards
    read : (P : HashedToken → Type 0) (k : ℕ) (d : HashedToken) → (k ≡ token → P entry) → ((k ≡ token → ⊥) → P (get_or entries k d)) → P (get_or (set entries token entry) k d)
    read P k d here there = elim (cases_eq k token) [
      | inl same ↦ subst P (sym (ap (λ (n : ℕ). get_or (set entries token entry) n d) same ∙ get_or-set_same entries token entry d within)) (here same)
      | inr other ↦ subst P (sym (get_or-set_other entries token k entry d other)) (there other)
    ]

    number : entry.token ≡ token
    number = ap token_number is

    right_set : (k : ℕ) (d : HashedToken) → k < length entries → (get_or (set entries token entry) k d).token ≡ k → keyed_in grown (get_or (set entries token entry) k d) ≡ token_keyed (all_tokens tables) k
    right_set k d h =
        read (λ (e : HashedToken). e.token ≡ k → keyed_in grown e ≡ token_keyed (all_tokens tables) k) k d
        (λ same own. is ∙ ap (λ (text : Text). keyed_from (hash_of text) token text) (sym named) ∙ ap (token_keyed (all_tokens tables)) (sym same))
        (λ other own. (let old = get_or entries k d in
        let text = (kept old.key (hashed.spans k d h)).1 in
        ap (λ (t : Text). keyed_from old.hash old.token t) text ∙ hashed.right k d h own))

    met_set : (m : ℕ) → IsMet (all_tokens tables) entries (get_or (keys_of tables) m []) → IsMet (all_tokens tables) (set entries token entry) (get_or (keys_of tables) m [])
    met_set m old = record {
      token = old.token;
      there = old.there;
      named = old.named;
      written = λ d. read (λ (e : HashedToken). e.token ≡ old.token) old.token d (λ same. number ∙ sym same) (λ other. old.written d);
    }

    pub met_first : AreHashed tables grown (set entries token entry) (count + 1)
    met_first = record {
      long = length-set entries token entry ∙ hashed.long;
      spans = λ k d h. read (λ (e : HashedToken). IsSpan grown e.key) k d (λ same. span) (λ other. (kept (get_or entries k d).key (hashed.spans k d (omega (arith, h, length-set entries token entry)))).0);
      right = λ k d h. right_set k d (omega (arith, h, length-set entries token entry));
      met = λ m h. elim (cases_lt m count) [
        | inl l ↦ met_set m (hashed.met m l)
        | inr g ↦
            let last : m ≡ count = omega (arith, g, h) in
            record {
              token = token;
              there = there;
              named = named ∙ sym member ∙ ap (λ (n : ℕ). get_or (keys_of tables) n []) (sym last);
              written = λ d. read (λ (e : HashedToken). e.token ≡ token) token d (λ same. number) (λ other. absurd (other refl));
            }
      ];
    }

-- ---- before the first member

pub none_met : (tables : List Table) (keys : Written) (blank : HashedToken) (count : ℕ) → count ≡ length (all_tokens tables) → ((k : ℕ) → k < count → blank.token ≡ k → ⊥) → IsSpan keys blank.key → AreHashed tables keys (replicate count blank) 0
none_met tables keys blank count all other span =
    let size : length (replicate count blank) ≡ count = length-replicate count blank in
    record {
      long = size ∙ all;
      spans = λ k d h. subst (λ (e : HashedToken). IsSpan keys e.key) (sym (get_or-replicate count k blank d (omega (arith, h, size)))) span;
      right = λ k d h own. (let b : k < count = omega (arith, h, size) in absurd (other k b (ap (λ (e : HashedToken). e.token) (sym (get_or-replicate count k blank d b)) ∙ own)));
      met = λ m h. absurd (omega (arith, h));
    }

-- ---- after the last

module _ (tables : List Table) (keys : Written) (entries : List HashedToken) (count : ℕ) (all : count ≡ length (keys_of tables)) (hashed : AreHashed tables keys entries count) where
  abbrev tokens : List Token
  tokens = all_tokens tables

  written : (k : ℕ) (d : HashedToken) → k < length tokens → (get_or entries k d).token ≡ k
  written k d h =
      let at = token_held tables k h in
      let met = hashed.met at.0 (omega (arith, at.1, all)) in
      let same : met.token ≡ k = one_token tables met.token k met.there h (met.named ∙ at.2) in
      ap (λ (n : ℕ). (get_or entries n d).token) (sym same) ∙ met.written d ∙ same

  each : (k : ℕ) (d : HashedToken) → k < length entries → keyed_in keys (get_or entries k d) ≡ token_keyed tokens k
  each k d h = hashed.right k d h (written k d (omega (arith, h, hashed.long)))

  one_hashed : (entry : KeyedToken) (k : ℕ) → k < length tokens → entry ≡ token_keyed tokens k → IsHashed tables entry
  unfolding segment
  one_hashed entry k h e = subst (IsHashed tables) (sym e) (record { there = h; key = refl })

  numbers : map token_number (all_keyed keys entries) ≡ numbers_of tokens
  numbers =
      let long = length-map (all_keyed keys entries) token_number in
      ext_get_or 0 (map token_number (all_keyed keys entries)) (numbers_of tokens) (omega (arith, long, length-keyed keys entries, hashed.long, length-numbers tokens)) (λ i b.
      (let h : i < length entries = omega (arith, b, long, length-keyed keys entries) in
      get_or-map token_number (all_keyed keys entries) i (keyed_from 0 0 []) 0 (omega (arith, b, long))
      ∙ ap token_number (get_or-map (keyed_in keys) entries i no_entry (keyed_from 0 0 []) h ∙ each i no_entry h)
      ∙ sym (number_at tokens i 0 (omega (arith, h, hashed.long)))))

  pub all_met : AreKeyedTokens tables (all_keyed keys entries)
  unfolding segment
  all_met = record {
    hashes = each_keyed keys entries (λ entry. entry.hash ≡ hash_of entry.key) (λ k h. subst (λ (entry : KeyedToken). entry.hash ≡ hash_of entry.key) (sym (each k no_entry h)) refl);
    hashed = each_keyed keys entries (IsHashed tables) (λ k h. one_hashed (keyed_in keys (get_or entries k no_entry)) k (omega (arith, h, hashed.long)) (each k no_entry h));
    numbers = numbers;
  }
