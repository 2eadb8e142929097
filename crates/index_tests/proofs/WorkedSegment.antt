-- One table, whose column p has the keys z and a, and whose column q has a: what is read of it shows that it is that table; and the arrays
-- of its segment, by hand.
use Rattle.std.proofs.Common.{◌≡◌, refl, ap, sym, ◌∙◌, subst, ℕ, zero, suc, ◌+◌, ◌<◌, ◌≤◌, false, List, [], ◌∷◌, map, length, get_or, arith, lit<}
use Rattle.std.specs.Prelude.{codes}
use Rattle.std.specs.Cmp.Lexicographic.{slice_cmp}
use Rattle.std.specs.List.Sorted.{IsSorted}
use Rattle.std.specs.Ordering.{is_lt, nat_cmp}
use Rattle.std.specs.declared.cmp.Ordering.TheVariants.{Less}
use Rattle.std.proofs.lemmas.List.Elements.{All-from_recursion}
use Rattle.std.proofs.lemmas.List.Sorted.{IsPermutation-middle}
use Rattle.lake_model.specs.Texts.{Text}
use Rattle.lake_model.specs.Sorting.{in_order, put_in_order}
use Rattle.lake_model.specs.Tables.{Column, Table, column_name, column_with, keys_at, table_with, titles_of}
use Rattle.search_model.specs.Arrays.{titled_at, AreArrays, IsAt, IsByKey, key_of, token_with}
use Rattle.search_model.specs.Ranks.{number_cmp, ranked, title_cmp, AreInverse, AreRanks, AreRising}
use Rattle.search_model.specs.Segment.{columns_of, segment, Token, tokens_of}
use Rattle.search_model.proofs.RankLemmas.{ranks_are, rising_from_next}
use Rattle.search_model.specs.declared.TokenAt.{TokenAt}
use Rattle.segment_core.specs.Hashes.{all_keyed, hash_of, keyed_from, keyed_in, AreKept, AreKeyed, AreKeyedTokens, IsByHash, IsHashed, KeyedToken}
use Rattle.segment_core.specs.declared.hashes.HashedToken.{HashedToken}
use Rattle.text_region.specs.Spans.{IsSpan, KeepsSpans}
use Rattle.text_region.specs.Written.{Written}
use Rattle.index_tests.specs.Worked.{worked_owners, worked_postings, worked_table, worked_tokens}

pub one_key : (keys : List Text) (a : Text) → length keys ≡ 1 → get_or keys 0 [] ≡ a → keys ≡ a ∷ []
one_key [] a n e = absurd (omega arith)
one_key (k ∷ []) a n e = ap (λ (t : Text). t ∷ []) e
one_key (k ∷ l ∷ keys) a n e = absurd (omega arith)

pub two_keys : (keys : List Text) (a b : Text) → length keys ≡ 2 → get_or keys 0 [] ≡ a → get_or keys 1 [] ≡ b → keys ≡ a ∷ b ∷ []
two_keys [] a b n e f = absurd (omega arith)
two_keys (k ∷ keys) a b n e f = (λ i. e i ∷ one_key keys b (omega arith) f i)

two_columns : (columns : List Column) (c d : Column) → length columns ≡ 2
    → (get_or (map (λ c. c.name) columns) 0 [] ≡ c.name) × (get_or (map (λ c. c.name) columns) 1 [] ≡ d.name) × (get_or (map (λ c. c.keys) columns) 0 [] ≡ c.keys) × (get_or (map (λ c. c.keys) columns) 1 [] ≡ d.keys)
    → columns ≡ c ∷ d ∷ []
two_columns [] c d n h = absurd (omega arith)
two_columns (x ∷ []) c d n h = absurd (omega arith)
two_columns (x ∷ y ∷ []) c d n h = (λ i. column_with (h.0 i) (h.2 i) ∷ column_with (h.1 i) (h.3 i) ∷ [])
two_columns (x ∷ y ∷ z ∷ columns) c d n h = absurd (omega arith)

pub is_worked : (t : Table) → t.name ≡ codes "t" → length t.columns ≡ 2 → column_name (titles_of t) 1 ≡ codes "p" → column_name (titles_of t) 2 ≡ codes "q"
    → keys_at t 1 ≡ codes "z" ∷ codes "a" ∷ [] → keys_at t 2 ≡ codes "a" ∷ [] → t ≡ worked_table
is_worked t name n p q first second =
    let columns = two_columns t.columns (column_with (codes "p") (codes "z" ∷ codes "a" ∷ [])) (column_with (codes "q") (codes "a" ∷ [])) n (p, q, first, second) in
    (λ i. table_with (name i) (columns i))

within : (i : ℕ) (d : TokenAt) → i < 2 → IsAt (worked_table ∷ []) (get_or worked_tokens i d)
within zero d h = record { column = lit< tt; index = lit< tt }
within (suc zero) d h = record { column = lit< tt; index = lit< tt }
within (suc (suc i)) d h = absurd (omega arith)

abbrev named : List Token
named = token_with (codes "z") 1 ∷ token_with (codes "a") 2 ∷ []

-- a comes before z, and nothing else is left to compare
rising : (k d : ℕ) → 0 ≤ k → k + 1 < 2 → is_lt (slice_cmp nat_cmp (key_of named (get_or (1 ∷ 0 ∷ []) (k + 1) d)) (key_of named (get_or (1 ∷ 0 ∷ []) k d))) ≡ false
rising zero d low h = refl
rising (suc k) d low h = absurd (omega arith)

by_key : IsByKey named (1 ∷ 0 ∷ [])
by_key = record { rising = rising; same = IsPermutation-middle (0 ∷ []) 1 [] }

worked_arrays : AreArrays (worked_table ∷ []) worked_owners worked_tokens (1 ∷ 0 ∷ []) (0 ∷ 1 ∷ 3 ∷ []) worked_postings (0 ∷ 2 ∷ 3 ∷ []) (0 ∷ 1 ∷ 1 ∷ [])
unfolding in_order put_in_order tokens_of segment
worked_arrays = record {
  owned = refl;
  named = refl;
  within = within;
  sorted = by_key;
  list_bounds = refl;
  posted = refl;
  set_bounds = refl;
  held = refl;
  small = lit< tt;
  few = lit< tt;
}

-- the tokens with their keys
abbrev keyed : ℕ → Text → KeyedToken
keyed token key = keyed_from (hash_of key) token key

two_keyed : AreKeyedTokens (worked_table ∷ []) (keyed 0 (codes "z") ∷ keyed 1 (codes "a") ∷ [])
unfolding in_order put_in_order tokens_of segment
two_keyed = record {
  hashes = All-from_recursion (λ entry. entry.hash ≡ hash_of entry.key) (keyed 0 (codes "z") ∷ keyed 1 (codes "a") ∷ []) (refl, (refl, tt));
  hashed = All-from_recursion (IsHashed (worked_table ∷ [])) (keyed 0 (codes "z") ∷ keyed 1 (codes "a") ∷ []) (record { there = lit< tt; key = refl }, (record { there = lit< tt; key = refl }, tt));
  numbers = refl;
}

-- which were put into a region one after the other
pub worked_keyed : (first both : Written) (z a : HashedToken) → KeepsSpans first both → IsSpan first z.key → keyed_in first z ≡ keyed 0 (codes "z") → keyed_in both a ≡ keyed 1 (codes "a") → AreKeyedTokens (worked_table ∷ []) (all_keyed both (z ∷ a ∷ []))
worked_keyed first both z a kept span is_z is_a =
    let text = (kept z.key span).1 in
    let here : keyed_in both z ≡ keyed 0 (codes "z") = ap (λ (t : Text). keyed_from z.hash z.token t) text ∙ is_z in
    subst (AreKeyedTokens (worked_table ∷ [])) (λ i. sym here i ∷ sym is_a i ∷ []) two_keyed

pub worked_spans : (first both : Written) (z a : HashedToken) → KeepsSpans first both → IsSpan first z.key → IsSpan both a.key → AreKeyed both (z ∷ a ∷ [])
worked_spans first both z a kept span_z span_a = All-from_recursion (λ entry. IsSpan both entry.key) (z ∷ a ∷ []) ((kept z.key span_z).0, (span_a, tt))

pub worked_kept : (order : List KeyedToken) → IsByHash (worked_table ∷ []) order → AreKept (worked_table ∷ []) worked_owners order (0 ∷ 1 ∷ 3 ∷ []) worked_postings (0 ∷ 2 ∷ 3 ∷ []) (0 ∷ 1 ∷ 1 ∷ [])
worked_kept order is = record { tokens = worked_tokens; by_key = 1 ∷ 0 ∷ []; arrays = worked_arrays; order = is }

-- each column's rank is its number
pub worked_inverse : AreInverse (0 ∷ 1 ∷ []) (0 ∷ 1 ∷ [])
worked_inverse = record { size = refl; back = back_two; within = within_two; forth = back_two }
  where
    within_two : (r : ℕ) → r < 2 → get_or (0 ∷ 1 ∷ []) r 0 < 2
    within_two zero b = lit< tt
    within_two (suc zero) b = lit< tt
    within_two (suc (suc r)) b = absurd (omega arith)

    back_two : (x : ℕ) → x < 2 → get_or (0 ∷ 1 ∷ []) (get_or (0 ∷ 1 ∷ []) x 0) 0 ≡ x
    back_two zero b = refl
    back_two (suc zero) b = refl
    back_two (suc (suc x)) b = absurd (omega arith)

-- p comes before q
in_names : IsSorted (number_cmp (columns_of (worked_table ∷ []))) (0 ∷ 1 ∷ [])
in_names zero d low h = refl
in_names (suc k) d low h = absurd (omega arith)

pub worked_ranks : AreRanks (segment (worked_table ∷ [])).columns (0 ∷ 1 ∷ [])
unfolding segment
worked_ranks = ranks_are (columns_of (worked_table ∷ [])) (0 ∷ 1 ∷ []) (0 ∷ 1 ∷ []) refl worked_inverse in_names (λ x b. worked_inverse.within x b)

-- p comes before q, by the titles alone
titles_rise : (k : ℕ) → k + 1 < 2 → title_cmp (titled_at (ranked (columns_of (worked_table ∷ [])) (0 ∷ 1 ∷ [])) k) (titled_at (ranked (columns_of (worked_table ∷ [])) (0 ∷ 1 ∷ [])) (k + 1)) ≡ Less
titles_rise zero h = refl
titles_rise (suc k) h = absurd (omega arith)

pub worked_rising : AreRising (ranked (segment (worked_table ∷ [])).columns (0 ∷ 1 ∷ []))
unfolding segment
worked_rising = rising_from_next (ranked (columns_of (worked_table ∷ [])) (0 ∷ 1 ∷ [])) titles_rise
