-- The distinct keys of tables, in the order of tokens, are the tokens of the tables.
use Rattle.std.proofs.Common.{◌≡◌, refl, ap, sym, ◌∙◌, subst, ℕ, List, [], ◌∷◌, map}
use Rattle.std.specs.Prelude.{bytes_eq, flat_map}
use Rattle.std.specs.List.{All, AllByRecursion, count_by, list_any}
use Rattle.std.specs.List.Sorted.{IsPermutation, IsSorted}
use Rattle.column_set.specs.Columns.{HasDistinctKeys}
use Rattle.lake_model.specs.Texts.{Text}
use Rattle.lake_model.specs.Tables.{Table, has_key}
use Rattle.search_model.specs.Arrays.{token_keys}
use Rattle.search_model.specs.Segment.{Titled, Token, columns_of, token_cmp, token_of, tokens_of}
use Rattle.search_model.proofs.TokenLemmas.{frequency_flat, tokens_from_sorted}
use Rattle.token_order.specs.Places.{keys_of}
use Rattle.token_order.specs.Counted.{AreTokensOf}
use Rattle.token_order.proofs.PlaceLemmas.{columns_differ, keys_of_columns}

named_again : (columns : List Titled) (count : Text → ℕ) → ((key : Text) → count key ≡ count_by (λ c. has_key c.column.keys key) columns) → (tokens : List Token) → AllByRecursion (λ t. t.frequency ≡ count t.key) tokens → tokens ≡ map (token_of columns) (map (λ t. t.key) tokens)
named_again columns count same [] h = refl
named_again columns count same (t ∷ tokens) h =
    let frequency : t.frequency ≡ count_by (λ (c : Titled). has_key c.column.keys t.key) columns = h.0 ∙ same t.key in
    λ i. record { key = t.key; frequency = frequency i } ∷ named_again columns count same tokens h.1 i

pub tokens_are : (tables : List Table) (runs tokens : List Token) → All HasDistinctKeys tables → AreTokensOf (keys_of tables) runs → IsPermutation runs tokens → IsSorted token_cmp tokens → tokens ≡ tokens_of (columns_of tables)
tokens_are tables runs tokens different are moved in_order =
    let columns = columns_of tables in
    let all = flat_map (λ (c : Titled). c.column.keys) columns in
    let flat : all ≡ keys_of tables = keys_of_columns tables in
    let names = token_keys runs in
    let has : (q : Text) → list_any (bytes_eq q) all ≡ list_any (bytes_eq q) names = λ q. ap (list_any (bytes_eq q)) flat ∙ are.have q in
    let often : (q : Text) → count_by (bytes_eq q) (keys_of tables) ≡ count_by (λ c. has_key c.column.keys q) columns = λ q. ap (λ (ks : List Text). count_by (bytes_eq q) ks) (sym flat) ∙ frequency_flat q columns (columns_differ tables different) in
    let again = named_again columns (λ q. count_by (bytes_eq q) (keys_of tables)) often runs are.frequent in
    tokens_from_sorted columns names are.different has tokens in_order (subst (λ (ts : List Token). IsPermutation ts tokens) again moved)
