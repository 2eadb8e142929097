-- The ranks of members, and their tokens.
use Rattle.std.proofs.Common.{◌≡◌, refl, ap, sym, ◌∙◌, subst, ℕ, suc, ◌+◌, ◌<◌, List, [], ◌∷◌, map, length, get_or, Some, arith}
use Rattle.std.specs.List.{enumerate_from}
use Rattle.std.specs.List.Sorted.{IsPermutation, IsSorted}
use Rattle.std.specs.Cmp.Lexicographic.{slice_cmp}
use Rattle.std.specs.Ordering.{nat_cmp}
use Rattle.std.proofs.lemmas.Cmp.{nat_list_cmp_total}
use Rattle.std.proofs.lemmas.Grind.{get_or_default_zero}
use Rattle.std.proofs.lemmas.List.{get_or-map, length-map}
use Rattle.std.proofs.lemmas.List.Sorted.{IsPermutation-map, IsPermutation-sym}
use Rattle.std.proofs.lemmas.Map.Lookups.{exact_bytes}
use Rattle.lake_model.specs.Texts.{Text}
use Rattle.lake_model.specs.Tables.{Table}
use Rattle.lake_model.proofs.SortingLemmas.{in_order-IsPermutation, sorted_is}
use Rattle.search_model.specs.declared.TokenAt.{TokenAt}
use Rattle.search_model.specs.Segment.{Token, columns_of, tokens_of}
use Rattle.search_model.specs.Arrays.{key_of, numbers_of, token_keys, IsByKey, IsToken}
use Rattle.search_model.proofs.KeyLemmas.{found}
use Rattle.token_order.specs.Places.{keys_of}
use Rattle.token_order.specs.Ranks.{names_of, AreRanks, IsRank}
use Rattle.token_order.specs.Vocabulary.{IsVocabulary}
use Rattle.token_order.specs.declared.columns.ColumnAt.{ColumnAt}
use Rattle.token_order.proofs.NameLemmas.{level_itself}
use Rattle.token_order.proofs.SortLemmas.{sorted_map}

-- ---- the keys of the tokens, by their bytes

keys_numbered : (all : List Token) (n : ℕ) (tokens : List Token) → ((i : ℕ) → i < length tokens → key_of all (n + i) ≡ key_of tokens i) → map (key_of all) (map (λ t. t.0) (enumerate_from n tokens)) ≡ map (λ t. t.key) tokens
keys_numbered all n [] h = refl
keys_numbered all n (t ∷ tokens) h =
    let z : n ≡ n + 0 = omega arith in
    let first : key_of all n ≡ t.key = ap (key_of all) z ∙ h 0 (omega arith) in
    let rest = keys_numbered all (n + 1) tokens (λ i b. (let e : n + 1 + i ≡ n + suc i = omega arith in ap (key_of all) e) ∙ h (suc i) (omega arith)) in
    λ i. first i ∷ rest i

-- the tokens' numbers by key give these names
pub numbers_named : (tokens : List Token) (numbers : List ℕ) → IsByKey tokens numbers → map (key_of tokens) numbers ≡ names_of tokens
numbers_named tokens numbers by_key =
    let keys = map (λ (t : Token). t.key) tokens in
    let named : map (key_of tokens) (numbers_of tokens) ≡ keys = keys_numbered tokens 0 tokens (λ i b. (let z : 0 + i ≡ i = omega arith in ap (key_of tokens) z)) in
    sorted_is nat_list_cmp_total exact_bytes (map (key_of tokens) numbers) (sorted_map (slice_cmp nat_cmp) (key_of tokens) numbers by_key.rising)
    ∙ in_order-IsPermutation nat_list_cmp_total exact_bytes keys (map (key_of tokens) numbers) (subst (λ (ks : List Text). IsPermutation ks (map (key_of tokens) numbers)) named (IsPermutation-map (key_of tokens) (numbers_of tokens) numbers by_key.same))

-- runs that are sorted by their keys have these names
pub runs_named : (runs tokens : List Token) → IsSorted (slice_cmp nat_cmp) (token_keys runs) → IsPermutation runs tokens → token_keys runs ≡ names_of tokens
runs_named runs tokens up moved =
    let key : Token → Text = λ t. t.key in
    sorted_is nat_list_cmp_total exact_bytes (map key runs) up
    ∙ in_order-IsPermutation nat_list_cmp_total exact_bytes (map key tokens) (map key runs) (IsPermutation-sym (map key runs) (map key tokens) (IsPermutation-map key runs tokens moved))

-- ---- the ranks

pub rank_there : (tokens : List Token) (numbers : List ℕ) (key : Text) (rank : ℕ) → IsByKey tokens numbers → IsRank (names_of tokens) key rank → rank < length numbers
rank_there tokens numbers key rank by_key is =
    omega (arith, is.0, ap length (numbers_named tokens numbers by_key), length-map numbers (key_of tokens))

-- the token of a rank
pub token_there : (tokens : List Token) (numbers : List ℕ) (key : Text) (rank number : ℕ) → IsByKey tokens numbers → IsRank (names_of tokens) key rank → number ≡ get_or numbers rank number → IsToken tokens key (Some number)
token_there tokens numbers key rank number by_key is at =
    let named = numbers_named tokens numbers by_key in
    let within : rank < length numbers = rank_there tokens numbers key rank by_key is in
    let same : key_of tokens number ≡ key = ap (key_of tokens) at ∙ sym (get_or-map (key_of tokens) numbers rank number [] within) ∙ ap (λ (ks : List Text). get_or ks rank []) named ∙ is.1 in
    found tokens numbers by_key key rank number within at (ap (λ (k : Text). slice_cmp nat_cmp k key) same ∙ level_itself (slice_cmp nat_cmp key key) (nat_list_cmp_total.antisymm key key))

-- what a vocabulary holds, stated for its tables
pub by_key_of : (tables held : List Table) (columns : List ColumnAt) (places : List TokenAt) (frequencies by_key ranks : List ℕ) → IsVocabulary held columns places frequencies by_key ranks → held ≡ tables → IsByKey (tokens_of (columns_of tables)) by_key
by_key_of tables held columns places frequencies by_key ranks is e =
    subst (λ (ts : List Table). IsByKey (tokens_of (columns_of ts)) by_key) e is.sorted

pub rank_of : (tables held : List Table) (columns : List ColumnAt) (places : List TokenAt) (frequencies by_key ranks : List ℕ) (number rank : ℕ) → IsVocabulary held columns places frequencies by_key ranks → held ≡ tables → number < length (keys_of tables) → rank ≡ get_or ranks number rank
    → IsRank (names_of (tokens_of (columns_of tables))) (get_or (keys_of tables) number []) rank
rank_of tables held columns places frequencies by_key ranks number rank is e within at =
    let all : AreRanks tables ranks = subst (λ (ts : List Table). AreRanks ts ranks) e is.ranked in
    subst (IsRank (names_of (tokens_of (columns_of tables))) (get_or (keys_of tables) number [])) (sym (at ∙ get_or_default_zero ranks number rank (omega (arith, within, all.long)))) (all.each number within)
