use Rattle.std.proofs.Common.{◌≡◌, ◌∙◌, ap, ℕ, List, [], get_or, map, arith, rules}
use Rattle.std.specs.Ordering.{nat_cmp}
use Rattle.std.specs.Cmp.Lexicographic.{slice_cmp}
use Rattle.std.proofs.lemmas.Fn.{always_returns_same}
use Rattle.std.proofs.lemmas.List.{get_or_default}
use Rattle.lake_model.specs.Texts.{Text}
use Rattle.search_model.specs.Arrays.{key_of}
use Rattle.search_model.specs.Segment.{columns_of, tokens_of}
use Rattle.search_model.proofs.KeyLemmas.{found, none, rising}
use Rattle.token_order.specs.Places.{pointed_by}
use Rattle.token_order.proofs.numbers.find.Goals as goal

pub returns-in-Ok : goal.returns-in-Ok
returns-in-Ok c =
    let tokens = tokens_of (columns_of c.args.tables.now) in
    let keys = map (pointed_by c.args.tables.now c.args.columns.now) c.args.tokens.now in
    let key = c.args.key.now in
    let numbers = c.args.by_key.now in
    let at = c.in-Ok.at in
    let at_key : (n : ℕ) → slice_cmp nat_cmp (get_or keys n []) key ≡ slice_cmp nat_cmp (key_of tokens n) key = λ n. ap (λ (ks : List Text). slice_cmp nat_cmp (get_or ks n []) key) c.requires.named in
    let is = c.in-Ok.ensures.position (λ n. slice_cmp nat_cmp (key_of tokens n) key) (always_returns_same _ (λ a r. r ≡ slice_cmp nat_cmp (key_of tokens a.0.now) key) _ (λ a r f' called. (search rules ∙ at_key a.0.now, search rules))) in
    found tokens numbers c.requires.sorted key at (get_or numbers at 0) c.in-Ok.ensures.bound (get_or_default numbers at 0 (get_or numbers at 0) c.in-Ok.ensures.bound) (is 0)

pub returns-in-Err : goal.returns-in-Err
returns-in-Err c =
    let tokens = tokens_of (columns_of c.args.tables.now) in
    let keys = map (pointed_by c.args.tables.now c.args.columns.now) c.args.tokens.now in
    let key = c.args.key.now in
    let numbers = c.args.by_key.now in
    let at_key : (n : ℕ) → slice_cmp nat_cmp (get_or keys n []) key ≡ slice_cmp nat_cmp (key_of tokens n) key = λ n. ap (λ (ks : List Text). slice_cmp nat_cmp (get_or ks n []) key) c.requires.named in
    let is = c.in-Err.ensures.position (λ n. slice_cmp nat_cmp (key_of tokens n) key) (always_returns_same _ (λ a r. r ≡ slice_cmp nat_cmp (key_of tokens a.0.now) key) _ (λ a r f' called. (search rules ∙ at_key a.0.now, search rules))) in
    let parted = is (rising tokens numbers c.requires.sorted key) in
    none tokens numbers c.requires.sorted key c.in-Err.field-0 (λ k d l. parted.0 k d (omega arith) l) (λ k d g h. parted.1 k d g h)
