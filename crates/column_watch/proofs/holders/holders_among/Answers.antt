use Rattle.std.proofs.Common.{◌≡◌, ◌∙◌, ◌∷◌, ◌-◌, sym, subst, true, false, arith, get_or, take, drop, length}
use Rattle.std.specs.List.Sorted.{IsStrictlySortedBy}
use Rattle.std.proofs.lemmas.List.{get_or_default}
use Rattle.std.proofs.lemmas.Map.Keys.{sorted_tail}
use Rattle.std.proofs.lemmas.Slice.Eq.{bytes_eq-Decides}
use Rattle.column_watch.specs.Index.{key_cmp, key_with, sorted_by}
use Rattle.column_watch.proofs.HolderLemmas.{keys_of}
use Rattle.column_watch.proofs.IndexLemmas.{cut_first, same_lists_tie, says_behind, says_found}
use Rattle.column_watch.proofs.holders.holders_among.Goals as goal

pub returns-then-is_key : goal.returns-then-is_key
returns-then-is_key c =
    let queries = keys_of c.args.queries.now in
    let key = c.args.key.now in
    let keys = c.args.keys.now in
    let first = get_or keys 0 (key_with 0 0 0 0) in
    let same : sorted_by queries first ≡ c.args.hash ∷ key = (bytes_eq-Decides (sorted_by queries first) (c.args.hash ∷ key)).0 (sym c.is_key.ensures ∙ c.if-is_key.true) in
    says_found queries key c.args.hash c.requires.own keys c.requires.hashed c.requires.rising 0 first (omega (arith, c.in-len1-up.len_at_least)) (get_or_default keys 0 (key_with 0 0 0 0) first (omega (arith, c.in-len1-up.len_at_least))) (same_lists_tie (sorted_by queries first) (c.args.hash ∷ key) same)

pub search_holders-requires-clause-rising : goal.search_holders-requires-clause-rising
search_holders-requires-clause-rising c =
    let order = key_cmp (keys_of c.args.queries.now) in
    let keys = c.args.keys.now in
    sorted_tail order (get_or keys 0 (key_with 0 0 0 0)) (take (length keys - 1) (drop 1 keys)) (subst (IsStrictlySortedBy order) (cut_first keys (key_with 0 0 0 0) c.in-len1-up.len_at_least) c.requires.rising)

pub returns : goal.returns
returns c =
    let queries = keys_of c.args.queries.now in
    let key = c.args.key.now in
    let keys = c.args.keys.now in
    let first = get_or keys 0 (key_with 0 0 0 0) in
    λ w. c.search_holders.ensures w
    ∙ says_behind queries key c.args.hash c.requires.own keys first (take (length keys - 1) (drop 1 keys)) (cut_first keys (key_with 0 0 0 0) c.in-len1-up.len_at_least) c.requires.hashed
    (λ same. let never : true ≡ false = sym ((bytes_eq-Decides (sorted_by queries first) (c.args.hash ∷ key)).1 same) ∙ sym c.is_key.ensures ∙ c.if-is_key.false in cc) w
