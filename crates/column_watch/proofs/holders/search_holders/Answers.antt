use Rattle.std.proofs.Common.{◌≡◌, ◌∙◌, ◌∷◌, sym, get_or, rules}
use Rattle.std.specs.Cmp.Lexicographic.{slice_cmp}
use Rattle.std.specs.Ordering.{nat_cmp}
use Rattle.std.proofs.lemmas.Fn.{always_returns_same}
use Rattle.std.proofs.lemmas.List.{get_or_default}
use Rattle.column_watch.specs.Index.{key_with, sorted_by}
use Rattle.column_watch.specs.declared.holders.KeyAt.{KeyAt}
use Rattle.column_watch.proofs.HolderLemmas.{keys_of, no_query}
use Rattle.column_watch.proofs.IndexLemmas.{parted_nowhere, says_found, says_none, searchable}
use Rattle.column_watch.proofs.holders.search_holders.Goals as goal

pub returns-in-Ok : goal.returns-in-Ok
returns-in-Ok c =
    let queries = keys_of c.args.queries.now in
    let hash = c.args.hash in
    let key = c.args.key.now in
    let keys = c.args.keys.now in
    let is = c.in-Ok.ensures.position (λ (at : KeyAt). slice_cmp nat_cmp (sorted_by queries at) (hash ∷ key)) (always_returns_same _ (λ a r. r ≡ slice_cmp nat_cmp (sorted_by queries a.0.now) (hash ∷ key)) _ (λ a r f' called. search rules)) in
    let at = get_or keys c.in-Ok.i (key_with 0 0 0 0) in
    let here : at ≡ get_or keys c.in-Ok.i at = get_or_default keys c.in-Ok.i (key_with 0 0 0 0) at c.in-Ok.ensures.bound in
    says_found queries key hash c.requires.own keys c.requires.hashed c.requires.rising c.in-Ok.i at c.in-Ok.ensures.bound here (is (key_with 0 0 0 0))

pub returns-in-Err : goal.returns-in-Err
returns-in-Err c =
    let queries = keys_of c.args.queries.now in
    let hash = c.args.hash in
    let key = c.args.key.now in
    let keys = c.args.keys.now in
    let is = c.in-Err.ensures.position (λ (at : KeyAt). slice_cmp nat_cmp (sorted_by queries at) (hash ∷ key)) (always_returns_same _ (λ a r. r ≡ slice_cmp nat_cmp (sorted_by queries a.0.now) (hash ∷ key)) _ (λ a r f' called. search rules)) in
    let parted = is (searchable queries key hash keys c.requires.rising) in
    λ w. no_query w ∙ sym (says_none queries key hash c.requires.own keys c.requires.hashed (parted_nowhere (λ (at : KeyAt). slice_cmp nat_cmp (sorted_by queries at) (hash ∷ key)) keys c.in-Err.field-0 parted) w)
