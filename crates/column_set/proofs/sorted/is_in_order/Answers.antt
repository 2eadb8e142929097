use Rattle.std.proofs.Common.{◌≡◌, ◌∙◌, ◌∷◌, rules}
use Rattle.std.specs.Cmp.Lexicographic.{slice_cmp}
use Rattle.std.specs.Ordering.{nat_cmp}
use Rattle.std.proofs.lemmas.Fn.{always_returns_same}
use Rattle.column_set.specs.Sorted.{sorted_by}
use Rattle.column_set.proofs.SortedLemmas.{found_is}
use Rattle.column_set.proofs.sorted.is_in_order.Goals as goal

pub returns : goal.returns
returns c =
    let texts = c.args.texts.now in
    let key = c.args.key.now in
    let hash = c.sip_hash-hash.result in
    let is = c.binary_search_by.ensures.position (λ e. slice_cmp nat_cmp (sorted_by texts e) (hash ∷ key)) (always_returns_same _ (λ a r. r ≡ slice_cmp nat_cmp (sorted_by texts a.0.now) (hash ∷ key)) _ (λ a r f' called. search rules)) in
    c.is_ok.ensures.value ∙ found_is texts c.args.order.now c.requires hash key c.sip_hash-hash.ensures c.binary_search_by.result c.binary_search_by.ensures.bound is
