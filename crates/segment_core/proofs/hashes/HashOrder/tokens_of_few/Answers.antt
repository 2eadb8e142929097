use Rattle.std.proofs.Common.{◌≡◌, ◌∙◌, sym, ap, subst, ℕ, ◌<◌, List, get_or, [], ◌∷◌, ◌++◌, Some, None, length, take, arith, append-nil}
use Rattle.std.proofs.Math.Seq.{take-length}
use Rattle.std.specs.Prelude.{bytes_eq}
use Rattle.std.specs.List.{IsDistinct}
use Rattle.std.specs.List.Sorted.{IsPermutation}
use Rattle.lake_model.specs.Texts.{Text}
use Rattle.search_model.specs.Arrays.{IsToken}
use Rattle.search_model.specs.Segment.{segment, tokens_in}
use Rattle.segment_core.specs.Among.{found_by}
use Rattle.segment_core.proofs.FoundLemmas.{each_key, one_more, tokens_differ}
use Rattle.segment_core.proofs.hashes.HashOrder.tokens_of_few.Goals as goal
use Rattle.segment_core.proofs.hashes.HashOrder.tokens_of_few.Goals.{in-Some+in_ok-push, in_default}

pub loop-index-preserved : goal.loop-index-preserved
loop-index-preserved c tables is =
    let tokens = (segment tables).tokens in
    let keys = c.args.query.now in
    let i = c.loop-index.index in
    let same = c.query-keys.ensures in
    let there : i < length keys = omega (arith, ap length same) in
    let apart = tokens_differ tables in
    let key = c.key.ensures ∙ ap (λ (ks : List Text). get_or ks i []) same in
    elim c.match-find.branch [
      | in-Some+in_ok-push w ↦
          ap (λ v. v.items) w.tokens-is ∙ w.in_ok-push.ensures.items ∙ ap (λ (ns : List ℕ). ns ++ w.in-Some.token ∷ []) (c.loop-index.invariant tables is)
          ∙ sym (one_more tokens keys i (Some w.in-Some.token) there apart (subst (λ (k : Text). IsToken tokens k (Some w.in-Some.token)) key (w.in-Some.ensures tables is)))
      | in_default w ↦
          ap (λ v. v.items) w.tokens-is ∙ c.loop-index.invariant tables is ∙ sym (append-nil (found_by tokens (take i keys)))
          ∙ sym (one_more tokens keys i None there apart (subst (λ (k : Text). IsToken tokens k None) key (w.in_default.ensures tables is)))
    ]

pub returns : goal.returns
returns c tables is =
    let tokens = (segment tables).tokens in
    let keys = c.args.query.now in
    let same = c.query-keys.ensures in
    let all : c.loop-index.index ≡ length keys = omega (arith, ap length same) in
    let found : c.loop-index.tokens.items ≡ found_by tokens keys = c.loop-index.invariant tables is ∙ ap (λ (n : ℕ). found_by tokens (take n keys)) all ∙ ap (found_by tokens) (take-length keys) in
    subst (IsPermutation (tokens_in tokens keys)) (sym found) (each_key tokens keys (subst (IsDistinct bytes_eq) same c.len-index-end.ensures.different))
