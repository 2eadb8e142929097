use Rattle.std.proofs.Common.{◌≡◌, ◌∙◌, sym, ap, subst, ℕ, ◌<◌, List, [], ◌∷◌, ◌++◌, Some, get_or, length, take, arith}
use Rattle.std.proofs.Math.Seq.{take-length}
use Rattle.std.proofs.lemmas.List.{length_push}
use Rattle.std.specs.List.{flat_map}
use Rattle.std.specs.List.Sorted.{IsPermutation}
use Rattle.lake_model.specs.Texts.{Text}
use Rattle.lake_model.specs.Tables.{keys_at}
use Rattle.search_model.specs.Segment.{tokens_in}
use Rattle.search_model.specs.Arrays.{IsToken}
use Rattle.segment_core.proofs.FoundLemmas.{each_key, one_more}
use Rattle.segment_build.specs.Holding.{all_tokens}
use Rattle.segment_build.proofs.HoldLemmas.{tokens_apart}
use Rattle.segment_build.proofs.columns.found_tokens.Goals as goal

pub loop-i-preserved : goal.loop-i-preserved
loop-i-preserved c =
    let tokens = all_tokens c.args.vocab.now in
    let keys = keys_at c.args.table.now c.args.place in
    let i = c.loop-i.i in
    let token = c.token_of_member.result in
    let within : i < length keys = omega (arith, c.size-i-end.ensures.value) in
    let is : IsToken tokens (get_or keys i []) (Some token) = subst (λ (key : Text). IsToken tokens key (Some token)) (c.requires.stretch.each i within) c.token_of_member.ensures in
    record {
      is = c.in_ok-push.ensures.items ∙ ap (λ (ns : List ℕ). ns ++ token ∷ []) c.loop-i.invariant.is ∙ sym (one_more tokens keys i (Some token) within (tokens_apart c.args.vocab.now) is);
      long = omega (arith, ap length c.in_ok-push.ensures.items, length_push c.loop-i.tokens.items token, c.loop-i.invariant.long);
    }

pub returns-clause-same : goal.returns-clause-same
returns-clause-same c =
    let tokens = all_tokens c.args.vocab.now in
    let keys = keys_at c.args.table.now c.args.place in
    let all : c.loop-i.i ≡ length keys = omega (arith, c.size-i-end.ensures.value) in
    let is : c.loop-i.tokens.items ≡ flat_map (λ key. tokens_in tokens (key ∷ [])) keys = c.loop-i.invariant.is ∙ ap (λ (n : ℕ). flat_map (λ key. tokens_in tokens (key ∷ [])) (take n keys)) all ∙ ap (flat_map (λ key. tokens_in tokens (key ∷ []))) (take-length keys) in
    subst (IsPermutation (tokens_in tokens keys)) (sym is) (each_key tokens keys c.size-i-end.ensures.different)

pub returns-clause-long : goal.returns-clause-long
returns-clause-long c = omega (arith, c.loop-i.invariant.long, c.size-i-end.ensures.value)
