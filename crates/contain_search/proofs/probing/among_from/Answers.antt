use Rattle.std.proofs.Common.{◌≡◌, ◌∙◌, ap, sym, subst, refl, ℕ, ◌+◌, Bor, List, get_or, arith}
use Rattle.std.proofs.lemmas.List.Sums.{count_by_more_no, count_by_more_yes}
use Rattle.contain_search.proofs.EnoughLemmas.{too_few_left}
use Rattle.lake_model.specs.Layout.{is_among}
use Rattle.part_columns.proofs.SeekLemmas.{AreLeft, all_left, left_behind}
use Rattle.contain_search.proofs.probing.among_from.Goals.{then-found, else-found}
use Rattle.contain_search.proofs.probing.among_from.Goals as goal

pub loop-i-init : goal.loop-i-init
loop-i-init c = record { counted = refl; few = omega arith; left = all_left c.args.others.now c.args.tokens.now c.requires.others }

pub returns-then-shared-tokens-clause-count : goal.returns-then-shared-tokens-clause-count
returns-then-shared-tokens-clause-count c = too_few_left (is_among c.args.others.now) c.args.tokens.now c.loop-i.i c.args.least c.loop-i.shared c.loop-i.invariant.counted (omega (arith, c.if-shared-tokens.true))

pub seek-found-requires : goal.seek-found-requires
seek-found-requires c = c.loop-i.invariant.left.rising

pub loop-i-preserved : goal.loop-i-preserved
loop-i-preserved c =
    let kept = c.loop-i.invariant in
    let i = c.loop-i.i in
    let others = c.args.others.now in
    let tokens = c.args.tokens.now in
    let told : c.seek-found.result.found ≡ is_among others (get_or tokens i 0) = c.seek-found.ensures.found ∙ kept.left.same i (omega arith) c.loop-i-test.true in
    let left = left_behind others tokens c.loop-i.left.now c.seek-found.result.rest.now i c.requires.tokens kept.left c.seek-found.ensures.rising c.seek-found.ensures.rest in
    elim c.if-found.branch [
      | then-found w ↦ record {
        counted = w.shared-is ∙ ap (λ (n : ℕ). n + 1) kept.counted ∙ sym (count_by_more_yes (is_among others) tokens i 0 c.loop-i-test.true (sym told ∙ w.if-found.true));
        few = omega (arith, w.shared-is, kept.few);
        left = subst (λ (b : Bor (List ℕ)). AreLeft others tokens b.now (i + 1)) (sym w.left-is) left;
      }
      | else-found w ↦ record {
        counted = w.shared-is ∙ kept.counted ∙ sym (count_by_more_no (is_among others) tokens i 0 c.loop-i-test.true (sym told ∙ w.if-found.false));
        few = omega (arith, w.shared-is, kept.few);
        left = subst (λ (b : Bor (List ℕ)). AreLeft others tokens b.now (i + 1)) (sym w.left-is) left;
      }
    ]
