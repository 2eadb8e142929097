use Rattle.std.proofs.Common.{◌≡◌, ◌∙◌, ap, sym, subst, refl, ℕ, ◌+◌, Bor, List, get_or, arith}
use Rattle.std.specs.List.{count_by}
use Rattle.std.proofs.lemmas.List.{take_all}
use Rattle.std.proofs.lemmas.List.Sums.{count_by_more_no, count_by_more_yes}
use Rattle.lake_model.specs.Layout.{is_among}
use Rattle.part_columns.proofs.SeekLemmas.{AreLeft, all_left, left_behind}
use Rattle.part_columns.proofs.probing.count_among.Goals.{then-found, else-found}
use Rattle.part_columns.proofs.probing.count_among.Goals as goal

pub loop-token-init : goal.loop-token-init
loop-token-init c = record { counted = refl; few = omega arith; left = all_left c.args.others.now c.args.tokens.now c.requires.others }

pub seek-found-requires : goal.seek-found-requires
seek-found-requires c = c.loop-token.invariant.left.rising

pub loop-token-preserved : goal.loop-token-preserved
loop-token-preserved c =
    let kept = c.loop-token.invariant in
    let i = c.loop-token.token-index in
    let others = c.args.others.now in
    let tokens = c.args.tokens.now in
    let told : c.seek-found.result.found ≡ is_among others (get_or tokens i 0) = c.seek-found.ensures.found ∙ kept.left.same i (omega arith) c.loop-token-test.true in
    let left = left_behind others tokens c.loop-token.left.now c.seek-found.result.rest.now i c.requires.tokens kept.left c.seek-found.ensures.rising c.seek-found.ensures.rest in
    elim c.if-found.branch [
      | then-found w ↦ record {
        counted = w.shared-is ∙ ap (λ (n : ℕ). n + 1) kept.counted ∙ sym (count_by_more_yes (is_among others) tokens i 0 c.loop-token-test.true (sym told ∙ w.if-found.true));
        few = omega (arith, w.shared-is, kept.few);
        left = subst (λ (b : Bor (List ℕ)). AreLeft others tokens b.now (i + 1)) (sym w.left-is) left;
      }
      | else-found w ↦ record {
        counted = w.shared-is ∙ kept.counted ∙ sym (count_by_more_no (is_among others) tokens i 0 c.loop-token-test.true (sym told ∙ w.if-found.false));
        few = omega (arith, w.shared-is, kept.few);
        left = subst (λ (b : Bor (List ℕ)). AreLeft others tokens b.now (i + 1)) (sym w.left-is) left;
      }
    ]

pub returns : goal.returns
returns c = c.loop-token.invariant.counted ∙ ap (count_by (is_among c.args.others.now)) (take_all c.loop-token.token-index c.args.tokens.now (omega (arith, c.loop-token-test.false)))
