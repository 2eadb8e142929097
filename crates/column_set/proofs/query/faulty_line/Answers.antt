use Rattle.std.proofs.Common.{◌∙◌, ◌≡◌, ◌+◌, ◌-◌, ◌≤◌, ◌∷◌, ℕ, ap, arith, drop, length, length-drop, subst, sym, take, Some}
use Rattle.std.specs.Str.{IsUtf8}
use Rattle.std.proofs.lemmas.Bool.{false_from_ne_true, false≢true}
use Rattle.std.proofs.lemmas.List.{take_rest}
use Rattle.std.proofs.lemmas.Str.{IsUtf8-from_is_utf8, is_utf8-from_IsUtf8}
use Rattle.lake_model.specs.declared.QueryRefused.TheVariants as query
use Rattle.lake_model.specs.Texts.{Text, all_lines}
use Rattle.lake_model.specs.Queries.{line_fault}
use Rattle.column_set.proofs.LineLemmas.{line_fault-other, line_fault-text}
use Rattle.column_set.proofs.query.faulty_line.Goals as goal

fault_here : (body rest line behind : Text) (n : ℕ) → line_fault 1 (all_lines body) ≡ line_fault n (all_lines rest) → all_lines rest ≡ line ∷ all_lines behind → ¬ (IsUtf8 line) → line_fault 1 (all_lines body) ≡ Some (query.NotUtf8 n)
fault_here body rest line behind n fault lines bad =
    fault ∙ ap (line_fault n) lines ∙ line_fault-other n line (all_lines behind) (false_from_ne_true _ (λ e. bad (IsUtf8-from_is_utf8 line e)))

fault_later : (body rest line behind : Text) (n : ℕ) → line_fault 1 (all_lines body) ≡ line_fault n (all_lines rest) → all_lines rest ≡ line ∷ all_lines behind → IsUtf8 line → line_fault 1 (all_lines body) ≡ line_fault (n + 1) (all_lines behind)
fault_later body rest line behind n fault lines good =
    fault ∙ ap (line_fault n) lines ∙ line_fault-text n line (all_lines behind) (is_utf8-from_IsUtf8 line good)

pub returns-then-not-is_utf8 : goal.returns-then-not-is_utf8
returns-then-not-is_utf8 c =
    let rest = c.loop-rest.rest.now in
    let bad : ¬ (IsUtf8 (take c.first_line-end.result.0 rest)) = λ whole. false≢true (sym c.if-not-is_utf8.true ∙ c.is_utf8.ensures.1 whole) in
    fault_here c.args.body.now rest (take c.first_line-end.result.0 rest) (drop c.first_line-end.result.1 rest) c.loop-rest.number c.loop-rest.invariant.fault c.first_line-end.ensures.lines bad

pub loop-rest-preserved : goal.loop-rest-preserved
loop-rest-preserved c =
    let body = c.args.body.now in
    let rest = c.loop-rest.rest.now in
    let next = c.first_line-end.result.1 in
    let behind = drop next rest in
    let good : IsUtf8 (take c.first_line-end.result.0 rest) = c.is_utf8.ensures.0 c.if-not-is_utf8.false in
    let same : behind ≡ take (length rest - next) behind = sym (take_rest rest next) in
    let fewer : c.loop-rest.number + 1 + length behind ≤ 1 + length body = omega (arith, length-drop next rest, c.loop-rest.invariant.small, c.first_line-end.ensures.more, c.first_line-end.ensures.within) in
    record {
      fault = subst (λ (b : Text). line_fault 1 (all_lines body) ≡ line_fault (c.loop-rest.number + 1) (all_lines b)) same
          (fault_later body rest (take c.first_line-end.result.0 rest) behind c.loop-rest.number c.loop-rest.invariant.fault c.first_line-end.ensures.lines good);
      broken = subst (λ (b : Text). ¬ (IsUtf8 b)) same (λ whole. c.loop-rest.invariant.broken (c.first_line-end.ensures.texts.1 (good, whole)));
      small = subst (λ (b : Text). c.loop-rest.number + 1 + length b ≤ 1 + length body) same fewer;
    }
