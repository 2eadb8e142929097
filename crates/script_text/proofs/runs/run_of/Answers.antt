use Rattle.std.proofs.Common.{◌≡◌, ◌∙◌, false, get_or, length, subst, sym}
use Rattle.std.specs.Prelude.{◌==◌}
use Rattle.lake_model.specs.Texts.{Text}
use Rattle.script_text.specs.Runs.{NoDotBehind}
use Rattle.script_text.proofs.RunLemmas.{is_run, no_dot_before, no_dot_first}
use Rattle.script_text.proofs.runs.run_of.Goals as goal

pub returns-clause-run : goal.returns-clause-run
returns-clause-run c =
    let text = c.args.text.now in
    let front = c.before_dot.result.now in
    let whole = c.whole_lines.result.now in
    let first : (get_or text 0 0 == 0x2E) ≡ false = sym c.begins_with_dot.ensures ∙ c.if-begins_with_dot.false in
    let none : NoDotBehind whole = subst NoDotBehind (sym c.whole_lines.ensures.first) (no_dot_before front (length whole) (λ k few lt feed dot. c.before_dot.ensures.none k lt feed dot)) in
    let front_first : (get_or front 0 0 == 0x2E) ≡ false = subst (λ (t : Text). (get_or t 0 0 == 0x2E) ≡ false) (sym c.before_dot.ensures.first) (no_dot_first text (length front) first) in
    let whole_first : (get_or whole 0 0 == 0x2E) ≡ false = subst (λ (t : Text). (get_or t 0 0 == 0x2E) ≡ false) (sym c.whole_lines.ensures.first) (no_dot_first front (length whole) front_first) in
    is_run whole whole_first none c.whole_lines.ensures.whole
