use Rattle.std.proofs.Common.{◌+◌, arith}
use Rattle.script_text.proofs.RunLemmas.{dot_found, no_dot_before}
use Rattle.script_text.proofs.runs.before_dot.Goals as goal

pub returns-in-Some-clause-none : goal.returns-in-Some-clause-none
returns-in-Some-clause-none c =
    let text = c.args.text.now in
    no_dot_before text (c.in-Some.at + 1) (λ k lt within feed dot. c.in-Some.ensures.0.before k (omega arith) (omega (arith, lt)) (dot_found text k within feed dot))

pub returns-in-None-clause-none : goal.returns-in-None-clause-none
returns-in-None-clause-none c = λ k lt feed dot. c.in-None.ensures k (omega arith) (omega (arith, lt)) (dot_found c.args.text.now k lt feed dot)
