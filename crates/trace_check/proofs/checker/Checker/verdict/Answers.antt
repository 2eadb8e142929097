use Rattle.trace_check.proofs.CheckLemmas.{listed, none_of, ok_both, right_of}
use Rattle.trace_check.proofs.checker.Checker.verdict.Goals as goal

pub returns-clause-right : goal.returns-clause-right
returns-clause-right c =
    let known = listed c.judge.result c.args.self.options.merge c.args.self.batches c.judge.ensures.few c.judge.ensures.names in
    ok_both c.judge.result _ _ _ c.judge.ensures.value known (λ b value all. right_of c.verdict_law.ensures.decides c.args.self c.args.trace.now b c.judge.ensures.known all value)

pub returns-clause-none : goal.returns-clause-none
returns-clause-none c =
    let known = listed c.judge.result c.args.self.options.merge c.args.self.batches c.judge.ensures.few c.judge.ensures.names in
    ok_both c.judge.result _ _ _ c.judge.ensures.value known (λ b value all. none_of c.verdict_law.ensures.decides c.args.self c.args.trace.now b c.judge.ensures.known all value)
