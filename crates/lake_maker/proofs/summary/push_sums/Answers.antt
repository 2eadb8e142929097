use Rattle.std.proofs.lemmas.Result.{on_ok_weaker}
use Rattle.lake_maker.proofs.SumLemmas.{sums_pushed}
use Rattle.lake_maker.proofs.summary.push_sums.Goals as goal

pub returns-clause-ok : goal.returns-clause-ok
returns-clause-ok c =
    on_ok_weaker c.push_bytes.result
    (sums_pushed c.args.sums _ _ _ _ _ _ _ _ _ _ c.in_ok-push_sum.ensures.ok c.in_ok-push_sum-2.ensures.ok c.in_ok-push_sum-3.ensures.ok c.in_ok-push_sum-4.ensures.ok c.in_ok-push_sum-5.ensures.ok c.in_ok-push_sum-6.ensures.ok c.in_ok-push_sum-7.ensures.ok c.in_ok-push_sum-8.ensures.ok)
    c.push_bytes.ensures.ok
