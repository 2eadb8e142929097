use Rattle.std.proofs.Common.{subst}
use Rattle.record_model.specs.Answered.{past_answer, query_read}
use Rattle.run_record.specs.Replies.{reply_of}
use Rattle.command_replies.proofs.LoadLemmas.{Answers}
use Rattle.command_replies.proofs.past.search_past_now.Goals as goal

pub returns-in-Ok-clause-answered : goal.returns-in-Ok-clause-answered
returns-in-Ok-clause-answered c =
    subst (λ journal. Answers (reply_of c.search_past.result) (past_answer c.args.asked c.args.k (query_read c.args.keys c.args.body.now) journal)) c.in-Ok.ensures.ok c.search_past.ensures.answered
