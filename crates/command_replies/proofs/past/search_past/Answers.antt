use Rattle.std.proofs.Common.{◌≡◌, ap, false, length, None, refl, subst, sym, take, ◌∙◌}
use Rattle.lake_model.specs.Answer.{answer}
use Rattle.lake_model.specs.Journal.{live}
use Rattle.record_model.specs.Answered.{past_answer, query_read}
use Rattle.record_model.specs.Play.{reply_or_denied}
use Rattle.record_model.specs.Replies.{Past, past_reply, query_reply}
use Rattle.command_replies.proofs.LoadLemmas.{Answers, query_found, query_refused}
use Rattle.command_replies.proofs.PastLemmas.{past_found, past_refused}
use Rattle.command_replies.proofs.past.search_past.Goals as goal

pub returns-in-Err-clause-answered : goal.returns-in-Err-clause-answered
returns-in-Err-clause-answered c =
    let refused = c.in-Err.refused in
    let here : Answers (query_reply refused) (past_answer c.args.asked c.args.k (query_read c.args.keys c.bytes.result.now) c.args.past.now) =
    query_refused c.args.keys (λ read. past_answer c.args.asked c.args.k read c.args.past.now) (λ fault. refl) c.bytes.result.now refused c.in-Err.ensures.refused in
    subst (λ reply. Answers reply (past_answer c.args.asked c.args.k (query_read c.args.keys c.args.body.now) c.args.past.now)) (sym c.reply_to_query.ensures)
    (subst (λ bytes. Answers (query_reply refused) (past_answer c.args.asked c.args.k (query_read c.args.keys bytes) c.args.past.now)) c.bytes.ensures.value here)

pub returns-in-Err-pin-clause-answered : goal.returns-in-Err-pin-clause-answered
returns-in-Err-pin-clause-answered c =
    let query = c.in-Ok.query in
    let asked = c.args.asked in
    let k = c.args.k in
    let past = c.args.past.now in
    let there : Answers _ (past_reply query asked k past) = past_refused query asked k past c.in-Err-pin.refused c.in-Err-pin.ensures.refused in (
      there.0,
      c.reply_to_position.ensures ∙ there.1
          ∙ ap (reply_or_denied there.0)
          (query_found c.args.keys (λ read. past_answer asked k read past) c.bytes.result.now query c.in-Ok.ensures.sound c.in-Ok.ensures.keys
          ∙ ap (λ bytes. past_answer asked k (query_read c.args.keys bytes) past) c.bytes.ensures.value),
    )

pub returns-in-Ok-rows_at-clause-answered : goal.returns-in-Ok-rows_at-clause-answered
returns-in-Ok-rows_at-clause-answered c =
    let query = c.in-Ok.query in
    let asked = c.args.asked in
    let k = c.args.k in
    let past = c.args.past.now in
    let rows : c.in-Ok-rows_at.rows ≡ answer (live (take asked past)) query k None = c.in-Ok-rows_at.ensures ∙ ap (λ tables. answer tables query k None) c.in-Ok-pin.ensures.live in
    let at : c.taken.result ≡ length past = c.taken.ensures ∙ ap (λ j. length j) c.pin.ensures.same in (
      false,
      (λ i. Past (c.len.ensures.value i) (rows i) asked (at i))
          ∙ past_found query asked k past c.in-Ok-pin.ensures.sound
          ∙ query_found c.args.keys (λ read. past_answer asked k read past) c.bytes.result.now query c.in-Ok.ensures.sound c.in-Ok.ensures.keys
          ∙ ap (λ bytes. past_answer asked k (query_read c.args.keys bytes) past) c.bytes.ensures.value,
    )
