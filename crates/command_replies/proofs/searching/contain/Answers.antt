use Rattle.std.proofs.Common.{ap, sym, subst, ◌∙◌, false, refl}
use Rattle.record_model.specs.Replies.{query_reply}
use Rattle.record_model.specs.Answered.{query_read, contain_answer}
use Rattle.command_replies.proofs.LoadLemmas.{Answers, query_refused, query_found}
use Rattle.command_replies.proofs.SearchLemmas.{contained_now}
use Rattle.command_replies.proofs.searching.contain.Goals as goal

pub returns-in-Err : goal.returns-in-Err
returns-in-Err c journal is =
    let refused = c.in-Err.refused in
    let here : Answers (query_reply refused) (contain_answer c.args.a c.args.b (query_read c.args.keys c.bytes.result.now) journal) =
    query_refused c.args.keys (λ read. contain_answer c.args.a c.args.b read journal) (λ fault. refl) c.bytes.result.now refused c.in-Err.ensures.refused in
    subst (λ reply. Answers reply (contain_answer c.args.a c.args.b (query_read c.args.keys c.args.body.now) journal)) (sym c.reply_to_query.ensures)
    (subst (λ bytes. Answers (query_reply refused) (contain_answer c.args.a c.args.b (query_read c.args.keys bytes) journal)) c.bytes.ensures.value here)

pub returns-in-Ok-find_holding : goal.returns-in-Ok-find_holding
returns-in-Ok-find_holding c journal is =
    let query = c.in-Ok.query in (
      false,
      c.in-Ok-find_holding.ensures ∙ contained_now c.args.pin.now journal query c.args.a c.args.b is
          ∙ query_found c.args.keys (λ read. contain_answer c.args.a c.args.b read journal) c.bytes.result.now query c.in-Ok.ensures.sound c.in-Ok.ensures.keys
          ∙ ap (λ bytes. contain_answer c.args.a c.args.b (query_read c.args.keys bytes) journal) c.bytes.ensures.value,
    )
