use Rattle.std.proofs.Common.{None, ap, sym, subst, ◌∙◌, false, refl}
use Rattle.josie_search.specs.Search.{query_with}
use Rattle.record_model.specs.Replies.{query_reply}
use Rattle.record_model.specs.Answered.{query_read, search_answer}
use Rattle.command_replies.proofs.LoadLemmas.{Answers, query_refused, query_found}
use Rattle.command_replies.proofs.SearchLemmas.{found_now}
use Rattle.command_replies.proofs.searching.search.Goals as goal

pub returns-in-Err : goal.returns-in-Err
returns-in-Err c journal is =
    let k = c.args.k in
    let refused = c.in-Err.refused in
    let here : Answers (query_reply refused) (search_answer k (query_read c.args.keys c.bytes.result.now) journal) = query_refused c.args.keys (λ read. search_answer k read journal) (λ fault. refl) c.bytes.result.now refused c.in-Err.ensures.refused in
    subst (λ reply. Answers reply (search_answer k (query_read c.args.keys c.args.body.now) journal)) (sym c.reply_to_query.ensures)
    (subst (λ bytes. Answers (query_reply refused) (search_answer k (query_read c.args.keys bytes) journal)) c.bytes.ensures.value here)

pub returns-in-Ok-find : goal.returns-in-Ok-find
returns-in-Ok-find c journal is =
    let k = c.args.k in
    let query = c.in-Ok.query in (
      false,
      c.in-Ok-find.ensures ∙ found_now c.args.pin.now journal (query_with k query None) is
          ∙ query_found c.args.keys (λ read. search_answer k read journal) c.bytes.result.now query c.in-Ok.ensures.sound c.in-Ok.ensures.keys
          ∙ ap (λ bytes. search_answer k (query_read c.args.keys bytes) journal) c.bytes.ensures.value,
    )
