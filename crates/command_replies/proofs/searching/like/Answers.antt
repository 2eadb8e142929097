use Rattle.std.proofs.Common.{Some, ap, false, sym, subst, ◌∙◌}
use Rattle.josie_search.specs.Search.{query_with}
use Rattle.record_model.specs.Replies.{like_reply}
use Rattle.command_replies.specs.Searches.{column_reply}
use Rattle.command_replies.proofs.LoadLemmas.{Answers}
use Rattle.command_replies.proofs.SearchLemmas.{found_now, like_found, like_refused}
use Rattle.command_replies.proofs.searching.like.Goals as goal

pub returns-in-Err : goal.returns-in-Err
returns-in-Err c journal is =
    let said = c.reply_to_column.ensures ∙ ap (λ name. column_reply name c.args.place c.at.result c.in-Err.refused) c.in-Ok-new.ensures in
    subst (λ reply. Answers reply (like_reply c.args.k c.args.name.now c.args.place journal)) (sym said)
    (like_refused c.args.pin.now journal c.args.k c.args.name.now c.args.place c.at.result c.in-Err.refused is c.requires.place c.at.ensures c.in-Err.ensures.refused)

pub returns-in-Ok-find : goal.returns-in-Ok-find
returns-in-Ok-find c journal is = (
  false,
  c.in-Ok-find.ensures ∙ found_now c.args.pin.now journal (query_with c.args.k c.in-Ok.query (Some c.args.name.now)) is
      ∙ like_found c.args.pin.now journal c.args.k c.args.name.now c.args.place c.in-Ok.query is c.requires.place c.in-Ok.ensures.sound c.in-Ok.ensures.keys,
)
