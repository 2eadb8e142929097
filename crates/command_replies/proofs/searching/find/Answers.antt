use Rattle.std.proofs.Common.{◌≡◌, ◌∙◌, ap, subst, option_copied}
use Rattle.josie_search.specs.Search.{query_with, search_with}
use Rattle.segment_core.specs.Versions.{LooksOf, VersionOf}
use Rattle.record_model.specs.Replies.{Reply}
use Rattle.run_record.specs.Replies.{reply_of}
use Rattle.command_replies.proofs.SearchLemmas.{found_here}
use Rattle.command_replies.proofs.searching.find.Goals as goal

pub returns : goal.returns
returns c =
    let query = query_with c.args.k c.args.query.now (option_copied c.args.except) in
    subst (λ (said : Reply). reply_of c.in_ok-reply.reply ≡ said)
    (found_here c.args.pin.now query c.in_ok-prepared.prepared c.run-answer.result.0.rows c.run-answer.result.0.looks.log c.in_ok-layout.layout
    (c.in_ok-prepared.ensures ∙ ap (λ (looks : LooksOf). search_with looks.version query) c.looks-looks.ensures ∙ ap (λ (version : VersionOf). search_with version query) c.in_ok-indexed.ensures) c.run-answer.ensures.rows c.run-answer.ensures.log c.in_ok-layout.ensures)
    c.in_ok-reply.ensures
