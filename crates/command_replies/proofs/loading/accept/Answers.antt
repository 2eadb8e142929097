use Rattle.std.proofs.Common.{◌≡◌, ap, sym, ◌∙◌, subst, rules, ◌+◌, length, false}
use Rattle.lake_model.specs.Journal.{Loaded as LoadedWhat, entry_with}
use Rattle.lake_model.specs.Tables.{members}
use Rattle.record_model.specs.Replies.{Loaded, load_reply}
use Rattle.command_replies.specs.Loads.{refusal_reply}
use Rattle.command_replies.proofs.LoadLemmas.{Answers, refused_load, accepted_load, added_at}
use Rattle.command_replies.proofs.loading.accept.Goals as goal

pub returns-in-Err-clause-answered : goal.returns-in-Err-clause-answered
returns-in-Err-clause-answered c =
    let wanted = load_reply c.args.catalogue.now.limits c.args.table c.args.catalogue.now.journal in
    let named : c.in-Ok-new.name ≡ c.args.table.name = search rules in
    let here : Answers (refusal_reply c.args.table.name c.in-Err.refused) wanted = refused_load c.args.catalogue.now.limits c.args.table c.args.catalogue.now.journal c.in-Err.refused c.in-Err.ensures.refused in
    subst (λ reply. Answers reply wanted) (sym (c.reply_to_load.ensures ∙ ap (λ name. refusal_reply name c.in-Err.refused) named)) here

pub returns-in-Ok-load-clause-answered : goal.returns-in-Ok-load-clause-answered
returns-in-Ok-load-clause-answered c =
    let table = c.args.table in
    let journal = c.args.catalogue.now.journal in
    let accepted = c.in-Ok-load.ensures.accepted in
    let here : load_reply c.args.catalogue.now.limits table journal ≡ Loaded table.name (length table.columns) (members table) (length journal + 1) = accepted_load c.args.catalogue.now.limits table journal accepted.0 in
    let named : c.in-Ok-new.name ≡ table.name = search rules in
    let columns : c.columns-columns.result ≡ length table.columns = search rules in
    let many : c.members-members.result ≡ members table = search rules in
    let at : c.in-Ok-load.at ≡ length journal + 1 = added_at c.load.new.self c.args.catalogue.now.limits journal (entry_with c.args.who (LoadedWhat table)) c.in-Ok-load.at accepted.1 accepted.2 in
    (false, (λ i. Loaded (named i) (columns i) (many i) (at i)) ∙ sym here)
