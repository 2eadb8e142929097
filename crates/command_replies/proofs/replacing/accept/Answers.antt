use Rattle.std.proofs.Common.{◌≡◌, ap, sym, ◌∙◌, subst, rules, ◌+◌, length, false}
use Rattle.lake_model.specs.Journal.{Replaced as ReplacedWhat, entry_with}
use Rattle.lake_model.specs.Tables.{members}
use Rattle.record_model.specs.Replies.{Replaced, replace_reply}
use Rattle.command_replies.specs.Replaces.{replace_refusal_reply}
use Rattle.command_replies.proofs.LoadLemmas.{Answers, added_at}
use Rattle.command_replies.proofs.ReplaceLemmas.{refused_replace, accepted_replace}
use Rattle.command_replies.proofs.replacing.accept.Goals as goal

pub returns-in-Err-clause-answered : goal.returns-in-Err-clause-answered
returns-in-Err-clause-answered c =
    let wanted = replace_reply c.args.catalogue.now.limits c.args.table c.args.catalogue.now.journal in
    let named : c.in-Ok-new.name ≡ c.args.table.name = search rules in
    let here : Answers (replace_refusal_reply c.args.table.name c.in-Err.refused) wanted = refused_replace c.args.catalogue.now.limits c.args.table c.args.catalogue.now.journal c.in-Err.refused c.in-Err.ensures.refused in
    subst (λ reply. Answers reply wanted) (sym (c.reply_to_replace.ensures ∙ ap (λ name. replace_refusal_reply name c.in-Err.refused) named)) here

pub returns-in-Ok-replace-clause-answered : goal.returns-in-Ok-replace-clause-answered
returns-in-Ok-replace-clause-answered c =
    let table = c.args.table in
    let journal = c.args.catalogue.now.journal in
    let accepted = c.in-Ok-replace.ensures.accepted in
    let here : replace_reply c.args.catalogue.now.limits table journal ≡ Replaced table.name (length table.columns) (members table) (length journal + 1) = accepted_replace c.args.catalogue.now.limits table journal accepted.0 in
    let named : c.in-Ok-new.name ≡ table.name = search rules in
    let columns : c.columns-columns.result ≡ length table.columns = search rules in
    let many : c.members-members.result ≡ members table = search rules in
    let at : c.in-Ok-replace.at ≡ length journal + 1 = added_at c.replace.new.self c.args.catalogue.now.limits journal (entry_with c.args.who (ReplacedWhat table)) c.in-Ok-replace.at accepted.1 accepted.2 in
    (false, (λ i. Replaced (named i) (columns i) (many i) (at i)) ∙ sym here)
