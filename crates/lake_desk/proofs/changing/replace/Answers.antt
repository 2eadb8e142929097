use Rattle.std.proofs.Common.{◌≡◌, refl, ap, ◌∙◌, rules, length}
use Rattle.lake_model.specs.Tables.{members}
use Rattle.record_model.specs.Replies.{Replaced, replace_reply}
use Rattle.run_record.specs.Replies.{reply_of}
use Rattle.command_replies.specs.Replaces.{replace_refusal_reply, replaced_by}
use Rattle.lake_desk.proofs.Answering.{same_pass}
use Rattle.lake_desk.proofs.Making.{denied_unmade, replace_made, replace_unmade}
use Rattle.lake_desk.proofs.changing.replace.Goals as goal

pub returns-in-Ok-replace-clause-made : goal.returns-in-Ok-replace-clause-made
returns-in-Ok-replace-clause-made g c =
    let table = c.args.table in
    let named : c.in-Ok.name ≡ table.name = search rules in
    let columns : c.columns-columns.result ≡ length table.columns = search rules in
    let many : c.members-members.result ≡ members table = search rules in
    replace_made g.B.Bounds.limits table c.args.number c.in-Ok-replace.at c.args.pass.now (Replaced c.in-Ok.name c.columns-columns.result c.members-members.result c.in-Ok-replace.at) c.replace.new.pass.seen c.in-Ok-replace.ensures.accepted
    (λ i. Replaced (named i) (columns i) (many i) c.in-Ok-replace.at)

pub returns-in-Err-clause-made : goal.returns-in-Err-clause-made
returns-in-Err-clause-made g c =
    let named : c.in-Ok.name ≡ c.args.table.name = search rules in
    replace_unmade g.B.Bounds.limits c.args.table c.args.number c.args.pass.now (reply_of c.reply_to_replace.result) c.replace.new.pass.seen c.in-Err.refused c.in-Err.ensures.grows c.in-Err.ensures.refused
    (c.reply_to_replace.ensures ∙ ap (λ name. replace_refusal_reply name c.in-Err.refused) named)

pub returns-in_default-clause-pass : goal.returns-in_default-clause-pass
returns-in_default-clause-pass g c = same_pass c.args.pass.now c.requires.free

pub returns-in_default-clause-made : goal.returns-in_default-clause-made
returns-in_default-clause-made g c = denied_unmade (replace_reply g.B.Bounds.limits c.args.table) (replaced_by c.args.table) c.args.number c.args.pass.now refl
