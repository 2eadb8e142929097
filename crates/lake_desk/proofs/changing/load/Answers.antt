use Rattle.std.proofs.Common.{◌≡◌, refl, ap, ◌∙◌, rules, length}
use Rattle.lake_model.specs.Tables.{members}
use Rattle.record_model.specs.Replies.{Loaded, load_reply}
use Rattle.run_record.specs.Replies.{reply_of}
use Rattle.command_replies.specs.Loads.{loaded_by, refusal_reply}
use Rattle.lake_desk.proofs.Answering.{same_pass}
use Rattle.lake_desk.proofs.Making.{denied_unmade, load_made, load_unmade}
use Rattle.lake_desk.proofs.changing.load.Goals as goal

pub returns-in-Ok-load-clause-made : goal.returns-in-Ok-load-clause-made
returns-in-Ok-load-clause-made g c =
    let table = c.args.table in
    let named : c.in-Ok.name ≡ table.name = search rules in
    let columns : c.columns-columns.result ≡ length table.columns = search rules in
    let many : c.members-members.result ≡ members table = search rules in
    load_made g.B.Bounds.limits table c.args.number c.in-Ok-load.at c.args.pass.now (Loaded c.in-Ok.name c.columns-columns.result c.members-members.result c.in-Ok-load.at) c.load.new.pass.seen c.in-Ok-load.ensures.accepted
    (λ i. Loaded (named i) (columns i) (many i) c.in-Ok-load.at)

pub returns-in-Err-clause-made : goal.returns-in-Err-clause-made
returns-in-Err-clause-made g c =
    let named : c.in-Ok.name ≡ c.args.table.name = search rules in
    load_unmade g.B.Bounds.limits c.args.table c.args.number c.args.pass.now (reply_of c.reply_to_load.result) c.load.new.pass.seen c.in-Err.refused c.in-Err.ensures.grows c.in-Err.ensures.refused
    (c.reply_to_load.ensures ∙ ap (λ name. refusal_reply name c.in-Err.refused) named)

pub returns-in_default-clause-pass : goal.returns-in_default-clause-pass
returns-in_default-clause-pass g c = same_pass c.args.pass.now c.requires.free

pub returns-in_default-clause-made : goal.returns-in_default-clause-made
returns-in_default-clause-made g c = denied_unmade (load_reply g.B.Bounds.limits c.args.table) (loaded_by c.args.table) c.args.number c.args.pass.now refl
