use Rattle.std.proofs.Common.{◌∙◌, ap, refl}
use Rattle.record_model.specs.Replies.{drop_reply}
use Rattle.run_record.specs.Replies.{reply_of}
use Rattle.command_replies.specs.Drops.{drop_refusal_reply, dropped_by}
use Rattle.lake_desk.proofs.Answering.{same_pass}
use Rattle.lake_desk.proofs.Making.{denied_unmade, drop_unmade}
use Rattle.lake_desk.proofs.changing.drop_table.Goals as goal

pub returns-in-Err-clause-made : goal.returns-in-Err-clause-made
returns-in-Err-clause-made g c =
    drop_unmade g.B.Bounds.limits c.args.name.now c.args.number c.args.pass.now (reply_of c.reply_to_drop.result) c.drop_table.new.pass.seen c.in-Err.refused c.in-Err.ensures.grows c.in-Err.ensures.refused
    (c.reply_to_drop.ensures ∙ ap (λ name. drop_refusal_reply name c.in-Err.refused) c.in-Ok.ensures)

pub returns-in_default-clause-pass : goal.returns-in_default-clause-pass
returns-in_default-clause-pass g c = same_pass c.args.pass.now c.requires.free

pub returns-in_default-clause-made : goal.returns-in_default-clause-made
returns-in_default-clause-made g c = denied_unmade (drop_reply g.B.Bounds.limits c.args.name.now) (dropped_by c.args.name.now) c.args.number c.args.pass.now refl
