use Rattle.record_model.specs.Rules.{rules_with}
use Rattle.run_record.specs.Replies.{reply_of}
use Rattle.lake_desk.proofs.Answering.{load_answered, load_refused, same_pass}
use Rattle.lake_desk.proofs.asking.load_block.Goals as goal

pub returns-in-Ok-clause-answered : goal.returns-in-Ok-clause-answered
returns-in-Ok-clause-answered g c = load_answered (rules_with c.args.keys g.B.Bounds.limits) c.args.number c.args.name.now c.args.body.now c.in-Ok.field-0.table c.args.pass.now (reply_of c.load.result) c.load.new.pass.seen c.in-Ok.ensures.table c.load.ensures.made

pub returns-in-Err-clause-pass : goal.returns-in-Err-clause-pass
returns-in-Err-clause-pass g c = same_pass c.args.pass.now c.requires.free

pub returns-in-Err-clause-answered : goal.returns-in-Err-clause-answered
returns-in-Err-clause-answered g c = load_refused (rules_with c.args.keys g.B.Bounds.limits) c.args.number c.args.name.now c.args.body.now c.args.pass.now (reply_of c.in-Err.reply) c.in-Err.ensures.refused
