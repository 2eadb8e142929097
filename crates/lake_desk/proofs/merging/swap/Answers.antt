use Rattle.lake_desk.proofs.Answering.{nothing_made, same_pass}
use Rattle.lake_desk.proofs.merging.swap.Goals as goal

pub returns-in_default-clause-pass : goal.returns-in_default-clause-pass
returns-in_default-clause-pass g c = same_pass c.args.pass.now c.requires.free

pub returns-in_default-clause-made : goal.returns-in_default-clause-made
returns-in_default-clause-made g c = nothing_made c.args.number c.args.pass.now c.args.planned c.in_default.is
