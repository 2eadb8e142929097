use Rattle.lane_run.proofs.NumberedLemmas.{accepts_numbered, changes_each}
use Rattle.lane_run.proofs.fork.for_each_busy.Goals as goal

pub call_each-requires-clause-accepts : goal.call_each-requires-clause-accepts
call_each-requires-clause-accepts g c κs within = accepts_numbered g.F.Fn c.args.f.now c.args.items.now c.requires

pub returns : goal.returns
returns g c = changes_each g.F.Fn c.args.f.now c.args.items.now c.call_each.new.items c.call_each.ensures
