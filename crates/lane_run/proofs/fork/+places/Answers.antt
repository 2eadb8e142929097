use Rattle.std.proofs.Common.{rules, subst}
use Rattle.std.specs.Fork.{ChangesAt}
use Rattle.lane_run.proofs.fork.+places.Goals as goal

pub call_apart-returns-clause-item : goal.call_apart-returns-clause-item
call_apart-returns-clause-item g t c = subst (ChangesAt g.F.Fn c.args.f.now c.args.place c.args.item.now) (search rules) c.join_mut.ensures.0.met.1
