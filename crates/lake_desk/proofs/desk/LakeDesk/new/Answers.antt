use Rattle.std.proofs.Common.{subst, sym}
use mathlib.Core.List.{IsPrefix}
use Rattle.lake_desk.proofs.Answering.{begins_first}
use Rattle.lake_desk.proofs.desk.LakeDesk.new.Goals as goal

pub invariant_of-result : goal.invariant_of-result
invariant_of-result g c =
    let seen = c.args.pass.seen in
    let begins = subst (λ past. IsPrefix past seen) (sym c.unwrap_or.ensures) (begins_first c.args.past c.new.result seen c.new.ensures c.requires.past) in
    (c.requires.lock, c.requires.free, c.requires.keys, c.requires.wide, begins)
