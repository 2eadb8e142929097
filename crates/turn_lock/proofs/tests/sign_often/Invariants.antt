use Rattle.std.proofs.Common.{◌≡◌, false}
use Rattle.turn_lock.specs.Passes.{after_seeing}
use Rattle.turn_lock.proofs.tests.sign_often.Given as goal

abbrev pub invariant-loop : goal.invariant-loop
invariant-loop g l = l.pass ≡ after_seeing l.initial.pass l.pass.seen false
