use Rattle.std.proofs.Common.{◌≡◌, take}
use Rattle.lake_maker.specs.Sums.{sums_of}
use Rattle.lake_maker.proofs.sums.sums_of.Given as goal

abbrev pub invariant-loop-answer : goal.invariant-loop-answer
invariant-loop-answer l = l.sums ≡ sums_of (take l.answer-index l.answers)
