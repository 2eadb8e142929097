use Rattle.std.proofs.Common.{◌≡◌, length}
use Rattle.script_model.specs.Words.{before_spaces}
use Rattle.script_text.proofs.spaces.before_spaces.Given as goal

abbrev pub invariant-loop-text : goal.invariant-loop-text
invariant-loop-text l = before_spaces l.fn.text ≡ before_spaces l.text

abbrev pub decreases-loop-text : goal.decreases-loop-text
decreases-loop-text l = length l.text
