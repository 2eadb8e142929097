use Rattle.std.proofs.Common.{◌≡◌, length}
use Rattle.script_model.specs.Words.{behind_spaces}
use Rattle.script_text.proofs.spaces.behind_spaces.Given as goal

abbrev pub invariant-loop-text : goal.invariant-loop-text
invariant-loop-text l = behind_spaces l.fn.text ≡ behind_spaces l.text

abbrev pub decreases-loop-text : goal.decreases-loop-text
decreases-loop-text l = length l.text
