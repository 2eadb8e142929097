use Rattle.std.proofs.Common.{◌≡◌, ◌+◌, ◌≤◌, length}
use Rattle.std.specs.Str.{IsUtf8}
use Rattle.lake_model.specs.Texts.{all_lines}
use Rattle.lake_model.specs.Queries.{line_fault}
use Rattle.column_set.proofs.query.faulty_line.Given as goal

-- no line so far is at fault, but one of the remaining lines is, and each line so far had a byte
abbrev pub invariant-loop-rest : goal.invariant-loop-rest
invariant-loop-rest l = record {
  fault : line_fault 1 (all_lines l.fn.body) ≡ line_fault l.number (all_lines l.rest);
  broken : ¬ (IsUtf8 l.rest);
  small : l.number + length l.rest ≤ 1 + length l.fn.body;
}

abbrev pub decreases-loop-rest : goal.decreases-loop-rest
decreases-loop-rest l = length l.rest
