-- The laws of commands in turn.
use Rattle.record_model.proofs.InTurnLemmas.{in_turn_more, in_turn_played}
use Rattle.record_model.proofs.laws.in_turn_law.Goals as goal

pub returns : goal.returns
returns c = record { one_more = in_turn_more; batch = in_turn_played }
