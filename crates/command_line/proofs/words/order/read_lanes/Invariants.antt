use Rattle.option_model.specs.Plain.{lane_number}
use Rattle.command_line.proofs.OrderLemmas.{IsReadTo}
use Rattle.command_line.proofs.words.order.read_lanes.Given as goal

abbrev pub invariant-loop-part : goal.invariant-loop-part
invariant-loop-part l = IsReadTo (λ part. lane_number l.lanes l.merge part.now) l.parts l.part-index l.numbers.items
