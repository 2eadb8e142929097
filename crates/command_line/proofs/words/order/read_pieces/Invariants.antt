use Rattle.option_model.specs.Plain.{piece_of}
use Rattle.command_line.proofs.OrderLemmas.{IsReadTo}
use Rattle.command_line.proofs.words.order.read_pieces.Given as goal

abbrev pub invariant-loop-part : goal.invariant-loop-part
invariant-loop-part l = IsReadTo (λ part. piece_of l.lanes l.merge part.now) l.parts l.part-index l.pieces.items
