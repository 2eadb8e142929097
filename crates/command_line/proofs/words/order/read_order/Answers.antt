use Rattle.option_model.specs.Plain.{piece_of}
use Rattle.std.proofs.Common.{◌∙◌, ap, map}
use Rattle.command_line.proofs.OrderLemmas.{parts_read}
use Rattle.command_line.proofs.words.order.read_order.Goals as goal

pub returns : goal.returns
returns c = parts_read (piece_of c.args.lanes c.args.merge) c.read_pieces.result c.as_slice.result.now _ c.read_pieces.ensures
    (ap (map (λ part. part.now)) c.as_slice.ensures.value ∙ c.in_ok-parts.ensures)
