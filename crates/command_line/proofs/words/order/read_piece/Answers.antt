use Rattle.std.proofs.Common.{◌∙◌, ◌≡◌, ap, map, sym, subst, IfOk, List, ℕ, Option}
use Rattle.option_model.specs.Plain.{lane_number}
use Rattle.command_line.proofs.OrderLemmas.{parts_read, some_piece}
use Rattle.command_line.proofs.words.order.read_piece.Goals as goal

pub returns : goal.returns
returns c = subst (λ (wanted : Option (List ℕ)). IfOk c.read_lanes.result (λ piece. piece ≡ wanted))
    (some_piece c.args.lanes c.args.merge c.args.text.now (sym c.is_empty.ensures ∙ c.if-is_empty.false))
    (parts_read (lane_number c.args.lanes c.args.merge) c.read_lanes.result c.as_slice.result.now _ c.read_lanes.ensures
    (ap (map (λ part. part.now)) c.as_slice.ensures.value ∙ c.in_ok-parts.ensures))
