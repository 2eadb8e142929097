use Rattle.std.proofs.Common.{◌∙◌}
use Rattle.asof_search.proofs.BlockLemmas.{part_is}
use Rattle.asof_search.proofs.blocks.past_part.Goals as goal

pub returns : goal.returns
returns c =
    part_is c.new.result c.args.number c.args.asked c.args.puts.now c.new-positions.result c.args.segment.value c.new-marks.result (c.new-positions.ensures ∙ c.in_ok-put_positions.ensures) c.requires (c.new-marks.ensures ∙ c.in_ok-put_marks.ensures) c.new.ensures
