use Rattle.std.proofs.Common.{take}
use Rattle.search_model.specs.Segment.{columns_in}
use Rattle.segment_build.specs.Holding.{all_tokens, held_with, HasMore}
use Rattle.segment_build.proofs.columns.push_table.Given as goal

abbrev pub invariant-loop-i : goal.invariant-loop-i
invariant-loop-i l =
    HasMore (all_tokens l.vocab) (held_with l.fn.sets.owners.items l.fn.sets.starts.items l.fn.sets.tokens.items) (held_with l.sets.owners.items l.sets.starts.items l.sets.tokens.items) (take l.i (columns_in l.number l.table))
