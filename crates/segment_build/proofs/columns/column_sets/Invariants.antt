use Rattle.std.proofs.Common.{[], ◌∷◌, take}
use Rattle.search_model.specs.Segment.{columns_of}
use Rattle.segment_build.specs.Holding.{all_tokens, held_with, HasMore}
use Rattle.segment_build.proofs.columns.column_sets.Given as goal

abbrev pub invariant-loop-table : goal.invariant-loop-table
invariant-loop-table l = HasMore (all_tokens l.tables) (held_with [] (0 ∷ []) []) (held_with l.sets.owners.items l.sets.starts.items l.sets.tokens.items) (columns_of (take l.table l.tables))
