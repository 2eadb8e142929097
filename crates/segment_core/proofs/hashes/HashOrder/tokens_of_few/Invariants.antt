use Rattle.std.proofs.Common.{◌≡◌, List, take}
use Rattle.lake_model.specs.Tables.{Table}
use Rattle.search_model.specs.Segment.{segment}
use Rattle.segment_core.specs.Among.{found_by}
use Rattle.segment_core.specs.Hashes.{IsByHash}
use Rattle.segment_core.proofs.hashes.HashOrder.tokens_of_few.Given as goal

abbrev pub invariant-loop-index : goal.invariant-loop-index
invariant-loop-index l = (tables : List Table) → IsByHash tables l.fn.self → l.tokens.items ≡ found_by (segment tables).tokens (take l.index l.query)
