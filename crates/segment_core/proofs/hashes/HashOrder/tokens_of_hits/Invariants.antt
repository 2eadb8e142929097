use Rattle.std.proofs.Common.{◌≡◌, List, take}
use Rattle.lake_model.specs.Tables.{Table}
use Rattle.search_model.specs.Segment.{segment}
use Rattle.segment_core.specs.Among.{found_by, hit_keys}
use Rattle.segment_core.specs.Hashes.{IsByHash}
use Rattle.segment_core.proofs.hashes.HashOrder.tokens_of_hits.Given as goal

abbrev pub invariant-loop-i : goal.invariant-loop-i
invariant-loop-i l = (tables : List Table) → IsByHash tables l.fn.self → l.tokens.items ≡ found_by (segment tables).tokens (take l.i (hit_keys l.query l.hits))
