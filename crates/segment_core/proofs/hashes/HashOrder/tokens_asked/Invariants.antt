use Rattle.std.proofs.Common.{◌≡◌, List, take}
use Rattle.lake_model.specs.Tables.{Table}
use Rattle.search_model.specs.Segment.{segment}
use Rattle.segment_core.specs.Among.{found_by}
use Rattle.segment_core.specs.Hashes.{IsByHash}
use Rattle.segment_core.proofs.AskedLemmas.{asked_keys}
use Rattle.segment_core.proofs.hashes.HashOrder.tokens_asked.Given as goal

abbrev pub invariant-loop-at : goal.invariant-loop-at
invariant-loop-at l = (tables : List Table) → IsByHash tables l.fn.self → l.tokens.items ≡ found_by (segment tables).tokens (asked_keys (segment tables).tokens l.query (take l.at l.fn.self))
