use Rattle.std.proofs.Common.{◌≡◌, List, take}
use Rattle.std.specs.List.{All}
use Rattle.lake_model.specs.Tables.{Table}
use Rattle.search_model.specs.Segment.{segment}
use Rattle.segment_core.specs.Among.{found_by, hit_keys, IsHit}
use Rattle.segment_core.specs.Hashes.{IsByHash}
use Rattle.segment_core.proofs.hashes.HashOrder.hits.Given as goal

abbrev pub invariant-loop-index : goal.invariant-loop-index
invariant-loop-index l = record {
  hits : All (IsHit l.fn.self l.query) l.hits.items;
  all : (tables : List Table) → IsByHash tables l.fn.self → found_by (segment tables).tokens (hit_keys l.query l.hits.items) ≡ found_by (segment tables).tokens (take l.index l.query);
}
