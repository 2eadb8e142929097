use Rattle.std.proofs.Common.{◌≡◌, ◌≤◌, ◌+◌, ◌-◌, ◌++◌, length, take, vec_capacity, vec_len}
use Rattle.std.specs.List.{flat_map}
use Rattle.contain_search.specs.Met.{met, probes_of, rows_of}
use Rattle.segment_core.specs.Versions.{part_at, segment_at}
use Rattle.contain_search.proofs.column.settle_all.Given as goal

abbrev pub invariant-loop-column : goal.invariant-loop-column
invariant-loop-column l = record {
  version : l.looks.version ≡ l.fn.looks.version;
  log : l.looks.log ≡ l.fn.looks.log ++ flat_map (probes_of (part_at l.fn.looks.version.parts l.part).number (segment_at l.fn.looks.version.parts l.part).sets l.columns.tallies (length l.tokens - l.read)) (take l.column-index l.found);
  spare : l.fn.looks.spare ≤ l.looks.spare + l.column-index;
  rows : l.rows.items ≡ l.fn.rows.items ++ flat_map (rows_of l.least (met (part_at l.fn.looks.version.parts l.part) l.tokens)) (take l.column-index l.found);
  len : vec_len l.rows ≤ vec_len l.fn.rows + l.column-index;
  rows_room : vec_capacity l.fn.rows ≤ vec_capacity l.rows;
}
