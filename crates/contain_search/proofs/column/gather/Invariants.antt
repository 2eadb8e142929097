use Rattle.std.proofs.Common.{◌≡◌, ◌≤◌, [], filter, take, vec_capacity, vec_len}
use Rattle.contain_search.specs.Met.{may_still, met}
use Rattle.segment_core.specs.Versions.{part_at}
use Rattle.contain_search.proofs.column.gather.Given as goal

abbrev pub invariant-loop-column : goal.invariant-loop-column
invariant-loop-column l = record {
  found : l.found.items ≡ filter (may_still l.least (met (part_at l.looks.version.parts l.part) []) l.columns.tallies l.left) (take l.column-index l.columns.touched);
  few : vec_len l.found ≤ l.column-index;
  room : vec_capacity l.fn.found ≤ vec_capacity l.found;
}
