use Rattle.std.proofs.Common.{◌≡◌, ◌≤◌, ◌+◌, length, take, drop, sum_by, vec_capacity, vec_len}
use Rattle.std.specs.List.{flat_map}
use Rattle.contain_search.specs.Met.{looks_for, rows_for}
use Rattle.part_columns.specs.Room.{IsMost}
use Rattle.search_laws.specs.Found.{found_rows}
use Rattle.search_model.specs.Contain.{contain_looks, of_all_tables}
use Rattle.search_model.specs.Looks.{searched}
use Rattle.contain_search.proofs.contain.PreparedContain.run.Given as goal

abbrev pub invariant-loop-part : goal.invariant-loop-part
invariant-loop-part l = record {
  end : l.part-end ≡ length l.fn.self.version.parts;
  version : l.looks.version ≡ l.fn.self.version;
  log : l.looks.log ≡ flat_map (λ part. contain_looks l.least (searched (of_all_tables l.fn.self.keys) part)) (take l.part l.fn.self.version.parts);
  rows : l.rows.items ≡ flat_map (λ part. found_rows l.least (searched (of_all_tables l.fn.self.keys) part)) (take l.part l.fn.self.version.parts);
  wide : IsMost l.fn.self.version.parts (length l.columns.tallies);
  kept : length l.columns.tallies ≤ vec_capacity l.found;
  looks_room : sum_by (looks_for l.fn.self.keys l.least) (drop l.part l.fn.self.version.parts) ≤ l.looks.spare;
  rows_room : vec_len l.rows + sum_by (rows_for l.fn.self.keys l.least) (drop l.part l.fn.self.version.parts) ≤ vec_capacity l.rows;
}
