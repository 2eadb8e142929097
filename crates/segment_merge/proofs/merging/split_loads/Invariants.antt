use Rattle.std.proofs.Common.{◌≡◌, ◌*◌, ◌≤◌, length, take}
use Rattle.std.specs.Prelude.{sum_by}
use Rattle.segment_merge.specs.Planned.{load_positions, load_tables}
use Rattle.segment_merge.proofs.merging.split_loads.Given as goal

abbrev pub invariant-loop-load : goal.invariant-loop-load
invariant-loop-load l =
    (l.positions.items ≡ load_positions (take l.load-index l.loads)) × (l.tables.items ≡ load_tables (take l.load-index l.loads))
    × (sum_by (λ table. length table.columns) (load_tables (take l.load-index l.loads)) ≤ 4096 * l.load-index)
