use Rattle.std.proofs.Common.{◌≡◌, ◌+◌, ◌≤◌, ℕ, drop, length, map, vec_len}
use Rattle.trace_hints.specs.Told.{hint_as}
use Rattle.trace_numbers.specs.Positions.{rises_whole}
use Rattle.trace_numbers.proofs.rising.positions_rise.Given as goal

abbrev pub invariant-loop-batch : goal.invariant-loop-batch
invariant-loop-batch l = record {
  left : (next : ℕ) × (rises_whole l.lanes l.merge next l.from (drop l.batch-index l.batches) (map hint_as l.rest) ≡ rises_whole l.lanes l.merge 1 0 l.batches (map hint_as l.hints));
  lows : vec_len l.lows ≡ l.lanes + 1;
  few : l.from + length l.rest ≤ length l.hints;
}
