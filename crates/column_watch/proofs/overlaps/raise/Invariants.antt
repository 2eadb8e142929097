use Rattle.std.proofs.Common.{◌≡◌, ◌<◌, ◌≤◌, ◌+◌, ℕ, get_or, length}
use Rattle.std.specs.Int.{bit_at}
use Rattle.column_watch.proofs.overlaps.raise.Given as goal

abbrev pub invariant-loop-w : goal.invariant-loop-w
invariant-loop-w l = record {
  len : length l.counts ≡ length l.initial.counts;
  raised : (v : ℕ) → v < l.w → get_or l.counts v 0 ≡ get_or l.initial.counts v 0 + bit_at l.holders v;
  left : (v : ℕ) → l.w ≤ v → get_or l.counts v 0 ≡ get_or l.initial.counts v 0;
}
