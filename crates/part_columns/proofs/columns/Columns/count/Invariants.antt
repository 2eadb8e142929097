use Rattle.std.proofs.Common.{◌≡◌, ◌≤◌, ℕ, length, take}
use Rattle.part_columns.specs.Tallies.{counted, tally_at}
use Rattle.part_columns.proofs.columns.Columns.count.Given as goal

abbrev pub invariant-loop-posting : goal.invariant-loop-posting
invariant-loop-posting l = record {
  wide : length l.self.tallies ≡ length l.fn.self.tallies;
  tallies : (column : ℕ) → tally_at l.self.tallies column ≡ counted column (take l.posting-index l.list) (tally_at l.fn.self.tallies column);
  most : (column : ℕ) → (tally_at l.self.tallies column).count ≤ l.greatest;
  known : l.self.known ≡ l.fn.self.known;
}
