use Rattle.std.proofs.Common.{◌≡◌, length}
use Rattle.part_columns.proofs.TouchedLemmas.{ForgottenFrom}
use Rattle.part_columns.proofs.columns.forget.Given as goal

abbrev pub invariant-loop-column : goal.invariant-loop-column
invariant-loop-column l = record {
  wide : length l.tallies ≡ length l.fn.tallies;
  marks : length l.known ≡ length l.fn.tallies;
  forgotten : ForgottenFrom l.touched l.column-index l.tallies l.known;
}
