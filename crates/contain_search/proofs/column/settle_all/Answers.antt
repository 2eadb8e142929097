use Rattle.std.proofs.Common.{ap, length, take, arith}
use Rattle.part_columns.proofs.TallyLemmas.{counted_in}
use Rattle.segment_core.specs.Versions.{segment_at, VersionOf}
use Rattle.contain_search.proofs.column.settle_all.Goals as goal

pub settle-requires-clause-column : goal.settle-requires-clause-column
settle-requires-clause-column c =
    let some = c.requires.seen c.loop-column.column-index 0 c.loop-column-test.true in
    let within = counted_in (segment_at c.args.looks.now.version.parts c.args.part).sets (take c.args.read c.args.tokens.now) c.args.columns.now.tallies c.requires.tallies _ some in
    omega (arith, within, ap (λ (v : VersionOf). length (segment_at v.parts c.args.part).sets) c.loop-column.invariant.version)
