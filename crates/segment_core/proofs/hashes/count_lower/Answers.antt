use Rattle.std.proofs.Common.{◌+◌, ◌<◌, arith, length, subst, sym}
use Rattle.segment_core.specs.Hashes.{IsSplitIn}
use Rattle.segment_core.proofs.HashLemmas.{none_lower, one_lower}
use Rattle.segment_core.proofs.hashes.count_lower.Goals as goal
use Rattle.segment_core.proofs.hashes.count_lower.Goals.{then-entry-hash, else-entry-hash}

pub loop-entry-preserved : goal.loop-entry-preserved
loop-entry-preserved c =
    let entries = c.args.entries.now in
    let hash = c.args.hash in
    let at = c.loop-entry.lower in
    let i = c.loop-entry.entry-index in
    let within : i < length entries = omega (arith, c.loop-entry-test.true) in
    let split = c.loop-entry.invariant in
    elim c.if-entry-hash.branch [
      | then-entry-hash w ↦ subst (IsSplitIn (i + 1) entries hash) (sym w.lower-is) (one_lower entries hash at i c.requires within split w.if-entry-hash.true)
      | else-entry-hash w ↦ subst (IsSplitIn (i + 1) entries hash) (sym w.lower-is) (none_lower entries hash at i c.requires within split w.if-entry-hash.false)
    ]
