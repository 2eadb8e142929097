use Rattle.std.proofs.Common.{add-one, arith, length}
use Rattle.column_set.specs.Slots.{home_of}
use Rattle.column_set.proofs.SlotLemmas.{passes_more}
use Rattle.column_set.proofs.slots.free_slot.Goals as goal

pub loop-probe-preserved : goal.loop-probe-preserved
loop-probe-preserved c =
    let slots = c.args.slots.now in
    let more = passes_more (length slots) slots (home_of (length slots) c.args.hash) c.loop-probe.at c.loop-probe.probe c.loop-probe.invariant.passed (omega (arith, c.if-slots-at-eq0.false)) in
    record {
      within = c.behind-at.ensures.within;
      passed = rw (c.behind-at.ensures.value, add-one c.loop-probe.probe) more;
    }
