use Rattle.std.proofs.Common.{◌++◌, sym, subst, take}
use mathlib.Core.List.{IsPrefix}
use Rattle.asof_search.proofs.TakeLemmas.{still_few, still_legal, still_light, taken_begins}
use Rattle.asof_search.proofs.timeline.Timeline.take_all.Goals as goal

pub take-requires-clause-legal : goal.take-requires-clause-legal
take-requires-clause-legal c = still_legal c.args.self.now c.args.entries.now c.loop-entry.self c.loop-entry.entry-index c.loop-entry.invariant c.entry-item.result c.loop-entry-test.true c.entry-item.is c.requires.legal

pub take-requires-clause-few : goal.take-requires-clause-few
take-requires-clause-few c = still_few c.args.self.now c.args.entries.now c.loop-entry.self c.loop-entry.entry-index c.loop-entry.invariant c.entry-item.result c.loop-entry-test.true c.entry-item.is _ c.requires.few

pub take-requires-clause-light : goal.take-requires-clause-light
take-requires-clause-light c = still_light c.args.self.now c.args.entries.now c.loop-entry.self c.loop-entry.entry-index c.loop-entry.invariant c.entry-item.result c.loop-entry-test.true c.entry-item.is _ c.requires.light

pub returns-in_err-take-clause-begins : goal.returns-in_err-take-clause-begins
returns-in_err-take-clause-begins c =
    subst (λ taken. IsPrefix taken (c.args.self.now ++ c.args.entries.now)) (sym c.in_err-take.ensures.err) (taken_begins c.args.self.now c.args.entries.now c.loop-entry.self c.loop-entry.entry-index c.loop-entry.invariant)

pub returns-in_err-take-clause-kept : goal.returns-in_err-take-clause-kept
returns-in_err-take-clause-kept c =
    subst (IsPrefix c.args.self.now) (sym c.in_err-take.ensures.err) (take c.loop-entry.entry-index c.args.entries.now, sym c.loop-entry.invariant)

pub returns-clause-kept : goal.returns-clause-kept
returns-clause-kept c = (take c.loop-entry.entry-index c.args.entries.now, sym c.loop-entry.invariant)
