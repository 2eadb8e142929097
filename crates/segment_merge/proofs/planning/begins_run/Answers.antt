use Rattle.std.proofs.Common.{sym, ◌+◌, ◌≤◌, length, arith}
use Rattle.segment_merge.proofs.PlannedLemmas.{begins_short, begins_not_second, begins_not_third, begins_fourth}
use Rattle.segment_merge.proofs.planning.begins_run.Goals as goal

pub returns-then-parts-part-lt4 : goal.returns-then-parts-part-lt4
returns-then-parts-part-lt4 c = sym (begins_short c.args.pin.now.parts c.args.part (omega (arith, c.if-parts-part-lt4.true, c.parts.ensures, c.requires)))

pub returns-then-tier_of-tier : goal.returns-then-tier_of-tier
returns-then-tier_of-tier c =
    let four : c.args.part + 4 ≤ length c.args.pin.now.parts = omega (arith, c.if-parts-part-lt4.false, c.parts.ensures, c.requires) in
    begins_not_second c.args.pin.now.parts c.args.part c.tier_of-tier.result c.tier_of.result four c.tier_of-tier.ensures c.tier_of.ensures (λ e. omega (arith, e))

pub returns-then-tier_of-tier-2 : goal.returns-then-tier_of-tier-2
returns-then-tier_of-tier-2 c =
    let four : c.args.part + 4 ≤ length c.args.pin.now.parts = omega (arith, c.if-parts-part-lt4.false, c.parts.ensures, c.requires) in
    begins_not_third c.args.pin.now.parts c.args.part c.tier_of-tier.result c.tier_of.result c.tier_of-2.result four c.tier_of-tier.ensures c.tier_of.ensures c.tier_of-2.ensures
    (omega arith) (λ e. omega (arith, e))

pub returns : goal.returns
returns c =
    let four : c.args.part + 4 ≤ length c.args.pin.now.parts = omega (arith, c.if-parts-part-lt4.false, c.parts.ensures, c.requires) in
    begins_fourth c.args.pin.now.parts c.args.part c.tier_of-tier.result c.tier_of.result c.tier_of-2.result c.tier_of-3.result four c.tier_of-tier.ensures c.tier_of.ensures c.tier_of-2.ensures c.tier_of-3.ensures
    (omega arith) (omega arith)
