use Rattle.std.proofs.Common.{◌<◌, ◌∙◌, sym, arith, length}
use Rattle.column_watch.proofs.OrderLemmas.{alike, different}
use Rattle.column_watch.proofs.held.all_equal.Goals as goal

pub returns-then-not-is_same : goal.returns-then-not-is_same
returns-then-not-is_same c = λ same.
    let within : c.loop-i.i < length c.args.before.now = omega arith in
    let inside : c.loop-i.i < length c.args.after.now = omega (arith, c.requires) in
    different _ _ c.args.before.now c.args.after.now c.loop-i.i within inside c.index-before-i.is c.index-after-i.is (sym c.is_same.ensures ∙ c.if-not-is_same.true) same

pub loop-i-preserved : goal.loop-i-preserved
loop-i-preserved c =
    let within : c.loop-i.i < length c.args.before.now = omega arith in
    let inside : c.loop-i.i < length c.args.after.now = omega (arith, c.requires) in
    alike _ _ c.args.before.now c.args.after.now c.loop-i.i within inside c.index-before-i.is c.index-after-i.is (sym c.is_same.ensures ∙ c.if-not-is_same.false) c.loop-i.invariant
