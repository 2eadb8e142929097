use Rattle.std.proofs.Common.{sym, ◌∙◌, ◌+◌, subst, List, ℕ, map}
use Rattle.trace_hints.specs.Told.{hint_as}
use Rattle.trace_numbers.specs.Slots.{ArePut}
use Rattle.trace_numbers.proofs.SlotLemmas.{more_here, none_here, refused_here}
use Rattle.trace_numbers.proofs.owners.put_all.Goals as goal
use Rattle.trace_numbers.proofs.owners.put_all.Goals.{in-Some+else-not-put_one, in_default}

pub returns-then-not-put_one-clause-refused : goal.returns-then-not-put_one-clause-refused
returns-then-not-put_one-clause-refused c =
    let kept = c.loop-index.invariant in
    λ _. refused_here c.args.hints.now c.loop-index.index c.in-Some.at _ _ c.loop-index.owners kept.put c.loop-index-test.true kept.long c.own_position.ensures c.in-Some.is (c.put_one.ensures.refused c.if-not-put_one.true)

pub loop-index-preserved : goal.loop-index-preserved
loop-index-preserved c =
    let kept = c.loop-index.invariant in
    let all : List ℕ → Type 0 = ArePut (map hint_as c.args.hints.now) (c.loop-index.index + 1) in
    let long = c.match-own_position.auto.owners in
    elim c.match-own_position.branch [
      | in-Some+else-not-put_one w ↦ record {
        put = subst all (sym w.owners-is)
            (more_here c.args.hints.now c.loop-index.index w.in-Some.at _ _ c.loop-index.owners w.put_one.new.owners kept.put c.loop-index-test.true c.own_position.ensures w.in-Some.is (w.put_one.ensures.put w.if-not-put_one.false));
        long = long ∙ kept.long;
      }
      | in_default w ↦ record {
        put = subst all (sym w.owners-is) (none_here c.args.hints.now c.loop-index.index _ _ c.loop-index.owners kept.put c.loop-index-test.true c.own_position.ensures w.in_default.is);
        long = long ∙ kept.long;
      }
    ]
