use Rattle.std.proofs.Common.{ap, sym, ◌∙◌, subst, false, length, arith}
use Rattle.script_model.specs.Commands.{Merge, command_with}
use Rattle.batch_work.specs.Works.{work_of}
use Rattle.trace_replay.specs.Lakes.{IsHeldIn, LakeOf}
use Rattle.trace_replay.proofs.LakeLemmas.{begun_for, late_ready, planned_more, pushed_in, pushed_is}
use Rattle.trace_replay.proofs.lake.Lake.plan_one.Goals as goal

pub hint-requires : goal.hint-requires
hint-requires c = omega (arith, c.requires.plan.inside, c.positions.ensures.one_each)

pub work-requires : goal.work-requires
work-requires c = omega (arith, c.requires.plan.inside, c.positions.ensures.one_each)

pub returns-then-not-is_early-clause-ready : goal.returns-then-not-is_early-clause-ready
returns-then-not-is_early-clause-ready c = late_ready c.args.trace.now c.args.plan.index c.args.self.now _ c.hint.ensures (c.is_early.ensures.no c.if-not-is_early.true)

pub returns-clause-at : goal.returns-clause-at
returns-clause-at c =
    let trace = c.args.trace.now in
    let journal = ap (λ (l : LakeOf). l.journal) c.self.view_is in
    planned_more trace c.args.plan _ _ c.args.self.now _ _ c.self.inside.held.items c.push.new.self.items _ c.begin-held.result c.requires.at c.requires.plan (c.positions.ensures.each c.args.plan.index) c.hint.ensures
    (c.is_early.ensures.yes c.if-not-is_early.false) c.self.view_is
    (begun_for trace c.args.plan.index (work_of c.work.result) c.self.inside.catalogue.journal c.args.self.now.journal c.begin-held.result (c.work.ensures (command_with 0 0 (Merge false))) journal c.begin-held.ensures.held)
    (c.begin-held.ensures.position ∙ ap length journal) c.in_ok-push.ensures.items

pub returns-clause-ready : goal.returns-clause-ready
returns-clause-ready c early = pushed_is c.self.inside.held.items c.push.new.self.items c.args.plan.index c.begin-held.result c.in_ok-push.ensures.items

pub returns-clause-others : goal.returns-clause-others
returns-clause-others c i none there =
    pushed_in c.self.inside.held.items c.push.new.self.items c.args.plan.index i c.begin-held.result c.in_ok-push.ensures.items (subst (λ (l : LakeOf). IsHeldIn l.held i) (sym c.self.view_is) there)
