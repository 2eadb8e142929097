use Rattle.record_model.specs.Rules.{rules_with}
use Rattle.std.proofs.Common.{◌≡◌, ◌++◌, ap, refl, sym, subst, ◌∙◌, ℕ, List, length, take, drop, arith}
use Rattle.std.specs.Prelude.{OnOk}
use Rattle.std.proofs.Math.Seq.{take-append_seam}
use Rattle.lake_model.specs.Journal.{Entry}
use Rattle.turn_lock.specs.Passes.{Known}
use Rattle.record_model.specs.Play.{merges_of}
use Rattle.lane_run.specs.Chains.{AreServed}
use Rattle.lake_desk.specs.Answering.{IsStep}
use Rattle.lake_desk.specs.Together.{AreTogether}
use Rattle.lake_desk.proofs.Batches.{commands_within, one_more_on_ok, served_apart, together_on_ok}
use Rattle.lake_desk.proofs.batch.answer_batch.Goals as goal

pub run_batch-requires-clause-desks : goal.run_batch-requires-clause-desks
run_batch-requires-clause-desks g c κs within = commands_within c.args.out.now.made.options.lanes (length c.args.desks.now.items) c.args.merger c.args.batch.now c.requires.lanes c.requires.together.count

pub settle-requires : goal.settle-requires
settle-requires g c =
    let rules = rules_with g.B.Bounds.keys g.B.Bounds.limits in
    let commands = c.args.batch.now ++ merges_of c.args.merger c.args.batch.now in
    let before = c.args.desks.now.items in
    let answers = c.in_ok-answers.answers.items in
    let ran = subst (λ (ds : List (Known Entry)). AreServed (IsStep rules) before commands answers ds) (sym c.deref_mut.ensures.value) c.in_ok-answers.ensures.ok in
    served_apart rules c.args.out.now.made.options.lanes c.args.out.now.made.journal commands answers before c.deref_mut.result.now c.requires.together ran

pub returns-clause-together : goal.returns-clause-together
returns-clause-together g c =
    let rules = rules_with g.B.Bounds.keys g.B.Bounds.limits in
    let lanes = c.args.out.now.made.options.lanes in
    let commands = c.args.batch.now ++ merges_of c.args.merger c.args.batch.now in
    let before = c.args.desks.now.items in
    let after = c.settle.new.desks in
    let made = c.settle.new.out.made in
    let answers = c.in_ok-answers.answers.items in
    let ran = subst (λ (ds : List (Known Entry)). AreServed (IsStep rules) before commands answers ds) (sym c.deref_mut.ensures.value) c.in_ok-answers.ensures.ok in
    let size : c.run_batch.new.desks.len ≡ length after = omega (arith, c.deref_mut.ensures.len, c.settle.auto.desks) in
    let back : take c.run_batch.new.desks.len (after ++ drop (length after) c.run_batch.new.desks.items) ≡ after =
    ap (λ (n : ℕ). take n (after ++ drop (length after) c.run_batch.new.desks.items)) size ∙ take-append_seam after (drop (length after) c.run_batch.new.desks.items) in
    subst (λ (ds : List (Known Entry)). OnOk c.settle.result (AreTogether made.options.lanes made.journal ds)) (sym back)
    (together_on_ok rules lanes commands c.args.out.now.made made answers before c.deref_mut.result.now after c.settle.result refl c.requires.together ran c.settle.ensures.made c.settle.ensures.meet)

pub returns-clause-batch : goal.returns-clause-batch
returns-clause-batch g c =
    let rules = rules_with g.B.Bounds.keys g.B.Bounds.limits in
    let commands = c.args.batch.now ++ merges_of c.args.merger c.args.batch.now in
    let before = c.args.desks.now.items in
    let answers = c.in_ok-answers.answers.items in
    let ran = subst (λ (ds : List (Known Entry)). AreServed (IsStep rules) before commands answers ds) (sym c.deref_mut.ensures.value) c.in_ok-answers.ensures.ok in
    one_more_on_ok rules c.args.out.now.made.options.lanes commands c.args.out.now.made c.settle.new.out.made answers before c.deref_mut.result.now c.settle.new.desks c.settle.result c.requires.together ran
    c.settle.ensures.made c.settle.ensures.meet c.settle.ensures.lawful c.settle.ensures.callers
