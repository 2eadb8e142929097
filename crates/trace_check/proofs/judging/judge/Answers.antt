use Rattle.std.proofs.Common.{rules, ◌≡◌, refl, false, ap, ◌∙◌, ◌^◌, ◌<◌, List, arith, flat_map, length, map}
use Rattle.std.proofs.lemmas.List.{length-map}
use Rattle.script_model.specs.Commands.{Command}
use Rattle.record_model.specs.Rules.{rules_with}
use Rattle.trace_laws.specs.Reading.{is_cut}
use Rattle.trace_laws.specs.Verdict.{all_commands}
use Rattle.trace_hints.specs.Told.{hint_as}
use Rattle.trace_groups.specs.declared.groups.Group.{Group}
use Rattle.trace_ends.proofs.EndLemmas.{joined_texts}
use Rattle.batch_work.specs.declared.work.Work.{Work}
use Rattle.batch_work.specs.Works.{work_of, works_of}
use Rattle.trace_check.proofs.CheckLemmas.{AreGiven, AreRead, all_named, judged, ok_both, uncut}
use Rattle.trace_check.proofs.judging.judge.Goals as goal

pub returns-in_default-clause-value : goal.returns-in_default-clause-value
returns-in_default-clause-value c options are =
    let few : length (all_commands c.args.run.now.merge 1 c.args.run.now.batches.now) < 2 ^ 64 = omega (arith, c.in_ok-works.works.small, c.in_ok-works.works.ok, length-map c.in_ok-works.works.items work_of, ap (λ (cs : List Command). length cs) c.in_ok-works.ensures.works) in
    let given : AreGiven c.args.run.now.lanes c.args.run.now.merge c.args.run.now.batches.now (all_commands c.args.run.now.merge 1 c.args.run.now.batches.now) = record {
      of = c.requires.lanes;
      named = all_named c.args.run.now.batches.now c.in_ok-works.ensures.names;
      are = refl;
      few = few;
    } in
    let out : is_cut c.args.trace.now ≡ false = search rules in
    uncut c.ends_law.ensures (rules_with c.args.run.now.keys c.args.run.now.limits) options c.args.run.now.lanes c.args.run.now.merge c.args.run.now.batches.now c.args.trace.now given are out

pub returns-clause-value : goal.returns-clause-value
returns-clause-value c options are =
    let hint = λ (group : Group). hint_as group.hint in
    let text = λ (group : Group). group.text.now in
    let works = c.deref.result.now in
    let groups = c.deref-2.result.now in
    let few : length (all_commands c.args.run.now.merge 1 c.args.run.now.batches.now) < 2 ^ 64 = omega (arith, c.in_ok-works.works.small, c.in_ok-works.works.ok, length-map c.in_ok-works.works.items work_of, ap (λ (cs : List Command). length cs) c.in_ok-works.ensures.works) in
    let given : AreGiven c.args.run.now.lanes c.args.run.now.merge c.args.run.now.batches.now (works_of works) = record {
      of = c.requires.lanes;
      named = all_named c.args.run.now.batches.now c.in_ok-works.ensures.names;
      are = ap (λ (ws : List Work). works_of ws) c.deref.ensures.value ∙ c.in_ok-works.ensures.works;
      few = few;
    } in
    let hints_are = rw c.in-Some.is at c.in_ok-groups.ensures.hints in
    let texts_are = rw c.in-Some.is at c.in_ok-groups.ensures.texts in
    let whole = rw c.in-Some.is at c.in_ok-groups.ensures.whole in
    let found : AreRead c.args.trace.now (map hint groups) (map text groups) = record {
      hints_are = ap (λ (gs : List Group). map hint gs) c.deref-2.ensures.value ∙ hints_are;
      texts_are = ap (λ (gs : List Group). map text gs) c.deref-2.ensures.value ∙ texts_are;
      whole = joined_texts text groups ∙ ap (λ (gs : List Group). flat_map text gs) c.deref-2.ensures.value ∙ whole;
    } in
    ok_both c.are_right.result _ _ _ c.are_right.ensures.sound c.are_right.ensures.complete
    (λ b sound complete. judged c.ends_law.ensures (rules_with c.args.run.now.keys c.args.run.now.limits) options c.args.run.now.lanes c.args.run.now.merge c.args.run.now.batches.now c.args.trace.now (works_of works) (map hint groups) (map text groups) given are found b sound complete)
