use Rattle.std.proofs.Common.{◌≡◌, ap, sym, subst, ◌∙◌, take}
use Rattle.record_model.specs.Rules.{rules_with}
use Rattle.record_model.specs.Answered.{adds, answer_to}
use Rattle.run_record.specs.Replies.{reply_of}
use Rattle.command_replies.specs.Held.{IsHeldAt, position_of}
use Rattle.command_replies.specs.Loads.{with_added}
use Rattle.command_replies.specs.Merging.{swapped_by}
use Rattle.batch_work.specs.Works.{merge_policy, work_of}
use Rattle.command_replies.proofs.LoadLemmas.{Answers}
use Rattle.command_replies.proofs.HeldLemmas.{held_adds, held_answer, held_swap}
use Rattle.command_replies.proofs.answering.reply_when_held.Goals as goal

pub returns-in-At-clause-answered : goal.returns-in-At-clause-answered
returns-in-At-clause-answered c =
    let rules = rules_with c.args.keys c.args.catalogue.now.limits in
    let journal = c.args.catalogue.now.journal in
    let task = (work_of c.args.work.now).task in
    let reply = reply_of c.reply_at_pin.result in
    subst (λ held. Answers reply (answer_to rules task (take (position_of held) journal) journal)) (sym c.in-At.is)
    (held_answer rules task journal c.in-At.pin reply c.requires.pins (subst (IsHeldAt journal (merge_policy task)) c.in-At.is c.requires.held) (c.reply_at_pin.ensures rules.limits))

pub returns-in-Swap-clause-answered : goal.returns-in-Swap-clause-answered
returns-in-Swap-clause-answered c =
    let rules = rules_with c.args.keys c.args.catalogue.now.limits in
    let journal = c.args.catalogue.now.journal in
    let task = (work_of c.args.work.now).task in
    let reply = reply_of c.swap.result in
    subst (λ held. Answers reply (answer_to rules task (take (position_of held) journal) journal)) (sym c.in-Swap.is)
    (held_swap rules task journal c.in-Swap.planned reply (subst (IsHeldAt journal (merge_policy task)) c.in-Swap.is c.requires.held) c.swap.ensures.answered)

pub returns-in-Swap-clause-adds : goal.returns-in-Swap-clause-adds
returns-in-Swap-clause-adds c =
    let journal = c.args.catalogue.now.journal in
    let made = c.args.out.now.made in
    let task = (work_of c.args.work.now).task in
    let planned = c.in-Swap.planned in
    let reply = reply_of c.swap.result in
    let same : swapped_by planned.merged reply ≡ adds (rules_with c.args.keys c.args.catalogue.now.limits) task (take (position_of c.args.held) made.journal) reply =
    held_adds (rules_with c.args.keys c.args.catalogue.now.limits) task journal made.journal planned reply (subst (IsHeldAt journal (merge_policy task)) c.in-Swap.is c.requires.held) c.requires.journal
    ∙ ap (λ held. adds (rules_with c.args.keys c.args.catalogue.now.limits) task (take (position_of held) made.journal) reply) (sym c.in-Swap.is) in
    let adds = c.swap.ensures.adds in
    record {
      made = adds.made ∙ (λ i. with_added (c.who.ensures i) (same i) made);
      journal = adds.journal;
      limits = adds.limits;
      answers_room = adds.answers_room;
      entries_room = adds.entries_room;
      syncs_room = adds.syncs_room;
    }
