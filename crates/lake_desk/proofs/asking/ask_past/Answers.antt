use Rattle.std.proofs.Common.{◌≡◌, ◌∙◌, ap, drop, length, refl, subst, true}
use mathlib.Core.List.{IsPrefix}
use Rattle.record_model.specs.Answered.{answer_to}
use Rattle.record_model.specs.Replies.{NoMemory}
use Rattle.record_model.specs.Rules.{rules_with}
use Rattle.run_record.specs.Replies.{reply_of}
use Rattle.script_model.specs.Commands.{AsOf}
use Rattle.command_replies.proofs.LoadLemmas.{Answers}
use Rattle.command_replies.proofs.PastLemmas.{all_taken, caught, caught_few, prefix_on}
use Rattle.lake_desk.proofs.Answering.{asked_past}
use Rattle.lake_desk.proofs.asking.ask_past.Goals as goal

pub returns-in_default-clause-answered : goal.returns-in_default-clause-answered
returns-in_default-clause-answered g c =
    asked_past (rules_with c.args.keys g.B.Bounds.limits) c.args.number (AsOf c.args.asked c.args.k c.args.body.now) c.args.pass.now NoMemory c.journal-read.new.pass.seen refl c.journal-read.ensures.grows (true, refl)

pub take_all-requires-clause-few : goal.take_all-requires-clause-few
take_all-requires-clause-few g c =
    let seen = c.journal-read.new.pass.seen in
    let past = c.args.past.now in
    let begins : IsPrefix past seen = prefix_on past c.args.pass.now.seen seen c.requires.begins (c.journal-read.ensures.grows.rest, c.journal-read.ensures.grows.begins) in
    let rest : c.deref.result.now ≡ drop (length past) seen = c.deref.ensures.value ∙ c.in-Ok.ensures.entries ∙ ap (λ n. drop n seen) c.taken.ensures in
    caught_few past seen c.deref.result.now begins rest g.B.Bounds.limits c.requires.wide c.journal-read.ensures.lawful.within

pub returns-in-Ok-take_all-clause-begins : goal.returns-in-Ok-take_all-clause-begins
returns-in-Ok-take_all-clause-begins g c =
    let seen = c.journal-read.new.pass.seen in
    let past = c.args.past.now in
    let begins : IsPrefix past seen = prefix_on past c.args.pass.now.seen seen c.requires.begins (c.journal-read.ensures.grows.rest, c.journal-read.ensures.grows.begins) in
    let rest : c.deref.result.now ≡ drop (length past) seen = c.deref.ensures.value ∙ c.in-Ok.ensures.entries ∙ ap (λ n. drop n seen) c.taken.ensures in
    all_taken c.search_past.new.past seen (c.search_past.ensures.same ∙ c.in-Ok-take_all.ensures.ok ∙ caught past seen c.deref.result.now begins rest)

pub returns-in-Ok-take_all-clause-answered : goal.returns-in-Ok-take_all-clause-answered
returns-in-Ok-take_all-clause-answered g c =
    let rules = rules_with c.args.keys g.B.Bounds.limits in
    let task = AsOf c.args.asked c.args.k c.args.body.now in
    let seen = c.journal-read.new.pass.seen in
    let past = c.args.past.now in
    let begins : IsPrefix past seen = prefix_on past c.args.pass.now.seen seen c.requires.begins (c.journal-read.ensures.grows.rest, c.journal-read.ensures.grows.begins) in
    let rest : c.deref.result.now ≡ drop (length past) seen = c.deref.ensures.value ∙ c.in-Ok.ensures.entries ∙ ap (λ n. drop n seen) c.taken.ensures in
    let all = c.in-Ok-take_all.ensures.ok ∙ caught past seen c.deref.result.now begins rest in
    asked_past rules c.args.number task c.args.pass.now (reply_of c.search_past.result) seen refl c.journal-read.ensures.grows
    (subst (λ journal. Answers (reply_of c.search_past.result) (answer_to rules task journal journal)) all c.search_past.ensures.answered)

pub returns-clause-answered : goal.returns-clause-answered
returns-clause-answered g c =
    asked_past (rules_with c.args.keys g.B.Bounds.limits) c.args.number (AsOf c.args.asked c.args.k c.args.body.now) c.args.pass.now NoMemory c.journal-read.new.pass.seen refl c.journal-read.ensures.grows (true, refl)
