use Rattle.std.proofs.Common.{ap, subst}
use Rattle.lake_model.specs.declared.Who.{Who}
use Rattle.lake_model.specs.Journal.{Entry, entry_with, who_with, Replaced}
use Rattle.catalogue.specs.Refusals.{replace_refusal}
use Rattle.turn_lock.specs.Passes.{Known, callers_of}
use Rattle.turn_lock.specs.History.{Grows}
use Rattle.lake.specs.Lawful.{caller_of}
use Rattle.lake.proofs.Accepting.{accepted_by}
use Rattle.lake.proofs.lake.Lake.replace.Goals as goal

pub returns-clause-accepted : goal.returns-clause-accepted
returns-clause-accepted g c =
    let pass = c.args.pass.now in
    let what = Replaced c.args.table in
    accepted_by c.replace-done.result (replace_refusal g.B.Bounds.limits c.args.table) (callers_of pass) pass.seen c.take-turn.result.value c.value.result.now c.replace-done.new.self c.give.new.pass.seen
    (entry_with c.who-who.result what) (entry_with (who_with pass.caller c.args.command) what)
    (subst (λ (p : Known Entry). Grows caller_of (callers_of p) p.seen c.take-turn.result.value) c.pass.view_is c.take-turn.ensures.others)
    c.value.ensures.value
    c.replace-done.ensures.accepted
    (ap (λ (who : Who). entry_with who what) c.who-who.ensures)
    (ap (λ (p : Known Entry). p.seen) c.give.ensures)
