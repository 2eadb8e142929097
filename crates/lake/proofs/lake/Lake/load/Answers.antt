use Rattle.std.proofs.Common.{ap, subst}
use Rattle.lake_model.specs.declared.Who.{Who}
use Rattle.lake_model.specs.Journal.{Entry, entry_with, who_with, Loaded}
use Rattle.catalogue.specs.Refusals.{load_refusal}
use Rattle.turn_lock.specs.Passes.{Known, callers_of}
use Rattle.turn_lock.specs.History.{Grows}
use Rattle.lake.specs.Lawful.{caller_of}
use Rattle.lake.proofs.Accepting.{accepted_by}
use Rattle.lake.proofs.lake.Lake.load.Goals as goal

pub returns-clause-accepted : goal.returns-clause-accepted
returns-clause-accepted g c =
    let pass = c.args.pass.now in
    let what = Loaded c.args.table in
    accepted_by c.load-done.result (load_refusal g.B.Bounds.limits c.args.table) (callers_of pass) pass.seen c.take-turn.result.value c.value.result.now c.load-done.new.self c.give.new.pass.seen
    (entry_with c.who-who.result what) (entry_with (who_with pass.caller c.args.command) what)
    (subst (λ (p : Known Entry). Grows caller_of (callers_of p) p.seen c.take-turn.result.value) c.pass.view_is c.take-turn.ensures.others)
    c.value.ensures.value
    c.load-done.ensures.accepted
    (ap (λ (who : Who). entry_with who what) c.who-who.ensures)
    (ap (λ (p : Known Entry). p.seen) c.give.ensures)
