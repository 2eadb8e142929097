use Rattle.std.proofs.Common.{◌≡◌, ◌+◌, ◌-◌, ◌<◌, ◌≤◌, ap, arith, length, subst, sym, take}
use Rattle.std.proofs.lemmas.List.{take_all}
use Rattle.script_model.specs.Script.{begun_fault, grammar_of}
use Rattle.script_model.specs.Words.{NoFeed}
use Rattle.script_text.specs.Gathering.{Gathering}
use Rattle.script_text.specs.Parts.{IsHeldFault}
use Rattle.script_text.specs.declared.refused.ScriptEnd.TheVariants.{Script}
use Rattle.script_text.proofs.EndLemmas.{held_over, held_too_long}
use Rattle.script_text.proofs.gather.Gather.room_to_read.Goals as goal

pub returns-then-held-room-clause-fault : goal.returns-then-held-room-clause-fault
returns-then-held-room-clause-fault c =
    let reader = c.self.inside.reader in
    let held = c.self.inside.input in
    let whole : NoFeed (take (reader.rules.limits.input - reader.reading.used) held) =
    subst (λ (g : Gathering). NoFeed (take (g.limits.input - g.reading.used) g.held)) (sym c.self.view_is) c.requires.line in
    let past : reader.rules.limits.input - reader.reading.used < length held = omega (arith, c.room-room.ensures.value, ap length c.held-held.ensures, c.if-held-room.true) in
    let fault : c.begun_fault.result ≡ begun_fault (grammar_of reader.rules.limits reader.rules.lanes) reader.reading.block reader.reading.bytes (take (reader.rules.limits.input - reader.reading.used) held) = cc in (
      λ e. cc e,
      subst (λ (g : Gathering). IsHeldFault g (Script (c.lines-line.result + 1) c.unwrap_or-reason.result)) c.self.view_is
          (λ paths later more.
          rw (c.lines-line.ensures.value, c.unwrap_or-reason.ensures)
          (held_over reader.rules.limits reader.rules.lanes reader.reading held c.begun_fault.result whole past fault paths later more)),
    )

pub returns-then-held-longest-clause-fault : goal.returns-then-held-longest-clause-fault
returns-then-held-longest-clause-fault c =
    let reader = c.self.inside.reader in
    let held = c.self.inside.input in
    let fits : reader.reading.used + length held ≤ reader.rules.limits.input = omega (arith, c.room-room.ensures.within, ap length c.held-held.ensures, c.if-held-room.false) in
    let short : length held ≤ reader.rules.limits.input - reader.reading.used = omega (arith, fits) in
    let whole : NoFeed held = subst NoFeed (take_all (reader.rules.limits.input - reader.reading.used) held short)
    (subst (λ (g : Gathering). NoFeed (take (g.limits.input - g.reading.used) g.held)) (sym c.self.view_is) c.requires.line) in
    let long : c.longest.result < length held = omega (arith, ap length c.held-held.ensures, c.if-held-longest.true) in (
      λ e. cc e,
      subst (λ (g : Gathering). IsHeldFault g (Script (c.lines-line.result + 1) c.too_long-reason.result)) c.self.view_is
          (λ paths later more.
          rw (c.lines-line.ensures.value, c.too_long-reason.ensures)
          (held_too_long reader.rules.limits reader.rules.lanes reader.reading held c.longest.result whole fits c.longest.ensures.line c.longest.ensures.block c.longest.ensures.body long paths later more)),
    )
