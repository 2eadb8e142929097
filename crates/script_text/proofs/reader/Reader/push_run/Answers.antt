use Rattle.std.proofs.Common.{◌+◌, ◌≤◌, ◌∙◌, ap, length, subst, sym, ℕ}
use Rattle.std.specs.Prelude.{IfSome, OnOk, Option, Some}
use Rattle.lake_model.specs.Texts.{lines_of}
use Rattle.script_model.specs.Reading.{Open, Reading}
use Rattle.script_text.specs.Readings.{ReaderState, grammar_by, reading_with}
use Rattle.script_text.specs.Runs.{HasRoom, Leads}
use Rattle.script_text.proofs.RunLemmas.{on_ok, run_pushed}
use Rattle.script_text.proofs.reader.Reader.push_run.Goals as goal

pub returns-clause-leads : goal.returns-clause-leads
returns-clause-leads c =
    let inside = c.self.inside in
    let block : Open = c.in-Some.block in
    let run = c.args.run.now in
    let before : Reading = reading_with inside.lines inside.used inside.numbered inside.commands.items inside.bytes inside.block in
    let after : Reading = reading_with (inside.lines + c.line_count.result) (inside.used + length run) inside.numbered inside.commands.items inside.bytes (Some c.push_lines.new.self) in
    let room = subst (λ (s : ReaderState). HasRoom s.rules s.reading (length run)) (sym c.self.view_is) c.requires.room in
    let fits = subst (λ (b : Option Open). IfSome b (λ b. (length b.body + length run ≤ inside.rules.limits.block) × (inside.bytes + (length b.body + length run) ≤ inside.rules.limits.bytes))) c.in-Some.is room.block in
    subst (λ (s : ReaderState). OnOk c.push_lines.result (Leads (grammar_by s.rules) s.reading (lines_of run).ended after)) c.self.view_is
    (on_ok _ _ c.push_lines.result c.push_lines.ensures.added (λ added.
    run_pushed inside.rules.limits inside.rules.lanes run before after block c.in-Some.is c.requires.run fits.0 fits.1
    (ap (λ (n : ℕ). reading_with (inside.lines + n) (inside.used + length run) inside.numbered inside.commands.items inside.bytes (Some c.push_lines.new.self)) c.line_count.ensures.count
    ∙ ap (λ (b : Open). reading_with (inside.lines + length (lines_of run).ended) (inside.used + length run) inside.numbered inside.commands.items inside.bytes (Some b)) added)))
