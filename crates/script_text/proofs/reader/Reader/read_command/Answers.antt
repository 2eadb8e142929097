use Rattle.std.proofs.Common.{◌∙◌, ap, refl, sym}
use Rattle.script_model.specs.Saying.{said}
use Rattle.script_model.specs.Words.{without_return}
use Rattle.script_text.specs.Readings.{ReaderState, grammar_by}
use Rattle.script_text.proofs.TurnLemmas.{line_too_long, line_wrong, unfetched}
use Rattle.script_text.proofs.reader.Reader.read_command.Goals as goal

pub returns-in-Some-clause-turn : goal.returns-in-Some-clause-turn
returns-in-Some-clause-turn g c =
    let reading = c.args.self.now.reading in
    rw c.fault.ensures (unfetched _ _ _ _ _ _ _
    (λ paths later. (refl, line_too_long (grammar_by c.args.self.now.rules) c.args.line.now reading c.in-Some.reason paths later (sym c.in-Some.ensures))))

pub returns-in-Err-clause-turn : goal.returns-in-Err-clause-turn
returns-in-Err-clause-turn g c =
    let reading = c.args.self.now.reading in
    let line = c.args.line.now in
    let says = ap (λ (s : ReaderState). said s.rules.lanes (without_return line)) (sym c.self.view_is) ∙ ap (said c.self.inside.rules.lanes) (sym c.without_return.ensures) ∙ c.in-Err.ensures.said in
    rw c.fault-in-Err.ensures (unfetched _ _ _ _ _ _ _
    (λ paths later. (refl, line_wrong (grammar_by c.args.self.now.rules) line reading c.in-Err.reason paths later (sym c.line_fault.ensures ∙ c.in_default.is) says)))
