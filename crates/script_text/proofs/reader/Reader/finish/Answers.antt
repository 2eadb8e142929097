use Rattle.std.proofs.Common.{◌∙◌, ap, refl, sym}
use Rattle.std.proofs.lemmas.Result.{err_from_is_err_and}
use Rattle.script_text.specs.Readings.{ReaderState, grammar_by}
use Rattle.script_text.proofs.TurnLemmas.{ends_begun, ends_by}
use Rattle.script_text.proofs.reader.Reader.finish.Goals as goal

pub returns-in-Some-clause-ends : goal.returns-in-Some-clause-ends
returns-in-Some-clause-ends g c =
    let lines = ap (λ (s : ReaderState). s.reading.lines) c.self.view_is in
    rw lines (ends_begun (grammar_by c.args.self.now.rules) c.args.rest.now c.args.self.now.reading _ _ _ c.in-Some.reason refl (sym c.in-Some.ensures))

pub returns-in_err-batch-clause-ends : goal.returns-in_err-batch-clause-ends
returns-in_err-batch-clause-ends g c =
    let p = err_from_is_err_and c.from_residual-in_err-batch.result c.from_residual-in_err-batch.ensures.1 in
    rw (p.1, p.2)
    (ends_by (grammar_by c.args.self.now.rules) c.args.rest.now c.args.self.now.reading _ _ _ c.read_last_line.new.self.reading c.in_ok-last.last _ (sym c.begun_fault.ensures ∙ c.in_default.is) c.in_ok-last.ensures.turn c.in_err-batch.ensures.ends)

pub returns-clause-ends : goal.returns-clause-ends
returns-clause-ends g c =
    ends_by (grammar_by c.args.self.now.rules) c.args.rest.now c.args.self.now.reading _ _ _ c.read_last_line.new.self.reading c.in_ok-last.last _ (sym c.begun_fault.ensures ∙ c.in_default.is) c.in_ok-last.ensures.turn c.in_ok-batch.ensures.ends
