use Rattle.std.proofs.Common.{◌≡◌, ◌∙◌, arith, ap, sym, true}
use Rattle.std.specs.Prelude.{is_some, not}
use Rattle.std.proofs.lemmas.Result.{err_from_is_err_and}
use Rattle.script_text.specs.Gathering.{reading_at}
use Rattle.script_text.specs.Readings.{ReaderState, grammar_by}
use Rattle.script_text.proofs.TurnLemmas.{last_empty, last_end, last_open, no_memory, unfetched}
use Rattle.script_text.proofs.reader.Reader.read_last_line.Goals as goal

pub returns-then-is_empty-clause-turn : goal.returns-then-is_empty-clause-turn
returns-then-is_empty-clause-turn g c =
    unfetched _ _ _ _ _ _ _
    (λ paths later. last_empty (grammar_by c.args.self.now.rules) c.args.self.now.reading.block c.args.line.now (reading_at c.args.self.now.reading paths later) (sym c.is_empty.ensures ∙ c.if-is_empty.true))

pub returns-then-not-is_end-clause-turn : goal.returns-then-not-is_end-clause-turn
returns-then-not-is_end-clause-turn g c =
    let some : is_some c.args.self.now.reading.block ≡ true = ap (λ (s : ReaderState). is_some s.reading.block) (sym c.self.view_is) ∙ c.is_none.ensures ∙ ap not c.if-is_none.false in
    unfetched _ _ _ _ _ _ _
    (λ paths later. last_open (grammar_by c.args.self.now.rules) c.args.self.now.reading.block c.args.line.now (reading_at c.args.self.now.reading paths later) some (sym c.is_end.ensures ∙ c.if-not-is_end.true))

pub returns-in_err-close_block-clause-turn : goal.returns-in_err-close_block-clause-turn
returns-in_err-close_block-clause-turn g c =
    let p = err_from_is_err_and c.from_residual.result c.from_residual.ensures.1 in
    rw (p.1, p.2) (no_memory _ _ _ _ _ _ _ (omega arith))

pub returns-clause-turn : goal.returns-clause-turn
returns-clause-turn g c =
    let some : is_some c.args.self.now.reading.block ≡ true = ap (λ (s : ReaderState). is_some s.reading.block) (sym c.self.view_is) ∙ c.is_none.ensures ∙ ap not c.if-is_none.false in
    unfetched _ _ _ _ _ _ _
    (λ paths later. last_end (grammar_by c.args.self.now.rules) c.args.self.now.reading.block c.args.line.now c.args.self.now.reading c.close_block.new.self.reading paths later some
    (sym c.is_end.ensures ∙ c.if-not-is_end.false) c.in_ok-close_block.ensures.closed)
