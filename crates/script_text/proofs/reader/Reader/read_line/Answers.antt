use Rattle.std.proofs.Common.{◌+◌, subst}
use Rattle.std.specs.Prelude.{Err, None, Ok}
use Rattle.std.proofs.lemmas.Result.{err_from_is_err_and}
use Rattle.script_model.specs.Reading.{turn_of}
use Rattle.script_text.specs.Readings.{ReaderState, Turns, grammar_by}
use Rattle.script_text.proofs.TurnLemmas.{unfetched}
use Rattle.script_text.proofs.reader.Reader.read_line.Goals as goal

pub returns-in_err-read_block_line-clause-turn : goal.returns-in_err-read_block_line-clause-turn
returns-in_err-read_block_line-clause-turn g c =
    let p = err_from_is_err_and c.from_residual.result c.from_residual.ensures.1 in
    rw (p.1, p.2)
    (subst (λ (s : ReaderState). Turns (turn_of (grammar_by s.rules) c.args.line.now) (Err c.in_err-read_block_line.field-0.0) (s.reading.lines + 1) s.reading c.read_block_line.new.self.reading (g.F.Shelf.files c.args.shelf.now) (g.F.Shelf.faults c.args.shelf.now) (g.F.Shelf.faults c.args.shelf.now))
    c.self.view_is (unfetched _ _ _ _ _ _ _ c.in_err-read_block_line.ensures.turn))

pub returns-clause-turn : goal.returns-clause-turn
returns-clause-turn g c =
    subst (λ (s : ReaderState). Turns (turn_of (grammar_by s.rules) c.args.line.now) (Ok None) (s.reading.lines + 1) s.reading c.read_block_line.new.self.reading (g.F.Shelf.files c.args.shelf.now) (g.F.Shelf.faults c.args.shelf.now) (g.F.Shelf.faults c.args.shelf.now))
    c.self.view_is (unfetched _ _ _ _ _ _ _ c.in_ok-read_block_line.ensures.turn)
