use Rattle.std.proofs.Common.{◌∙◌, sym}
use Rattle.script_text.specs.Readings.{grammar_by}
use Rattle.script_text.proofs.TurnLemmas.{block_end, block_more}
use Rattle.script_text.proofs.reader.Reader.read_block_line.Goals as goal

pub returns-then-not-is_end-clause-turn : goal.returns-then-not-is_end-clause-turn
returns-then-not-is_end-clause-turn c paths later =
    block_more (grammar_by c.args.self.now.rules) c.args.self.now.reading.block c.args.line.now c.undotted.result.now c.args.self.now.reading c.push_line.new.self.reading c.push_line.result c.args.self.now.reading.lines paths later
    c.requires.block (sym c.is_end.ensures ∙ c.if-not-is_end.true) c.undotted.ensures (c.push_line.ensures.turn paths later)

pub returns-clause-turn : goal.returns-clause-turn
returns-clause-turn c paths later =
    block_end (grammar_by c.args.self.now.rules) c.args.self.now.reading.block c.args.line.now c.args.self.now.reading c.close_block.new.self.reading paths later
    c.requires.block (sym c.is_end.ensures ∙ c.if-not-is_end.false) c.in_ok-close_block.ensures.closed
