use Rattle.std.proofs.Common.{sym}
use Rattle.script_text.proofs.WordLemmas.{word_all, word_at}
use Rattle.script_text.proofs.spaces.before_space.Goals as goal

pub returns-in-Some : goal.returns-in-Some
returns-in-Some c = word_at c.args.text.now c.in-Some.end (sym c.in-Some.ensures)

pub returns-in-None : goal.returns-in-None
returns-in-None c = word_all c.args.text.now (sym c.in-None.ensures)
