use Rattle.column_set.proofs.LineLemmas.{text_sound}
use Rattle.column_set.proofs.query.gather_lines.Goals as goal

pub returns-clause-sound : goal.returns-clause-sound
returns-clause-sound c = text_sound 1 c.args.body.now c.in-Ok.ensures.1
