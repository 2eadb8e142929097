use Rattle.std.specs.Prelude.{◌==◌}
use Rattle.column_set.proofs.LineLemmas.{first_place}
use Rattle.column_set.proofs.query.line_end.Goals as goal

pub returns : goal.returns
returns c = first_place (λ byte. byte == 0x0A) c.args.body.now c.memchr_iter.result c.next.new.self c.next.result c.memchr_iter.ensures.value c.next.ensures.steps
