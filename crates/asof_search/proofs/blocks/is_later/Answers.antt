use Rattle.std.proofs.Common.{arith}
use Rattle.std.proofs.lemmas.Bool.{ltb-true}
use Rattle.asof_search.proofs.BlockLemmas.{all_later}
use Rattle.asof_search.proofs.blocks.is_later.Goals as goal

pub returns-in-Some-clause-later : goal.returns-in-Some-clause-later
returns-in-Some-clause-later c t =
    all_later c.args.asked c.args.puts.now c.in-Some.first.now c.requires c.in-Some.ensures.lookup.1 (omega (arith, ltb-true c.args.asked c.position.result t, c.position.ensures))
