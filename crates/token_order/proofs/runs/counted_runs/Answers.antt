use Rattle.std.proofs.Common.{arith}
use Rattle.token_order.proofs.PlaceLemmas.{length-keys_of}
use Rattle.token_order.proofs.runs.counted_runs.Goals as goal

pub ranked_runs-requires-clause-members : goal.ranked_runs-requires-clause-members
ranked_runs-requires-clause-members c = omega (arith, length-keys_of c.args.tables.now, c.requires)
