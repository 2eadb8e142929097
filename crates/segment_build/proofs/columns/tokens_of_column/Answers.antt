use Rattle.std.proofs.Common.{arith}
use Rattle.std.proofs.lemmas.List.Sorted.{length_permutation}
use Rattle.lake_model.specs.Tables.{keys_at}
use Rattle.segment_core.proofs.FoundLemmas.{sorted_tokens}
use Rattle.segment_build.specs.Holding.{all_tokens}
use Rattle.segment_build.proofs.columns.tokens_of_column.Goals as goal

pub returns-clause-value : goal.returns-clause-value
returns-clause-value c =
    sorted_tokens (all_tokens c.args.vocab.now) (keys_at c.args.table.now c.args.place) c.in_ok-tokens.tokens.items c.sort_unstable.new.self.items c.in_ok-tokens.ensures.same c.sort_unstable.ensures.permutation c.sort_unstable.ensures.sorted

pub returns-clause-long : goal.returns-clause-long
returns-clause-long c =
    omega (arith, length_permutation c.in_ok-tokens.tokens.items c.sort_unstable.new.self.items c.sort_unstable.ensures.permutation, c.in_ok-tokens.ensures.long)
