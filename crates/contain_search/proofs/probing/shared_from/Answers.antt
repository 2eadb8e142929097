use Rattle.std.proofs.Common.{◌≤◌, subst, ℕ}
use Rattle.contain_search.specs.Enough.{IsExactFrom}
use Rattle.part_columns.proofs.ProbeLemmas.{shared_either}
use Rattle.contain_search.proofs.probing.shared_from.Goals as goal

pub returns-then-others-tokens-clause-count : goal.returns-then-others-tokens-clause-count
returns-then-others-tokens-clause-count c =
    subst (λ (n : ℕ). IsExactFrom c.args.least n c.among_from.result) (shared_either c.args.tokens.now c.args.others.now c.requires.tokens c.requires.others) c.among_from.ensures.count

pub returns-then-others-tokens-clause-most : goal.returns-then-others-tokens-clause-most
returns-then-others-tokens-clause-most c =
    subst (λ (n : ℕ). c.among_from.result ≤ n) (shared_either c.args.tokens.now c.args.others.now c.requires.tokens c.requires.others) c.among_from.ensures.most
