use Rattle.std.proofs.Common.{◌∙◌, ◌+◌, sym, ap, ℕ}
use Rattle.std.specs.Prelude.{Result, is_ok}
use Rattle.part_columns.proofs.SeekLemmas.{among_rest, rest_rises, skipped_before, skipped_to, sought}
use Rattle.part_columns.proofs.seeking.seek.Goals as goal

pub returns-in-Ok-clause-found : goal.returns-in-Ok-clause-found
returns-in-Ok-clause-found c =
    sym (ap (λ (r : Result ℕ ℕ). is_ok r) c.in-Ok.is)
    ∙ sought c.args.tokens.now c.args.token c.reach.result c.binary_search.result c.binary_search.ensures.position c.requires c.reach.ensures.behind

pub returns-in-Ok-clause-rising : goal.returns-in-Ok-clause-rising
returns-in-Ok-clause-rising c = rest_rises c.args.tokens.now (c.in-Ok.at + 1) c.requires

pub returns-in-Ok-clause-rest : goal.returns-in-Ok-clause-rest
returns-in-Ok-clause-rest c = among_rest c.args.tokens.now c.args.token (c.in-Ok.at + 1)
    (skipped_to c.args.tokens.now c.args.token c.reach.result c.in-Ok.at c.binary_search.result c.reach.ensures.within c.binary_search.ensures.position c.requires c.in-Ok.is)

pub returns-in-Err-clause-found : goal.returns-in-Err-clause-found
returns-in-Err-clause-found c =
    sym (ap (λ (r : Result ℕ ℕ). is_ok r) c.in-Err.is)
    ∙ sought c.args.tokens.now c.args.token c.reach.result c.binary_search.result c.binary_search.ensures.position c.requires c.reach.ensures.behind

pub returns-in-Err-clause-rising : goal.returns-in-Err-clause-rising
returns-in-Err-clause-rising c = rest_rises c.args.tokens.now c.in-Err.at c.requires

pub returns-in-Err-clause-rest : goal.returns-in-Err-clause-rest
returns-in-Err-clause-rest c = among_rest c.args.tokens.now c.args.token c.in-Err.at
    (skipped_before c.args.tokens.now c.args.token c.reach.result c.in-Err.at c.binary_search.result c.reach.ensures.within c.binary_search.ensures.position c.requires c.in-Err.is)
