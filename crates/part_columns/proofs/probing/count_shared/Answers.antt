use Rattle.std.proofs.Common.{◌∙◌}
use Rattle.part_columns.proofs.ProbeLemmas.{shared_either}
use Rattle.part_columns.proofs.probing.count_shared.Goals as goal

pub returns-then-others-tokens : goal.returns-then-others-tokens
returns-then-others-tokens c = c.count_among.ensures ∙ shared_either c.args.tokens.now c.args.others.now c.requires.tokens c.requires.others
