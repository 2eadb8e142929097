use Rattle.std.proofs.Common.{rules, append_assoc}
use Rattle.std.proofs.lemmas.Result.{IfOk-equal}
use Rattle.std.proofs.lemmas.List.Folds.{flat_map-map}
use Rattle.reply_text.proofs.refusals.push_refused.Goals as goal

pub returns-clause-ok : goal.returns-clause-ok
returns-clause-ok c = search (rules, IfOk-equal, append_assoc, flat_map-map)
