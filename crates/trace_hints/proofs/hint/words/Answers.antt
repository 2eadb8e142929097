use Rattle.std.proofs.Common.{◌≡◌, IfOk, map, rules, subst, tests}
use Rattle.std.specs.List.{slice_split}
use Rattle.std.proofs.lemmas.Iterator.Consumers.{map_from_collect}
use Rattle.std.proofs.lemmas.Iterator.Splits.{YieldsList-from_slice_split}
use Rattle.script_model.specs.Words.{is_space}
use Rattle.trace_hints.proofs.hint.words.Goals as goal

pub returns : goal.returns
returns c = subst (λ r. IfOk r (λ words. map (λ word. word.now) words.items ≡ slice_split is_space c.args.line.now)) c.in_ok-collect.was
    (map_from_collect _ c.collect.ensures.ran (YieldsList-from_slice_split _ is_space c.args.line.now c.split.ensures.rest c.split.ensures.done c.split.ensures.closure
    (λ x r q k. search (rules, tests))))
