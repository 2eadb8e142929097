use Rattle.std.proofs.Common.{◌≡◌, ◌-◌, ◌≤◌, arith, drop, length, ◌∙◌, List, take}
use Rattle.std.proofs.lemmas.List.{length-drop, take_all}
use Rattle.lake_model.specs.Journal.{Entry}
use Rattle.command_replies.proofs.PastLemmas.{caught_few}
use Rattle.command_replies.proofs.past.catch_up.Goals as goal

pub take_all-requires-clause-few : goal.take_all-requires-clause-few
take_all-requires-clause-few c =
    let journal : List Entry = c.journal-journal.result.now in
    let short : length (drop c.taken.result journal) ≤ length journal - c.taken.result = omega (arith, length-drop c.taken.result journal) in
    let rest : take (length journal - c.taken.result) (drop c.taken.result journal) ≡ drop (length c.args.past.now) c.args.catalogue.now.journal =
    take_all (length journal - c.taken.result) (drop c.taken.result journal) short ∙ (λ i. drop (c.taken.ensures i) (c.journal-journal.ensures.same i)) in
    caught_few c.args.past.now c.args.catalogue.now.journal (take (length journal - c.taken.result) (drop c.taken.result journal)) c.requires.begins rest c.args.catalogue.now.limits c.requires.limits c.is_within_limits.ensures
