use Rattle.std.proofs.Common.{◌≡◌, IfOk, is_some, map, sym, ◌∙◌, subst, Bool}
use Rattle.trace_hints.specs.Told.{hint_as}
use Rattle.trace_laws.specs.Verdict.{all_commands, hinted_zip}
use Rattle.trace_numbers.proofs.PassLemmas.{numbers_rest}
use Rattle.trace_numbers.proofs.numbers.find_owners.Goals as goal

pub returns-clause-tests : goal.returns-clause-tests
returns-clause-tests c =
    let hints = map hint_as c.args.hints.now in
    let rest = numbers_rest c.args.lanes c.args.merge c.args.batches.now hints (sym c.in_ok-positions_rise.ensures ∙ c.if-not-branch.false) in
    subst (λ (b : Bool). IfOk c.owners_of.result (λ found. is_some found ≡ b)) rest.1 (c.owners_of.ensures.tests (hinted_zip (all_commands c.args.merge 1 c.args.batches.now) hints) rest.0)
