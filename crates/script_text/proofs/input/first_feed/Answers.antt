use Rattle.std.proofs.Common.{◌≡◌, ℕ, ◌+◌, ◌-◌, ◌<◌, ◌∙◌, ap, arith, get_or, length, List, subst, sym, take, drop}
use Rattle.std.specs.Prelude.{◌==◌}
use Rattle.std.proofs.lemmas.List.{length-drop, take_all, take_rest}
use Rattle.script_model.specs.Words.{NoFeed}
use Rattle.script_text.proofs.FeedLemmas.{ends_line, no_feed_on}
use Rattle.script_text.proofs.HeldLemmas.{if_none}
use Rattle.script_text.proofs.input.first_feed.Goals as goal

pub returns-in_err-at-clause-none : goal.returns-in_err-at-clause-none
returns-in_err-at-clause-none c =
    let text = c.args.text.now in
    let from = c.args.from in
    let all : take (from + (length text - from)) text ≡ text = take_all (from + (length text - from)) text (omega (arith, c.requires.within)) in
    let rest : take (length text - from) (drop from text) ≡ drop from text = take_rest text from in
    if_none _ c.from_residual.result (subst NoFeed all (no_feed_on text from (length text - from) (omega (arith, c.requires.within)) c.requires.searched
    (λ k lt e. c.in_err-at.ensures k (omega arith) (omega (arith, lt, ap length rest, length-drop from text)) (ap (λ (xs : List ℕ). get_or xs k 0 == 0x0A) rest ∙ e))))

pub returns-clause-found : goal.returns-clause-found
returns-clause-found c =
    let text = c.args.text.now in
    let from = c.args.from in
    let at = c.in_ok-at.at in
    let found = c.in_ok-at.ensures in
    let rest : take (length text - from) (drop from text) ≡ drop from text = take_rest text from in
    let within : from + at < length text = omega (arith, c.requires.within, found.0.high, ap length rest, length-drop from text) in
    ends_line text from at within (no_feed_on text from at (omega (arith, within)) c.requires.searched (λ k lt e. found.0.before k (omega arith) lt (ap (λ (xs : List ℕ). get_or xs k 0 == 0x0A) rest ∙ e)))
    (ap (λ (xs : List ℕ). get_or xs at 0 == 0x0A) (sym rest) ∙ found.1)
