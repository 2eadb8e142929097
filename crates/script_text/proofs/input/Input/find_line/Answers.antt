use Rattle.std.proofs.Common.{◌∙◌, arith, List, ℕ, sym, subst, take}
use Rattle.script_model.specs.Words.{NoFeed}
use Rattle.script_text.proofs.FeedLemmas.{found_in, no_feed_less}
use Rattle.script_text.proofs.input.Input.find_line.Goals as goal

pub first_feed-found-requires-clause-searched : goal.first_feed-found-requires-clause-searched
first_feed-found-requires-clause-searched c =
    let held = c.held-held.result.now in
    let searched : NoFeed (take c.self.inside.searched held) = subst (λ (xs : List ℕ). NoFeed (take c.self.inside.searched xs)) (c.self.view_is ∙ sym c.held-held.ensures) c.self.invariant.searched_none in
    no_feed_less held c.self.inside.searched c.min-from.result c.min-end.result (omega (arith, c.min-from.ensures)) (omega (arith, c.min-from.ensures)) searched

pub returns-else-is_none-clause-found : goal.returns-else-is_none-clause-found
returns-else-is_none-clause-found c =
    found_in c.held-held.result.now c.args.self.now c.min-end.result c.args.most c.first_feed-found.result c.held-held.ensures (omega (arith, c.min-end.ensures)) c.first_feed-found.ensures.found
