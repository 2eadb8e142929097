use Rattle.std.proofs.Common.{◌≡◌, ◌∙◌, sym, subst, List, map}
use Rattle.std.specs.List.{All}
use Rattle.lake_model.specs.Tables.{Table}
use Rattle.search_model.specs.Arrays.{pointed, token_keys, IsAt}
use Rattle.search_model.specs.Segment.{columns_of, tokens_of}
use Rattle.token_order.proofs.HeldLemmas.{are_at, points}
use Rattle.token_order.proofs.vocab.Vocab.into_lists.Goals as goal

pub returns-clause-tokens : goal.returns-clause-tokens
returns-clause-tokens c =
    let held = c.self.inside in
    let is = c.self.invariant in
    let named = sym (points held.tables.now held.columns.items is.owned held.tokens.items is.within) ∙ is.named in
    subst (λ (ts : List Table). map (pointed ts) held.tokens.items ≡ token_keys (tokens_of (columns_of ts))) c.self.view_is named

pub returns-clause-within : goal.returns-clause-within
returns-clause-within c =
    let held = c.self.inside in
    let is = c.self.invariant in
    subst (λ (ts : List Table). All (IsAt ts) held.tokens.items) c.self.view_is (are_at held.tables.now held.columns.items is.owned held.tokens.items is.within)
