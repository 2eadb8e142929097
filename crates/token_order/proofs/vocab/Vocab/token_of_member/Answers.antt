use Rattle.std.proofs.Common.{[], get_or, arith}
use Rattle.search_model.specs.Segment.{columns_of, tokens_of}
use Rattle.token_order.specs.Places.{keys_of}
use Rattle.token_order.proofs.RankLemmas.{by_key_of, rank_of, rank_there, token_there}
use Rattle.token_order.proofs.vocab.Vocab.token_of_member.Goals as goal

pub index-requires-2 : goal.index-requires-2
index-requires-2 c =
    let tables = c.args.self.now in
    let held = c.self.inside in
    let sorted = by_key_of tables held.tables.now held.columns.items held.tokens.items held.frequencies.items held.by_key.items held.ranks.items c.self.invariant c.self.view_is in
    let rank = rank_of tables held.tables.now held.columns.items held.tokens.items held.frequencies.items held.by_key.items held.ranks.items c.args.number c.index.result.now c.self.invariant c.self.view_is c.requires c.index.ensures in
    omega (arith, rank_there (tokens_of (columns_of tables)) held.by_key.items (get_or (keys_of tables) c.args.number []) c.index.result.now sorted rank)

pub returns : goal.returns
returns c =
    let tables = c.args.self.now in
    let held = c.self.inside in
    let sorted = by_key_of tables held.tables.now held.columns.items held.tokens.items held.frequencies.items held.by_key.items held.ranks.items c.self.invariant c.self.view_is in
    let rank = rank_of tables held.tables.now held.columns.items held.tokens.items held.frequencies.items held.by_key.items held.ranks.items c.args.number c.index.result.now c.self.invariant c.self.view_is c.requires c.index.ensures in
    token_there (tokens_of (columns_of tables)) held.by_key.items (get_or (keys_of tables) c.args.number []) c.index.result.now c.index-2.result.now sorted rank c.index-2.ensures
