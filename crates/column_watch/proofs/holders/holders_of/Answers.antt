use Rattle.std.proofs.Common.{◌∙◌, ◌++◌, subst}
use Rattle.std.specs.List.{AllByRecursion}
use Rattle.std.specs.List.Sorted.{IsStrictlySortedBy}
use Rattle.list_laws.proofs.ListLemmas.{all_left, all_right}
use Rattle.column_watch.specs.Index.{IsHashed, key_cmp}
use Rattle.column_watch.proofs.HolderLemmas.{keys_of}
use Rattle.column_watch.proofs.IndexLemmas.{strict_left, strict_right, stretch_says}
use Rattle.column_watch.proofs.holders.holders_of.Goals as goal

pub holders_among-requires-clause-rising : goal.holders_among-requires-clause-rising
holders_among-requires-clause-rising c =
    let order = key_cmp (keys_of c.args.queries.now) in
    let cut = c.near.ensures in
    strict_left order c.near.result.now cut.back (strict_right order cut.front (c.near.result.now ++ cut.back) (subst (IsStrictlySortedBy order) cut.whole c.requires.indexed.rising))

pub holders_among-requires-clause-hashed : goal.holders_among-requires-clause-hashed
holders_among-requires-clause-hashed c =
    let hashed = IsHashed (keys_of c.args.queries.now) in
    let cut = c.near.ensures in
    all_left hashed c.near.result.now cut.back (all_right hashed cut.front (c.near.result.now ++ cut.back) (subst (AllByRecursion hashed) cut.whole c.requires.indexed.keys.hashed))

pub returns : goal.returns
returns c = λ w.
    let queries = keys_of c.args.queries.now in
    let key = c.args.key.now in
    c.holders_among.ensures w ∙ stretch_says queries key c.args.hash c.requires.own c.args.holders.now c.near.result.now c.requires.indexed.keys.hashed c.near.ensures w ∙ c.requires.indexed.keys.held key w
