use Rattle.std.proofs.Common.{◌∙◌, ◌++◌, ◌∷◌, [], ap, arith, drop, length, take}
use Rattle.lake_model.specs.Journal.{Entry}
use Rattle.column_watch.specs.Watching.{WatchesOf, watches_with}
use Rattle.column_watch.specs.Held.{gone_by, put_by}
use Rattle.column_watch.proofs.CountLemmas.{written}
use Rattle.column_watch.proofs.StateLemmas.{on_err, refused_kept, refused_queries, taken_kept, taken_queries}
use Rattle.column_watch.proofs.watches.Watches.take.Goals as goal

pub invariant_of-self-in_err-prepare_all : goal.invariant_of-self-in_err-prepare_all
invariant_of-self-in_err-prepare_all c =
    let states = c.self.inside.queries.items in
    let start = c.deref_mut.result.now in
    let prepared = c.prepare_all.new.queries in
    let after = written c.self.inside.queries.len prepared (drop (length prepared) states) (omega (arith, c.deref_mut.ensures.len, c.prepare_all.ensures.len)) in
    refused_kept c.self.inside.journal.items states c.deref.result.now start prepared c.self.inside.holders c.index_first.new.holders c.self.invariant c.deref.ensures.value c.deref_mut.ensures.value c.in_ok-index_first.ensures.ok
    c.prepare_all.ensures.len _ _ c.reserve.ensures.items after c.in_err-prepare_all.ensures.err

pub returns-in_err-prepare_all-clause-err : goal.returns-in_err-prepare_all-clause-err
returns-in_err-prepare_all-clause-err c =
    let states = c.self.inside.queries.items in
    let start = c.deref_mut.result.now in
    let prepared = c.prepare_all.new.queries in
    let after = written c.self.inside.queries.len prepared (drop (length prepared) states) (omega (arith, c.deref_mut.ensures.len, c.prepare_all.ensures.len)) in
    let queries = refused_queries c.self.inside.journal.items states c.deref.result.now start prepared c.self.inside.holders c.index_first.new.holders c.self.invariant c.deref.ensures.value c.deref_mut.ensures.value c.in_ok-index_first.ensures.ok
    c.prepare_all.ensures.len _ _ c.reserve.ensures.items after c.in_err-prepare_all.ensures.err in
    on_err _ ((λ i. watches_with (c.reserve.ensures.items i) (queries i)) ∙ c.self.view_is)

pub invariant_of-self-2 : goal.invariant_of-self-2
invariant_of-self-2 c =
    let states = c.self.inside.queries.items in
    let start = c.deref_mut.result.now in
    let prepared = c.prepare_all.new.queries in
    let settled = c.settle_all.new.queries in
    let before = written c.self.inside.queries.len prepared (drop (length prepared) states) (omega (arith, c.deref_mut.ensures.len, c.prepare_all.ensures.len)) in
    let after = written c.self.inside.queries.len settled (drop (length settled) (take c.self.inside.queries.len (prepared ++ drop (length prepared) states)))
    (omega (arith, c.deref_mut.ensures.len, c.prepare_all.ensures.len, c.settle_all.ensures.len, ap length (c.deref_mut-2.ensures.value ∙ before))) in
    taken_kept c.self.inside.journal.items states c.deref.result.now start prepared c.self.inside.holders c.index_first.new.holders c.self.invariant c.deref.ensures.value c.deref_mut.ensures.value c.in_ok-index_first.ensures.ok
    c.prepare_all.ensures.len c.args.entry.now _ _ (c.put_table-table.ensures ∙ ap (λ (e : Entry). put_by e.what) c.entry.view_is) (c.gone_name.ensures ∙ ap (λ (e : Entry). gone_by e.what) c.entry.view_is)
    c.in_ok-prepare_all.ensures.ok c.deref_mut-2.result.now settled _ _ (c.deref_mut-2.ensures.value ∙ before) c.settle_all.ensures.len c.settle_all.ensures.each
    (c.in-Ok.ensures.items ∙ (λ i. c.reserve.ensures.items i ++ c.in_ok-taken.ensures i ∷ [])) after

pub returns-clause-ok : goal.returns-clause-ok
returns-clause-ok c =
    let states = c.self.inside.queries.items in
    let start = c.deref_mut.result.now in
    let prepared = c.prepare_all.new.queries in
    let settled = c.settle_all.new.queries in
    let before = written c.self.inside.queries.len prepared (drop (length prepared) states) (omega (arith, c.deref_mut.ensures.len, c.prepare_all.ensures.len)) in
    let after = written c.self.inside.queries.len settled (drop (length settled) (take c.self.inside.queries.len (prepared ++ drop (length prepared) states)))
    (omega (arith, c.deref_mut.ensures.len, c.prepare_all.ensures.len, c.settle_all.ensures.len, ap length (c.deref_mut-2.ensures.value ∙ before))) in
    let journal = c.in-Ok.ensures.items ∙ (λ i. c.reserve.ensures.items i ++ c.in_ok-taken.ensures i ∷ []) in
    let queries = taken_queries c.self.inside.journal.items states c.deref.result.now start prepared c.self.inside.holders c.index_first.new.holders c.self.invariant c.deref.ensures.value c.deref_mut.ensures.value c.in_ok-index_first.ensures.ok
    c.prepare_all.ensures.len c.args.entry.now _ _ (c.put_table-table.ensures ∙ ap (λ (e : Entry). put_by e.what) c.entry.view_is) (c.gone_name.ensures ∙ ap (λ (e : Entry). gone_by e.what) c.entry.view_is)
    c.in_ok-prepare_all.ensures.ok c.deref_mut-2.result.now settled _ _ (c.deref_mut-2.ensures.value ∙ before) c.settle_all.ensures.len c.settle_all.ensures.each journal after in
    (λ i. watches_with (journal i) (queries i)) ∙ ap (λ (v : WatchesOf). watches_with (v.journal ++ c.args.entry.now ∷ []) v.queries) c.self.view_is
