use Rattle.std.proofs.Common.{◌<◌, ◌∙◌, ap, sym, arith, length}
use Rattle.std.proofs.lemmas.List.{length-map}
use Rattle.column_watch.specs.Held.{StateOf, ready}
use Rattle.column_watch.proofs.CountLemmas.{has_columns}
use Rattle.column_watch.proofs.HolderLemmas.{keys_of}
use Rattle.column_watch.proofs.StateLemmas.{ready_more}
use Rattle.column_watch.proofs.watched.prepare_all.Goals as goal

pub coming_rows-requires : goal.coming_rows-requires
coming_rows-requires c =
    let within : c.loop-w.w < length (keys_of c.args.queries.now) = omega (arith, length-map c.args.queries.now (λ (state : StateOf). state.keys), c.loop-w.invariant.len) in
    record { as_many = has_columns _ (keys_of c.args.queries.now) _ c.loop-w.w c.requires within }

pub loop-w-preserved : goal.loop-w-preserved
loop-w-preserved c =
    let within : c.loop-w.w < length c.loop-w.queries = omega (arith, c.loop-w.invariant.len) in
    let more = ready_more _ _ c.args.queries.now c.loop-w.queries c.loop-w.w c.index-queries-w.result c.prepare.new.self c.in_ok-coming.coming.items c.requires within
    (record { len = c.loop-w.invariant.len; done = c.loop-w.invariant.done; rest = c.loop-w.invariant.rest }) c.index-queries-w.is c.in_ok-coming.ensures
    (c.in_ok-prepare.ensures.ok ∙ ap (λ (state : StateOf). ready state c.in_ok-coming.coming.items) (sym c.index-queries-w.is)) in
    record { len = more.len; done = more.done; rest = more.rest }
