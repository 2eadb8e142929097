use Rattle.std.proofs.Common.{ap, ◌<◌, length, arith}
use Rattle.search_model.proofs.ColumnLemmas.{columns_in_all}
use Rattle.segment_build.specs.Holding.{key_count}
use Rattle.segment_build.proofs.HoldLemmas.{count_columns_in, count_more, room_in}
use Rattle.segment_build.proofs.StretchLemmas.{column_stretch}
use Rattle.token_order.specs.Places.{keys_of}
use Rattle.segment_build.proofs.hashing.hash_table.Goals as goal

pub hash_column-requires-clause-room : goal.hash_column-requires-clause-room
hash_column-requires-clause-room c =
    let within : c.loop-i.i < length c.args.table.now.columns = omega (arith, c.columns-i-end.ensures.value, c.loop-i-test.true) in
    omega (arith, c.loop-i.invariant.next, room_in 0 c.args.table.now c.loop-i.i within, c.requires.room)

pub hash_column-requires-clause-stretch : goal.hash_column-requires-clause-stretch
hash_column-requires-clause-stretch c =
    let within : c.loop-i.i < length c.args.table.now.columns = omega (arith, c.columns-i-end.ensures.value, c.loop-i-test.true) in
    column_stretch (keys_of c.args.vocab.now) 0 c.args.table.now c.args.first c.loop-i.i c.loop-i.next within c.requires.stretch c.loop-i.invariant.next

pub loop-i-preserved : goal.loop-i-preserved
loop-i-preserved c =
    let within : c.loop-i.i < length c.args.table.now.columns = omega (arith, c.columns-i-end.ensures.value, c.loop-i-test.true) in
    record { hashed = c.in_ok-next.ensures.hashed; next = omega (arith, c.in_ok-next.ensures.next, c.loop-i.invariant.next, count_more 0 c.args.table.now c.loop-i.i within) }

pub returns-clause-next : goal.returns-clause-next
returns-clause-next c =
    let table = c.args.table.now in
    let all = columns_in_all 0 table c.loop-i.i (omega (arith, c.columns-i-end.ensures.value, c.loop-i-test.false, c.loop-i.auto.i-end)) in
    omega (arith, c.loop-i.invariant.next, ap key_count all, count_columns_in 0 table)
