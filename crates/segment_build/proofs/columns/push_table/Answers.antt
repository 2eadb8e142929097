use Rattle.std.proofs.Common.{sym, subst, ◌+◌, ◌<◌, [], ◌∷◌, length, take, arith}
use Rattle.search_model.specs.Segment.{columns_in, titled_in}
use Rattle.segment_build.specs.Holding.{all_tokens, held_with, HasMore}
use Rattle.token_order.specs.Places.{keys_of}
use Rattle.search_model.proofs.ColumnLemmas.{columns_in_all, columns_in_more}
use Rattle.segment_build.proofs.HoldLemmas.{more_more, room_in}
use Rattle.segment_build.proofs.StretchLemmas.{column_stretch}
use Rattle.segment_build.proofs.columns.push_table.Goals as goal

pub push_column-requires-clause-room : goal.push_column-requires-clause-room
push_column-requires-clause-room c =
    let within : c.loop-i.i < length c.args.table.now.columns = omega (arith, c.columns-i-end.ensures.value) in
    omega (arith, c.loop-i.invariant.long, room_in c.args.number c.args.table.now c.loop-i.i within, c.requires.room)

pub push_column-requires-clause-stretch : goal.push_column-requires-clause-stretch
push_column-requires-clause-stretch c =
    let within : c.loop-i.i < length c.args.table.now.columns = omega (arith, c.columns-i-end.ensures.value) in
    column_stretch (keys_of c.args.vocab.now) c.args.number c.args.table.now (length c.args.sets.now.tokens.items) c.loop-i.i (length c.loop-i.sets.tokens.items) within c.requires.stretch c.loop-i.invariant.long

pub loop-i-preserved : goal.loop-i-preserved
loop-i-preserved c =
    let number = c.args.number in
    let table = c.args.table.now in
    let tokens = all_tokens c.args.vocab.now in
    let old = held_with c.args.sets.now.owners.items c.args.sets.now.starts.items c.args.sets.now.tokens.items in
    let mid = held_with c.loop-i.sets.owners.items c.loop-i.sets.starts.items c.loop-i.sets.tokens.items in
    let new = held_with c.push_column.new.sets.owners.items c.push_column.new.sets.starts.items c.push_column.new.sets.tokens.items in
    let within : c.loop-i.i < length table.columns = omega (arith, c.columns-i-end.ensures.value) in
    subst (HasMore tokens old new) (sym (columns_in_more number table c.loop-i.i within)) (more_more tokens old mid new (take c.loop-i.i (columns_in number table)) (titled_in number table (c.loop-i.i + 1) ∷ []) c.loop-i.invariant c.in_ok-push_column.ensures)

pub returns : goal.returns
returns c =
    let tokens = all_tokens c.args.vocab.now in
    let old = held_with c.args.sets.now.owners.items c.args.sets.now.starts.items c.args.sets.now.tokens.items in
    let new = held_with c.loop-i.sets.owners.items c.loop-i.sets.starts.items c.loop-i.sets.tokens.items in
    subst (HasMore tokens old new) (columns_in_all c.args.number c.args.table.now c.loop-i.i (omega (arith, c.columns-i-end.ensures.value))) c.loop-i.invariant
