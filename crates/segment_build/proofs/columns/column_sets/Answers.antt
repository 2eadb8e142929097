use Rattle.std.proofs.Common.{ap, sym, subst, ◌<◌, List, [], ◌∷◌, length, take, arith}
use Rattle.lake_model.specs.Tables.{Table, members}
use Rattle.search_model.specs.Arrays.{table_at}
use Rattle.search_model.specs.Segment.{columns_of, columns_in}
use Rattle.segment_build.specs.Holding.{all_tokens, held_with, HasMore, IsStretch}
use Rattle.token_order.specs.Places.{keys_in, keys_of}
use Rattle.search_model.proofs.ColumnLemmas.{columns_of_more}
use Rattle.segment_build.proofs.HoldLemmas.{more_more, room_of}
use Rattle.segment_build.proofs.StretchLemmas.{table_stretch}
use Rattle.segment_build.proofs.columns.column_sets.Goals as goal

pub push_table-requires-clause-room : goal.push_table-requires-clause-room
push_table-requires-clause-room c =
    let i = c.loop-table.table in
    let within : i < length c.args.tables.now = omega arith in
    omega (arith, c.loop-table.invariant.long, room_of c.args.tables.now i within, c.requires.members, ap members c.table_of.ensures)

pub push_table-requires-clause-stretch : goal.push_table-requires-clause-stretch
push_table-requires-clause-stretch c =
    let tables = c.args.tables.now in
    let i = c.loop-table.table in
    let within : i < length tables = omega arith in
    let now = length c.loop-table.sets.tokens.items in
    let here : IsStretch (keys_of tables) (keys_in (table_at tables i)) now = table_stretch tables i now within (omega (arith, c.loop-table.invariant.long)) in
    subst (λ (ts : List Table). IsStretch (keys_of ts) (keys_in c.table_of.result.now) now) (sym c.requires.vocab) (subst (λ (t : Table). IsStretch (keys_of tables) (keys_in t) now) (sym c.table_of.ensures) here)

pub loop-table-preserved : goal.loop-table-preserved
loop-table-preserved c =
    let tables = c.args.tables.now in
    let i = c.loop-table.table in
    let within : i < length tables = omega arith in
    let tokens = all_tokens tables in
    let old = held_with [] (0 ∷ []) [] in
    let mid = held_with c.loop-table.sets.owners.items c.loop-table.sets.starts.items c.loop-table.sets.tokens.items in
    let new = held_with c.push_table.new.sets.owners.items c.push_table.new.sets.starts.items c.push_table.new.sets.tokens.items in
    let added : HasMore tokens mid new (columns_in i (table_at tables i)) =
    subst (λ (t : Table). HasMore tokens mid new (columns_in i t)) c.table_of.ensures (subst (λ (ts : List Table). HasMore (all_tokens ts) mid new (columns_in i c.table_of.result.now)) c.requires.vocab c.in_ok-push_table.ensures) in
    subst (HasMore tokens old new) (sym (columns_of_more tables i within)) (more_more tokens old mid new (columns_of (take i tables)) (columns_in i (table_at tables i)) c.loop-table.invariant added)
