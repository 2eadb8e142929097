use Rattle.std.proofs.Common.{◌≡◌, ◌∙◌, ap, sym, subst, refl, ◌+◌, ◌<◌, ◌≤◌, List, [], ◌∷◌, ◌++◌, length, take, arith}
use Rattle.std.proofs.lemmas.List.{length-map, take_all}
use Rattle.lake_model.specs.Texts.{Text}
use Rattle.lake_model.specs.Tables.{Column, Table, keys_at, sets_of}
use Rattle.search_model.specs.Arrays.{all_of, table_at}
use Rattle.search_model.specs.Segment.{Titled, columns_in, titled_in}
use Rattle.search_model.proofs.ColumnLemmas.{columns_in_all, columns_in_more}
use Rattle.token_order.specs.Columns.{AreMoreColumns}
use Rattle.token_order.specs.declared.columns.ColumnAt.{ColumnAt}
use Rattle.token_order.proofs.ColumnLemmas.{more_column}
use Rattle.token_order.proofs.PlaceLemmas.{keys_in_more}
use Rattle.token_order.proofs.columns.push_columns.Goals as goal

pub loop-i-preserved : goal.loop-i-preserved
loop-i-preserved c =
    let tables = c.args.tables.now in
    let n = c.args.table in
    let table = table_at tables n in
    let i = c.loop-i.i in
    let old = c.args.columns.now.items in
    let new = c.loop-i.columns.items in
    let next = c.in-Some.next in
    let count : c.columns-i-end.result ≡ length table.columns = c.columns-i-end.ensures.value ∙ ap (λ (t : Table). length t.columns) c.table_of-sets.ensures in
    let within : i < length table.columns = omega (arith, count, c.loop-i-test.true) in
    let column : ColumnAt = record { table = n; place = i + 1; first = c.loop-i.first } in
    let size : c.size.result ≡ length (keys_at table (i + 1)) = c.size.ensures.value ∙ ap (λ (t : Table). length (keys_at t (i + 1))) c.table_of-sets.ensures in
    let after : next ≡ c.loop-i.first + length (keys_at table (i + 1)) = omega (arith, c.in-Some.ensures.1, size) in
    let columns = take i (columns_in n table) in
    let keys = all_of (take i (sets_of table)) in
    let more = more_column tables old new columns keys c.loop-i.first next column (titled_in n table (i + 1)) c.loop-i.invariant (record { table = c.requires.table; low = omega arith; high = omega arith }) refl refl after in
    subst (λ (cs : List ColumnAt). AreMoreColumns tables old cs (take (i + 1) (columns_in n table)) (all_of (take (i + 1) (sets_of table))) next) (sym c.in_ok-push.ensures.items)
    (subst (λ (ts : List Titled). AreMoreColumns tables old (new ++ column ∷ []) ts (all_of (take (i + 1) (sets_of table))) next) (sym (columns_in_more n table i within))
    (subst (λ (ks : List Text). AreMoreColumns tables old (new ++ column ∷ []) (columns ++ titled_in n table (i + 1) ∷ []) ks next) (sym (keys_in_more table i within)) more))

pub returns-clause-more : goal.returns-clause-more
returns-clause-more c =
    let tables = c.args.tables.now in
    let n = c.args.table in
    let table = table_at tables n in
    let i = c.loop-i.i in
    let old = c.args.columns.now.items in
    let new = c.loop-i.columns.items in
    let next = c.loop-i.first in
    let count : c.columns-i-end.result ≡ length table.columns = c.columns-i-end.ensures.value ∙ ap (λ (t : Table). length t.columns) c.table_of-sets.ensures in
    let past : length table.columns ≤ i = omega (arith, count, c.loop-i-test.false) in
    let sets : take i (sets_of table) ≡ sets_of table = take_all i (sets_of table) (omega (arith, past, length-map table.columns (λ (c : Column). c.keys))) in
    subst (λ (ts : List Titled). AreMoreColumns tables old new ts (all_of (sets_of table)) next) (columns_in_all n table i past)
    (subst (λ (ks : List (List Text)). AreMoreColumns tables old new (take i (columns_in n table)) (all_of ks) next) sets c.loop-i.invariant)
