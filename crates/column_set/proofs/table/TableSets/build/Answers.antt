use Rattle.std.proofs.Common.{◌≡◌, ◌≤◌, ◌∙◌, ap, arith, map, string_bytes, subst, sym}
use Rattle.std.specs.declared.alloc.Global.{Global}
use Rattle.std.proofs.lemmas.List.{length-map}
use Rattle.lake_model.specs.Records.{table_of, text_size}
use Rattle.lake_model.specs.Tables.{Table, Titles, members, titles_with}
use Rattle.column_set.specs.Columns.{table_from}
use Rattle.column_set.proofs.ColumnLemmas.{as_many_read, held_read, table_read}
use Rattle.column_set.proofs.SizeLemmas.{members-size}
use Rattle.column_set.proofs.table.TableSets.build.Goals as goal

pub shared_titles-requires : goal.shared_titles-requires
shared_titles-requires c =
    let as_many = as_many_read c.args.keys c.args.name c.args.raw.now (map string_bytes c.in_ok-names.names.items) c.in_ok-sets.sets c.in_ok-names.ensures c.in_ok-sets.ensures.sets in
    rw c.deref.ensures.value (omega (arith, as_many, length-map c.in_ok-names.names.items (string_bytes {Z = Global}), c.in_ok-sets.ensures.narrow))

pub invariant_of-result : goal.invariant_of-result
invariant_of-result c =
    let titles = c.in_ok-titles.ensures ∙ ap (λ names. titles_with c.args.name (map string_bytes names)) c.deref.ensures.value in
    held_read c.args.keys c.args.name c.args.raw.now (map string_bytes c.in_ok-names.names.items) c.in_ok-sets.sets c.in_ok-names.ensures c.in_ok-sets.ensures.sets c.in_ok-sets.ensures.narrow c.in_ok-sets.ensures.small
    c.in_ok-titles.titles.value titles c.key_count.result c.in-Some.key_bytes c.key_count.ensures c.in-Some.ensures

pub returns-clause-table : goal.returns-clause-table
returns-clause-table c =
    let titles = c.in_ok-titles.ensures ∙ ap (λ names. titles_with c.args.name (map string_bytes names)) c.deref.ensures.value in
    ap (λ (t : Titles). table_from t c.in_ok-sets.sets) titles
    ∙ table_read c.args.keys c.args.name c.args.raw.now (map string_bytes c.in_ok-names.names.items) c.in_ok-sets.sets c.in_ok-names.ensures c.in_ok-sets.ensures.sets

pub returns-clause-size : goal.returns-clause-size
returns-clause-size c =
    let titles = c.in_ok-titles.ensures ∙ ap (λ names. titles_with c.args.name (map string_bytes names)) c.deref.ensures.value in
    let table : table_from c.in_ok-titles.titles.value c.in_ok-sets.sets ≡ table_of c.args.keys c.args.name c.args.raw.now =
    ap (λ (t : Titles). table_from t c.in_ok-sets.sets) titles
    ∙ table_read c.args.keys c.args.name c.args.raw.now (map string_bytes c.in_ok-names.names.items) c.in_ok-sets.sets c.in_ok-names.ensures c.in_ok-sets.ensures.sets in
    let P : Table → Type 0 = λ (t : Table). members t ≤ text_size c.args.raw.now in
    subst P (sym table) (members-size c.args.keys c.args.name c.args.raw.now)
