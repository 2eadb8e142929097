use Rattle.std.proofs.Common.{◌≡◌, ◌∙◌, sym, subst, ◌<◌, List, [], ◌++◌, length, take, arith}
use Rattle.std.proofs.lemmas.List.{get_or_default}
use Rattle.lake_model.specs.Tables.{Table}
use Rattle.search_model.specs.Arrays.{no_table, table_at}
use Rattle.search_model.specs.Segment.{Titled, columns_in, columns_of}
use Rattle.search_model.proofs.ColumnLemmas.{columns_of_more}
use Rattle.title_order.specs.Titles.{AreMoreTitles}
use Rattle.title_order.proofs.TitleLemmas.{more_more}
use Rattle.title_order.proofs.title.all_titles.Goals as goal

pub loop-shared-preserved : goal.loop-shared-preserved
loop-shared-preserved c =
    let tables = c.args.tables.now in
    let i = c.loop-shared.shared-index in
    let within : i < length tables = omega arith in
    let is : c.table.result.now ≡ table_at tables i = c.table.ensures ∙ c.shared-item.is ∙ get_or_default tables i _ no_table within in
    let more = more_more [] c.loop-shared.titles.items c.push_titles.new.titles.items (columns_of (take i tables)) _ c.loop-shared.invariant (c.in_ok-push_titles.ensures i) in
    subst (λ (cs : List Titled). AreMoreTitles [] c.push_titles.new.titles.items cs) (sym (columns_of_more tables i within))
    (subst (λ (t : Table). AreMoreTitles [] c.push_titles.new.titles.items (columns_of (take i tables) ++ columns_in i t)) is more)
