use Rattle.std.proofs.Common.{◌∙◌, ap, sym, ◌<◌, List, ◌++◌, length, map, take, arith}
use Rattle.std.proofs.lemmas.List.{map-append}
use Rattle.std.proofs.lemmas.List.Elements.{All-more}
use Rattle.column_set.specs.Columns.{HasDistinctKeys}
use Rattle.lake_model.specs.Texts.{Text}
use Rattle.search_model.specs.declared.Owner.{Owner}
use Rattle.search_model.specs.Arrays.{no_table, owner_of, table_at}
use Rattle.search_model.specs.Segment.{columns_in, columns_of}
use Rattle.search_model.proofs.ColumnLemmas.{columns_of_more}
use Rattle.token_order.specs.Places.{keys_in}
use Rattle.token_order.proofs.PlaceLemmas.{keys_of_more}
use Rattle.token_order.proofs.columns.all_columns.Goals as goal

pub loop-table-preserved : goal.loop-table-preserved
loop-table-preserved c =
    let tables = c.args.tables.now in
    let i = c.loop-table.table in
    let within : i < length tables = omega arith in
    let more = c.in_ok-first.ensures.more in
    record {
      columns = more.columns;
      owned =
          more.owned
          ∙ ap (λ (os : List Owner). os ++ map owner_of (columns_in i (table_at tables i))) c.loop-table.invariant.owned
          ∙ sym (map-append owner_of (columns_of (take i tables)) (columns_in i (table_at tables i)))
          ∙ ap (map owner_of) (sym (columns_of_more tables i within));
      keys = more.held ∙ ap (λ (ks : List Text). ks ++ keys_in (table_at tables i)) c.loop-table.invariant.keys ∙ sym (keys_of_more tables i within);
      first = more.counted;
      different = All-more HasDistinctKeys tables i no_table within c.loop-table.invariant.different c.in_ok-first.ensures.different;
    }
