use Rattle.std.proofs.Common.{◌≡◌, ◌∙◌, ap, sym, ℕ, ◌<◌, List, get_or, length, arith}
use Rattle.std.proofs.lemmas.List.{get_or-map, get_or_default, length-map}
use Rattle.lake_model.specs.Tables.{Table, Titles, titles_of}
use Rattle.search_model.specs.Arrays.{no_table, no_titled, table_at, titled_at}
use Rattle.search_model.specs.Looks.{row_with}
use Rattle.search_model.specs.Segment.{segment, Titled}
use Rattle.segment_core.proofs.PlacedLemmas.{IsPlaced, placed, row_placed, titles_within}
use Rattle.segment_core.proofs.order.RankedTitles.row.Goals as goal

-- the titles that the code finds are those of the column's table
titles_found : (tables held : List Table) (at from : ℕ) (table : Table) (titles : Titles) → held ≡ tables → table ≡ get_or held at table → titles ≡ titles_of table → at ≡ from → at < length held → titles ≡ titles_of (table_at tables from)
titles_found tables held at from table titles same is of belongs within =
    of ∙ ap titles_of (is ∙ get_or_default held at table no_table within ∙ ap (λ (ts : List Table). get_or ts at no_table) same ∙ ap (λ (i : ℕ). get_or tables i no_table) belongs)

module _ (c : goal.After-titles) where
  abbrev tables : List Table
  tables = c.self.inside.index.now

  abbrev by_rank : List ℕ
  by_rank = c.self.inside.by_rank.now

  abbrev column : Titled
  column = titled_at (segment tables).columns (get_or by_rank c.args.rank 0)

  inside : c.args.rank < length by_rank
  inside = let long : length c.args.self.now ≡ length by_rank = ap (λ (ts : List Titled). length ts) (sym c.self.view_is) ∙ length-map by_rank (titled_at (segment tables).columns) in omega (arith, long, c.requires)

  found : c.titles.result.now.value ≡ titles_of (table_at tables column.from)
  found =
      titles_found tables c.tables.result.now c.owner-owner.result.table column.from c.table-table.result.now c.titles.result.now.value c.tables.ensures (c.table-table.ensures ∙ c.index-tables-owner.is ∙ get_or_default c.tables.result.now c.owner-owner.result.table c.index-tables-owner.result c.table-table.result.now within) c.titles.ensures c.owner-owner.ensures.table within
    where
      within : c.owner-owner.result.table < length c.tables.result.now
      within = omega (arith, c.owner-owner.ensures.within, ap (λ (ts : List Table). length ts) c.tables.ensures)

  is_placed : IsPlaced tables column
  is_placed = placed tables (get_or by_rank c.args.rank 0) (c.self.invariant.0 c.args.rank 0 inside)

  titled_here : titled_at c.args.self.now c.args.rank ≡ column
  titled_here = ap (λ (ts : List Titled). titled_at ts c.args.rank) (sym c.self.view_is) ∙ get_or-map (titled_at (segment tables).columns) by_rank c.args.rank 0 no_titled inside

pub invariant_of-result : goal.invariant_of-result
invariant_of-result c = titles_within (tables c) (column c) c.titles.result.now.value c.owner-owner.result.place (is_placed c) (found c) c.owner-owner.ensures.place

pub returns-clause-row : goal.returns-clause-row
returns-clause-row c =
    row_placed c.args.overlap (tables c) (column c) c.titles.result.now.value c.owner-owner.result.place (is_placed c) (found c) c.owner-owner.ensures.place
    ∙ ap (row_with c.args.overlap) (sym (titled_here c))
