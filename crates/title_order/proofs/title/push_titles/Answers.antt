use Rattle.std.proofs.Common.{sym, subst, ◌<◌, ◌≤◌, List, length, take, arith}
use Rattle.search_model.specs.Segment.{Titled, columns_in}
use Rattle.search_model.proofs.ColumnLemmas.{columns_in_all, columns_in_more}
use Rattle.title_order.specs.Titles.{AreMoreTitles}
use Rattle.title_order.proofs.TitleLemmas.{more_more}
use Rattle.title_order.proofs.title.push_titles.Goals as goal

pub loop-i-preserved : goal.loop-i-preserved
loop-i-preserved c from =
    let table = c.args.table.now in
    let i = c.loop-i.i in
    let within : i < length table.columns = omega (arith, c.columns-i-end.ensures.value, c.loop-i-test.true) in
    subst (λ (cs : List Titled). AreMoreTitles c.args.titles.now.items c.push_title.new.titles.items cs) (sym (columns_in_more from table i within))
    (more_more c.args.titles.now.items c.loop-i.titles.items c.push_title.new.titles.items (take i (columns_in from table)) _ (c.loop-i.invariant from) (c.in_ok-push_title.ensures from))

pub returns : goal.returns
returns c from =
    let table = c.args.table.now in
    let i = c.loop-i.i in
    let past : length table.columns ≤ i = omega (arith, c.columns-i-end.ensures.value, c.loop-i-test.false) in
    subst (λ (cs : List Titled). AreMoreTitles c.args.titles.now.items c.loop-i.titles.items cs) (columns_in_all from table i past) (c.loop-i.invariant from)
