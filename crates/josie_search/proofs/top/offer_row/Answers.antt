use Rattle.std.proofs.Common.{◌∙◌, ap, sym, ◌-◌}
use Rattle.std.specs.Prelude.{slice_get}
use Rattle.search_model.specs.Arrays.{titled_at}
use Rattle.search_model.specs.Looks.{row_with}
use Rattle.segment_core.specs.Versions.{segment_at}
use Rattle.josie_search.specs.Open.{overlap_of}
use Rattle.josie_search.proofs.OfferLemmas.{too_few}
use Rattle.josie_search.proofs.top.offer_row.Goals as goal

pub returns-then-overlap-worst-clause-rows : goal.returns-then-overlap-worst-clause-rows
returns-then-overlap-worst-clause-rows c =
    let top = c.args.top.now in
    let last = slice_get top.rows (top.k - 1) in
    let told = ap overlap_of (sym c.worst.ensures.row) ∙ sym c.overlap_of.ensures ∙ c.in-Some.is in
    sym (too_few top.k top.rows last (row_with c.args.overlap (titled_at (segment_at c.args.looks.now.version.parts c.args.part).columns c.args.column)) c.in-Some.worst c.worst.ensures.left_out told c.if-overlap-worst.true)
