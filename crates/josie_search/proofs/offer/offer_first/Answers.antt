use Rattle.std.proofs.Common.{◌∙◌, ap, sym, ◌-◌, length, arith}
use Rattle.std.specs.Prelude.{slice_get}
use Rattle.search_model.specs.Looks.{searched}
use Rattle.segment_core.specs.Versions.{part_at, segment_at}
use Rattle.josie_search.specs.Costs.{threshold_of}
use Rattle.josie_search.specs.Offers.{offers}
use Rattle.josie_search.specs.Rows.{lead_row, row_of_lead}
use Rattle.josie_search.proofs.LoopLemmas.{lead_parts}
use Rattle.josie_search.proofs.OfferLemmas.{first_taken, none_beats, none_high, none_kept}
use Rattle.josie_search.proofs.offer.offer_first.Goals as goal

pub returns-in_default-clause-none : goal.returns-in_default-clause-none
returns-in_default-clause-none c = λ _.
    let query = c.args.query.now in
    let part = searched query (part_at c.args.looks.now.version.parts c.args.part) in
    let columns = c.args.columns.now in
    let top = c.args.top.now in
    let sets = length (segment_at c.args.looks.now.version.parts c.args.part).sets in
    let low = c.threshold-low.ensures ∙ ap threshold_of c.worst_overlap.ensures.overlap in
    none_kept query part columns.tallies columns.known top.k top.rows columns.touched
    (none_high query part columns.tallies columns.known top.k top.rows (slice_get top.rows (top.k - 1)) c.worst_overlap.ensures.left_out sets c.threshold-low.result low
    (λ y e. c.requires.seen y (lead_parts query part columns.tallies columns.known y e).2) c.in_default.ensures.found)

pub returns-then-not-comes_in-clause-none : goal.returns-then-not-comes_in-clause-none
returns-then-not-comes_in-clause-none c = λ _.
    let query = c.args.query.now in
    let part = searched query (part_at c.args.looks.now.version.parts c.args.part) in
    let columns = c.args.columns.now in
    let top = c.args.top.now in
    let sets = length (segment_at c.args.looks.now.version.parts c.args.part).sets in
    let row = row_of_lead part.segment.columns c.in-Some.lead in
    let beaten = sym c.comes_in.ensures ∙ c.if-not-comes_in.true in
    none_kept query part columns.tallies columns.known top.k top.rows columns.touched
    (none_beats query part columns.tallies columns.known top.k top.rows (slice_get top.rows (top.k - 1)) c.worst_overlap.ensures.left_out sets c.in-Some.lead.column row c.in-Some.ensures.found beaten
    (λ y e. c.requires.seen y (lead_parts query part columns.tallies columns.known y e).2))

pub returns-clause-rows : goal.returns-clause-rows
returns-clause-rows c = λ listed.
    let query = c.args.query.now in
    let part = searched query (part_at c.args.looks.now.version.parts c.args.part) in
    let columns = c.args.columns.now in
    let top = c.args.top.now in
    let found = c.in-Some.ensures.found in
    (λ i. offers top.k (lead_row query part (c.know.ensures.tallies i) (c.know.ensures.known i) 0) c.offer.new.self.rows (c.know.ensures.touched i))
    ∙ first_taken query part columns.tallies columns.known c.in-Some.lead.column top.k top.rows c.offer.new.self.rows columns.touched (row_of_lead part.segment.columns c.in-Some.lead) listed found.does (omega (arith, found.within, c.requires.wide, c.know.ensures.marks)) c.worst_overlap.ensures.first found.same c.offer.ensures.rows
