use Rattle.std.proofs.Common.{◌≡◌, ◌∙◌, sym, ap, ℕ, ◌-◌, ◌++◌, List, length, get_or, arith, Some}
use Rattle.search_model.specs.declared.Look.TheVariants.{Read}
use Rattle.search_model.specs.Looks.{known_rows, left_of, searched, worst}
use Rattle.segment_core.proofs.SegmentLemmas.{length-sets}
use Rattle.segment_core.specs.Versions.{part_at, segment_at, tables_of}
use Rattle.josie_search.specs.Costs.{lengths_of, threshold_of}
use Rattle.josie_search.specs.Open.{chosen, overlap_of}
use Rattle.josie_search.specs.Rows.{with_row}
use Rattle.josie_search.proofs.LoopLemmas.{lead_parts}
use Rattle.josie_search.proofs.NextLemmas.{chosen_probe, found_may_lead, head_now, last_is, next_chosen, taken_leads}
use Rattle.josie_search.proofs.OpenLemmas.{seen_count}
use Rattle.josie_search.proofs.RowLemmas.{column_with_row, found_within}
use Rattle.part_columns.proofs.SegmentLists.{token_within}
use Rattle.josie_search.proofs.next.next_look.Goals as goal

pub choose-requires-clause-tokens : goal.choose-requires-clause-tokens
choose-requires-clause-tokens g c = λ k d h.
    let tokens = (segment_at c.args.looks.now.version.parts c.args.part).tokens in
    let within = token_within tokens c.args.query.now.keys k d (omega (arith, h, ap (λ (ts : List ℕ). length ts) c.requires.tokens)) in
    omega (arith, within, ap (λ (ts : List ℕ). get_or ts k d) c.requires.tokens)

pub choose-requires-clause-seen : goal.choose-requires-clause-seen
choose-requires-clause-seen g c = λ x e.
    let query = c.args.query.now in
    let part = searched query (part_at c.args.looks.now.version.parts c.args.part) in
    let columns = c.args.columns.now in
    let lead = taken_leads query part columns.tallies columns.known _ (with_row part.segment.columns c.first_lead-found.result) _ _ _ x c.first_lead-found.ensures.found (sym e ∙ c.take_better-column.ensures) in
    (omega (arith, lead.0, c.requires.wide), lead.0, (lead_parts query part columns.tallies columns.known x lead.1).2)

pub returns-then-surely_reads-clause-next : goal.returns-then-surely_reads-clause-next
returns-then-surely_reads-clause-next g c = λ before progress is at same.
    (λ i. Some (Read (c.number.ensures i) (get_or (c.requires.tokens i) (sym at i) 0)))
    ∙ sym (c.surely_reads.ensures before progress is at same c.if-surely_reads.true)

pub returns-clause-next : goal.returns-clause-next
returns-clause-next g c = λ before progress is at same.
    let says = g.C.Chooser.says c.args.chooser.now in
    let query = c.args.query.now in
    let whole = part_at c.args.looks.now.version.parts c.args.part in
    let part = searched query whole in
    let columns = c.args.columns.now in
    let last = worst query (before ++ known_rows query part progress) in
    let kth = last_is query (before ++ known_rows query part progress) c.args.top.now.rows c.args.top.now.k c.requires.some c.requires.k same in
    let told = c.worst_overlap-worst.ensures.overlap ∙ ap overlap_of kth in
    let left : length c.args.tokens.now - c.args.read ≡ left_of part progress = (λ i. length (c.requires.tokens i) - sym at i) in
    let low = c.threshold-low.ensures ∙ ap threshold_of c.worst_overlap-worst.ensures.overlap in
    let head = head_now query part progress columns.tallies columns.known last _ (with_row part.segment.columns c.first_lead-found.result) _ _ _ c.take_better-column.result is kth left (length-sets (tables_of whole)) low c.first_lead-found.ensures.found c.take_better-column.ensures in
    c.choose.ensures
    ∙ (λ i. chosen says part.number (lengths_of part.segment (c.requires.tokens i)) (c.requires.tokens i) (sym at i) part.segment.sets columns.tallies (told i) c.take_better-column.result)
    ∙ next_chosen says query before part progress columns.tallies columns.known is c.take_better-column.result head
    (λ x e. seen_count query part progress columns.tallies columns.known is x (taken_leads query part columns.tallies columns.known _ (with_row part.segment.columns c.first_lead-found.result) _ _ _ x c.first_lead-found.ensures.found (sym e ∙ c.take_better-column.ensures)).1)

pub returns-clause-probed : goal.returns-clause-probed
returns-clause-probed g c = λ n x after e.
    let query = c.args.query.now in
    let part = searched query (part_at c.args.looks.now.version.parts c.args.part) in
    let columns = c.args.columns.now in
    let told = chosen_probe (g.C.Chooser.says c.args.chooser.now) part.number _ c.args.tokens.now c.args.read part.segment.sets columns.tallies c.worst_overlap-worst.result c.take_better-column.result n x after (sym c.choose.ensures ∙ e) in
    let lead = taken_leads query part columns.tallies columns.known _ (with_row part.segment.columns c.first_lead-found.result) _ _ _ x c.first_lead-found.ensures.found (sym told.1 ∙ c.take_better-column.ensures) in
    (told.0, lead.0, lead.1, told.2)

pub returns-then-surely_reads-clause-held : goal.returns-then-surely_reads-clause-held
returns-then-surely_reads-clause-held g c =
    let columns = c.args.columns.now in
    c.rest.ensures.held c.args.query.now (searched c.args.query.now (part_at c.args.looks.now.version.parts c.args.part)) c.args.order.ranks.now columns.tallies columns.known (length c.args.tokens.now - c.args.read)
    (λ x. omega (arith, c.requires.small x, c.requires.read, c.requires.few)) c.requires.held

pub returns-clause-witness : goal.returns-clause-witness
returns-clause-witness g c =
    let query = c.args.query.now in
    let whole = part_at c.args.looks.now.version.parts c.args.part in
    let columns = (segment_at c.args.looks.now.version.parts c.args.part).columns in
    found_may_lead query (searched query whole) c.args.columns.now.tallies c.args.columns.now.known (with_row columns c.first_lead-found.result) _ _ _ c.column_of.result (length-sets (tables_of whole)) c.first_lead-found.ensures.found
    (c.column_of.ensures ∙ column_with_row columns c.first_lead-found.result)

pub take_better-column-requires-clause-column : goal.take_better-column-requires-clause-column
take_better-column-requires-clause-column g c =
    let query = c.args.query.now in
    found_within query (searched query (part_at c.args.looks.now.version.parts c.args.part)) c.args.columns.now.tallies c.args.columns.now.known _ _ _ (segment_at c.args.looks.now.version.parts c.args.part).columns c.first_lead-found.result c.first_lead-found.ensures.found
