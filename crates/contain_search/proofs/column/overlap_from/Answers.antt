use Rattle.std.proofs.Common.{◌-◌, ◌≤◌, ◌∙◌, ap, [], length, take, get_or, arith}
use Rattle.std.proofs.lemmas.List.{length-take}
use Rattle.contain_search.proofs.EnoughLemmas.{all_counted}
use Rattle.part_columns.proofs.ProbeLemmas.{hits_settled}
use Rattle.part_columns.proofs.SetLemmas.{query_rises, set_rises}
use Rattle.part_columns.proofs.TallyLemmas.{tally_count}
use Rattle.part_columns.specs.declared.tally.Tally.{Tally}
use Rattle.part_columns.specs.Tallies.{most_of}
use Rattle.search_model.specs.Looks.{hits}
use Rattle.segment_core.specs.Versions.{part_at, segment_at, tables_of}
use Rattle.contain_search.proofs.column.overlap_from.Goals as goal
use Rattle.search_model.proofs.BoundLemmas.{prefix_filter}

pub most_of-requires : goal.most_of-requires
most_of-requires c =
    let set = get_or (segment_at c.args.looks.now.version.parts c.args.part).sets c.args.column [] in
    let first = take c.args.read c.args.tokens.now in
    let count = ap (λ (t : Tally). t.count) c.requires.tally ∙ tally_count set (hits set first) in
    omega (arith, count, prefix_filter set first, length-take c.args.read c.args.tokens.now, c.requires.read, c.requires.few)

pub returns-else-tally-most_of-clause-overlap : goal.returns-else-tally-most_of-clause-overlap
returns-else-tally-most_of-clause-overlap c =
    let parts = c.args.looks.now.version.parts in
    let set = get_or (segment_at parts c.args.part).sets c.args.column [] in
    let up = query_rises (segment_at parts c.args.part).tokens c.args.tokens.now c.requires.tokens in
    let over = set_rises (tables_of (part_at parts c.args.part)) c.args.column c.requires.column in
    let low : most_of (length c.args.tokens.now - c.args.read) c.args.tally ≤ c.args.tally.count = omega (arith, c.if-tally-most_of.false, c.most_of.ensures) in
    all_counted c.args.least (length (hits set c.args.tokens.now)) c.args.tally.count (hits_settled set c.args.tokens.now c.args.read c.args.tally over up c.requires.seen c.requires.tally low)
