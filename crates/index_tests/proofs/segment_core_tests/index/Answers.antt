use Rattle.std.proofs.Common.{◌≡◌, ◌∙◌, ap, sym, subst, ℕ, List, [], ◌∷◌, lit<}
use Rattle.lake_model.specs.Tables.{Table}
use Rattle.search_model.specs.Ranks.{ranked, AreRising}
use Rattle.search_model.specs.Segment.{segment}
use Rattle.index_tests.specs.Worked.{worked_table}
use Rattle.index_tests.proofs.WorkedSegment.{worked_inverse, worked_kept, worked_ranks, worked_rising}
use Rattle.index_tests.proofs.segment_core_tests.index.Goals as goal

pub new-requires-clause-arrays : goal.new-requires-clause-arrays
new-requires-clause-arrays c =
    let tables : c.in_ok-tables.tables.items ≡ worked_table ∷ [] = c.in_ok-tables.ensures.items ∙ ap (λ (t : Table). t ∷ []) c.in_ok-table.ensures in
    rw (tables, c.in_ok-owners.ensures, c.in_ok-list_starts.ensures.items, c.in_ok-postings.ensures, c.in_ok-set_starts.ensures.items, c.in_ok-set_tokens.ensures.items) (worked_kept c.in_ok-by_hash.by_hash c.in_ok-by_hash.ensures)

pub new-requires-clause-ranks : goal.new-requires-clause-ranks
new-requires-clause-ranks c =
    let tables : c.in_ok-tables.tables.items ≡ worked_table ∷ [] = c.in_ok-tables.ensures.items ∙ ap (λ (t : Table). t ∷ []) c.in_ok-table.ensures in
    rw (tables, c.in_ok-ranks.ensures.items) worked_ranks

pub new-requires-clause-inverse : goal.new-requires-clause-inverse
new-requires-clause-inverse c = rw (c.in_ok-ranks.ensures.items, c.in_ok-by_rank.ensures.items) worked_inverse

pub new-requires-clause-strict : goal.new-requires-clause-strict
new-requires-clause-strict c strict =
    let tables : c.in_ok-tables.tables.items ≡ worked_table ∷ [] = c.in_ok-tables.ensures.items ∙ ap (λ (t : Table). t ∷ []) c.in_ok-table.ensures in
    subst (λ (ts : List Table). AreRising (ranked (segment ts).columns c.in_ok-by_rank.by_rank.items)) (sym tables)
    (subst (λ (ns : List ℕ). AreRising (ranked (segment (worked_table ∷ [])).columns ns)) (sym c.in_ok-by_rank.ensures.items) worked_rising)
