use Rattle.std.proofs.Common.{◌≡◌, ◌*◌, ◌≤◌, length, take}
use Rattle.std.specs.Prelude.{sum_by}
use Rattle.asof_search.specs.Puts.{tables_put}
use Rattle.asof_search.proofs.blocks.tables_of.Given as goal

abbrev pub invariant-loop-put : goal.invariant-loop-put
invariant-loop-put l =
    (l.tables.items ≡ tables_put (take l.put-index l.puts))
    × (sum_by (λ table. length table.columns) (tables_put (take l.put-index l.puts)) ≤ 4096 * l.put-index)
