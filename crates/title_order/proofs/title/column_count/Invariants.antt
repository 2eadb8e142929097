use Rattle.std.proofs.Common.{◌≡◌, length, take}
use Rattle.std.specs.Prelude.{sum_by}
use Rattle.title_order.proofs.title.column_count.Given as goal

abbrev pub invariant-loop-shared : goal.invariant-loop-shared
invariant-loop-shared l = l.count ≡ sum_by (λ t. length t.columns) (take l.shared-index l.tables)
