use Rattle.std.proofs.Common.{◌≡◌, ℕ, map, take}
use Rattle.lake_model.specs.Tables.{Table}
use Rattle.search_tests.proofs.making.kept_tables.Given as goal

abbrev pub invariant-loop-load : goal.invariant-loop-load
invariant-loop-load l = l.all.items ≡ map (λ (load : ℕ × Table). load.1) (take l.load-index l.kept)
