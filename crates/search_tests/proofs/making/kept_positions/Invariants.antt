use Rattle.std.proofs.Common.{◌≡◌, ℕ, map, take}
use Rattle.lake_model.specs.Tables.{Table}
use Rattle.search_tests.proofs.making.kept_positions.Given as goal

abbrev pub invariant-loop-position : goal.invariant-loop-position
invariant-loop-position l = l.all.items ≡ map (λ (load : ℕ × Table). load.0) (take l.position-index l.kept)
