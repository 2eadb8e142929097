use Rattle.std.proofs.Common.{◌≡◌, drop, not}
use Rattle.std.specs.Prelude.{find}
use Rattle.lake_model.specs.Layout.{layout}
use Rattle.catalogue.specs.Swaps.{is_there}
use Rattle.catalogue.proofs.catalogue.Catalogue.swap_refused.Given as goal

abbrev pub invariant-loop-number : goal.invariant-loop-number
invariant-loop-number l = find (λ planned. not (is_there (layout l.self.journal) planned)) (drop l.number-index l.from) ≡ find (λ planned. not (is_there (layout l.self.journal) planned)) l.from
