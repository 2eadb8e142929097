use Rattle.std.proofs.Common.{subst, ◌≤◌, ◌*◌}
use Rattle.lake_model.specs.Journal.{counts}
use Rattle.layout_laws.specs.Weight.{swaps}
use Rattle.layout_laws.proofs.LawLemmas.{are_few}
use Rattle.catalogue.proofs.catalogue.Catalogue.journal.Goals as goal

pub returns-clause-few : goal.returns-clause-few
returns-clause-few c = subst (λ k. swaps k.journal ≤ 2 * (counts k.journal).updates) c.self.view_is (are_few c.self.inside.journal.items c.self.invariant.legal c.self.invariant.merging)
