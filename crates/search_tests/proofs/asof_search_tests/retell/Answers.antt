use Rattle.std.proofs.Common.{ap, List, arith}
use Rattle.lake_model.specs.declared.Counts.{Counts}
use Rattle.lake_model.specs.Journal.{Entry, counts}
use Rattle.search_tests.proofs.JournalLemmas.{loads_are_updates}
use Rattle.search_tests.proofs.asof_search_tests.retell.Goals as goal

pub take_all-requires-clause-few : goal.take_all-requires-clause-few
take_all-requires-clause-few c =
    let same = ap (λ (journal : List Entry). (counts journal).updates) c.journal.ensures.same in
    rw c.new-timeline.ensures (omega (arith, loads_are_updates c.journal.result.now, same, ap (λ (n : Counts). n.updates) c.counts-counts.ensures.value, c.if-counts-gt1000.false))
