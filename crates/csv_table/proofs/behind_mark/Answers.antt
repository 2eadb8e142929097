use Rattle.std.proofs.Common.{refl}
use Rattle.csv_table.proofs.ReaderLemmas.{strip_bom_lem}
use Rattle.csv_table.proofs.behind_mark.Goals as goal

pub returns-in-Some : goal.returns-in-Some
returns-in-Some c = let e = c.in-Some.ensures in rw (strip_bom_lem c.args.bytes.now, e.cases.0) e.cases.1

pub returns-in-None : goal.returns-in-None
returns-in-None c = let e = c.in-None.ensures in rw (strip_bom_lem c.args.bytes.now, e.cases) refl
