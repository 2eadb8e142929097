use Rattle.column_set.proofs.ColumnLemmas.{titles_held}
use Rattle.column_set.proofs.table.TableSets.titles.Goals as goal

pub returns : goal.returns
returns c = titles_held c.self.invariant c.args.self.now c.self.view_is
