use Rattle.csv_table.proofs.TableLawLemmas.{table_from, table_of}
use Rattle.csv_table.proofs.table_law.Goals as goal

pub returns : goal.returns
returns c = λ most rs. (table_of most rs, table_from most rs)
