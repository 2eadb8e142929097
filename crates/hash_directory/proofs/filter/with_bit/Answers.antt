use Rattle.hash_directory.proofs.FilterLemmas.{bit_kept, bit_set}
use Rattle.hash_directory.proofs.filter.with_bit.Goals as goal

pub returns-clause-set : goal.returns-clause-set
returns-clause-set c = bit_set c.args.word c.args.number

pub returns-clause-kept : goal.returns-clause-kept
returns-clause-kept c = bit_kept c.args.word c.args.number
