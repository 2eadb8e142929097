use Rattle.std.proofs.Common.{arith}
use Rattle.hash_directory.proofs.FilterLemmas.{set_outside}
use Rattle.hash_directory.proofs.filter.HashFilter.may_have.Goals as goal

pub returns-in-None : goal.returns-in-None
returns-in-None c = grind (arith, set_outside c.self.inside.shift c.self.inside.words.items c.args.hash)
