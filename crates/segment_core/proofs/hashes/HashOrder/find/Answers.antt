use Rattle.std.proofs.Common.{sym, subst}
use Rattle.search_model.specs.Arrays.{IsToken}
use Rattle.search_model.specs.Segment.{segment}
use Rattle.segment_core.proofs.HashLemmas.{lacks_hash}
use Rattle.segment_core.proofs.hashes.HashOrder.find.Goals as goal

pub returns-in_err-first : goal.returns-in_err-first
returns-in_err-first c tables is =
    let none = lacks_hash tables c.args.self.now is c.args.hash c.args.key.now c.requires c.in_err-first.ensures.lacking in
    subst (IsToken (segment tables).tokens c.args.key.now) (sym c.from_residual.ensures) none
