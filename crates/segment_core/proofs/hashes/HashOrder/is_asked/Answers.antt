use Rattle.std.proofs.Common.{◌∙◌, sym}
use Rattle.segment_core.specs.Hashes.{keyed_at}
use Rattle.segment_core.proofs.hashes.HashOrder.is_asked.Goals as goal

pub returns-else-may_have : goal.returns-else-may_have
returns-else-may_have c =
    c.if-may_have.false ∙ sym (c.may_have.ensures (keyed_at c.args.self.now c.args.at).key c.hash.ensures.own c.if-may_have.false)
