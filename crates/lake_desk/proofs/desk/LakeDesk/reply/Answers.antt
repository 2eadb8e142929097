use Rattle.std.proofs.Common.{◌∙◌, ap}
use Rattle.lake_desk.proofs.Answering.{begins_still}
use Rattle.lake_desk.proofs.desk.LakeDesk.reply.Goals as goal

pub invariant_of-self-in-Drop-1 : goal.invariant_of-self-in-Drop-1
invariant_of-self-in-Drop-1 g c =
    let (lock, free, keys, wide, begins) = c.self.invariant in
    let same = c.drop_named.ensures.pass in
    (ap (λ p. p.lock) same ∙ lock, ap (λ p. p.holds) same, keys, wide, begins_still (c.drop_named.ensures.answered g.B.Bounds.keys) c.self.inside.past begins)

pub invariant_of-self-in-Merge-1 : goal.invariant_of-self-in-Merge-1
invariant_of-self-in-Merge-1 g c =
    let (lock, free, keys, wide, begins) = c.self.invariant in
    let same = c.merge_parts.ensures.pass in
    (ap (λ p. p.lock) same ∙ lock, ap (λ p. p.holds) same, keys, wide, begins_still (c.merge_parts.ensures.answered g.B.Bounds.keys) c.self.inside.past begins)
