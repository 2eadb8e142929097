use Rattle.std.proofs.Common.{sym, subst, ℕ, List, Err}
use Rattle.std.specs.List.Sorted.{IsStrictlyIncreasing}
use Rattle.std.proofs.lemmas.List.Sorted.{searched}
use Rattle.list_laws.specs.Distinct.{Lacks}
use Rattle.segment_core.proofs.PositionLemmas.{lacks_found, rise_far}
use Rattle.segment_core.proofs.version.Part.place_of.Goals as goal

pub returns-in-Err-clause-lacking : goal.returns-in-Err-clause-lacking
returns-in-Err-clause-lacking c =
    let loads = c.loads.result.now in
    let rise = subst IsStrictlyIncreasing (sym c.loads.ensures) c.requires.rise in
    let at = c.in-Err.field-0 in
    let is = searched loads c.args.position (Err at) c.in-Err.ensures.position (λ i j l m. rise_far loads i j rise l m) in
    subst (λ (ns : List ℕ). Lacks ns c.args.position) c.loads.ensures (lacks_found loads c.args.position at is.1 is.2)
