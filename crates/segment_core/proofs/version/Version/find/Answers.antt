use Rattle.std.proofs.Common.{sym, ap, subst, ◌<◌, length, arith}
use Rattle.std.specs.List.Sorted.{IsStrictlyIncreasing}
use Rattle.lake_model.specs.Layout.{Part, positions_of}
use Rattle.list_laws.specs.Distinct.{Lacks}
use Rattle.segment_core.specs.Positions.{loads_of}
use Rattle.segment_core.proofs.PositionLemmas.{Begun, if_none, last_lacks, none_begun, part_rises, part_within}
use Rattle.segment_core.proofs.version.Version.find.Goals as goal

pub returns-in_err-part-clause-lacking : goal.returns-in_err-part-clause-lacking
returns-in_err-part-clause-lacking c =
    let parts = c.args.self.now.parts in
    let begun : Begun parts c.args.position c.begun.result = record { within = c.begun.ensures.within; before = c.begun.ensures.before; behind = c.begun.ensures.behind } in
    if_none c.from_residual.result (Lacks (positions_of parts) c.args.position) (none_begun parts c.args.position c.begun.result c.requires.rise begun (omega (arith, c.in_err-part.ensures)))

pub place_of-requires-clause-rise : goal.place_of-requires-clause-rise
place_of-requires-clause-rise c =
    let last = c.in_ok-part.part in
    let within : last < length c.args.self.now.parts = omega (arith, c.in_ok-part.ensures, c.begun.ensures.within) in
    subst (λ (part : Part). IsStrictlyIncreasing (loads_of part)) (sym c.part.ensures) (part_rises c.args.self.now.parts last c.requires.rise within)

pub place_of-requires-clause-few : goal.place_of-requires-clause-few
place_of-requires-clause-few c =
    let last = c.in_ok-part.part in
    let within : last < length c.args.self.now.parts = omega (arith, c.in_ok-part.ensures, c.begun.ensures.within) in
    omega (arith, part_within c.args.self.now.parts last within, c.requires.few, ap (λ (part : Part). length (loads_of part)) c.part.ensures)

pub returns-in_err-place-clause-lacking : goal.returns-in_err-place-clause-lacking
returns-in_err-place-clause-lacking c =
    let parts = c.args.self.now.parts in
    let last = c.in_ok-part.part in
    let n = c.args.position in
    let begun : Begun parts n c.begun.result = record { within = c.begun.ensures.within; before = c.begun.ensures.before; behind = c.begun.ensures.behind } in
    let lacks = subst (λ (part : Part). Lacks (loads_of part) n) c.part.ensures c.in_err-place.ensures.lacking in
    if_none c.from_residual-in_err-place.result (Lacks (positions_of parts) n) (last_lacks parts n c.begun.result last c.requires.rise c.requires.full begun (omega (arith, c.in_ok-part.ensures)) lacks)
