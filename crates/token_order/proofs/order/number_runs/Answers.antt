use Rattle.std.proofs.Common.{◌≡◌, ◌∙◌, subst, ap, ℕ, ◌<◌, List, get_or, length, take, arith}
use Rattle.std.specs.List.{All}
use Rattle.std.proofs.Math.Seq.{take-length}
use Rattle.std.proofs.lemmas.List.{get_or_default, length-set}
use Rattle.token_order.specs.declared.runs.Run.{Run}
use Rattle.token_order.proofs.CountLemmas.{slot_written}
use Rattle.token_order.proofs.OrderLemmas.{places_are, rank_below, rank_here, rank_of, IsSlot}
use Rattle.token_order.proofs.order.number_runs.Goals as goal

pub bounds-numbers-runs : goal.bounds-numbers-runs
bounds-numbers-runs c =
    let no : Run = record { first = record { column = 0; index = 0 }; frequency = 0; rank = 0 } in
    let i = c.loop-number.number in
    let within : i < length c.args.runs.now = omega arith in
    omega (arith, rank_below c.args.runs.now i no c.requires.ranks within, c.loop-number.invariant.long, c.requires.room)

pub loop-number-preserved : goal.loop-number-preserved
loop-number-preserved c =
    let runs = c.args.runs.now in
    let no : Run = record { first = record { column = 0; index = 0 }; frequency = 0; rank = 0 } in
    let i = c.loop-number.number in
    let within : i < length runs = omega arith in
    let run = get_or runs i no in
    let inside : run.rank < length c.loop-number.numbers = omega (arith, rank_below runs i no c.requires.ranks within, c.loop-number.invariant.long, c.requires.room) in
    record {
      long = length-set c.loop-number.numbers run.rank i ∙ c.loop-number.invariant.long;
      written = slot_written (IsSlot runs) rank_of c.loop-number.numbers runs i run i within (get_or_default runs i no run within) inside (rank_here runs i no within) c.loop-number.invariant.written;
    }

pub returns-clause-places : goal.returns-clause-places
returns-clause-places c =
    let runs = c.args.runs.now in
    let written = c.loop-number.numbers in
    let end : c.loop-number.number ≡ length runs = omega arith in
    places_are runs written c.requires.ranks (c.loop-number.invariant.long ∙ c.requires.room)
    (subst (λ (rs : List Run). All (λ r. IsSlot runs r.rank (get_or written r.rank 0)) rs) (ap (λ (n : ℕ). take n runs) end ∙ take-length runs) c.loop-number.invariant.written)
