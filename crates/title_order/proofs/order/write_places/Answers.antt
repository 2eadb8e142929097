use Rattle.std.proofs.Common.{◌≡◌, ◌∙◌, refl, subst, ap, ℕ, ◌<◌, List, get_or, length, take, arith}
use Rattle.std.specs.List.{All}
use Rattle.std.proofs.Math.Seq.{take-length}
use Rattle.std.proofs.lemmas.List.{get_or_default, length-set}
use Rattle.token_order.proofs.CountLemmas.{slot_written}
use Rattle.title_order.specs.Titles.{IsPlace}
use Rattle.title_order.proofs.PlaceLemmas.{places_are}
use Rattle.title_order.proofs.order.write_places.Goals as goal
use Rattle.token_order.proofs.OrderLemmas.{numbers_below}

pub bounds-places-numbers : goal.bounds-places-numbers
bounds-places-numbers c =
    let i = c.loop-place.place in
    let within : i < length c.args.numbers.now = omega arith in
    omega (arith, numbers_below c.args.numbers.now c.requires.all i 0 within, c.loop-place.invariant.long, c.requires.room)

pub loop-place-preserved : goal.loop-place-preserved
loop-place-preserved c =
    let numbers = c.args.numbers.now in
    let i = c.loop-place.place in
    let within : i < length numbers = omega arith in
    let n = get_or numbers i 0 in
    let inside : n < length c.loop-place.places = omega (arith, numbers_below numbers c.requires.all i 0 within, c.loop-place.invariant.long, c.requires.room) in
    record {
      long = length-set c.loop-place.places n i ∙ c.loop-place.invariant.long;
      written = slot_written (IsPlace numbers) (λ (m : ℕ). m) c.loop-place.places numbers i n i within (get_or_default numbers i 0 n within) inside (within, refl) c.loop-place.invariant.written;
    }

pub returns : goal.returns
returns c =
    let numbers = c.args.numbers.now in
    let written = c.loop-place.places in
    let end : c.loop-place.place ≡ length numbers = omega arith in
    places_are numbers written c.requires.all (c.loop-place.invariant.long ∙ c.requires.room)
    (subst (λ (ns : List ℕ). All (λ n. IsPlace numbers n (get_or written n 0)) ns) (ap (λ (n : ℕ). take n numbers) end ∙ take-length numbers) c.loop-place.invariant.written)
