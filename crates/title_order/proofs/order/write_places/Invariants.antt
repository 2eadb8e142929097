use Rattle.std.proofs.Common.{◌≡◌, get_or, length, take}
use Rattle.std.specs.List.{All}
use Rattle.title_order.specs.Titles.{IsPlace}
use Rattle.title_order.proofs.order.write_places.Given as goal

abbrev pub invariant-loop-place : goal.invariant-loop-place
invariant-loop-place l = record {
  long : length l.places ≡ length l.fn.places;
  written : All (λ n. IsPlace l.numbers n (get_or l.places n 0)) (take l.place l.numbers);
}
