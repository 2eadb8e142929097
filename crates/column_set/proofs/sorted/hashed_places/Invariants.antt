use Rattle.std.proofs.Common.{◌≡◌, ◌-◌, map}
use Rattle.std.specs.List.{All, range_with_len}
use Rattle.column_set.specs.Sorted.{IsHashed, place_of}
use Rattle.column_set.proofs.sorted.hashed_places.Given as goal

abbrev pub invariant-loop-place : goal.invariant-loop-place
invariant-loop-place l = record {
  hashed : All (IsHashed l.texts) l.made.items;
  places : map place_of l.made.items ≡ range_with_len l.from (l.place - l.from);
}
