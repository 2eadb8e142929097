use Rattle.std.proofs.Common.{◌≡◌, map, take}
use Rattle.title_order.proofs.order.numbers_of.Given as goal

abbrev pub invariant-loop-title : goal.invariant-loop-title
invariant-loop-title l = l.numbers.items ≡ map (λ t. t.number) (take l.title-index l.titles)
