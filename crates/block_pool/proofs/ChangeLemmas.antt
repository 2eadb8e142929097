-- One list changes, and then another.
use Rattle.std.proofs.Common.{refl, sym, ◌∙◌}
use Rattle.block_pool.specs.Blocks.{Blocks, Links}
use Rattle.block_pool.specs.Chains.{AreTwo, IsOf, KeepsOthers}

pub others_same : (pool : Blocks) (chain : Links) → KeepsOthers pool pool chain chain
others_same pool chain other own apart = (record { own = own; same = refl }, apart)

pub others_more : (before now then : Blocks) (old chain new : Links) → KeepsOthers before now old chain → KeepsOthers now then chain new → KeepsOthers before then old new
others_more before now then old chain new first second other own apart =
    let one = first other own apart in
    let two = second other one.0.own one.1 in
    (record { own = two.0.own; same = two.0.same ∙ one.0.same }, two.1)

pub first_changed : (before then : Blocks) (a b new : Links) → AreTwo before a b → IsOf then new → KeepsOthers before then a new → AreTwo then new b
first_changed before then a b new two own others =
    let kept_b = others b two.second two.apart in
    record { first = own; second = kept_b.0.own; apart = kept_b.1 }

pub second_changed : (before then : Blocks) (a b new : Links) → AreTwo before a b → IsOf then new → KeepsOthers before then b new → AreTwo then a new
second_changed before then a b new two own others =
    let kept_a = others a two.first (λ x y e. two.apart y x (sym e)) in
    record { first = kept_a.0.own; second = own; apart = λ x y e. kept_a.1 y x (sym e) }
