use Rattle.std.proofs.Common.{◌<◌, arith, inr, length, map, subst, sym}
use Rattle.std.proofs.lemmas.List.{length-map, map-set}
use Rattle.asof_search.specs.Puts.{IsKeptAt}
use Rattle.asof_search.proofs.BlockLemmas.{kept_there}
use Rattle.asof_search.proofs.blocks.keep.Goals as goal

pub returns-then-block-len : goal.returns-then-block-len
returns-then-block-len c =
    let segments = c.args.blocks.now.items in
    let b = c.args.block in
    let tables = c.args.segment.value in
    let kept = map (λ s. s.value) segments in
    let within : b < length kept = omega (arith, length-map segments (λ s. s.value), c.if-block-len.true, c.len.ensures) in
    inr (subst (IsKeptAt b tables kept) (sym (map-set (λ s. s.value) segments b c.args.segment)) (kept_there b tables kept within))
