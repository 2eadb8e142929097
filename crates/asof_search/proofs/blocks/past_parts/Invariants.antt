use Rattle.std.proofs.Common.{map}
use Rattle.asof_search.specs.Puts.{AreBlocks, tables_put}
use Rattle.asof_search.proofs.BlockLemmas.{IsUnderWay}
use Rattle.asof_search.proofs.blocks.past_parts.Given as goal

abbrev pub invariant-loop-block : goal.invariant-loop-block
invariant-loop-block l = record {
  under_way : IsUnderWay l.size l.asked l.block l.puts l.rest l.parts.items;
  kept : AreBlocks l.size (tables_put l.puts) (map (λ b. b.value) l.blocks.items);
}
