use Rattle.std.proofs.Common.{◌≡◌, ◌*◌, ◌^◌, ◌<◌, ◌∙◌, ap, arith, drop, length, subst, sym, take, ℕ, List}
use Rattle.std.proofs.lemmas.List.{length-map}
use Rattle.std.specs.Prelude.{sum_by}
use Rattle.lake_model.specs.Tables.{Table, members}
use Rattle.asof_search.specs.Puts.{tables_put}
use Rattle.asof_search.proofs.BlockLemmas.{block_kept, block_light, block_tables, blocks_after, none_left, past_live, past_positions, rest_rises, drop_rest, under_way_more}
use Rattle.asof_search.proofs.blocks.past_parts.Goals as goal

pub is_later-requires : goal.is_later-requires
is_later-requires c = rest_rises c.args.puts.now c.loop-block.rest.now (c.loop-block.block * c.args.size) c.loop-block.invariant.under_way.left c.requires.rising

pub returns-then-is_later-clause-live : goal.returns-then-is_later-clause-live
returns-then-is_later-clause-live c = past_live c.args.size c.args.asked c.loop-block.block c.args.puts.now c.loop-block.rest.now c.loop-block.parts.items c.loop-block.invariant.under_way (c.is_later.ensures.later c.if-is_later.true)

pub returns-then-is_later-clause-positions : goal.returns-then-is_later-clause-positions
returns-then-is_later-clause-positions c = past_positions c.args.size c.args.asked c.loop-block.block c.args.puts.now c.loop-block.rest.now c.loop-block.parts.items c.loop-block.invariant.under_way c.requires.rising

pub block_segment-requires-clause-light : goal.block_segment-requires-clause-light
block_segment-requires-clause-light c =
    let is = block_tables c.args.size c.loop-block.block c.args.puts.now c.loop-block.rest.now (take c.min-count.result c.loop-block.rest.now) c.loop-block.invariant.under_way.left (ap (λ (n : ℕ). take n c.loop-block.rest.now) c.min-count.ensures) in
    subst (λ (ts : List Table). sum_by members ts < 2 ^ 32) (sym is) (block_light (2 ^ 32) c.args.size (c.loop-block.block * c.args.size) (tables_put c.args.puts.now) c.requires.light)

pub block_segment-requires-clause-kept : goal.block_segment-requires-clause-kept
block_segment-requires-clause-kept c within =
    let is = block_tables c.args.size c.loop-block.block c.args.puts.now c.loop-block.rest.now (take c.min-count.result c.loop-block.rest.now) c.loop-block.invariant.under_way.left (ap (λ (n : ℕ). take n c.loop-block.rest.now) c.min-count.ensures) in
    block_kept c.args.size c.loop-block.block (tables_put c.args.puts.now) (tables_put (take c.min-count.result c.loop-block.rest.now)) _ is (c.loop-block.invariant.kept c.loop-block.block (omega (arith, within, length-map c.loop-block.blocks.items (λ b. b.value))))

pub returns-in_err-segment-clause-blocks : goal.returns-in_err-segment-clause-blocks
returns-in_err-segment-clause-blocks c =
    let is = block_tables c.args.size c.loop-block.block c.args.puts.now c.loop-block.rest.now (take c.min-count.result c.loop-block.rest.now) c.loop-block.invariant.under_way.left (ap (λ (n : ℕ). take n c.loop-block.rest.now) c.min-count.ensures) in
    blocks_after c.args.size c.loop-block.block (tables_put c.args.puts.now) (tables_put (take c.min-count.result c.loop-block.rest.now)) _ _ c.loop-block.invariant.kept is c.block_segment.ensures.blocks

pub returns-in_err-past_part-clause-blocks : goal.returns-in_err-past_part-clause-blocks
returns-in_err-past_part-clause-blocks c =
    let is = block_tables c.args.size c.loop-block.block c.args.puts.now c.loop-block.rest.now (take c.min-count.result c.loop-block.rest.now) c.loop-block.invariant.under_way.left (ap (λ (n : ℕ). take n c.loop-block.rest.now) c.min-count.ensures) in
    blocks_after c.args.size c.loop-block.block (tables_put c.args.puts.now) (tables_put (take c.min-count.result c.loop-block.rest.now)) _ _ c.loop-block.invariant.kept is c.block_segment.ensures.blocks

pub returns-in_err-push-clause-blocks : goal.returns-in_err-push-clause-blocks
returns-in_err-push-clause-blocks c =
    let is = block_tables c.args.size c.loop-block.block c.args.puts.now c.loop-block.rest.now (take c.min-count.result c.loop-block.rest.now) c.loop-block.invariant.under_way.left (ap (λ (n : ℕ). take n c.loop-block.rest.now) c.min-count.ensures) in
    blocks_after c.args.size c.loop-block.block (tables_put c.args.puts.now) (tables_put (take c.min-count.result c.loop-block.rest.now)) _ _ c.loop-block.invariant.kept is c.block_segment.ensures.blocks

pub loop-block-preserved : goal.loop-block-preserved
loop-block-preserved c =
    let is = block_tables c.args.size c.loop-block.block c.args.puts.now c.loop-block.rest.now (take c.min-count.result c.loop-block.rest.now) c.loop-block.invariant.under_way.left (ap (λ (n : ℕ). take n c.loop-block.rest.now) c.min-count.ensures) in
    record {
      under_way = rw (c.in_ok-push.ensures.items) (under_way_more c.args.size c.args.asked c.loop-block.block c.args.puts.now c.loop-block.rest.now (take c.min-count.result c.loop-block.rest.now) _ c.loop-block.parts.items c.in_ok-past_part.field-0 c.loop-block.invariant.under_way
          (ap (λ (n : ℕ). take n c.loop-block.rest.now) c.min-count.ensures) (drop_rest c.min-count.result c.args.size c.loop-block.rest.now c.min-count.ensures) c.in_ok-past_part.ensures);
      kept = blocks_after c.args.size c.loop-block.block (tables_put c.args.puts.now) (tables_put (take c.min-count.result c.loop-block.rest.now)) _ _ c.loop-block.invariant.kept is c.block_segment.ensures.blocks;
    }

pub returns-clause-live : goal.returns-clause-live
returns-clause-live c =
    let all : c.loop-block.block ≡ length c.args.puts.now = omega arith in
    past_live c.args.size c.args.asked c.loop-block.block c.args.puts.now c.loop-block.rest.now c.loop-block.parts.items c.loop-block.invariant.under_way
    (none_left c.args.size c.args.asked c.args.puts.now c.loop-block.rest.now (c.loop-block.invariant.under_way.left ∙ ap (λ (n : ℕ). drop (n * c.args.size) c.args.puts.now) all) c.requires.some)

pub returns-clause-positions : goal.returns-clause-positions
returns-clause-positions c = past_positions c.args.size c.args.asked c.loop-block.block c.args.puts.now c.loop-block.rest.now c.loop-block.parts.items c.loop-block.invariant.under_way c.requires.rising
