use Rattle.std.proofs.Common.{arith}
use Rattle.column_watch.specs.Index.{key_with}
use Rattle.column_watch.proofs.PartLemmas.{part_fits, stretch_is, stretch_rises, stretch_within}
use Rattle.column_watch.proofs.holders.stretch_of.Goals as goal

pub overflow_add-part : goal.overflow_add-part
overflow_add-part c = omega (arith, part_fits c.args.shift c.args.hash c.requires.wide c.requires.narrow c.ranges.hash.fits)

pub slice_bounds-result-count : goal.slice_bounds-result-count
slice_bounds-result-count c = stretch_rises c.args.shift c.args.hash c.args.keys.now c.args.starts.now c.requires.starts c.start_at-from.result c.start_at-to.result c.start_at-from.ensures c.start_at-to.ensures (key_with 0 0 0 0)

pub slice_bounds-result-start : goal.slice_bounds-result-start
slice_bounds-result-start c = stretch_rises c.args.shift c.args.hash c.args.keys.now c.args.starts.now c.requires.starts c.start_at-from.result c.start_at-to.result c.start_at-from.ensures c.start_at-to.ensures (key_with 0 0 0 0)

pub slice_bounds-result-end : goal.slice_bounds-result-end
slice_bounds-result-end c = stretch_within c.args.shift c.args.hash c.args.keys.now c.args.starts.now c.requires.starts c.start_at-from.result c.start_at-to.result c.start_at-from.ensures c.start_at-to.ensures

pub returns : goal.returns
returns c = stretch_is c.args.shift c.args.hash c.args.keys.now c.args.starts.now c.requires.starts c.start_at-from.result c.start_at-to.result c.start_at-from.ensures c.start_at-to.ensures (key_with 0 0 0 0)
