use Rattle.std.proofs.Common.{◌∙◌, ◌-◌, subst, ℕ, length, take, arith}
use Rattle.std.specs.List.{filter}
use Rattle.contain_search.proofs.HoldLemmas.{sorted_found}
use Rattle.contain_search.specs.Met.{may_still, met}
use Rattle.part_columns.proofs.TallyLemmas.{counted_in, tallies_small}
use Rattle.part_columns.specs.Tallies.{AreTallies}
use Rattle.segment_core.proofs.SegmentLemmas.{length-sets}
use Rattle.segment_core.specs.Versions.{part_at, segment_at, tables_of}
use Rattle.contain_search.proofs.column.find_columns.Goals as goal

pub gather-requires-clause-seen : goal.gather-requires-clause-seen
gather-requires-clause-seen c = λ x some. counted_in (segment_at c.args.looks.now.version.parts c.args.part).sets (take c.args.read c.args.tokens.now) c.args.columns.now.tallies c.requires.tallies x some

pub gather-requires-clause-small : goal.gather-requires-clause-small
gather-requires-clause-small c = λ x.
    let few = tallies_small (segment_at c.args.looks.now.version.parts c.args.part).sets c.args.tokens.now c.args.read c.args.columns.now.tallies c.requires.tallies x in
    omega (arith, few, c.requires.read, c.requires.some, c.requires.few)

pub returns-clause-found : goal.returns-clause-found
returns-clause-found c =
    let whole = part_at c.args.looks.now.version.parts c.args.part in
    let part = met whole c.args.tokens.now in
    let tallies = c.args.columns.now.tallies in
    let touched = c.args.columns.now.touched in
    let are = subst (λ (n : ℕ). AreTallies part.segment.sets (take n c.args.tokens.now) tallies) c.requires.read c.requires.tallies in
    sorted_found c.args.least part (length-sets (tables_of whole)) tallies are touched c.gather.new.found.items c.sort_unstable.new.self.items c.gather.ensures.listed
    (c.gather.ensures.found ∙ (λ i. filter (may_still c.args.least part tallies (length c.args.tokens.now - c.requires.read i)) touched))
    c.sort_unstable.ensures.permutation c.sort_unstable.ensures.sorted
