use Rattle.std.proofs.Common.{◌∙◌, ap, ◌++◌, ◌∷◌, [], List, ℕ, length, get_or, arith}
use Rattle.std.specs.List.{filter}
use Rattle.contain_search.proofs.ReadLemmas.{mapped_more}
use Rattle.part_columns.proofs.SegmentLists.{list_read}
use Rattle.part_columns.proofs.TallyLemmas.{columns_within, picked_few, tallies_more, tallies_small}
use Rattle.part_columns.specs.Tallies.{of_column}
use Rattle.search_model.specs.declared.Look.TheVariants.{Read}
use Rattle.search_model.specs.declared.Posting.{Posting}
use Rattle.segment_core.specs.Versions.{part_at, segment_at}
use Rattle.contain_search.proofs.part.read_lists.Goals as goal

pub count-most-requires-clause-within : goal.count-most-requires-clause-within
count-most-requires-clause-within c =
    let version = c.args.looks.now.version in
    let kept = c.loop-token.invariant in
    let token = get_or c.args.lists.now c.loop-token.token-index 0 in
    let there = c.requires.lists c.loop-token.token-index 0 c.loop-token-test.true in
    let list = list_read c.loop-token.looks.version version c.args.part token c.list-list.result.now kept.version there c.list-list.ensures.list in
    columns_within (segment_at version.parts c.args.part).sets token (length c.loop-token.columns.tallies) c.list-list.result.now (omega (arith, kept.wide, c.requires.wide)) list

pub count-most-requires-clause-small : goal.count-most-requires-clause-small
count-most-requires-clause-small c = λ column.
    let version = c.args.looks.now.version in
    let kept = c.loop-token.invariant in
    let i = c.loop-token.token-index in
    let token = get_or c.args.lists.now i 0 in
    let there = c.requires.lists i 0 c.loop-token-test.true in
    let list = list_read c.loop-token.looks.version version c.args.part token c.list-list.result.now kept.version there c.list-list.ensures.list in
    let few = tallies_small (segment_at version.parts c.args.part).sets c.args.lists.now i c.loop-token.columns.tallies kept.tallies column in
    omega (arith, few, c.requires.few, c.loop-token-test.true, ap (λ (ps : List Posting). length (filter (of_column column) ps)) list, picked_few (segment_at version.parts c.args.part).sets token column)

pub loop-token-preserved : goal.loop-token-preserved
loop-token-preserved c =
    let version = c.args.looks.now.version in
    let kept = c.loop-token.invariant in
    let i = c.loop-token.token-index in
    let token = get_or c.args.lists.now i 0 in
    let there = c.requires.lists i 0 c.loop-token-test.true in
    let list = list_read c.loop-token.looks.version version c.args.part token c.list-list.result.now kept.version there c.list-list.ensures.list in
    record {
      version = c.list-list.ensures.version ∙ kept.version;
      log = mapped_more (λ (token : ℕ). Read (part_at version.parts c.args.part).number token) c.args.lists.now i 0 c.args.looks.now.log c.loop-token.looks.log c.list-list.new.self.log c.loop-token-test.true kept.log
          (c.list-list.ensures.log ∙ (λ j. c.loop-token.looks.log ++ Read (part_at (kept.version j).parts c.args.part).number token ∷ []));
      spare = omega (arith, c.list-list.ensures.spare, kept.spare);
      wide = c.count-most.ensures.wide ∙ kept.wide;
      tallies = tallies_more (segment_at version.parts c.args.part).sets c.args.lists.now i 0 c.loop-token.columns.tallies c.count-most.new.self.tallies c.list-list.result.now c.loop-token-test.true kept.tallies list c.count-most.ensures.tallies;
      most = c.count-most.ensures.most;
    }
