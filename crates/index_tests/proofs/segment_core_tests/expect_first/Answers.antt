use Rattle.std.proofs.Common.{◌≡◌, [], length, get_or, rules}
use Rattle.std.specs.Prelude.{codes}
use Rattle.lake_model.specs.Tables.{keys_at}
use Rattle.index_tests.proofs.WorkedSegment.{two_keys}
use Rattle.index_tests.proofs.segment_core_tests.expect_first.Goals as goal

pub returns : goal.returns
returns c =
    let keys = keys_at c.args.table.now 1 in
    let many : length keys ≡ 2 = search rules in
    let z : get_or keys 0 [] ≡ codes "z" = search rules in
    let a : get_or keys 1 [] ≡ codes "a" = search rules in
    two_keys keys (codes "z") (codes "a") many z a
