use Rattle.std.proofs.Common.{◌≡◌, [], length, get_or, rules}
use Rattle.std.specs.Prelude.{codes}
use Rattle.lake_model.specs.Tables.{keys_at}
use Rattle.index_tests.proofs.WorkedSegment.{one_key}
use Rattle.index_tests.proofs.segment_core_tests.expect_second.Goals as goal

pub returns : goal.returns
returns c =
    let keys = keys_at c.args.table.now 2 in
    let many : length keys ≡ 1 = search rules in
    let a : get_or keys 0 [] ≡ codes "a" = search rules in
    one_key keys (codes "a") many a
