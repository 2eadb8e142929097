use Rattle.std.proofs.Common.{refl, ◌<◌, ◌≤◌, length, arith}
use Rattle.lake_maker.proofs.TextLemmas.{bytes_short}
use Rattle.lake_maker.proofs.table.table_body.Goals as goal

pub unreachable-requires : goal.unreachable-requires
unreachable-requires c =
    let long : 67108864 < length c.in_ok-table_bytes.field-0.items = c.in_default.ensures.exact.0 refl in
    let short : length c.in_ok-table_bytes.field-0.items ≤ 67108864 = bytes_short c.args.draws.now c.args.rows _ c.requires c.in_ok-table_bytes.ensures.bytes in
    omega arith
