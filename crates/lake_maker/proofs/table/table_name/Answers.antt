use Rattle.std.proofs.Common.{◌≡◌, true, false, arith}
use Rattle.lake_maker.proofs.TextLemmas.{name_read}
use Rattle.lake_maker.proofs.table.table_name.Goals as goal

pub unreachable-requires : goal.unreachable-requires
unreachable-requires c =
    let none : false ≡ true = c.in_default.ensures.exact.1 (name_read c.args.number c.from.result _ _ _ _ (omega arith) c.from.ensures c.new-bytes.ensures.items c.in_ok-push_bytes.ensures.ok c.in_ok-push_number.ensures.ok c.deref.ensures.value) in
    cc
