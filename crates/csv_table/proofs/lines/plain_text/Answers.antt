use Rattle.csv_table.proofs.LineLemmas.{none_found, plain_ok}
use Rattle.std.proofs.Common.{◌∙◌, sym}
use Rattle.csv_table.proofs.lines.plain_text.Goals as goal

pub returns-clause-plain : goal.returns-clause-plain
returns-clause-plain c =
    let plain = none_found c.args.bytes.now c.memchr.result (sym c.is_some.ensures ∙ c.if-is_some.false) c.memchr.ensures in
    rw c.ok.ensures.value (plain_ok _ c.from_utf8.result c.args.bytes.now plain c.from_utf8.ensures)
