use Rattle.std.proofs.Common.{◌∙◌, ap}
use Rattle.lake_model.specs.Tables.{is_name}
use Rattle.column_set.proofs.AsciiLemmas.{name_is_text}
use Rattle.column_set.proofs.name.Name.text.Goals as goal

pub unreachable-requires : goal.unreachable-requires
unreachable-requires c = c.in-Err.ensures.cases.0 (name_is_text c.bytes.result.now (ap is_name c.bytes.ensures.same ∙ c.bytes.ensures.name))
