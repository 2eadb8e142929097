use Rattle.std.proofs.Common.{◌≡◌, ◌++◌, flat_map, map, take}
use Rattle.script_model.specs.Words.{line_text}
use Rattle.record_model.specs.Texts.{table_line}
use Rattle.segment_core.specs.Lines.{line_from}
use Rattle.reply_text.proofs.text.push_tables.Given as goal

abbrev pub invariant-loop-name : goal.invariant-loop-name
invariant-loop-name l = l.into.items ≡ l.initial.into.items ++ flat_map line_text (map table_line (map line_from (take l.name-index l.tables)))
