use Rattle.std.proofs.Common.{◌≡◌, ◌++◌, flat_map, map, take}
use Rattle.script_model.specs.Words.{line_text}
use Rattle.record_model.specs.Texts.{row_line}
use Rattle.reply_text.proofs.text.push_rows.Given as goal

abbrev pub invariant-loop-row : goal.invariant-loop-row
invariant-loop-row l = l.into.items ≡ l.initial.into.items ++ flat_map line_text (map row_line (take l.row-index l.rows))
