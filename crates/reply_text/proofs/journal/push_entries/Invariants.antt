use Rattle.std.proofs.Common.{◌≡◌, ◌++◌, flat_map, map, take}
use Rattle.std.specs.List.{enumerate_from}
use Rattle.record_model.specs.Texts.{entry_line}
use Rattle.script_model.specs.Words.{line_text}
use Rattle.reply_text.proofs.journal.push_entries.Given as goal

abbrev pub invariant-loop-index : goal.invariant-loop-index
invariant-loop-index l = l.into.items ≡ l.initial.into.items ++ flat_map line_text (map entry_line (enumerate_from 1 (take l.index l.entries)))
