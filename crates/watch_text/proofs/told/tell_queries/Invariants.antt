use Rattle.std.proofs.Common.{◌≡◌, ◌++◌, ◌-◌, drop, flat_map}
use Rattle.script_model.specs.Words.{line_text}
use Rattle.reply_text.specs.Keeping.{Keeps}
use Rattle.column_watch.specs.Watching.{before_last}
use Rattle.watch_text.specs.Told.{told_from}
use Rattle.watch_text.proofs.told.tell_queries.Given as goal

abbrev pub invariant-loop-number : goal.invariant-loop-number
invariant-loop-number l = record {
  ok : l.into.items ++ flat_map line_text (told_from (before_last l.watches.journal) l.watches.journal l.number (drop (l.number - 1) l.watches.queries))
      ≡ l.initial.into.items ++ flat_map line_text (told_from (before_last l.watches.journal) l.watches.journal 1 l.watches.queries);
  kept : Keeps l.initial.into.items l.into.items;
}
