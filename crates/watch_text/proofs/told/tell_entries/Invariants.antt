use Rattle.std.proofs.Common.{◌≡◌, ◌++◌, ℕ, List, map, take}
use Rattle.lake_model.specs.Texts.{Text}
use Rattle.record_model.specs.Watched.{watch_text_behind}
use Rattle.reply_text.specs.Keeping.{Keeps}
use Rattle.column_watch.specs.Watching.{watch_with, watches_with}
use Rattle.watch_text.proofs.told.tell_entries.Given as goal

abbrev pub invariant-loop-entry : goal.invariant-loop-entry
invariant-loop-entry l = record {
  taken : l.watches ≡ watches_with (l.initial.watches.journal ++ take l.entry-index l.entries) l.initial.watches.queries;
  text : (k : ℕ) (queries : List (List Text)) → l.initial.watches.queries ≡ map (λ keys. watch_with keys k) queries
      → l.into.items ≡ l.initial.into.items ++ watch_text_behind k queries l.initial.watches.journal (take l.entry-index l.entries);
  kept : Keeps l.initial.into.items l.into.items;
}
