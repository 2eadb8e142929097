use Rattle.std.proofs.Common.{◌≡◌, ◌≤◌, ℕ, List, [], count_by, get_or, length, take}
use Rattle.std.specs.List.{All}
use Rattle.lake_model.specs.Tables.{has_key, keys_at}
use Rattle.lake_model.specs.Texts.{Text}
use Rattle.column_watch.specs.Hits.{hit_keys, IsHit}
use Rattle.column_watch.specs.Index.{IsIndexOf}
use Rattle.column_watch.proofs.overlaps.column_hits.Given as goal

abbrev pub invariant-loop-index : goal.invariant-loop-index
invariant-loop-index l = record {
  hits : All (IsHit (keys_at l.table l.place)) l.hits.items;
  few : length l.hits.items ≤ l.index;
  all : (queries : List (List Text)) (w : ℕ) → IsIndexOf queries l.holders → count_by (has_key (get_or queries w [])) (hit_keys (keys_at l.table l.place) l.hits.items) ≡ count_by (has_key (get_or queries w [])) (take l.index (keys_at l.table l.place));
}
