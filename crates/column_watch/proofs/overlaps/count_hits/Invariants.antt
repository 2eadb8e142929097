use Rattle.std.proofs.Common.{◌≡◌, ◌<◌, ℕ, [], count_by, get_or, length, map, take}
use Rattle.lake_model.specs.Tables.{has_key, keys_at}
use Rattle.column_watch.specs.Hits.{hit_keys}
use Rattle.column_watch.proofs.overlaps.count_hits.Given as goal

abbrev pub invariant-loop-hit : goal.invariant-loop-hit
invariant-loop-hit l = record {
  len : length l.counts.items ≡ length l.queries;
  counted : (w : ℕ) → w < length (map (λ state. state.keys) l.queries) → get_or l.counts.items w 0 ≡ count_by (has_key (get_or (map (λ state. state.keys) l.queries) w [])) (take l.hit-index (hit_keys (keys_at l.table l.place) l.hits));
}
