use Rattle.std.proofs.Common.{◌≡◌, ◌*◌, ◌++◌, map}
use Rattle.std.specs.List.{range_with_len}
use Rattle.option_model.specs.Generator.{state_at}
use Rattle.lake_maker.specs.Made.{search_at}
use Rattle.lake_maker.proofs.batch.push_searches.Given as goal

abbrev pub invariant-loop-search : goal.invariant-loop-search
invariant-loop-search l = record {
  tasks : l.into ≡ l.initial.into ++ map (λ n. search_at (state_at l.initial.draws (2 * n)) l.tables) (range_with_len 0 l._search);
  state : l.draws ≡ state_at l.initial.draws (2 * l._search);
}
