use Rattle.std.proofs.Common.{◌≡◌, ◌≤◌, ◌+◌, ◌++◌, ℕ, length, map, take}
use Rattle.part_columns.specs.Tallies.{AreTallies, tally_at}
use Rattle.search_model.specs.declared.Look.TheVariants.{Read}
use Rattle.segment_core.specs.Versions.{part_at, segment_at}
use Rattle.contain_search.proofs.part.read_lists.Given as goal

abbrev pub invariant-loop-token : goal.invariant-loop-token
invariant-loop-token l = record {
  version : l.looks.version ≡ l.fn.looks.version;
  log : l.looks.log ≡ l.fn.looks.log ++ map (λ token. Read (part_at l.fn.looks.version.parts l.part).number token) (take l.token-index l.lists);
  spare : l.looks.spare + l.token-index ≡ l.fn.looks.spare;
  wide : length l.columns.tallies ≡ length l.fn.columns.tallies;
  tallies : AreTallies (segment_at l.fn.looks.version.parts l.part).sets (take l.token-index l.lists) l.columns.tallies;
  most : (column : ℕ) → (tally_at l.columns.tallies column).count ≤ l.most;
}
