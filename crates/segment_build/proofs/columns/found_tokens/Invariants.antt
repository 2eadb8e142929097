use Rattle.std.proofs.Common.{◌≡◌, [], ◌∷◌, length, take}
use Rattle.std.specs.List.{flat_map}
use Rattle.lake_model.specs.Tables.{keys_at}
use Rattle.search_model.specs.Segment.{tokens_in}
use Rattle.segment_build.specs.Holding.{all_tokens}
use Rattle.segment_build.proofs.columns.found_tokens.Given as goal

abbrev pub invariant-loop-i : goal.invariant-loop-i
invariant-loop-i l = record { is : l.tokens.items ≡ flat_map (λ key. tokens_in (all_tokens l.vocab) (key ∷ [])) (take l.i (keys_at l.table l.place)); long : length l.tokens.items ≡ l.i }
