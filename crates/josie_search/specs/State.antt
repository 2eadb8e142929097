-- How what the code keeps of a part represents the progress of its search.
use Rattle.std.specs.Prelude.{◌≡◌, ℕ, ◌<◌, Bool, false, List, get_or, length, take}
use Rattle.lake_model.specs.Layout.{is_among}
use Rattle.search_model.specs.Looks.{Progress, Searched}
use Rattle.part_columns.specs.declared.tally.Tally.{Tally}
use Rattle.part_columns.specs.Tallies.{AreTallies}

pub record IsAt (part : Searched) (progress : Progress) (tallies : List Tally) (known : List Bool) : Type 0 where
  pub unread : progress.read < length part.query
  pub tallies_are : AreTallies part.segment.sets (take progress.read part.query) tallies
  pub known_are : (x : ℕ) → get_or known x false ≡ is_among progress.probed x
