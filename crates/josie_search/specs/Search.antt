-- A search: a version, and what is asked of it.
use Rattle.std.specs.Prelude.{ℕ, List, Option}
use Rattle.lake_model.specs.Texts.{Text}
use Rattle.lake_model.specs.Tables.{Table}
use Rattle.lake_model.specs.Answer.{Query, Row, answer}
use Rattle.segment_core.specs.Versions.{VersionOf}

pub record SearchOf : Type 0 where
  pub version : VersionOf
  pub query : Query

abbrev pub search_with : VersionOf → Query → SearchOf
search_with version query = record { version = version; query = query }

abbrev pub query_with : ℕ → List Text → Option Text → Query
query_with k keys except = record { keys = keys; k = k; except = except }

abbrev pub answer_of : List Table → Query → List Row
answer_of tables query = answer tables query.keys query.k query.except
