-- Lists of keys as they are gathered, one after another.
use Rattle.std.specs.Prelude.{ℕ, List, drop, take}
use Rattle.lake_model.specs.Tables.{distinct}
use Rattle.lake_model.specs.Texts.{Text}

-- the keys of the finished lists, and the distinct keys of the current list in order of first occurrence
pub record Gathered : Type 0 where
  pub finished : List Text
  pub current : List Text

-- the texts before index `from` belong to finished lists, and the others to the current one, where a text may be
-- repeated
abbrev pub gathered_from : ℕ → List Text → Gathered
gathered_from from texts = record { finished = take from texts; current = distinct (drop from texts) }
