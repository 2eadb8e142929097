-- The first rows of a search: how many are kept at most, the rows in order, and the titles of the columns of the part by
-- their ranks while the columns are held by these.
use Rattle.std.specs.Prelude.{ℕ, List, Option, None, Some}
use Rattle.lake_model.specs.Answer.{Row}
use Rattle.search_model.specs.Segment.{Titled}
use Rattle.topk_heap.specs.First.{FirstRows}
use Rattle.topk_heap.specs.Ranked.{RankedRows}

pub record Firsts : Type 0 where
  pub k : ℕ
  pub rows : List Row
  pub titled : Option (List Titled)

-- from what is held by ranks, if anything is, and the rows that are not
abbrev pub first_rows : Option RankedRows → FirstRows → Firsts
first_rows None first = record { k = first.k; rows = first.rows; titled = None }
first_rows (Some ranked) first = record { k = first.k; rows = ranked.rows; titled = Some ranked.titled }
