-- One table, worked out by hand: its column p has the keys z and a, and its column q has a. So token 0 is z, which one
-- column holds, and token 1 is a, which both hold.
use Rattle.std.specs.Prelude.{◌-◌, ℕ, List, [], ◌∷◌, codes, false}
use Rattle.lake_model.specs.Tables.{Table, column_with, table_with}
use Rattle.search_model.specs.declared.Owner.{Owner}
use Rattle.search_model.specs.declared.Posting.{Posting}
use Rattle.search_model.specs.declared.TokenAt.{TokenAt}
use Rattle.segment_core.specs.Versions.{VersionOf, part_with, place_with, version_with}

abbrev pub worked_table : Table
worked_table = table_with (codes "t") (column_with (codes "p") (codes "z" ∷ codes "a" ∷ []) ∷ column_with (codes "q") (codes "a" ∷ []) ∷ [])

abbrev pub owner : ℕ → ℕ → Owner
owner table place = record { table = table; place = place }

abbrev pub token_at : ℕ → ℕ → TokenAt
token_at column index = record { column = column; index = index }

abbrev pub posting : ℕ → ℕ → ℕ → Posting
posting column position size = record { column = column; rest = size - 1 - position }

-- where the columns are, where the tokens' keys are, and which column holds which token
abbrev pub worked_owners : List Owner
worked_owners = owner 0 1 ∷ owner 0 2 ∷ []

abbrev pub worked_tokens : List TokenAt
worked_tokens = token_at 0 0 ∷ token_at 0 1 ∷ []

abbrev pub worked_postings : List Posting
worked_postings = posting 0 0 2 ∷ posting 0 1 2 ∷ posting 1 0 1 ∷ []

-- the version after the load of that table at position 7
abbrev pub worked_version : VersionOf
worked_version = version_with 7 (part_with 7 (place_with 7 worked_table false ∷ []) ∷ [])
