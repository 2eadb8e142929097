-- The limits of a lake: what counts against each of them, and whether a load, a drop or a replace would exceed it.
use Rattle.std.specs.Prelude.{ℕ, ◌+◌, Bool, nat_lt, List, [], ◌∷◌}
use Rattle.lake_model.specs.declared.Which.{Which}
use Rattle.lake_model.specs.declared.Which.TheVariants.{Live, Updates, Members, KeyBytes}
use Rattle.lake_model.specs.declared.Counts.{Counts}
use Rattle.lake_model.specs.Tables.{Table, members, key_bytes}

-- one limit, the count against it, and how much would be added
pub record Bounded : Type 0 where
  pub which : Which
  pub count : ℕ
  pub more : ℕ
  pub limit : ℕ

abbrev pub bounded : Which → ℕ → ℕ → ℕ → Bounded
bounded which count more limit = record { which = which; count = count; more = more; limit = limit }

abbrev pub is_passed : Bounded → Bool
is_passed b = nat_lt b.limit (b.count + b.more)

-- the limits that are checked for a replace, a load and a drop, in their order
abbrev pub replace_bounds : Counts → Table → Counts → List Bounded
replace_bounds limits table now = bounded Updates now.updates 1 limits.updates ∷ bounded Members now.members (members table) limits.members
    ∷ bounded KeyBytes now.key_bytes (key_bytes table) limits.key_bytes ∷ []

abbrev pub load_bounds : Counts → Table → Counts → List Bounded
load_bounds limits table now = bounded Live now.live 1 limits.live ∷ replace_bounds limits table now

abbrev pub drop_bounds : Counts → Counts → List Bounded
drop_bounds limits now = bounded Updates now.updates 1 limits.updates ∷ []
