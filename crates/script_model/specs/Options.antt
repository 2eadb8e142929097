-- The options of a run: how many lanes it has, a stated order of their steps, whether a merger runs beside them,
-- whether it is traced, and by which kind of keys it compares values.
use Rattle.std.specs.Prelude.{ℕ, Bool, false, List, Option, None}
use Rattle.lake_model.specs.declared.Keys.{Keys}
use Rattle.lake_model.specs.declared.Keys.TheVariants.{Canonical}

-- an order has a piece for each batch, and a piece is a list of numbers of lanes
pub record Options : Type 0 where
  pub lanes : ℕ
  pub order : Option (List (List ℕ))
  pub merge : Bool
  pub trace : Bool
  pub keys : Keys

abbrev pub options_with : ℕ → Option (List (List ℕ)) → Bool → Bool → Keys → Options
options_with lanes order merge trace keys = record { lanes = lanes; order = order; merge = merge; trace = trace; keys = keys }

abbrev pub plain : Options
plain = record { lanes = 1; order = None; merge = false; trace = false; keys = Canonical }
