-- The rules of a run: the kind of keys by which it compares values, and the limits of its lake.
use Rattle.lake_model.specs.declared.Keys.{Keys}
use Rattle.lake_model.specs.declared.Keys.TheVariants.{Canonical, Compatibility}
use Rattle.lake_model.specs.declared.Counts.{Counts}
use Rattle.lake_model.specs.Journal.{standard_limits}

pub record Rules : Type 0 where
  pub keys : Keys
  pub limits : Counts

abbrev pub rules_with : Keys → Counts → Rules
rules_with keys limits = record { keys = keys; limits = limits }

-- four times as many live tables as in a lake whose values are compared canonically
abbrev pub wide_limits : Counts
wide_limits = record standard_limits { live = 262144 }

-- the limits of a lake in the program
abbrev pub limits_of : Keys → Counts
limits_of Canonical = standard_limits
limits_of Compatibility = wide_limits

-- the rules of a run in the program
abbrev pub standard_rules : Keys → Rules
standard_rules keys = rules_with keys (limits_of keys)
