-- A search for the columns that hold a fraction of a query: a version, the keys, and the fraction, a of b parts, that a
-- column has to hold.
use Rattle.std.specs.Prelude.{ℕ, List, length}
use Rattle.lake_model.specs.Texts.{Text}
use Rattle.search_model.specs.Contain.{need}
use Rattle.segment_core.specs.Versions.{VersionOf}

pub record ContainOf : Type 0 where
  pub version : VersionOf
  pub keys : List Text
  pub a : ℕ
  pub b : ℕ

abbrev pub contain_with : VersionOf → List Text → ℕ → ℕ → ContainOf
contain_with version keys a b = record { version = version; keys = keys; a = a; b = b }

-- a of b parts of the keys
pub record FractionOf : Type 0 where
  pub keys : List Text
  pub a : ℕ
  pub b : ℕ

abbrev pub fraction_with : List Text → ℕ → ℕ → FractionOf
fraction_with keys a b = record { keys = keys; a = a; b = b }

-- how many keys these are
abbrev pub least_of : FractionOf → ℕ
least_of fraction = need fraction.a fraction.b (length fraction.keys)
