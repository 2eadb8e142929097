-- A flat list of fields as records of one length.
use Rattle.std.specs.Prelude.{ℕ, zero, suc, List, [], ◌∷◌, take, drop}
use Rattle.lake_model.specs.Texts.{Text}

-- the given number of records of equal length, cut from one list of all their fields
unfoldable pub split_records : ℕ → ℕ → List Text → List (List Text)
split_records zero columns fields = []
split_records (suc count) columns fields = take columns fields ∷ split_records count columns (drop columns fields)
