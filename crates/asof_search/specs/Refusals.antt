-- What refuses a pin of the past.
use Rattle.std.specs.Prelude.{ℕ, List, if◌then◌else◌, length, nat_lt, Option, Some, None}
use Rattle.lake_model.specs.Journal.{Entry}
use Rattle.asof_search.specs.declared.refusal.PastRefused.{PastRefused}
use Rattle.asof_search.specs.declared.refusal.PastRefused.TheVariants.{Later}

-- a pin is refused if more entries are asked for than were taken
abbrev pub past_refusal : ℕ → List Entry → Option PastRefused
past_refusal asked journal = if nat_lt (length journal) asked then Some (Later (length journal)) else None
