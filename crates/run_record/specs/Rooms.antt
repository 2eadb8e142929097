-- A record with its room.
use Rattle.std.specs.Prelude.{ℕ, ◌+◌, ◌≤◌, List, length}
use Rattle.record_model.specs.Record.{RunRecord}

-- a record, and how many more answers, entries and syncs it has room for
pub record RecordOf : Type 0 where
  pub made : RunRecord
  pub answers_room : ℕ
  pub entries_room : ℕ
  pub syncs_room : ℕ

abbrev pub record_with : RunRecord → ℕ → ℕ → ℕ → RecordOf
record_with made answers_room entries_room syncs_room = record { made = made; answers_room = answers_room; entries_room = entries_room; syncs_room = syncs_room }

-- there is room for `room` more items
abbrev pub HasRoom : {X : Type 0} → List X → ℕ → ℕ → Type 0
HasRoom items capacity room = length items + room ≤ capacity
