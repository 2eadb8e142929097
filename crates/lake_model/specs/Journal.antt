-- The journal: its entries, the tables that are live after it, and its counts.
use Rattle.std.specs.Prelude.{ℕ, Bool, true, false, List, [], ◌∷◌, ◌++◌, length, filter, fold, not, sum_by, count_by, bytes_eq, find, flat_map, Option}
use Rattle.std.specs.List.{list_any}
use Rattle.lake_model.specs.declared.Who.{Who}
use Rattle.lake_model.specs.declared.Counts.{Counts}
use Rattle.lake_model.specs.Texts.{Text}
use Rattle.lake_model.specs.Tables.{Table, members, key_bytes}

pub data What : Type 0 where
  Loaded : (table : Table) → What
  Dropped : (name : Text) → What
  Replaced : (table : Table) → What
  Swapped : (planned kept : List ℕ) → What

pub record Entry : Type 0 where
  pub who : Who
  pub what : What

abbrev pub has_name : Text → Table → Bool
has_name name table = bytes_eq table.name name

-- the tables without the one of this name
abbrev pub without : Text → List Table → List Table
without name tables = filter (λ table. not (has_name name table)) tables

-- the live tables after an entry, from those before it
abbrev pub live_after : List Table → What → List Table
live_after tables (Loaded table) = tables ++ table ∷ []
live_after tables (Dropped name) = without name tables
live_after tables (Replaced table) = without table.name tables ++ table ∷ []
live_after tables (Swapped planned kept) = tables

-- the tables added by a load or a replace and neither dropped nor replaced afterwards, in the order of their entries
abbrev pub live : List Entry → List Table
live journal = fold (λ tables entry. live_after tables entry.what) [] journal

abbrev pub is_live : List Entry → Text → Bool
is_live journal name = list_any (has_name name) (live journal)

abbrev pub live_table : List Entry → Text → Option Table
live_table journal name = find (has_name name) (live journal)

-- the tables of all loads and replaces
abbrev pub loads_of : List Entry → List Table
loads_of journal = flat_map (λ entry. loaded_by entry.what) journal
  where
    loaded_by : What → List Table
    loaded_by (Loaded table) = table ∷ []
    loaded_by (Dropped name) = []
    loaded_by (Replaced table) = table ∷ []
    loaded_by (Swapped planned kept) = []

abbrev pub is_update : What → Bool
is_update (Loaded table) = true
is_update (Dropped name) = true
is_update (Replaced table) = true
is_update (Swapped planned kept) = false

abbrev pub counts : List Entry → Counts
counts journal = record {
  live = length (live journal);
  updates = count_by (λ entry. is_update entry.what) journal;
  members = sum_by members (loads_of journal);
  key_bytes = sum_by key_bytes (loads_of journal);
}

abbrev pub who_with : ℕ → ℕ → Who
who_with caller command = record { caller = caller; command = command }

abbrev pub entry_with : Who → What → Entry
entry_with who what = record { who = who; what = what }

-- the standard limits of a lake
abbrev pub standard_limits : Counts
standard_limits = record { live = 65536; updates = 1048576; members = 16777216; key_bytes = 1073741824 }
