-- What a journal puts, by its loads and replaces, and until when each put stays.
use Rattle.std.specs.Prelude.{◌≡◌, ◌*◌, ◌<◌, ◌≤◌, ℕ, Bool, false, not, ◌&&◌, List, [], ◌∷◌, ◌++◌, drop, get_or, if◌then◌else◌, is_none, length, map, nat_eq, nat_le, slice_set, take, Option, Some, None}
use Rattle.lake_model.specs.Texts.{Text}
use Rattle.lake_model.specs.Tables.{Table, table_with}
use Rattle.lake_model.specs.Journal.{What, Loaded, Dropped, Replaced, Swapped, has_name}
use Rattle.lake_model.specs.Layout.{Place}
use Rattle.segment_core.specs.Versions.{place_with}

-- a load or a replace: its position in the journal, its table, and the position of the drop or the replace that took
-- the table away
pub record PutOf : Type 0 where
  pub position : ℕ
  pub table : Table
  pub end : Option ℕ

abbrev pub put_with : ℕ → Table → Option ℕ → PutOf
put_with position table end = record { position = position; table = table; end = end }

abbrev pub no_put : PutOf
no_put = put_with 0 (table_with [] []) None

abbrev pub tables_put : List PutOf → List Table
tables_put puts = map (λ put. put.table) puts

abbrev pub positions_put : List PutOf → List ℕ
positions_put puts = map (λ put. put.position) puts

-- whether a table was taken away by the first `asked` entries
abbrev pub has_ended : ℕ → Option ℕ → Bool
has_ended asked None = false
has_ended asked (Some end) = nat_le end asked

-- whether a table was live after the first `asked` entries
abbrev pub was_live : ℕ → PutOf → Bool
was_live asked put = nat_le put.position asked && not (has_ended asked put.end)

-- whether a table has this name and nothing took it away
abbrev pub is_open : Text → PutOf → Bool
is_open name put = is_none put.end && has_name name put.table

-- a put that an entry at a position takes away, if it is the live one of this name
abbrev pub end_put : Text → ℕ → PutOf → PutOf
end_put name position put = record put { end = if is_open name put then Some position else put.end }

-- the puts after an entry at a position, given those before it
abbrev pub puts_after : ℕ → List PutOf → What → List PutOf
puts_after position puts (Loaded table) = map (end_put table.name position) puts ++ put_with position table None ∷ []
puts_after position puts (Dropped name) = map (end_put name position) puts
puts_after position puts (Replaced table) = map (end_put table.name position) puts ++ put_with position table None ∷ []
puts_after position puts (Swapped planned kept) = puts

-- the puts, with the one at an index, if any, taken away at a position
abbrev pub end_index : List PutOf → Option ℕ → ℕ → List PutOf
end_index puts None position = puts
end_index puts (Some i) position = slice_set puts i (record (get_or puts i no_put) { end = Some position })

-- whether an index is this one
abbrev pub is_at : ℕ → Option ℕ → Bool
is_at i None = false
is_at i (Some j) = nat_eq i j

-- A name has the index of the put of that name that nothing took away; there is at most one.
pub record IsIndexed (puts : List PutOf) (index : Text → Option ℕ) : Type 0 where
  pub found : (name : Text) (i : ℕ) → i < length puts → is_open name (get_or puts i no_put) ≡ is_at i (index name)
  pub within : (name : Text) (i : ℕ) → index name ≡ Some i → i < length puts

-- a put as a place of a part, which is marked if it was not live after the first `asked` entries
abbrev pub place_of : ℕ → PutOf → Place
place_of asked put = place_with put.position put.table (not (was_live asked put))

-- the first tables of the block at index b, if all tables are cut into blocks of `size`
pub record IsOfBlock (size b : ℕ) (tables block : List Table) : Type 0 where
  pub small : length block ≤ size
  pub within : length block ≤ length (drop (b * size) tables)
  pub first : block ≡ take (length block) (drop (b * size) tables)

-- Each list has the first tables of its block. A block that is not full may have more tables by now.
abbrev pub AreBlocks : ℕ → List Table → List (List Table) → Type 0
AreBlocks size tables blocks = (b : ℕ) → b < length blocks → IsOfBlock size b tables (get_or blocks b [])

-- the list at index b is now this one, and the others are as before
pub record IsKeptAt (b : ℕ) (tables : List Table) (before after : List (List Table)) : Type 0 where
  pub here : get_or after b [] ≡ tables
  pub others : (c : ℕ) → c < length after → (c ≡ b → ⊥) → (c < length before) × (get_or after c [] ≡ get_or before c [])
