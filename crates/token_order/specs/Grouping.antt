-- Members that are put into groups one after another, and the slots through which the group of a key is found.
use Rattle.std.specs.Prelude.{◌≡◌, ℕ, ◌+◌, ◌<◌, List, ⊤, get_or, length, map}
use Rattle.lake_model.specs.Texts.{Text}
use Rattle.lake_model.specs.Tables.{Table}
use Rattle.token_order.specs.Groups.{group_key, AreGroups}
use Rattle.token_order.specs.Keyed.{IsKeyed}
use Rattle.token_order.specs.Places.{pointed_by}
use Rattle.token_order.specs.declared.columns.ColumnAt.{ColumnAt}
use Rattle.token_order.specs.declared.groups.Group.{Group}
use Rattle.token_order.specs.declared.groups.Probe.{Probe}
use Rattle.token_order.specs.declared.groups.Seat.{Seat}
use Rattle.token_order.specs.declared.groups.Seat.TheVariants.{Crowded, Free, Taken}
use Rattle.token_order.specs.declared.keyed.Keyed.{Keyed}

-- the group with a number
abbrev pub no_group : Group
no_group = record { keyed = record { high = 0; low = 0; member = record { column = 0; index = 0 } }; frequency = 0; number = 0 }

abbrev pub group_at : List Group → ℕ → Group
group_at groups number = get_or groups number no_group

-- a group of one member, and a group with one member more
abbrev pub group_of : Keyed → ℕ → Group
group_of keyed number = record { keyed = keyed; frequency = 1; number = number }

abbrev pub with_member : Group → Group
with_member group = record { keyed = group.keyed; frequency = group.frequency + 1; number = group.number }

-- the keys of the members so far, by the numbers of their groups
abbrev pub keys_so_far : List Table → List ColumnAt → List Group → List ℕ → List Text
keys_so_far tables columns groups numbers = map (group_key tables columns groups) numbers

-- the members so far are in these groups
abbrev pub AreGrouped : List Table → List ColumnAt → List Group → List ℕ → Type 0
AreGrouped tables columns groups numbers = AreGroups tables columns (keys_so_far tables columns groups numbers) groups numbers

-- a member that is looked up, with the front of its key, and the key itself
pub record IsProbe (tables : List Table) (columns : List ColumnAt) (probe : Probe) : Type 0 where
  pub keyed : IsKeyed tables columns probe.keyed
  pub key : pointed_by tables columns probe.keyed.member ≡ probe.key.now

-- a group that has the key
pub record HasKey (tables : List Table) (columns : List ColumnAt) (groups : List Group) (key : Text) (number : ℕ) : Type 0 where
  pub within : number < length groups
  pub same : group_key tables columns groups number ≡ key

-- the result of a look-up: a group that has the key, or a slot for a new group, of `size` slots, or neither
abbrev pub IsSeat : List Table → List ColumnAt → List Group → Text → ℕ → Seat → Type 0
IsSeat tables columns groups key size (Taken number) = HasKey tables columns groups key number
IsSeat tables columns groups key size (Free at) = at < size
IsSeat tables columns groups key size Crowded = ⊤
