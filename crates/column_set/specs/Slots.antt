-- Slots that hold the numbers of keys. The number of slots is a power of two, each key is a few steps from the home of
-- its hash, and no slot passed on the way is free.
use Rattle.std.specs.Prelude.{◌≡◌, ◌+◌, ◌-◌, ◌<◌, ◌≤◌, ℕ, zero, suc, List, [], bit_and, bytes_eq, false, get_or, length, slice_index, true}
use Rattle.std.specs.Hash.FoldHasher as folding
use Rattle.std.specs.List.{IsDistinct}
use Rattle.lake_model.specs.Tables.{has_key}
use Rattle.lake_model.specs.Texts.{Text}
use Rattle.column_set.specs.declared.slots.Seat.{Seat}
use Rattle.column_set.specs.declared.slots.Seat.TheVariants.{Crowded, Free, Taken}

-- the hash of a key
unfoldable pub hash_of : Text → ℕ
hash_of key = folding.finish (folding.write folding.initial key)

-- of `size` slots, the one at which the look-up of a hash begins, and the one that follows another
abbrev pub home_of : ℕ → ℕ → ℕ
home_of size hash = bit_and hash (size - 1)

abbrev pub next_of : ℕ → ℕ → ℕ
next_of size at = bit_and (at + 1) (size - 1)

-- from one slot to another in the given number of steps, over slots none of which is free
abbrev pub Passes : ℕ → List ℕ → ℕ → ℕ → ℕ → Type 0
Passes size slots from to zero = from ≡ to
Passes size slots from to (suc steps) = (0 < slice_index slots from) × Passes size slots (next_of size from) to steps

-- the number of slots that are visited for a key
abbrev pub most_probes : ℕ
most_probes = 128

-- a slot that is reached from another within the slots that are visited
pub record Reaches (size : ℕ) (slots : List ℕ) (from to : ℕ) : Type 0 where
  pub steps : ℕ
  pub few : steps < most_probes
  pub passes : Passes size slots from to steps

-- no slot is taken
abbrev pub AreFree : List ℕ → Type 0
AreFree slots = (at : ℕ) → slice_index slots at ≡ 0

-- a slot that is free and is reached
pub record IsFree (slots : List ℕ) (from at : ℕ) : Type 0 where
  pub within : at < length slots
  pub free : slice_index slots at ≡ 0
  pub reached : Reaches (length slots) slots from at

-- a number in a slot that is reached
pub record Holds (size : ℕ) (slots : List ℕ) (from number : ℕ) : Type 0 where
  pub at : ℕ
  pub there : slice_index slots at ≡ number
  pub reached : Reaches size slots from at

-- the first `count` keys, numbered from 1, each in a slot
pub record IsSlotted (size : ℕ) (slots : List ℕ) (keys : List Text) (count : ℕ) : Type 0 where
  pub numbers : (at : ℕ) → slice_index slots at ≤ count
  pub held : (i : ℕ) → i < count → Holds size slots (home_of size (hash_of (get_or keys i []))) (i + 1)

-- a slot with this number is still ahead: it is reached from a slot within the steps that are left
pub record IsAhead (size : ℕ) (slots : List ℕ) (from step number : ℕ) : Type 0 where
  pub at : ℕ
  pub there : slice_index slots at ≡ number
  pub steps : ℕ
  pub few : steps + step < most_probes
  pub passes : Passes size slots from at steps

-- the keys are distinct, and each is in a slot
pub record IsSlottedSet (slots : List ℕ) (keys : List Text) : Type 0 where
  pub different : IsDistinct bytes_eq keys
  pub slotted : IsSlotted (length slots) slots keys (length keys)

-- the result of a look-up: the key is there, or it is not there and a slot is free for it, or it is not there and none
-- of the slots visited is free
abbrev pub IsSeat : List ℕ → List Text → Text → ℕ → Seat → Type 0
IsSeat slots keys key home Taken = has_key keys key ≡ true
IsSeat slots keys key home (Free at) = (has_key keys key ≡ false) × IsFree slots home at
IsSeat slots keys key home Crowded = has_key keys key ≡ false
