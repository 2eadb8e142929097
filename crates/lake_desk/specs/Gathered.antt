-- What the desks have seen after the commands of a batch, and how this is exchanged between them.
use Rattle.std.specs.Prelude.{ℕ, ◌+◌, ◌≡◌, ⊤, false, List, [], ◌∷◌, length, slice_get, Some}
use Rattle.std.specs.List.{AllByRecursion}
use mathlib.Core.List.{IsPrefix}
use Rattle.atomic_table.specs.Seated.{TableId}
use Rattle.lake_model.specs.Journal.{Entry}
use Rattle.turn_lock.specs.History.{Grows}
use Rattle.turn_lock.specs.Passes.{Known, after_seeing, callers_of}
use Rattle.lake.specs.Lawful.{caller_of}

-- The desks have one lock, are numbered from 0, and hold no turn. Each has seen this journal, and some of what followed
-- while its lane was answered. The first is that of the pass that gave the others their numbers.
pub record AreApart (lanes : ℕ) (journal : List Entry) (desks : List (Known Entry)) : Type 0 where
  pub lock : TableId
  pub count : length desks ≡ lanes + 1
  pub each : (l : ℕ) (desk : Known Entry) → slice_get desks l ≡ Some desk → (desk.lock ≡ lock) × (desk.caller ≡ l) × (desk.holds ≡ false) × IsPrefix journal desk.seen
  pub opening : (desk : Known Entry) → slice_get desks 0 ≡ Some desk → desk.given ≡ Some (lanes + 1)

-- the desks have one lock
pub record AreOfOneLock (desks : List (Known Entry)) : Type 0 where
  pub lock : TableId
  pub each : AllByRecursion (λ desk. desk.lock ≡ lock) desks

-- no desk holds a turn
abbrev pub AreFree : List (Known Entry) → Type 0
AreFree desks = AllByRecursion (λ desk. desk.holds ≡ false) desks

-- what each desk has seen is a beginning of this list
abbrev pub AllBegin : List Entry → List (Known Entry) → Type 0
AllBegin whole desks = AllByRecursion (λ desk. IsPrefix desk.seen whole) desks

-- each desk has come to see this list, which goes on from the desk's own with entries of other callers
abbrev pub AllMeet : List Entry → List (Known Entry) → List (Known Entry) → Type 0
AllMeet whole [] [] = ⊤
AllMeet whole [] (new ∷ news) = ⊥
AllMeet whole (old ∷ olds) [] = ⊥
AllMeet whole (old ∷ olds) (new ∷ news) = (new ≡ after_seeing old whole false) × Grows caller_of (callers_of old) old.seen whole × AllMeet whole olds news

-- The first desk has come to see a list that goes on from its own with entries of other callers, and that begins with
-- each other desk's list. The others are unchanged.
pub record IsGathered (before after : List (Known Entry)) : Type 0 where
  pub opening : Known Entry
  pub later : Known Entry
  pub lanes : List (Known Entry)
  pub before_is : before ≡ opening ∷ lanes
  pub after_is : after ≡ later ∷ lanes
  pub same : later ≡ after_seeing opening later.seen false
  pub grows : Grows caller_of (callers_of opening) opening.seen later.seen
  pub begin : AllBegin later.seen lanes

-- what each other desk has seen is a beginning of what the first has seen
pub record IsBehindAll (desks : List (Known Entry)) : Type 0 where
  pub opening : Known Entry
  pub lanes : List (Known Entry)
  pub are : desks ≡ opening ∷ lanes
  pub begin : AllBegin opening.seen lanes

-- Each other desk has come to see what the first has seen, and the first is unchanged.
pub record AreHandedOut (before after : List (Known Entry)) : Type 0 where
  pub opening : Known Entry
  pub lanes : List (Known Entry)
  pub later : List (Known Entry)
  pub before_is : before ≡ opening ∷ lanes
  pub after_is : after ≡ opening ∷ later
  pub meet : AllMeet opening.seen lanes later
