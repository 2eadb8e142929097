-- The tests on the positions in hints, and which command made the entry at each position.
use Rattle.std.specs.Prelude.{ℕ, ◌+◌, ◌==◌, ◌<◌, ◌≡◌, Bool, true, ◌&&◌, List, length, map, count_by, find, get_or, slice_get, Option, Some, None, is_some}
use Rattle.std.specs.List.{list_all}
use Rattle.record_model.specs.Rules.{Rules}
use Rattle.record_model.specs.Answered.{Nowhere, Saw, Added, PlannedAndSaw, PlannedAndAdded}
use Rattle.lake_model.specs.Layout.{is_legal}
use Rattle.script_model.specs.Commands.{Batch}
use Rattle.script_model.specs.Options.{Options}
use Rattle.trace_laws.specs.Hints.{Hint, Wanting, Stands}
use Rattle.trace_laws.specs.Rebuilt.{Hinted, is_at, rebuilt}
use Rattle.trace_laws.specs.Verdict.{all_commands, hinted_zip, counted}
use Rattle.trace_laws.specs.Passing.{are_apart, batches_rise, is_filled, passes, tells}

-- the position of the answer's own entry, if it was accepted
abbrev pub own_of : Hint → Option ℕ
own_of Wanting = None
own_of (Stands Nowhere) = None
own_of (Stands (Saw at)) = None
own_of (Stands (Added at)) = Some at
own_of (Stands (PlannedAndSaw pinned at)) = None
own_of (Stands (PlannedAndAdded pinned at)) = Some at

-- the number of accepted updates
abbrev pub accepted_of : List Hint → ℕ
accepted_of hints = count_by (λ hint. is_some (own_of hint)) hints

-- there are as many hints as commands, and along each lane of each batch the positions rise from sync to sync
abbrev pub rises_whole : ℕ → Bool → ℕ → ℕ → List Batch → List Hint → Bool
rises_whole lanes merge next from batches hints = length hints == length (all_commands merge next batches) && batches_rise lanes merge next from batches hints

-- the tests of `passes` for which no reply has to be made again
abbrev pub numbers_pass : ℕ → Bool → List Batch → List Hint → Bool
numbers_pass lanes merge batches hints =
    let hinted = hinted_zip (all_commands merge 1 batches) hints in
    length hints == length (all_commands merge 1 batches) && (are_apart hinted && (is_filled hinted (counted hinted) && batches_rise lanes merge 1 0 batches hints))

-- the answer with this index made the entry at this position, and no other answer did
pub record IsOwner (hints : List Hint) (position index : ℕ) : Type 0 where
  pub stands : is_at position (get_or hints index Wanting) ≡ true
  pub only : (i : ℕ) → is_at position (get_or hints i Wanting) ≡ true → i ≡ index

-- for each position from 1 on the index of the answer that made the entry there; there are as many as accepted updates
pub record AreOwners (hints : List Hint) (owners : List ℕ) : Type 0 where
  pub many : length owners ≡ accepted_of hints
  pub each : (p : ℕ) → p < length owners → IsOwner hints (p + 1) (get_or owners p 0)

-- What passes has passed the tests on numbers, each reply that is made again has its hint, and the rebuilt journal is
-- legal.
abbrev pub PassesNumbers : Type 0
PassesNumbers = (rules : Rules) (options : Options) (batches : List Batch) (hints : List Hint)
    → let hinted = hinted_zip (all_commands options.merge 1 batches) hints in
    let journal = rebuilt rules hinted (counted hinted) in
    passes rules options batches hints ≡ (numbers_pass options.lanes options.merge batches hints && (list_all (tells rules journal) hinted && is_legal journal))

-- The entry at a position is rebuilt from the command of its owner.
abbrev pub OwnerIsFound : Type 0
OwnerIsFound = (hinted : List Hinted) (position index : ℕ) → IsOwner (map (λ h. h.hint) hinted) position index → find (λ h. is_at position h.hint) hinted ≡ slice_get hinted index

-- The accepted updates are counted by their hints.
abbrev pub CountedIsAccepted : Type 0
CountedIsAccepted = (hinted : List Hinted) → counted hinted ≡ accepted_of (map (λ h. h.hint) hinted)
