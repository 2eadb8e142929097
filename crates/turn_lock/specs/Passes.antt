-- What contracts see of a pass and of a note, and the result of each call for them.
use Rattle.std.specs.Prelude.{ℕ, pred, ◌≡◌, ◌+◌, ◌<◌, ◌^◌, ◌⊎◌, Bool, true, false, List, [], ◌∷◌, ◌++◌, length, Some, None, IfSome}
use Rattle.std.specs.declared.option.Option.{Option}
use Rattle.atomic_table.specs.Seated.{TableId}
use Rattle.atomic_table.specs.declared.shared.Seat.{Seat}
use Rattle.atomic_table.specs.Table.{Me}
use Rattle.turn_lock.specs.declared.view.View.{View}
use Rattle.turn_lock.specs.History.{IsOfGiven, Grows, longer}
use Rattle.turn_lock.specs.Rule.{numbers_of, holding_view}

-- a pass
pub record Known (E : Type 0) : Type 0 where
  -- its lock
  pub lock : TableId
  -- its own caller number
  pub caller : ℕ
  -- the callers that ended into it
  pub ended : List ℕ
  -- the list that it has seen, which begins the history
  pub seen : List E
  -- whether it holds a turn
  pub holds : Bool
  -- for the pass that came with the lock: how many caller numbers were given. No other pass gives any
  pub given : Option ℕ
  -- how many are left for it to give
  pub left : ℕ

-- a note: its lock, and the list that its pass had seen
pub record Noted (E : Type 0) : Type 0 where
  pub lock : TableId
  pub seen : List E

module _ {E : Type 0} where
  abbrev pub known : TableId → ℕ → List ℕ → List E → Bool → Option ℕ → ℕ → Known E
  known lock caller ended seen holds given left = record { lock = lock; caller = caller; ended = ended; seen = seen; holds = holds; given = given; left = left }

  abbrev pub noted : TableId → List E → Noted E
  noted lock seen = record { lock = lock; seen = seen }

  -- the callers of a pass: its own number, and those that ended into it. What it has seen contains all their entries
  abbrev pub callers_of : Known E → List ℕ
  callers_of pass = pass.caller ∷ pass.ended

  -- the pass after it has seen this list, with or without a turn
  abbrev pub after_seeing : Known E → List E → Bool → Known E
  after_seeing pass seen holds = known pass.lock pass.caller pass.ended seen holds pass.given pass.left

  -- the pass after another ended into it
  abbrev pub after_ending : Known E → Known E → Known E
  after_ending pass other = known pass.lock pass.caller (callers_of other ++ pass.ended) (longer pass.seen other.seen) pass.holds pass.given pass.left

  -- the pass after it gave this number
  abbrev pub after_numbering : Known E → ℕ → Known E
  after_numbering pass number = known pass.lock pass.caller pass.ended pass.seen pass.holds (Some (number + 1)) (pred pass.left)

  -- the new pass that has the number
  abbrev pub new_pass_of : Known E → ℕ → Known E
  new_pass_of pass number = known pass.lock number [] pass.seen false None 0

-- what a pass has in hand: the slot, which it keeps empty, while it has a turn, and otherwise nothing
abbrev pub slots_in_hand : {S : Type 0} → Bool → S → List (ℕ × S)
slots_in_hand true content = (0, content) ∷ []
slots_in_hand false content = []

module _ {E : Type 0} (caller_of : E → ℕ) where
  -- what a holder may give back: the list that it has seen, unchanged or with one more entry of its own
  abbrev pub FollowsOwn : View E → List E → Type 0
  FollowsOwn v after = (after ≡ v.seen) ⊎ ((entry : E) × (v.caller ≡ Some (caller_of entry)) × (after ≡ v.seen ++ entry ∷ []))

module _ {V E : Type 0} (list : V → List E) (caller_of : E → ℕ) where
  -- a seat after it won the lock and took this value out of the slot
  pub record HasWon (before : View E) (value : V) (after : Me (Option V) (View E)) : Type 0 where
    pub holds : after ≡ (holding_view before (list value), (0, None) ∷ [])
    pub grows : Grows caller_of (numbers_of before) before.seen (list value)
    pub given : (count : ℕ) → before.given ≡ Some count → IsOfGiven caller_of count (list value)

  -- a holder with a value in hand that it may give back, and the length of the value's list
  pub record Offers (count : ℕ) (seat : Me (Option V) (View E)) : Type 0 where
    pub value : V
    pub hand : seat.1 ≡ (0, Some value) ∷ []
    pub holds : seat.0.holds ≡ true
    pub follows : FollowsOwn caller_of seat.0 (list value)
    pub counts : count ≡ length (list value)

module _ {V E : Type 0} (caller_of : E → ℕ) where
  -- what holds of each pass at all times
  pub record IsPass (seat : Seat (Option V) (View E)) (caller : ℕ) (given : Option ℕ) (left : ℕ) : Type 0 where
    -- its view has its number and its count of the numbers given
    pub caller_is : seat.me.0.caller ≡ Some caller
    pub given_is : seat.me.0.given ≡ given
    -- there is nothing left to learn about earlier lists
    pub told : seat.me.0.earlier ≡ []
    -- it has the slot in hand exactly while it holds a turn
    pub hand : seat.me.1 ≡ slots_in_hand seat.me.0.holds None
    -- the sum of the numbers given and those left fits a `u32`
    pub room : IfSome given (λ count. count + left < 2 ^ 32)
    -- a pass that gives numbers has seen only entries of given numbers, and its own number is one of these
    pub seen_given : (count : ℕ) → given ≡ Some count → IsOfGiven caller_of count seat.me.0.seen
    pub caller_given : (count : ℕ) → given ≡ Some count → caller < count
