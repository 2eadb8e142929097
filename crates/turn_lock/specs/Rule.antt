-- The history rule of the lock's table, and what each kind of step on the table does and what a seat learns from it.
-- The table has one word and one slot. The word counts the history: it is twice its length, and one more while the lock
-- is held. The slot holds the value.
-- Each pass and each note is a seat of the table. What a seat knows is its view.
--
-- The kinds of step, where n is the length of the history before the step:
--
--   kind     the word              what else the step changes
--   look     unchanged             the seat learns of its earlier lists, which are then forgotten
--   take     2n to 2n + 1          the seat has the slot in hand, holds the lock, and has seen the whole history
--   commit   2n + 1 to 2n + 3      the history, and what the holder has seen, gets one entry of the holder's own
--   release  2n + 1 to 2n          the slot goes home, and the seat no longer holds the lock
--   note     unchanged             a new seat has seen as much, and has no caller
--   number   unchanged             a new seat has the next number and has seen as much; the opener counts it
--   join     unchanged             a seat has the longer of two lists and the callers of both; the other seat is spent
--
-- Between take and release the value goes from the slot in hand to the holder and back; this is no step on the word.
use Rattle.std.specs.Prelude.{ℕ, ◌≡◌, ◌≢◌, ◌+◌, ◌*◌, ◌<◌, Bool, true, false, List, [], ◌∷◌, ◌++◌, length, Some, None}
use Rattle.std.specs.declared.option.Option.{Option}
use mathlib.Core.Option as maybe
use lib.ListN.{get_elem?}
use Rattle.atomic_table.specs.Table.{State, Me, Step, rest}
use Rattle.turn_lock.specs.declared.view.View.{View}
use Rattle.turn_lock.specs.declared.view.Earlier.{Earlier}
use Rattle.turn_lock.specs.History.{Has, IsOfGiven, Grows, longer}

-- 1 while the lock is held
abbrev pub held_bit : Bool → ℕ
held_bit true = 1
held_bit false = 0

-- the successor of the number, if there is one
abbrev pub next_number : Option ℕ → Option ℕ
next_number None = None
next_number (Some number) = Some (number + 1)

-- the number as a list, which is empty if there is none
abbrev pub own_number : Option ℕ → List ℕ
own_number None = []
own_number (Some number) = number ∷ []

module _ {E : Type 0} where
  abbrev pub view_of : Option ℕ → List ℕ → Option ℕ → List E → List (Earlier E) → Bool → View E
  view_of caller ended given seen earlier holds = record { caller = caller; ended = ended; given = given; seen = seen; earlier = earlier; holds = holds }

  abbrev pub earlier_of : List ℕ → List E → Earlier E
  earlier_of callers seen = record { callers = callers; seen = seen }

  -- the callers of a view: its own, and those that ended into it
  abbrev pub numbers_of : View E → List ℕ
  numbers_of v = own_number v.caller ++ v.ended

  -- the view of the pass that comes with the lock
  abbrev pub opening_view : View E
  opening_view = view_of (Some 0) [] (Some 1) [] [] false

  -- the view of a spent seat: it knows nothing
  abbrev pub spent_view : View E
  spent_view = view_of None [] None [] [] false

  -- the view of a note of what this view has seen
  abbrev pub note_view : View E → View E
  note_view v = view_of None [] None v.seen [] false

  -- the view after it gave the next number
  abbrev pub giving_view : View E → View E
  giving_view v = view_of v.caller v.ended (next_number v.given) v.seen v.earlier v.holds

  -- the view of the new pass that has this number
  abbrev pub numbered_view : View E → View E
  numbered_view v = view_of v.given [] None v.seen [] false

  -- the view after it took in another one, whose callers it has from then on. Both lists from before are kept, each
  -- with the callers of its view
  abbrev pub joined_view : View E → View E → View E
  joined_view v w = view_of v.caller (numbers_of w ++ v.ended) v.given (longer v.seen w.seen) (earlier_of (numbers_of v) v.seen ∷ earlier_of (numbers_of w) w.seen ∷ []) v.holds

  -- the view when nothing is left to learn about earlier lists
  abbrev pub settled_view : View E → View E
  settled_view v = view_of v.caller v.ended v.given v.seen [] v.holds

  -- the view of the holder, which has seen these entries
  abbrev pub holding_view : View E → List E → View E
  holding_view v seen = view_of v.caller v.ended v.given seen [] true

  -- the view after its hold has ended
  abbrev pub free_view : View E → View E
  free_view v = view_of v.caller v.ended v.given v.seen [] false

-- What the rule assumes beside the table. It is stored nowhere.
pub record Account (E : Type 0) : Type 0 where
  -- the history: the list of the value whenever it is in the slot
  pub history : List E
  -- how many caller numbers were given, from 0 on
  pub given : ℕ
  -- the seat that gives them
  pub opener : ℕ
  -- the seat that has each number, as its own or as that of a caller that ended into it
  pub owner : ℕ → ℕ
  -- whether the lock is held
  pub held : Bool
  -- the seat that then holds it
  pub holder : ℕ

module _ {E : Type 0} (caller_of : E → ℕ) where
  -- each earlier list begins the list `seen`, and the rest of that list is of callers other than those of the earlier
  -- view
  abbrev pub EarlierGrow : List E → List (Earlier E) → Type 0
  EarlierGrow seen [] = Unit {0}
  EarlierGrow seen (first ∷ others) = Grows caller_of first.callers first.seen seen × EarlierGrow seen others

  -- what the rule says of a seat's view
  pub record Fits (account : Account E) (seat : ℕ) (v : View E) : Type 0 where
    -- the list seen begins the history, in which what follows is of other callers
    pub seen_begins : Grows caller_of (numbers_of v) v.seen account.history
    -- each list kept at a join begins the list seen, in which what follows is of callers other than those kept with it
    pub earlier_begin : EarlierGrow v.seen v.earlier
    -- each number of the view was given, and belongs to this seat alone
    pub owns : (number : ℕ) → Has (numbers_of v) number → (number < account.given) × (account.owner number ≡ seat)
    -- a view that holds is the holder's, the lock is then held, and the view has seen the whole history
    pub holds : v.holds ≡ true → (account.held ≡ true) × (account.holder ≡ seat) × (v.seen ≡ account.history)
    -- a view that has a count of numbers given is the opener's, and the count is right
    pub gives : (count : ℕ) → v.given ≡ Some count → (count ≡ account.given) × (account.opener ≡ seat)

  -- what a look shows of a view: that its earlier lists begin what it has seen, and that a view that gives numbers has
  -- seen only given ones
  pub record IsTold (v : View E) : Type 0 where
    pub earlier : EarlierGrow v.seen v.earlier
    pub given : (count : ℕ) → v.given ≡ Some count → IsOfGiven caller_of count v.seen

-- some seat has a view with this property
abbrev pub SomeSeat : {W : Type 0} → (ℕ → W → Type 0) → List W → Type 0
SomeSeat {W} P views = (seat : ℕ) × (v : W) × (get_elem? views seat ≡ maybe.some v) × P seat v

module _ {E : Type 0} (account : Account E) where
  abbrev pub SeesAll : ℕ → View E → Type 0
  SeesAll seat v = v.seen ≡ account.history

  abbrev pub IsHolder : ℕ → View E → Type 0
  IsHolder seat v = (account.holder ≡ seat) × (v.holds ≡ true)

  abbrev pub IsOpener : ℕ → View E → Type 0
  IsOpener seat v = (account.opener ≡ seat) × (v.given ≡ Some account.given)

  abbrev pub IsOwner : ℕ → ℕ → View E → Type 0
  IsOwner number seat v = (account.owner number ≡ seat) × Has (numbers_of v) number

module _ {V E : Type 0} (list : V → List E) where
  -- what is in the slot: nothing while the lock is held, and otherwise a value whose list is the history
  abbrev pub HasHome : Bool → List E → List (maybe.Option (Option V)) → Type 0
  HasHome true history homes = homes ≡ maybe.none ∷ []
  HasHome false history homes = (value : V) × (homes ≡ maybe.some (Some value) ∷ []) × (list value ≡ history)

module _ {V E : Type 0} (list : V → List E) (caller_of : E → ℕ) where
  -- The history rule. It holds of the table between any two steps.
  pub record HistoryRule (s : State (Option V) (View E)) : Type 0 where
    -- There are a history, a count of numbers given, a seat that gives them, an owner of each, and whether the lock is
    -- held and by whom, such that:
    pub account : Account E
    -- the word is twice the length of the history, and one more while the lock is held;
    pub word_counts : s.words ≡ (2 * length account.history + held_bit account.held) ∷ []
    -- the slot is at home exactly while the lock is not held, and the value in it then has the history as its list;
    pub value_is_home : HasHome list account.held account.history s.homes
    -- no entry has a number that was not given;
    pub numbers_given : IsOfGiven caller_of account.given account.history
    -- the history is the longest list that was seen;
    pub longest_seen : SomeSeat (SeesAll account) s.views
    -- while the lock is held, one seat holds it;
    pub one_holds : account.held ≡ true → SomeSeat (IsHolder account) s.views
    -- one seat has the count of the numbers given;
    pub one_gives : SomeSeat (IsOpener account) s.views
    -- each given number belongs to one seat;
    pub one_owns : (number : ℕ) → number < account.given → SomeSeat (IsOwner account number) s.views
    -- and each view fits.
    pub each_fits : (seat : ℕ) (v : View E) → get_elem? s.views seat ≡ maybe.some v → Fits caller_of account seat v

  -- a seat: its view, and the slots that it has in hand
  abbrev pub Seated : Type 0
  Seated = Me (Option V) (View E)

  -- A look: the word is unchanged, and so is the view, except that its earlier lists are reported once and then
  -- dropped. The word found by the holder counts what the holder has seen.
  pub record Looks (before : Seated) (found : ℕ) (after : Seated) : Type 0 where
    pub settles : after ≡ (settled_view before.0, before.1)
    pub told : IsTold caller_of before.0
    pub counts : before.0.holds ≡ true → found ≡ 2 * length before.0.seen + 1

  abbrev pub Peeks : Step (Option V) → Seated → ℕ → Seated → Type 0
  Peeks s before found after = Looks before found after

  -- The lock was won: the word went from even to odd, and the seat has the slot in hand. It has seen the value's whole
  -- list, which begins with what it had seen before and goes on with other callers' entries.
  pub record Wins (before after : Seated) : Type 0 where
    pub value : V
    pub holds : after ≡ (holding_view before.0 (list value), (0, Some value) ∷ before.1)
    pub grows : Grows caller_of (numbers_of before.0) before.0.seen (list value)
    pub given : (count : ℕ) → before.0.given ≡ Some count → IsOfGiven caller_of count (list value)

  -- a compare-exchange that takes the lock if the word is the expected one, and otherwise is a look
  abbrev pub Takes : Step (Option V) → Seated → ℕ → Seated → Type 0
  Takes s before found after = (found ≡ s.first → Wins before after) × (found ≢ s.first → after ≡ (settled_view before.0, before.1))

  -- the holder's commit: the word grows by 2, and the history is the list of the value in hand, which has one more
  -- entry, of the holder's own
  abbrev pub Commits : Step (Option V) → Seated → ℕ → Seated → Type 0
  Commits s before stored after = (value : V) → before.1 ≡ (0, Some value) ∷ [] → after ≡ (holding_view before.0 (list value), before.1)

  -- the holder's release: the word goes from odd to even, and the slot goes home
  abbrev pub Releases : Step (Option V) → Seated → ℕ → Seated → Type 0
  Releases s before stored after = after ≡ (free_view before.0, rest before.1)
