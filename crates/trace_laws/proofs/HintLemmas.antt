-- A right reply is the one that is made again at the positions of its hint, and what is made again there is right.
use Rattle.std.proofs.Common.{◌≡◌, refl, ap, ◌∙◌, ℕ, ◌≤◌, inl, inr, List, [], ◌∷◌, Bool, true, false, arith, ◌<◌, ◌++◌, length}
use Rattle.std.proofs.lemmas.Bool.Decides.{nat_tests}
use Rattle.std.specs.Prelude.{◌&&◌, nat_lt, nat_le}
use Rattle.std.proofs.lemmas.Bool.{and_parts}
use Rattle.record_model.specs.Rules.{Rules}
use Rattle.lake_model.specs.Journal.{Entry}
use Rattle.script_model.specs.Commands.{Command}
use Rattle.record_model.specs.Replies.{Reply, Loaded, Dropped, Replaced, NoMemory}
use Rattle.record_model.specs.Answered.{Standing, Nowhere, Saw, Added, PlannedAndSaw, PlannedAndAdded, standing}
use Rattle.record_model.specs.Right.{answer_by, IsPlaced, IsUnplaced, Moment, MomentsRise, IsBehind}
use Rattle.trace_laws.specs.Hints.{hint_of, reply_by}
use Rattle.trace_laws.specs.Checks.{is_behind, rises, PositionsDecide}
use Rattle.record_model.proofs.RightLemmas.{IsWithin, answer_stays}

-- ---- what is right is what is made again

-- a right reply with this standing
placed_is : (rules : Rules) (journal : List Entry) (command : Command) (reply : Reply) (s : Standing) → (reply ≡ NoMemory → ⊥)
    → IsPlaced rules journal command reply s → IsUnplaced rules command reply s → reply ≡ answer_by rules journal command s
placed_is rules journal command reply Nowhere some placed (inl none) = absurd (some none)
placed_is rules journal command reply Nowhere some placed (inr is) = is
placed_is rules journal command reply (Saw at) some placed unplaced = placed
placed_is rules journal command reply (Added at) some placed unplaced = placed
placed_is rules journal command reply (PlannedAndSaw pinned at) some placed unplaced = placed
placed_is rules journal command reply (PlannedAndAdded pinned at) some placed unplaced = placed

pub right_is : (rules : Rules) (journal : List Entry) (command : Command) (reply : Reply)
    → IsPlaced rules journal command reply (standing reply) → IsUnplaced rules command reply (standing reply) → reply ≡ reply_by rules journal command (hint_of reply)
right_is rules journal command NoMemory p u = refl
right_is rules journal command (Loaded name columns members at) p u = placed_is rules journal command (Loaded name columns members at) (Added at) (λ e. cc) p u
right_is rules journal command (Dropped name at) p u = placed_is rules journal command (Dropped name at) (Added at) (λ e. cc) p u
right_is rules journal command (Replaced name columns members at) p u = placed_is rules journal command (Replaced name columns members at) (Added at) (λ e. cc) p u
right_is rules journal command reply p u = placed_is rules journal command reply (standing reply) (λ e. cc) p u

-- ---- positions

le_true : (a b : ℕ) → nat_le a b ≡ true → a ≤ b
le_true a b h = grind (arith, nat_tests, h)

true_le : (a b : ℕ) → a ≤ b → nat_le a b ≡ true
true_le a b h = grind (arith, nat_tests, h)

pub lt_true : (a b : ℕ) → nat_lt a b ≡ true → a < b
lt_true a b h = grind (arith, nat_tests, h)

true_lt : (a b : ℕ) → a < b → nat_lt a b ≡ true
true_lt a b h = grind (arith, nat_tests, h)

behind_is : (own : Bool) (low at : ℕ) → is_behind own low at ≡ true → IsBehind own low at
behind_is true low at h = lt_true low at h
behind_is false low at h = le_true low at h

is_so_behind : (own : Bool) (low at : ℕ) → IsBehind own low at → is_behind own low at ≡ true
is_so_behind true low at h = true_lt low at h
is_so_behind false low at h = true_le low at h

pub rises_is : (low : ℕ) (ms : List Moment) (high : ℕ) → rises low ms high ≡ true → MomentsRise low ms high
rises_is low [] high h = le_true low high h
rises_is low (m ∷ ms) high h = let k = and_parts (is_behind m.own low m.at) (rises m.at ms high) h in (behind_is m.own low m.at k.0, rises_is m.at ms high k.1)

pub is_so_rising : (low : ℕ) (ms : List Moment) (high : ℕ) → MomentsRise low ms high → rises low ms high ≡ true
is_so_rising low [] high h = true_le low high h
is_so_rising low (m ∷ ms) high h = ap (λ b. b && rises m.at ms high) (is_so_behind m.own low m.at h.0) ∙ is_so_rising m.at ms high h.1

pub positions_decide : PositionsDecide
positions_decide low ms high = (rises_is low ms high, is_so_rising low ms high)

-- ---- what is made again is right

made_right : (rules : Rules) (journal more : List Entry) (command : Command) (reply : Reply) (s : Standing) → IsWithin (length journal) s → reply ≡ answer_by rules (journal ++ more) command s
    → IsPlaced rules journal command reply s × IsUnplaced rules command reply s
made_right rules journal more command reply Nowhere h is = (tt, inr is)
made_right rules journal more command reply (Saw at) h is = (is ∙ answer_stays rules journal more command (Saw at) h, tt)
made_right rules journal more command reply (Added at) h is = (is ∙ answer_stays rules journal more command (Added at) h, tt)
made_right rules journal more command reply (PlannedAndSaw pinned at) h is = (is ∙ answer_stays rules journal more command (PlannedAndSaw pinned at) h, tt)
made_right rules journal more command reply (PlannedAndAdded pinned at) h is = (is ∙ answer_stays rules journal more command (PlannedAndAdded pinned at) h, tt)

pub again_right : (rules : Rules) (journal more : List Entry) (command : Command) (reply : Reply) → IsWithin (length journal) (standing reply) → reply ≡ reply_by rules (journal ++ more) command (hint_of reply)
    → IsPlaced rules journal command reply (standing reply) × IsUnplaced rules command reply (standing reply)
again_right rules journal more command NoMemory h is = (tt, inl refl)
again_right rules journal more command reply h is = made_right rules journal more command reply (standing reply) h is
