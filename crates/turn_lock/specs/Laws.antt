-- Laws of histories, as the facts that the contracts of `laws` state.
use Rattle.std.specs.Prelude.{ℕ, ◌≡◌, ◌≤◌, ◌==◌, List, [], ◌∷◌, ◌++◌, length, filter}
use mathlib.Core.List.{IsPrefix}
use Rattle.turn_lock.specs.History.{Has, Grows, Adds}

module _ {E : Type 0} (caller_of : E → ℕ) where
  -- a list that stayed the same has grown
  abbrev pub GrowthIsReflexive : Type 0
  GrowthIsReflexive = (callers : List ℕ) (list : List E) → Grows caller_of callers list list

  -- what has grown twice has grown
  abbrev pub GrowthIsTransitive : Type 0
  GrowthIsTransitive = (callers : List ℕ) (first second third : List E) → Grows caller_of callers first second → Grows caller_of callers second third → Grows caller_of callers first third

  -- what has grown for some callers has grown for fewer of them
  abbrev pub GrowthIsOfFewerCallers : Type 0
  GrowthIsOfFewerCallers = (callers fewer : List ℕ) (before after : List E) → ((number : ℕ) → Has fewer number → Has callers number) → Grows caller_of callers before after → Grows caller_of fewer before after

  -- what has grown begins with what it was before
  abbrev pub GrowthIsABeginning : Type 0
  GrowthIsABeginning = (callers : List ℕ) (before after : List E) → Grows caller_of callers before after → IsPrefix before after

  -- an entry of another caller is growth
  abbrev pub GrowthByAnEntry : Type 0
  GrowthByAnEntry = (callers : List ℕ) (before after : List E) (entry : E) → ¬ (Has callers (caller_of entry)) → Grows caller_of callers before after → Grows caller_of callers before (after ++ entry ∷ [])

  -- of two beginnings of one list, the longer one grows from the shorter one as the whole list does
  abbrev pub GrowthBetweenBeginnings : Type 0
  GrowthBetweenBeginnings = (callers : List ℕ) (shorter longer whole : List E) → Grows caller_of callers shorter whole → IsPrefix longer whole → length shorter ≤ length longer → Grows caller_of callers shorter longer

  -- after growth, the entries of each of the callers are those from before, in their order
  abbrev pub GrowthKeepsEntries : Type 0
  GrowthKeepsEntries = (callers : List ℕ) (before after : List E) (number : ℕ) → Has callers number → Grows caller_of callers before after
      → filter (λ entry. caller_of entry == number) after ≡ filter (λ entry. caller_of entry == number) before

  -- after an addition, they are those from before, and then the added entry if it is that caller's
  abbrev pub AdditionKeepsEntries : Type 0
  AdditionKeepsEntries = (callers : List ℕ) (before after : List E) (entry : E) (number : ℕ) → Has callers number → Adds caller_of callers before entry after
      → filter (λ e. caller_of e == number) after ≡ filter (λ e. caller_of e == number) (before ++ entry ∷ [])
