-- Lists of entries, each of which belongs to one caller.
use Rattle.std.specs.Prelude.{ℕ, ◌≡◌, ◌<◌, ◌⊎◌, List, [], ◌∷◌, ◌++◌, length, nat_lt, if◌then◌else◌}

-- the number is in the list
abbrev pub Has : List ℕ → ℕ → Type 0
Has [] number = ⊥
Has (first ∷ others) number = (first ≡ number) ⊎ Has others number

module _ {E : Type 0} (caller_of : E → ℕ) where
  -- no entry belongs to any of these callers
  abbrev pub IsOfOthers : List ℕ → List E → Type 0
  IsOfOthers callers [] = Unit {0}
  IsOfOthers callers (entry ∷ entries) = (¬ (Has callers (caller_of entry))) × IsOfOthers callers entries

  -- each entry belongs to a caller whose number is below the given one
  abbrev pub IsOfGiven : ℕ → List E → Type 0
  IsOfGiven given [] = Unit {0}
  IsOfGiven given (entry ∷ entries) = (caller_of entry < given) × IsOfGiven given entries

  -- the list `after` begins with the list `before`, and the rest of it is of callers other than these
  pub record Grows (callers : List ℕ) (before after : List E) : Type 0 where
    pub rest : List E
    pub begins : before ++ rest ≡ after
    pub others : IsOfOthers callers rest

  -- the list `after` begins with the list `before`, goes on with entries of callers other than these, and ends with
  -- this entry
  pub record Adds (callers : List ℕ) (before : List E) (entry : E) (after : List E) : Type 0 where
    pub found : List E
    pub grows : Grows callers before found
    pub ends : after ≡ found ++ entry ∷ []

  -- the list `after` is the list `before`, unchanged or with one more entry, of this caller
  abbrev pub Follows : ℕ → List E → List E → Type 0
  Follows caller before after = (after ≡ before) ⊎ ((entry : E) × (caller_of entry ≡ caller) × (after ≡ before ++ entry ∷ []))

-- the longer of two lists, or the first if they have one length
abbrev pub longer : {E : Type 0} → List E → List E → List E
longer first second = if nat_lt (length first) (length second) then second else first
