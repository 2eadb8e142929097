-- The loads and replaces of a journal are among its updates.
use Rattle.std.proofs.Common.{◌≡◌, refl, ap, ℕ, ◌≤◌, List, [], ◌∷◌, ◌++◌, Bool, cond, length, arith}
use Rattle.std.proofs.lemmas.List.{length-append}
use Rattle.std.proofs.lemmas.List.Sums.{sum_by-cons}
use Rattle.lake_model.specs.declared.Who.{Who}
use Rattle.lake_model.specs.Journal.{Entry, What, Loaded, Dropped, Replaced, Swapped, counts, entry_with, is_update, loads_of}

abbrev once : Bool → ℕ
once b = cond b 1 0

-- a load or a replace is an update
one : (who : Who) (what : What) → length (loads_of (entry_with who what ∷ [])) ≤ once (is_update what)
one who (Loaded table) = omega arith
one who (Dropped name) = omega arith
one who (Replaced table) = omega arith
one who (Swapped planned kept) = omega arith

split : (who : Who) (what : What) (journal : List Entry) → loads_of (entry_with who what ∷ journal) ≡ loads_of (entry_with who what ∷ []) ++ loads_of journal
split who (Loaded table) journal = refl
split who (Dropped name) journal = refl
split who (Replaced table) journal = refl
split who (Swapped planned kept) journal = refl

pub loads_are_updates : (journal : List Entry) → length (loads_of journal) ≤ (counts journal).updates
loads_are_updates [] = omega arith
loads_are_updates (entry ∷ journal) =
    omega (arith, one entry.who entry.what, ap length (split entry.who entry.what journal), length-append (loads_of (entry ∷ [])) (loads_of journal), sum_by-cons (λ (e : Entry). once (is_update e.what)) entry journal, loads_are_updates journal)
