-- The laws of layouts.
use Rattle.std.specs.Prelude.{◌≡◌, ◌<◌, ◌≤◌, ◌*◌, ℕ, true, not, ◌∷◌, List, [], ◌++◌, length, map, find, Option, Some, None}
use Rattle.std.specs.List.{AllByRecursion, list_all}
use Rattle.lake_model.specs.declared.Who.{Who}
use Rattle.lake_model.specs.declared.Policy.{Policy}
use Rattle.lake_model.specs.Texts.{Text}
use Rattle.lake_model.specs.Answer.{answer}
use Rattle.lake_model.specs.Journal.{Swapped, Entry, entry_with, live, counts}
use Rattle.lake_model.specs.Layout.{Part, layout, positions_of, unmarked_of, run_of, is_legal, is_among, may_swap}
use Rattle.lake_model.specs.Plan.{plan, planned_parts}
use Rattle.list_laws.specs.Distinct.{AreDistinct, Rises}
use Rattle.layout_laws.specs.Steps.{numbers_of, live_loads, IsSamePart, AreParts, has_part}
use Rattle.layout_laws.specs.Weight.{weight, swaps, does_merge, do_merge}

-- A swap changes neither the live tables nor the counts.
abbrev pub PassesOverSwaps : Type 0
PassesOverSwaps = (journal : List Entry) (who : Who) (planned kept : List ℕ)
    → (live (journal ++ entry_with who (Swapped planned kept) ∷ []) ≡ live journal) × (counts (journal ++ entry_with who (Swapped planned kept) ∷ []) ≡ counts journal)

-- So no answer changes.
abbrev pub AnswersStay : Type 0
AnswersStay = (journal : List Entry) (who : Who) (planned kept : List ℕ) (query : List Text) (k : ℕ) (except : Option Text)
    → answer (live (journal ++ entry_with who (Swapped planned kept) ∷ [])) query k except ≡ answer (live journal) query k except

-- What holds of the layout of a legal journal: its unmarked places are those of the live tables, each once, in the
-- order of their entries; its positions rise, and its parts have distinct numbers, all within the journal; and no part
-- is empty.
pub record IsLaidOut (journal : List Entry) : Type 0 where
  pub unmarked : unmarked_of (layout journal) ≡ live_loads journal
  pub tables : map (λ place. place.table) (live_loads journal) ≡ live journal
  pub names : AreDistinct (map (λ table. table.name) (live journal))
  pub rising : Rises (positions_of (layout journal))
  pub past : AllByRecursion (λ n. n ≤ length journal) (positions_of (layout journal))
  pub numbers : AreDistinct (numbers_of (layout journal))
  pub made : AllByRecursion (λ n. n ≤ length journal) (numbers_of (layout journal))
  pub filled : AllByRecursion (λ part. 0 < length part.places) (layout journal)

-- It holds after each entry of a legal journal.
abbrev pub LegalIsLaidOut : Type 0
LegalIsLaidOut = (journal behind : List Entry) → is_legal (journal ++ behind) ≡ true → IsLaidOut journal

-- A part of a later layout that has the number of an earlier part is that part: only marks were added.
abbrev pub NumbersFix : Type 0
NumbersFix = (journal behind : List Entry) → AllByRecursion (λ part. AllByRecursion (λ now. now.number ≡ part.number → IsSamePart part now) (layout (journal ++ behind))) (layout journal)

-- A swap that may follow a journal may follow a longer one, as long as the layout of that one has parts of the planned
-- numbers: these are still adjacent, only marks were added to them, and the swap merges exactly if it did before.
abbrev pub SwapsStay : Type 0
SwapsStay = (journal behind : List Entry) (planned kept : List ℕ) → may_swap (layout journal) planned kept ≡ true
    → list_all (is_among (numbers_of (layout (journal ++ behind)))) planned ≡ true
    → (may_swap (layout (journal ++ behind)) planned kept ≡ true) × AreParts (run_of planned (layout journal)) (run_of planned (layout (journal ++ behind)))
    × (does_merge (layout (journal ++ behind)) planned kept ≡ does_merge (layout journal) planned kept)

-- What is planned may be swapped, and this swap merges.
abbrev pub PlansMaySwap : Type 0
PlansMaySwap = (policy : Policy) (journal : List Entry) (planned kept : List ℕ) → is_legal journal ≡ true → plan policy journal ≡ Some (planned, kept)
    → (may_swap (layout journal) planned kept ≡ true) × (does_merge (layout journal) planned kept ≡ true)

-- It may also be swapped after a longer legal journal, if no planned part is missing.
abbrev pub PlansStay : Type 0
PlansStay = (policy : Policy) (journal behind : List Entry) (part : Part) (parts : List Part) → is_legal (journal ++ behind) ≡ true
    → planned_parts policy (layout journal) ≡ part ∷ parts → find (λ planned. not (has_part (layout (journal ++ behind)) planned)) (part ∷ parts) ≡ None
    → may_swap (layout (journal ++ behind)) (map (λ q. q.number) (part ∷ parts)) (map (λ place. place.position) (unmarked_of (part ∷ parts))) ≡ true

-- A swap that merges lowers the number of parts and marks.
abbrev pub SwapsLower : Type 0
SwapsLower = (journal : List Entry) (who : Who) (planned kept : List ℕ) → may_swap (layout journal) planned kept ≡ true → does_merge (layout journal) planned kept ≡ true
    → weight (layout (journal ++ entry_with who (Swapped planned kept) ∷ [])) < weight (layout journal)

-- If each swap merges, there are at most twice as many swaps as loads, drops and replaces: a replace adds a part and a
-- mark.
abbrev pub SwapsAreFew : Type 0
SwapsAreFew = (journal : List Entry) → is_legal journal ≡ true → do_merge journal ≡ true → swaps journal ≤ 2 * (counts journal).updates
