-- Worked runs of merges: a drop that comes between a plan and its swap, and a swap that comes too late.
use Rattle.std.proofs.Common.{◌≡◌, refl, List, [], ◌∷◌, ◌++◌, map, true, false, Some}
use Rattle.std.specs.Prelude.{codes}
use Rattle.lake_model.specs.declared.Policy.TheVariants.{Tier}
use Rattle.lake_model.specs.Texts.{Text}
use Rattle.lake_model.specs.Tables.{Column, column_with, table_with}
use Rattle.lake_model.specs.Journal.{What, Loaded, Dropped, Replaced, Swapped, Entry, entry_with, who_with}
use Rattle.lake_model.specs.Layout.{layout, shown, is_legal, may_swap}
use Rattle.lake_model.specs.Plan.{plan}
use Rattle.layout_laws.specs.Steps.{live_loads, positions_in}
use Rattle.layout_laws.specs.Weight.{weight, do_merge}

abbrev column : List Text → List Column
column keys = column_with (codes "c") keys ∷ []

abbrev load : Text → What
load name = Loaded (table_with name (column (codes "x" ∷ [])))

abbrev made : List What → List Entry
made whats = map (entry_with (who_with 1 1)) whats

-- four loads, planned together; one of them is dropped before the swap
abbrev four : List What
four = load (codes "a1") ∷ load (codes "a2") ∷ load (codes "a3") ∷ load (codes "a4") ∷ []

planned_early : plan Tier (made four) ≡ Some (1 ∷ 2 ∷ 3 ∷ 4 ∷ [], 1 ∷ 2 ∷ 3 ∷ 4 ∷ [])
planned_early = refl

abbrev dropped : List What
dropped = four ++ Dropped (codes "a2") ∷ load (codes "b") ∷ []

abbrev swapped : List What
swapped = dropped ++ Swapped (1 ∷ 2 ∷ 3 ∷ 4 ∷ []) (1 ∷ 2 ∷ 3 ∷ 4 ∷ []) ∷ []

-- the swap keeps the mark, and the later part follows
swapped_late : shown (layout (made swapped)) ≡ (7, (1, false) ∷ (2, true) ∷ (3, false) ∷ (4, false) ∷ []) ∷ (6, (6, false) ∷ []) ∷ []
swapped_late = refl

legal : is_legal (made swapped) ≡ true
legal = refl

loads : positions_in (live_loads (made swapped)) ≡ 1 ∷ 3 ∷ 4 ∷ 6 ∷ []
loads = refl

-- the same swap again is too late
too_late : may_swap (layout (made swapped)) (1 ∷ 2 ∷ 3 ∷ 4 ∷ []) (1 ∷ 2 ∷ 3 ∷ 4 ∷ []) ≡ false
too_late = refl

-- five parts and a mark became two parts and a mark
weighed : weight (layout (made dropped)) ≡ 6
weighed = refl

weighs_less : weight (layout (made swapped)) ≡ 3
weighs_less = refl

merging : do_merge (made swapped) ≡ true
merging = refl

-- a table of the plan is replaced before the swap: its old place is marked, and the new one follows
abbrev replaced : List What
replaced = four ++ Replaced (table_with (codes "a2") (column (codes "y" ∷ []))) ∷ Swapped (1 ∷ 2 ∷ 3 ∷ 4 ∷ []) (1 ∷ 2 ∷ 3 ∷ 4 ∷ []) ∷ []

replaced_late : shown (layout (made replaced)) ≡ (6, (1, false) ∷ (2, true) ∷ (3, false) ∷ (4, false) ∷ []) ∷ (5, (5, false) ∷ []) ∷ []
replaced_late = refl

replaced_loads : positions_in (live_loads (made replaced)) ≡ 1 ∷ 3 ∷ 4 ∷ 5 ∷ []
replaced_loads = refl

-- the four parts, one more, and a mark
replace_weighs : weight (layout (made (four ++ Replaced (table_with (codes "a2") (column (codes "y" ∷ []))) ∷ []))) ≡ 6
replace_weighs = refl
