-- Merges: what was planned at a pin, and the reply to its swap and what the swap adds.
use Rattle.std.specs.Prelude.{◌≡◌, ◌≤◌, ℕ, ◌+◌, ⊤, not, List, [], ◌∷◌, length, take, find, if◌then◌else◌, Option, Some, None, option_map}
use Rattle.lake_model.specs.declared.Policy.{Policy}
use Rattle.lake_model.specs.Journal.{Entry, What, Swapped}
use Rattle.lake_model.specs.Layout.{Shown, layout, shown_layout}
use Rattle.segment_core.specs.Plans.{MergedOf, merged_with, PlanOf}
use Rattle.segment_core.specs.Versions.{version_with}
use Rattle.segment_merge.specs.Planned.{load_positions, load_tables, plan_at}
use Rattle.catalogue.specs.Swaps.{IsMergeOf, is_there, numbers_in}
use Rattle.record_model.specs.Answered.{is_accepted, standing}
use Rattle.record_model.specs.Replies.{Reply, Merged, NothingToMerge, Stale}
use Rattle.command_replies.specs.declared.merging.Planned.{Planned}

-- the result of merging by a plan
abbrev pub merge_of : PlanOf → MergedOf
merge_of plan = merged_with plan.from (load_positions plan.kept) (load_tables plan.kept) plan.at

-- the result of the plan at a journal
abbrev pub planned_at : Policy → List Entry → Option MergedOf
planned_at policy journal = option_map merge_of (plan_at policy (version_with (length journal) (layout journal)))

-- the merge was made at a beginning of the journal
abbrev pub CanSwap : List Entry → Option MergedOf → Type 0
CanSwap journal None = ⊤
CanSwap journal (Some merged) = (merged.at ≤ length journal) × IsMergeOf (layout (take merged.at journal)) merged

-- The merge was planned, and its result built, at a beginning of the journal.
pub record IsPlanned (policy : Policy) (journal : List Entry) (planned : Planned) : Type 0 where
  pub before : planned.layout.at ≤ length journal
  pub shows : planned.layout ≡ shown_layout (take planned.layout.at journal)
  pub plans : planned.merged ≡ planned_at policy (take planned.layout.at journal)
  pub swaps : CanSwap journal planned.merged

-- the reply to a swap, where the given one of the planned parts, if any, is missing
abbrev pub unless_gone : Shown → MergedOf → ℕ → Option (ℕ × List ℕ) → Reply
unless_gone shown merged at None = Merged shown (length merged.from) (length merged.kept) (at + 1)
unless_gone shown merged at (Some part) = Stale shown part.0 at

-- the reply to the swap of what was planned in a layout
abbrev pub swap_reply : Shown → Option MergedOf → List Entry → Reply
swap_reply shown None journal = NothingToMerge shown
swap_reply shown (Some merged) journal = unless_gone shown merged (length journal) (find (λ part. not (is_there (layout journal) part)) merged.from)

abbrev pub swap_of : Option MergedOf → List What
swap_of None = []
swap_of (Some merged) = Swapped (numbers_in merged.from) merged.kept ∷ []

-- what a swap adds, if its reply accepts it
abbrev pub swapped_by : Option MergedOf → Reply → List What
swapped_by merged reply = if is_accepted (standing reply) then swap_of merged else []
