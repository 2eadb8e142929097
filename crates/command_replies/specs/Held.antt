-- What is held for work that has begun.
use Rattle.std.specs.Prelude.{◌≤◌, ⊤, ℕ, List, length, take, Option, Some, None}
use Rattle.lake_model.specs.declared.Policy.{Policy}
use Rattle.lake_model.specs.Journal.{Entry}
use Rattle.command_replies.specs.declared.answering.Held.{Held}
use Rattle.command_replies.specs.declared.answering.Held.TheVariants.{At, Swap, Denied}
use Rattle.command_replies.specs.Merging.{IsPlanned}
use Rattle.command_replies.specs.Searches.{IsPinOf}

-- the position that is held
abbrev pub position_of : Held → ℕ
position_of (At version) = version.at
position_of (Swap planned) = planned.layout.at
position_of (Denied at) = at

-- What is held belongs to a beginning of the journal: a version, or what was planned for a merge of the policy.
abbrev pub IsHeldAt : List Entry → Option Policy → Held → Type 0
IsHeldAt journal None (At version) = (version.at ≤ length journal) × IsPinOf (take version.at journal) version
IsHeldAt journal None (Swap planned) = ⊥
IsHeldAt journal None (Denied at) = ⊤
IsHeldAt journal (Some policy) (At version) = ⊥
IsHeldAt journal (Some policy) (Swap planned) = IsPlanned policy journal planned
IsHeldAt journal (Some policy) (Denied at) = ⊤
