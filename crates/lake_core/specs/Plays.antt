-- A play in the code, and where a stated order of turns leads it.
use Rattle.std.specs.Prelude.{◌≡◌, ◌≤◌, ℕ, Bool, List, length}
use mathlib.Core.List.{IsPrefix}
use Rattle.lake_model.specs.declared.Keys.{Keys}
use Rattle.lake_model.specs.Journal.{Entry}
use Rattle.catalogue.specs.Kept.{CatalogueOf, IsWithin}
use Rattle.run_record.specs.Rooms.{RecordOf}
use Rattle.record_model.specs.Rules.{Rules, rules_with, wide_limits}
use Rattle.record_model.specs.Play.{Play, play}
use Rattle.lake_core.specs.Lanes.{LaneOf, AreHeld, left, play_of}

-- the lake, what the timeline took of its journal, the lanes, and the record that is made
pub record StateOf : Type 0 where
  pub catalogue : CatalogueOf
  pub past : List Entry
  pub lanes : List LaneOf
  pub out : RecordOf

abbrev pub state_with : CatalogueOf → List Entry → List LaneOf → RecordOf → StateOf
state_with catalogue past lanes out = record { catalogue = catalogue; past = past; lanes = lanes; out = out }

abbrev pub play_at : StateOf → Play
play_at state = play_of state.catalogue.journal state.lanes

-- The record has the journal of the lake, what is held and what the timeline took belong to that journal, there is room
-- for an entry of each command that is left, and the limits are at most those of a lake in the program.
pub record IsReady (state : StateOf) : Type 0 where
  pub journal : state.out.made.journal ≡ state.catalogue.journal
  pub held : AreHeld state.catalogue.journal state.lanes
  pub entries : left state.lanes ≤ state.out.entries_room
  pub limits : IsWithin wide_limits state.catalogue.limits
  pub past : IsPrefix state.past state.catalogue.journal

-- the turns of this order lead from one play to another, and memory runs out at some of them or at none
abbrev pub Leads : Rules → List ℕ → Play → Play → Type 0
Leads rules order before after = (denials : List Bool) × (length denials ≡ length order) × (after ≡ play rules order denials before)

-- The turns of this order lead from one state to another. Of the record only the journal changes.
pub record Goes (keys : Keys) (order : List ℕ) (before after : StateOf) : Type 0 where
  pub leads : Leads (rules_with keys before.catalogue.limits) order (play_at before) (play_at after)
  pub held : AreHeld after.catalogue.journal after.lanes
  pub entries : left after.lanes ≤ after.out.entries_room
  pub made : after.out.made ≡ record before.out.made { journal = after.catalogue.journal }
  pub limits : after.catalogue.limits ≡ before.catalogue.limits
  pub within : IsWithin wide_limits after.catalogue.limits
  pub past : IsPrefix after.past after.catalogue.journal
  pub answers_room : after.out.answers_room ≡ before.out.answers_room
  pub syncs_room : after.out.syncs_room ≡ before.out.syncs_room
