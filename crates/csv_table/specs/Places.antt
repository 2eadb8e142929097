-- The states and actions of the crate's machine that bytes lead to under the crate's defaults, as the places and effects of
-- a pass that only counts fields.
use Rattle.std.specs.Prelude.{◌≡◌}
use Rattle.csv.specs.declared.parser.State.{State}
use Rattle.csv.specs.declared.parser.State.TheVariants as st
use Rattle.csv.specs.declared.parser.Action.{Action}
use Rattle.csv.specs.declared.parser.Action.TheVariants as act
use Rattle.csv_table.specs.declared.widths.Place.{Place}
use Rattle.csv_table.specs.declared.widths.Place.TheVariants as place
use Rattle.csv_table.specs.declared.widths.Effect.{Effect}
use Rattle.csv_table.specs.declared.widths.Effect.TheVariants as effect

-- the machine's state at a place
abbrev pub state_of : Place → State
state_of place.StartRecord = st.StartRecord
state_of place.StartField = st.StartField
state_of place.InField = st.InField
state_of place.InQuoted = st.InQuoted
state_of place.AfterQuote = st.AfterQuote
state_of place.AfterCr = st.AfterCr

-- what an action does to the number of fields
abbrev pub effect_of : Action → Effect
effect_of act.Skip = effect.Nothing
effect_of act.Copy = effect.Nothing
effect_of act.EndField = effect.EndField
effect_of act.EndRecord = effect.EndRecord

-- a place and an effect are those of a step of the machine
abbrev pub IsStep : Place × Effect → State × Action → Type 0
IsStep turn step = (state_of turn.0 ≡ step.0) × (turn.1 ≡ effect_of step.1)
