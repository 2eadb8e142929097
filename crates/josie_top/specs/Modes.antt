-- What holds after a run of each mode.
use Rattle.std.specs.Prelude.{◌≡◌, ◌⊎◌, ⊤, Option, Some, None}
use Rattle.lake_io.specs.Causes.{Rose}
use Rattle.lake_model.specs.declared.Keys.TheVariants.{Canonical}
use Rattle.record_model.specs.declared.Status.{Status}
use Rattle.record_model.specs.declared.Status.TheVariants.{Done, NoMemory}
use Rattle.record_model.specs.Record.{RunRecord}
use Rattle.record_model.specs.Rules.{standard_rules}
use Rattle.record_model.specs.Statuses.{IsStated}
use Rattle.option_model.specs.Plain.{Mode, Run, Make, Watch, Check}
use Rattle.josie_top.specs.Checking.{Checks, EndsInVerdict}
use Rattle.josie_top.specs.Meets.{EndsWell, Makes, Meets}
use Rattle.josie_top.specs.Watching.{EndsQuietly, Watches}
use Rattle.josie_top.specs.World.{World}

-- what holds after a run of this mode
abbrev pub MeetsMode : Mode → Status → World → World → RunRecord → Type 0
MeetsMode (Run options) status before now made = Meets (standard_rules options.keys) options status before now made
MeetsMode (Make seed tables rows) status before now made = Makes (standard_rules Canonical) seed tables rows status before now made
MeetsMode (Watch k paths) status before now made = Watches k paths status before now made
MeetsMode (Check trace options) status before now made = Checks trace options status before now made

-- this mode is the one that the words state, if they state any
abbrev pub IsSaid : Option Mode → Mode → Type 0
IsSaid None mode = ⊤
IsSaid (Some said) mode = mode ≡ said

-- how a run of this mode ends if nothing fails: the content of a script has to be known, a lake that is made depends on
-- the sink alone, and queries that are watched or a trace that is checked may be at fault themselves
abbrev pub EndsModeWell : Mode → Status → World → World → Type 0
EndsModeWell (Run options) status before now = EndsWell options status before now
EndsModeWell (Make seed tables rows) status before now = (Rose before.write_faults now.write_faults → ⊥) → (status ≡ Done) ⊎ (status ≡ NoMemory)
EndsModeWell (Watch k paths) status before now = (Rose before.read_faults now.read_faults → ⊥) → (Rose before.write_faults now.write_faults → ⊥)
    → (Rose before.fetch_faults now.fetch_faults → ⊥) → EndsQuietly status
EndsModeWell (Check trace options) status before now = (Rose before.read_faults now.read_faults → ⊥) → (Rose before.write_faults now.write_faults → ⊥)
    → (Rose before.fetch_faults now.fetch_faults → ⊥) → EndsInVerdict status

-- a lake is made
abbrev pub IsMaking : Mode → Type 0
IsMaking (Run options) = ⊥
IsMaking (Make seed tables rows) = ⊤
IsMaking (Watch k paths) = ⊥
IsMaking (Check trace options) = ⊥

-- a script is run in a stated order, or a lake is made, or queries are watched, or a trace is checked
abbrev pub IsOrdered : Mode → Type 0
IsOrdered (Run options) = IsStated options
IsOrdered (Make seed tables rows) = ⊤
IsOrdered (Watch k paths) = ⊤
IsOrdered (Check trace options) = ⊤
