-- The table of statuses of the runs that make a lake: what holds after a run of each status, of the bytes that the sink
-- took and of the record.
use Rattle.std.specs.Prelude.{ℕ, ◌≡◌, ◌⊎◌, true, List, [], ◌∷◌}
use Rattle.record_model.specs.Rules.{Rules}
use Rattle.record_model.specs.declared.Status.{Status}
use Rattle.record_model.specs.declared.Status.TheVariants.{Done, Script, Usage, Given, ReadFault, WriteFault, Refuted, NoMemory}
use Rattle.record_model.specs.Record.{RunRecord}
use Rattle.record_model.specs.Statuses.{IsPrefix, IsRecordOf, NothingDone}
use Rattle.option_model.specs.Generator.{made_batch, made_options, summary}

-- The lake of this seed was made: the record is that of its commands.
pub record IsLakeMade (rules : Rules) (seed tables rows : ℕ) (made : RunRecord) : Type 0 where
  pub ended : made.ended ≡ true
  pub record_of : IsRecordOf rules made_options (made_batch seed tables rows ∷ []) made

-- the row of a status: the summary was written, or its first bytes
abbrev pub MakeRow : Rules → ℕ → ℕ → ℕ → Status → List ℕ → RunRecord → Type 0
MakeRow rules seed tables rows Done taken made = IsLakeMade rules seed tables rows made × (taken ≡ summary made)
MakeRow rules seed tables rows (Script line reason) taken made = ⊥
MakeRow rules seed tables rows Usage taken made = ⊥
MakeRow rules seed tables rows (Given path why) taken made = ⊥
MakeRow rules seed tables rows ReadFault taken made = ⊥
MakeRow rules seed tables rows WriteFault taken made = IsLakeMade rules seed tables rows made × IsPrefix taken (summary made)
MakeRow rules seed tables rows Refuted taken made = ⊥
MakeRow rules seed tables rows NoMemory taken made = NothingDone taken made ⊎ (IsLakeMade rules seed tables rows made × IsPrefix taken (summary made))
