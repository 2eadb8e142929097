-- The status of a run whose words are refused, whose gatherer gives no batch, or whose text was not written in full.
use Rattle.std.specs.Prelude.{ℕ, Bool, true, false, List, Option}
use Rattle.std.specs.Io.KnownBytes.{Appends}
use Rattle.record_model.specs.Statuses.{IsPrefix}
use Rattle.record_model.specs.declared.Status.{Status}
use Rattle.record_model.specs.declared.Status.TheVariants as status
use Rattle.script_text.specs.declared.refused.ScriptEnd.{ScriptEnd}
use Rattle.script_text.specs.declared.refused.ScriptEnd.TheVariants as end
use Rattle.command_line.specs.declared.words.WordsRefused.{WordsRefused}
use Rattle.command_line.specs.declared.words.WordsRefused.TheVariants as words
use Rattle.josie_top.specs.declared.writing.WriteStop.{WriteStop}
use Rattle.josie_top.specs.declared.writing.WriteStop.TheVariants as stop

abbrev pub status_of_end : ScriptEnd → Status
status_of_end (end.Script line reason) = status.Script line reason
status_of_end end.ReadFault = status.ReadFault
status_of_end end.NoMemory = status.NoMemory

abbrev pub status_of_stop : WriteStop → Status
status_of_stop stop.Failed = status.WriteFault
status_of_stop stop.NoMemory = status.NoMemory

abbrev pub status_of_refused : WordsRefused → Status
status_of_refused words.Usage = status.Usage
status_of_refused words.NoMemory = status.NoMemory

-- what was written of a text, by the status
abbrev pub IsWritten : Status → Option (List ℕ) → Option (List ℕ) → List ℕ → Type 0
IsWritten status.Done before now text = Appends before now text
IsWritten (status.Script line reason) before now text = ⊥
IsWritten status.Usage before now text = ⊥
IsWritten (status.Given path why) before now text = ⊥
IsWritten status.ReadFault before now text = ⊥
IsWritten status.WriteFault before now text = (part : List ℕ) × IsPrefix part text × Appends before now part
IsWritten status.Refuted before now text = ⊥
IsWritten status.NoMemory before now text = (part : List ℕ) × IsPrefix part text × Appends before now part

-- whether the script was read to its end and answered
abbrev pub is_done : Status → Bool
is_done status.Done = true
is_done (status.Script line reason) = false
is_done status.Usage = false
is_done (status.Given path why) = false
is_done status.ReadFault = false
is_done status.WriteFault = false
is_done status.Refuted = false
is_done status.NoMemory = false
