-- The reply to a load, and what it adds to a record.
use Rattle.std.specs.Prelude.{◌≡◌, ◌≤◌, ◌+◌, ◌⊎◌, List, [], ◌∷◌, ◌++◌, map, if◌then◌else◌}
use Rattle.lake_model.specs.declared.Who.{Who}
use Rattle.lake_model.specs.Texts.{Text}
use Rattle.lake_model.specs.Tables.{Table}
use Rattle.lake_model.specs.Journal.{What, entry_with}
use Rattle.lake_model.specs.Journal as journal
use Rattle.catalogue.specs.Kept.{CatalogueOf}
use Rattle.catalogue.specs.declared.refusal.LoadRefused.{LoadRefused}
use Rattle.catalogue.specs.declared.refusal.LoadRefused.TheVariants as refused
use Rattle.record_model.specs.Replies.{Reply, Repeated, Full, NoMemory, Fault, fault_reply}
use Rattle.record_model.specs.Answered.{TableRead, NoTable, is_accepted, standing}
use Rattle.record_model.specs.Record.{RunRecord}
use Rattle.run_record.specs.Rooms.{RecordOf}

-- the reply refuses what was read: for its fault, or because memory ran out
abbrev pub IsRefusal : TableRead → Reply → Type 0
IsRefusal read reply = (reply ≡ NoMemory) ⊎ ((fault : Fault) × (read ≡ NoTable fault) × (reply ≡ fault_reply fault))

-- the reply to a load that the catalogue refuses
abbrev pub refusal_reply : Text → LoadRefused → Reply
refusal_reply name (refused.Repeated at) = Repeated name at
refusal_reply name (refused.Full which count more at) = Full which count more at
refusal_reply name refused.NoMemory = NoMemory

-- what the load of a table adds, if its reply accepts it
abbrev pub loaded_by : Table → Reply → List What
loaded_by table reply = if is_accepted (standing reply) then journal.Loaded table ∷ [] else []

-- the record with what a command added to the journal
abbrev pub with_added : Who → List What → RunRecord → RunRecord
with_added who whats made = record made { journal = made.journal ++ map (entry_with who) whats }

-- The result of answering a command: these things were added to the journal of the catalogue and to that of the record,
-- which used room for at most one entry, and nothing else has changed.
pub record Adds (who : Who) (whats : List What) (before after : CatalogueOf) (record_before record_after : RecordOf) : Type 0 where
  pub made : record_after.made ≡ with_added who whats record_before.made
  pub journal : record_after.made.journal ≡ after.journal
  pub limits : after.limits ≡ before.limits
  pub answers_room : record_after.answers_room ≡ record_before.answers_room
  pub entries_room : record_before.entries_room ≤ record_after.entries_room + 1
  pub syncs_room : record_after.syncs_room ≡ record_before.syncs_room
