-- What a replace adds to a record, and the reply to one that the catalogue refuses.
use Rattle.std.specs.Prelude.{List, [], ◌∷◌, if◌then◌else◌}
use Rattle.lake_model.specs.Texts.{Text}
use Rattle.lake_model.specs.Tables.{Table}
use Rattle.lake_model.specs.Journal.{What}
use Rattle.lake_model.specs.Journal as journal
use Rattle.catalogue.specs.declared.refusal.ReplaceRefused.{ReplaceRefused}
use Rattle.catalogue.specs.declared.refusal.ReplaceRefused.TheVariants as refused
use Rattle.record_model.specs.Replies.{Reply, Unknown, Full, NoMemory}
use Rattle.record_model.specs.Answered.{is_accepted, standing}

abbrev pub replace_refusal_reply : Text → ReplaceRefused → Reply
replace_refusal_reply name (refused.Unknown at) = Unknown name at
replace_refusal_reply name (refused.Full which count more at) = Full which count more at
replace_refusal_reply name refused.NoMemory = NoMemory

-- what the replace by a table adds, if its reply accepts it
abbrev pub replaced_by : Table → Reply → List What
replaced_by table reply = if is_accepted (standing reply) then journal.Replaced table ∷ [] else []
