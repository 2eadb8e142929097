-- The reply to a drop that the catalogue refuses, and what a drop adds.
use Rattle.std.specs.Prelude.{List, [], ◌∷◌, if◌then◌else◌}
use Rattle.lake_model.specs.Texts.{Text}
use Rattle.lake_model.specs.Journal.{What}
use Rattle.lake_model.specs.Journal as journal
use Rattle.catalogue.specs.declared.refusal.DropRefused.{DropRefused}
use Rattle.catalogue.specs.declared.refusal.DropRefused.TheVariants as refused
use Rattle.record_model.specs.Replies.{Reply, Unknown, Full, NoMemory}
use Rattle.record_model.specs.Answered.{is_accepted, standing}

abbrev pub drop_refusal_reply : Text → DropRefused → Reply
drop_refusal_reply name (refused.Unknown at) = Unknown name at
drop_refusal_reply name (refused.Full which count more at) = Full which count more at
drop_refusal_reply name refused.NoMemory = NoMemory

-- what the drop of a name adds, if its reply accepts it
abbrev pub dropped_by : Text → Reply → List What
dropped_by name reply = if is_accepted (standing reply) then journal.Dropped name ∷ [] else []
