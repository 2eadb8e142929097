-- The record of a run: its journal, its answers, and the length of the journal after each batch.
use Rattle.std.specs.Prelude.{ℕ, Bool, false, List, []}
use Rattle.lake_model.specs.declared.Who.{Who}
use Rattle.lake_model.specs.Journal.{Entry}
use Rattle.script_model.specs.Options.{Options}
use Rattle.record_model.specs.Replies.{Reply}

-- the merger is caller 0
pub record Answered : Type 0 where
  pub who : Who
  pub reply : Reply

abbrev pub answered_with : Who → Reply → Answered
answered_with who reply = record { who = who; reply = reply }

pub record RunRecord : Type 0 where
  pub options : Options
  pub journal : List Entry
  pub answers : List Answered
  pub syncs : List ℕ
  pub ended : Bool

abbrev pub made_of : Options → List Entry → List Answered → List ℕ → Bool → RunRecord
made_of options journal answers syncs ended = record { options = options; journal = journal; answers = answers; syncs = syncs; ended = ended }

abbrev pub empty : Options → RunRecord
empty options = record { options = options; journal = []; answers = []; syncs = []; ended = false }

-- the record with a statement of whether the source was read to its end
abbrev pub with_end : Bool → RunRecord → RunRecord
with_end ended made = record made { ended = ended }
