-- Answers at a version, and the journal to which the version belongs.
use Rattle.std.specs.Prelude.{◌≡◌, ℕ, List, length, count_by, not}
use Rattle.lake_model.specs.Answer.{Query, Row, answer}
use Rattle.lake_model.specs.Journal.{Entry, live}
use Rattle.lake_model.specs.Layout.{Shown, layout, shown, shown_with}
use Rattle.lake_model.specs.Texts.{Text}
use Rattle.segment_core.specs.declared.column.ColumnRefused.{ColumnRefused}
use Rattle.segment_core.specs.declared.column.ColumnRefused.TheVariants as refused
use Rattle.segment_core.specs.Versions.{VersionOf, version_with, live_of}
use Rattle.record_model.specs.Replies.{Reply, Found, Unknown, NoColumn, NoMemory}
use Rattle.search_model.specs.declared.Look.{Look}
use Rattle.search_model.specs.Contain.{contain}
use Rattle.search_model.specs.Looks.{is_read}
use Rattle.record_model.specs.Work.{lists_read, sets_probed, contain_reads, contain_probes}

-- the version belongs to the journal
pub record IsPinOf (journal : List Entry) (version : VersionOf) : Type 0 where
  pub current : version ≡ version_with (length journal) (layout journal)
  pub searched : live_of version.parts ≡ live journal

-- the answer to a query at a version, with the work for it
abbrev pub found_at : VersionOf → Query → Reply
found_at version query =
    Found (length query.keys) (answer (live_of version.parts) query.keys query.k query.except) (lists_read query version.parts) (sets_probed query version.parts)
    (shown_with version.at (shown version.parts))

-- the columns at a version that hold at least a of b parts of these keys, with the work for them
abbrev pub contained_at : VersionOf → List Text → ℕ → ℕ → Reply
contained_at version keys a b =
    Found (length keys) (contain (live_of version.parts) keys a b) (contain_reads keys a b version.parts) (contain_probes keys a b version.parts)
    (shown_with version.at (shown version.parts))

-- the reply that consists of the rows found for these keys, the looks for them, and the layout
abbrev pub found_with : List Text → List Row → List Look → Shown → Reply
found_with keys rows looks layout = Found (length keys) rows (count_by is_read looks) (count_by (λ look. not (is_read look)) looks) layout

-- the reply to a name and a place for which there is no column
abbrev pub column_reply : Text → ℕ → ℕ → ColumnRefused → Reply
column_reply name place at refused.UnknownTable = Unknown name at
column_reply name place at refused.UnknownColumn = NoColumn name place at
column_reply name place at refused.NoMemory = NoMemory
