-- Records whose names have no space and no line feed, like every name of a table.
use Rattle.std.specs.Prelude.{⊤}
use Rattle.std.specs.List.{AllByRecursion}
use Rattle.lake_model.specs.Journal.{What, Loaded, Dropped, Replaced, Swapped}
use Rattle.script_model.specs.Commands.{Task, Load, LoadFile, DropTable, Replace, Tables, Search, Like, Contain, AsOf, Merge, Batch}
use Rattle.record_model.specs.Replies.{Reply}
use Rattle.record_model.specs.Replies as reply
use Rattle.record_model.specs.Record.{RunRecord}
use Rattle.trace_laws.specs.Reading.{IsName}

abbrev pub IsReplyNamed : Reply → Type 0
IsReplyNamed (reply.Loaded name columns members at) = IsName name
IsReplyNamed (reply.Dropped name at) = IsName name
IsReplyNamed (reply.Replaced name columns members at) = IsName name
IsReplyNamed (reply.Listed tables at) = AllByRecursion (λ line. IsName line.name) tables
IsReplyNamed (reply.Found query rows reads probes layout) = AllByRecursion (λ row. IsName row.table) rows
IsReplyNamed (reply.Past query rows asked at) = AllByRecursion (λ row. IsName row.table) rows
IsReplyNamed (reply.Repeated name at) = IsName name
IsReplyNamed (reply.Unknown name at) = IsName name
IsReplyNamed (reply.NoColumn name place at) = IsName name
IsReplyNamed other = ⊤

abbrev pub IsWhatNamed : What → Type 0
IsWhatNamed (Loaded table) = IsName table.name
IsWhatNamed (Dropped name) = IsName name
IsWhatNamed (Replaced table) = IsName table.name
IsWhatNamed (Swapped planned kept) = ⊤

pub record IsRecordNamed (made : RunRecord) : Type 0 where
  pub replies : AllByRecursion (λ a. IsReplyNamed a.reply) made.answers
  pub entries : AllByRecursion (λ e. IsWhatNamed e.what) made.journal

-- ---- commands

abbrev pub IsTaskNamed : Task → Type 0
IsTaskNamed (Load name body) = IsName name
IsTaskNamed (LoadFile name file) = IsName name
IsTaskNamed (DropTable name) = IsName name
IsTaskNamed (Replace name body) = IsName name
IsTaskNamed Tables = ⊤
IsTaskNamed (Search k body) = ⊤
IsTaskNamed (Like k name place) = IsName name
IsTaskNamed (Contain a b body) = ⊤
IsTaskNamed (AsOf asked k body) = ⊤
IsTaskNamed (Merge all) = ⊤

abbrev pub IsBatchNamed : Batch → Type 0
IsBatchNamed batch = AllByRecursion (λ command. IsTaskNamed command.task) batch
