-- What a command asks for, as the code holds it.
use Rattle.std.specs.Prelude.{◌<◌, ◌≤◌, ◌^◌, ⊤}
use Rattle.script_model.specs.Commands as model
use Rattle.commands.specs.declared.command.FileBody.{FileBody}
use Rattle.commands.specs.declared.command.FileBody.TheVariants.{Bytes, Failed, Missing, TooLong}
use Rattle.commands.specs.declared.command.Task.{Task}
use Rattle.commands.specs.declared.command.Task.TheVariants.{Load, LoadFile, Drop, Replace, Tables, Search, Like, Contain, AsOf, Merge}

abbrev pub file_of : FileBody → model.File
file_of (Bytes body) = model.Bytes body
file_of Failed = model.Failed
file_of Missing = model.Missing
file_of TooLong = model.TooLong

abbrev pub task_of : Task → model.Task
task_of (Load name body) = model.Load name body
task_of (LoadFile name file) = model.LoadFile name (file_of file)
task_of (Drop name) = model.DropTable name
task_of (Replace name body) = model.Replace name body
task_of Tables = model.Tables
task_of (Search k body) = model.Search k body
task_of (Like k name place) = model.Like k name place
task_of (Contain a b body) = model.Contain a b body
task_of (AsOf asked k body) = model.AsOf asked k body
task_of (Merge all) = model.Merge all

-- a search asks for 1 to 10,000 columns, places count from 1, a fraction is at most 1, and a position has 32 bits
abbrev pub IsTaskInRange : Task → Type 0
IsTaskInRange (Load name body) = ⊤
IsTaskInRange (LoadFile name file) = ⊤
IsTaskInRange (Drop name) = ⊤
IsTaskInRange (Replace name body) = ⊤
IsTaskInRange Tables = ⊤
IsTaskInRange (Search k body) = (1 ≤ k) × (k ≤ 10000)
IsTaskInRange (Like k name place) = (1 ≤ k) × (k ≤ 10000) × (1 ≤ place)
IsTaskInRange (Contain a b body) = (1 ≤ a) × (a ≤ b) × (b ≤ 10000)
IsTaskInRange (AsOf asked k body) = (asked < 2 ^ 32) × (1 ≤ k) × (k ≤ 10000)
IsTaskInRange (Merge all) = ⊤
