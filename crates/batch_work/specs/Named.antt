-- The names in what a lane has to do.
use Rattle.std.specs.Prelude.{◌≡◌, true, ⊤}
use Rattle.std.specs.List.{AllByRecursion}
use Rattle.lake_model.specs.Tables.{is_name}
use Rattle.script_model.specs.Commands.{Task, Load, LoadFile, DropTable, Replace, Tables, Search, Like, Contain, AsOf, Merge, Batch}

-- the name in the task, if there is one, is the name of a table
abbrev pub HasName : Task → Type 0
HasName (Load name body) = is_name name ≡ true
HasName (LoadFile name file) = is_name name ≡ true
HasName (DropTable name) = is_name name ≡ true
HasName (Replace name body) = is_name name ≡ true
HasName Tables = ⊤
HasName (Search k body) = ⊤
HasName (Like k name place) = is_name name ≡ true
HasName (Contain a b body) = ⊤
HasName (AsOf asked k body) = ⊤
HasName (Merge all) = ⊤

abbrev pub HaveNames : Batch → Type 0
HaveNames batch = AllByRecursion (λ command. HasName command.task) batch
