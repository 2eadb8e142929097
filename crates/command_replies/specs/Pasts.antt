-- Searches of an earlier position.
use Rattle.std.specs.Prelude.{ℕ, Bool, true, false}
use Rattle.asof_search.specs.declared.refusal.PastRefused.{PastRefused}
use Rattle.asof_search.specs.declared.refusal.PastRefused.TheVariants as refused
use Rattle.record_model.specs.Replies.{Reply, Later, NoMemory}
use Rattle.script_model.specs.Commands.{Task, Load, LoadFile, DropTable, Replace, Tables, Search, Like, Contain, AsOf, Merge}

-- whether a task asks for what was live at an earlier position
abbrev pub is_past : Task → Bool
is_past (Load name body) = false
is_past (LoadFile name file) = false
is_past (DropTable name) = false
is_past (Replace name body) = false
is_past Tables = false
is_past (Search k body) = false
is_past (Like k name place) = false
is_past (Contain a b body) = false
is_past (AsOf asked k body) = true
is_past (Merge all) = false

-- the reply to a position for which there is no pin
abbrev pub past_refusal_reply : ℕ → PastRefused → Reply
past_refusal_reply asked (refused.Later at) = Later asked at
past_refusal_reply asked refused.NoMemory = NoMemory
