-- A batch printed as a script.
use Rattle.std.specs.Prelude.{ℕ, ◌+◌, ◌-◌, ◌==◌, ◌^◌, ◌≡◌, ◌<◌, ◌≤◌, ⊤, true, false, if◌then◌else◌, List, [], ◌∷◌, ◌++◌, codes, decimal, drop, flat_map, get_or, length, map, sum_by}
use Rattle.std.specs.Str.{is_utf8}
use Rattle.lake_model.specs.Tables.{is_name}
use Rattle.lake_model.specs.Texts.{Text, lines_of}
use Rattle.script_model.specs.declared.ScriptLimits.{ScriptLimits}
use Rattle.script_model.specs.Commands.{Batch, Command, File, Task, Load, LoadFile, DropTable, Replace, Tables, Search, Like, Contain, AsOf, Merge}
use Rattle.script_model.specs.Lanes.{IsOfLanes}
use Rattle.script_model.specs.Reading.{file_size}
use Rattle.script_model.specs.Words.{line_text, NoFeed, before_spaces, is_space}

-- ---- the writer

-- a word, a space, and the text that follows
abbrev pub with_word : Text → Text → Text
with_word word text = word ++ 0x20 ∷ text

-- what follows the lane of a command, whose file, if it has one, is fetched at this path
abbrev pub task_text : Text → Task → Text
task_text path (Load name body) = with_word (codes "load") name
task_text path (LoadFile name file) = with_word (codes "loadfile") (with_word name path)
task_text path (DropTable name) = with_word (codes "drop") name
task_text path (Replace name body) = with_word (codes "replace") name
task_text path Tables = codes "tables"
task_text path (Search k body) = with_word (codes "search") (decimal k)
task_text path (Like k name place) = with_word (codes "like") (with_word (decimal k) (with_word name (decimal place)))
task_text path (Contain a b body) = with_word (codes "contain") (with_word (decimal a) (decimal b))
task_text path (AsOf asked k body) = with_word (codes "asof") (with_word (decimal asked) (decimal k))
task_text path (Merge false) = codes "merge"
task_text path (Merge true) = with_word (codes "merge") (codes "all")

-- the line of a command, with its lane
abbrev pub command_line : Text → Command → Text
command_line path command = with_word (0x40 ∷ decimal command.lane) (task_text path command.task)

-- a line of a block: a dot is put before one that begins with a dot
abbrev pub dotted : Text → Text
dotted line = if get_or line 0 0 == 0x2E then 0x2E ∷ line else line

-- the lines of a body, and the line that ends it
abbrev pub block_lines : List ℕ → List Text
block_lines body = map dotted (lines_of body).ended ++ codes "." ∷ []

abbrev pub body_lines : Task → List Text
body_lines (Load name body) = block_lines body
body_lines (Replace name body) = block_lines body
body_lines (Search k body) = block_lines body
body_lines (Contain a b body) = block_lines body
body_lines (AsOf asked k body) = block_lines body
body_lines (LoadFile name file) = []
body_lines (DropTable name) = []
body_lines Tables = []
body_lines (Like k name place) = []
body_lines (Merge all) = []

abbrev pub first_path : List Text → Text
first_path [] = []
first_path (path ∷ paths) = path

-- the path of a task that fetches a file, which is this one
abbrev pub paths_in : Task → Text → List Text
paths_in (LoadFile name file) path = path ∷ []
paths_in (Load name body) path = []
paths_in (DropTable name) path = []
paths_in (Replace name body) path = []
paths_in Tables path = []
paths_in (Search k body) path = []
paths_in (Like k name place) path = []
paths_in (Contain a b body) path = []
paths_in (AsOf asked k body) path = []
paths_in (Merge all) path = []

-- the paths of the commands after one with this task
abbrev pub paths_behind : Task → List Text → List Text
paths_behind (LoadFile name file) paths = drop 1 paths
paths_behind (Load name body) paths = paths
paths_behind (DropTable name) paths = paths
paths_behind (Replace name body) paths = paths
paths_behind Tables paths = paths
paths_behind (Search k body) paths = paths
paths_behind (Like k name place) paths = paths
paths_behind (Contain a b body) paths = paths
paths_behind (AsOf asked k body) paths = paths
paths_behind (Merge all) paths = paths

-- the lines of a batch, whose files are fetched at these paths, in order
abbrev pub batch_lines : List Text → Batch → List Text
batch_lines paths [] = codes "sync" ∷ []
batch_lines paths (command ∷ commands) = command_line (first_path paths) command ∷ body_lines command.task ++ batch_lines (paths_behind command.task paths) commands

-- the batch as a script
abbrev pub printed : List Text → Batch → Text
printed paths batch = flat_map line_text (batch_lines paths batch)

-- ---- the outcomes of the fetches

abbrev pub files_in : Task → List File
files_in (LoadFile name file) = file ∷ []
files_in (Load name body) = []
files_in (DropTable name) = []
files_in (Replace name body) = []
files_in Tables = []
files_in (Search k body) = []
files_in (Like k name place) = []
files_in (Contain a b body) = []
files_in (AsOf asked k body) = []
files_in (Merge all) = []

abbrev pub files_of : Batch → List File
files_of [] = []
files_of (command ∷ commands) = files_in command.task ++ files_of commands

-- ---- a batch that can be printed

-- the first command has this number, and each further command the next
abbrev pub AreNumberedFrom : ℕ → Batch → Type 0
AreNumberedFrom number [] = ⊤
AreNumberedFrom number (command ∷ commands) = (command.number ≡ number) × AreNumberedFrom (number + 1) commands

-- A path is at the end of a line: it has at least one byte, no line feed, no space at its beginning or end, and no
-- carriage return at its end.
pub record IsPath (path : Text) : Type 0 where
  pub some : 0 < length path
  pub utf8 : is_utf8 path ≡ true
  pub no_feed : NoFeed path
  pub front : is_space (get_or path 0 0) ≡ false
  pub back : before_spaces path ≡ path
  pub end : (get_or path (length path - 1) 0 == 0x0D) ≡ false

-- a body is lines, each with its line feed, and is no longer than a block may be
abbrev pub IsBody : ScriptLimits → List ℕ → Type 0
IsBody limits body = ((lines_of body).rest ≡ []) × (length body ≤ limits.block)

abbrev pub IsFrom1To : ℕ → ℕ → Type 0
IsFrom1To most n = (1 ≤ n) × (n ≤ most)

abbrev pub IsTask : ScriptLimits → Text → Task → Type 0
IsTask limits path (Load name body) = (is_name name ≡ true) × IsBody limits body
IsTask limits path (LoadFile name file) = (is_name name ≡ true) × IsPath path
IsTask limits path (DropTable name) = is_name name ≡ true
IsTask limits path (Replace name body) = (is_name name ≡ true) × IsBody limits body
IsTask limits path Tables = ⊤
IsTask limits path (Search k body) = IsFrom1To 10000 k × IsBody limits body
IsTask limits path (Like k name place) = IsFrom1To 10000 k × (is_name name ≡ true) × IsFrom1To 4294967295 place
IsTask limits path (Contain a b body) = (1 ≤ a) × (a ≤ b) × (b ≤ 10000) × IsBody limits body
IsTask limits path (AsOf asked k body) = (asked ≤ 4294967295) × IsFrom1To 10000 k × IsBody limits body
IsTask limits path (Merge all) = ⊤

-- each command has a task and a line within the limits, and there is one path for each file and no others
abbrev pub AreTasks : ScriptLimits → List Text → Batch → Type 0
AreTasks limits paths [] = paths ≡ []
AreTasks limits paths (command ∷ commands) = IsTask limits (first_path paths) command.task × (length (command_line (first_path paths) command) ≤ limits.line)
    × (paths ≡ paths_in command.task (first_path paths) ++ paths_behind command.task paths) × AreTasks limits (paths_behind command.task paths) commands

-- the number of bytes of a task's body or file
abbrev pub task_size : Task → ℕ
task_size (Load name body) = length body
task_size (Replace name body) = length body
task_size (Search k body) = length body
task_size (Contain a b body) = length body
task_size (AsOf asked k body) = length body
task_size (LoadFile name file) = file_size file
task_size (DropTable name) = 0
task_size Tables = 0
task_size (Like k name place) = 0
task_size (Merge all) = 0

-- The batch is the first of a script, within the limits, with lanes from 1 to `lanes`.
pub record IsPrintable (limits : ScriptLimits) (lanes : ℕ) (paths : List Text) (batch : Batch) : Type 0 where
  pub numbers : AreNumberedFrom 1 batch
  pub few_lanes : lanes < 2 ^ 64
  pub of_lanes : IsOfLanes lanes batch
  pub tasks : AreTasks limits paths batch
  pub sync_fits : 4 ≤ limits.line
  pub count : length batch ≤ limits.commands
  pub bytes : sum_by (λ command. task_size command.task) batch ≤ limits.bytes
  pub input : length (printed paths batch) ≤ limits.input
