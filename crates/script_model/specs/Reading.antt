-- How the lines of a script are read, one after another.
use Rattle.std.specs.Prelude.{ℕ, ◌+◌, ◌==◌, Bool, if◌then◌else◌, List, [], ◌∷◌, ◌++◌, length, drop, fold, get_or, bytes_eq, codes, Option, Some, None}
use Rattle.script_model.specs.declared.Reason.{Reason}
use Rattle.script_model.specs.declared.Reason.TheVariants as reason
use Rattle.lake_model.specs.Texts.{Text}
use Rattle.script_model.specs.Commands.{File, Bytes, Failed, Missing, TooLong, Task, LoadFile, command_with, Batch}
use Rattle.script_model.specs.Words.{without_return}
use Rattle.script_model.specs.Saying.{Front, closed, Said, Nothing, Wrong, Sync, Does, Fetches, Opens}

-- what a line outside a block says, which sizes exceed their limits, and how many bytes an input may have
pub record Grammar : Type 0 where
  pub says : Text → Said
  pub line_passes : ℕ → Bool
  pub block_passes : ℕ → Bool
  pub is_full : ℕ → Bool
  pub bytes_pass : ℕ → Bool
  pub input : ℕ

-- a block that has not ended yet: the line and the lane of its command, the front, and the body so far
pub record Open : Type 0 where
  pub line : ℕ
  pub lane : ℕ
  pub front : Front
  pub body : List ℕ

-- How far a script was read: its lines and bytes, its commands, those of the current batch and the bytes of their
-- bodies and files, the open block, the paths asked for, and the results of later fetches.
pub record Reading : Type 0 where
  pub lines : ℕ
  pub used : ℕ
  pub numbered : ℕ
  pub commands : Batch
  pub bytes : ℕ
  pub block : Option Open
  pub asked : List Text
  pub later : List File

-- the result of reading lines: batches, and then how far they were read, or the line at fault
pub data Reached : Type 0 where
  Stands : (reading : Reading) → Reached
  AtFault : (line : ℕ) (reason : Reason) (asked : List Text) → Reached

pub record LinesRead : Type 0 where
  pub batches : List Batch
  pub reached : Reached

-- what one line does
pub data Turn : Type 0 where
  Goes : (reading : Reading) → Turn
  Gives : (batch : Batch) (reading : Reading) → Turn
  Fails : (reason : Reason) (asked : List Text) → Turn

-- one more command, of `size` bytes
abbrev pub with_command : ℕ → Task → ℕ → Reading → Reading
with_command lane task size reading = record reading {
  numbered = reading.numbered + 1;
  commands = reading.commands ++ command_with (reading.numbered + 1) lane task ∷ [];
  bytes = reading.bytes + size;
}

abbrev pub opened : ℕ → Front → Reading → Reading
opened lane front reading = record reading { block = Some (record { line = reading.lines; lane = lane; front = front; body = [] }) }

abbrev pub batch_ended : Reading → Reading
batch_ended reading = record reading { commands = []; bytes = 0 }

abbrev pub file_size : File → ℕ
file_size (Bytes bytes) = length bytes
file_size Failed = 0
file_size Missing = 0
file_size TooLong = 0

abbrev pub next_file : List File → File
next_file [] = Missing
next_file (file ∷ files) = file

abbrev pub fetched : ℕ → Text → Text → File → Reading → Reading
fetched lane name path file reading =
    record (with_command lane (LoadFile name file) (file_size file) reading) { asked = reading.asked ++ path ∷ []; later = drop 1 reading.later }

-- a command is added, unless the batch is full
abbrev pub unless_batch_full : Grammar → Reading → Turn → Turn
unless_batch_full grammar reading turn = if grammar.is_full (length reading.commands) then Fails reason.BatchCommands reading.asked else turn

abbrev pub does : Grammar → Said → Reading → Turn
does grammar Nothing reading = Goes reading
does grammar (Wrong why) reading = Fails why reading.asked
does grammar Sync reading = Gives reading.commands (batch_ended reading)
does grammar (Does lane task) reading = unless_batch_full grammar reading (Goes (with_command lane task 0 reading))
does grammar (Opens lane front) reading = unless_batch_full grammar reading (Goes (opened lane front reading))
does grammar (Fetches lane name path) reading =
    let file = next_file reading.later in
    unless_batch_full grammar reading (if grammar.bytes_pass (reading.bytes + file_size file) then Fails reason.BatchBytes (reading.asked ++ path ∷ []) else Goes (fetched lane name path file reading))

-- what is wrong with a line outside a block, or with the body of a block, by its size alone
abbrev pub line_fault : Grammar → Text → Option Reason
line_fault grammar line = if grammar.line_passes (length (without_return line)) then Some reason.LineTooLong else None

abbrev pub body_fault : Grammar → ℕ → List ℕ → Option Reason
body_fault grammar bytes body =
    if grammar.block_passes (length body) then Some reason.BlockTooLong
    else if grammar.bytes_pass (bytes + length body) then Some reason.BatchBytes
    else None

abbrev pub unless_fault : Option Reason → Reading → Turn → Turn
unless_fault None reading turn = turn
unless_fault (Some why) reading turn = Fails why reading.asked

-- the line that ends a block
abbrev pub is_end : Text → Bool
is_end line = bytes_eq (without_return line) (codes ".")

-- a line of a block, without the dot if it begins with one
abbrev pub undotted : Text → Text
undotted line = if get_or line 0 0 == 0x2E then drop 1 line else line

abbrev pub body_after : Open → Text → List ℕ
body_after block line = block.body ++ undotted line

abbrev pub with_body : Open → List ℕ → Reading → Reading
with_body block body reading = record reading { block = Some (record block { body = body }) }

abbrev pub block_ended : Open → Reading → Reading
block_ended block reading = record (with_command block.lane (closed block.front block.body) (length block.body) reading) { block = None }

-- a line that was ended by a line feed
abbrev pub line_in : Grammar → Option Open → Text → Reading → Turn
line_in grammar None line reading = unless_fault (line_fault grammar line) reading (does grammar (grammar.says (without_return line)) reading)
line_in grammar (Some block) line reading =
    if is_end line then Goes (block_ended block reading)
    else unless_fault (body_fault grammar reading.bytes (body_after block line ++ 0x0A ∷ [])) reading (Goes (with_body block (body_after block line ++ 0x0A ∷ []) reading))

abbrev pub counted : ℕ → Reading → Reading
counted size reading = record reading { lines = reading.lines + 1; used = reading.used + size }

abbrev pub turn_of : Grammar → Text → Reading → Turn
turn_of grammar line reading = line_in grammar reading.block line (counted (length line + 1) reading)

abbrev pub read_with : List Batch → Reached → LinesRead
read_with batches reached = record { batches = batches; reached = reached }

abbrev pub turned : List Batch → ℕ → Turn → LinesRead
turned batches line (Goes reading) = read_with batches (Stands reading)
turned batches line (Gives batch reading) = read_with (batches ++ batch ∷ []) (Stands reading)
turned batches line (Fails why asked) = read_with batches (AtFault line why asked)

-- one more line; nothing is read after a fault
abbrev pub read_more : Grammar → List Batch → Reached → Text → LinesRead
read_more grammar batches (Stands reading) line = turned batches (reading.lines + 1) (turn_of grammar line reading)
read_more grammar batches (AtFault at why asked) line = read_with batches (AtFault at why asked)

-- the result of reading these lines, as the beginning of an input that goes on
unfoldable pub read : Grammar → LinesRead → List Text → LinesRead
read grammar before lines = fold (λ b line. read_more grammar b.batches b.reached line) before lines
