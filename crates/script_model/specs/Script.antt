-- The commands of a script: the result of reading its lines, and its end.
use Rattle.std.specs.Prelude.{ℕ, ◌+◌, ◌-◌, Bool, if◌then◌else◌, List, [], ◌∷◌, ◌++◌, length, take, nat_lt, nat_le, Option, Some, None}
use Rattle.script_model.specs.declared.Reason.{Reason}
use Rattle.script_model.specs.declared.Reason.TheVariants as reason
use Rattle.script_model.specs.declared.ScriptLimits.{ScriptLimits}
use Rattle.lake_model.specs.Texts.{Text, lines_of}
use Rattle.script_model.specs.Commands.{File, Batch}
use Rattle.script_model.specs.Saying.{said}
use Rattle.script_model.specs.Reading.{Grammar, Open, Reading, Reached, Stands, AtFault, LinesRead, read_with, Turn, Goes, Gives, Fails, line_fault, body_fault, line_in, is_end, body_after, block_ended, counted, read}

pub data End : Type 0 where
  Whole : End
  FaultAt : (line : ℕ) (reason : Reason) → End

pub record Commands : Type 0 where
  pub batches : List Batch
  pub end : End
  pub asked : List Text

abbrev pub commands_with : List Batch → End → List Text → Commands
commands_with batches end asked = record { batches = batches; end = end; asked = asked }

-- what is already wrong with a line of which this much has come
abbrev pub begun_fault : Grammar → Option Open → ℕ → Text → Option Reason
begun_fault grammar None bytes line = line_fault grammar line
begun_fault grammar (Some block) bytes line = if is_end line then None else body_fault grammar bytes (body_after block line)

-- the last batch, if it has a command
abbrev pub last_batch : Batch → List Batch
last_batch [] = []
last_batch (command ∷ commands) = (command ∷ commands) ∷ []

abbrev pub at_end : List Batch → Option Open → Reading → Commands
at_end batches None reading = commands_with (batches ++ last_batch reading.commands) Whole reading.asked
at_end batches (Some block) reading = commands_with batches (FaultAt block.line reason.NoEnd) reading.asked

-- the last line, if it has a byte, is read like the others, except that no line feed ended it
abbrev pub last_turn : Grammar → Option Open → Text → Reading → Turn
last_turn grammar block [] reading = Goes reading
last_turn grammar None (byte ∷ bytes) reading = line_in grammar None (byte ∷ bytes) (counted (length (byte ∷ bytes)) reading)
last_turn grammar (Some block) (byte ∷ bytes) reading = if is_end (byte ∷ bytes) then Goes (block_ended block reading) else Goes reading

abbrev pub end_turned : List Batch → ℕ → Turn → Commands
end_turned batches line (Goes reading) = at_end batches reading.block reading
end_turned batches line (Gives batch reading) = at_end (batches ++ batch ∷ []) reading.block reading
end_turned batches line (Fails why asked) = commands_with batches (FaultAt line why) asked

abbrev pub unless_begun_fault : Option Reason → List Batch → Reading → Commands → Commands
unless_begun_fault None batches reading commands = commands
unless_begun_fault (Some why) batches reading commands = commands_with batches (FaultAt (reading.lines + 1) why) reading.asked

-- the result at the end, where `rest` is what follows the last line feed, and `over` says that the input is longer than
-- it may be
abbrev pub ended : Grammar → Bool → Text → List Batch → Reached → Commands
ended grammar over rest batches (AtFault line why asked) = commands_with batches (FaultAt line why) asked
ended grammar over rest batches (Stands reading) =
    unless_begun_fault (begun_fault grammar reading.block reading.bytes rest) batches reading
    (if over then commands_with batches (FaultAt (reading.lines + 1) reason.InputTooLong) reading.asked
    else end_turned batches (reading.lines + 1) (last_turn grammar reading.block rest reading))

abbrev pub start : List File → Reading
start files = record { lines = 0; used = 0; numbered = 0; commands = []; bytes = 0; block = None; asked = []; later = files }

-- the bytes that are still within the limit
abbrev pub within : Grammar → Reading → List ℕ → List ℕ
within grammar reading bytes = take (grammar.input - reading.used) bytes

abbrev pub read_from : Grammar → Reading → List ℕ → LinesRead
read_from grammar reading bytes = read grammar (read_with [] (Stands reading)) (lines_of (within grammar reading bytes)).ended

-- the result of reading the rest of an input
abbrev pub commands_from : Grammar → Reading → List ℕ → Commands
commands_from grammar reading bytes =
    let read = read_from grammar reading bytes in
    ended grammar (nat_lt (grammar.input - reading.used) (length bytes)) (lines_of (within grammar reading bytes)).rest read.batches read.reached

-- the grammar of a script with these limits, whose lanes are 1 to `lanes`
abbrev pub grammar_of : ScriptLimits → ℕ → Grammar
grammar_of limits lanes = record {
  says = said lanes;
  line_passes = nat_lt limits.line;
  block_passes = nat_lt limits.block;
  is_full = nat_le limits.commands;
  bytes_pass = nat_lt limits.bytes;
  input = limits.input;
}

-- The commands of a whole script, if these are the results of its fetches, in their order.
abbrev pub commands : ScriptLimits → ℕ → List ℕ → List File → Commands
commands limits lanes bytes files = commands_from (grammar_of limits lanes) (start files) bytes

abbrev pub standard : ScriptLimits
standard = record { line = 4096; block = 67108864; commands = 4096; bytes = 536870912; input = 68719476736 }

-- what a source has left, if that is known
abbrev pub left_of : Option (List ℕ) → List ℕ
left_of None = []
left_of (Some bytes) = bytes
