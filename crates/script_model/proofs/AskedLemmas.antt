-- The result of lines does not depend on the paths that were asked for before.
use Rattle.std.proofs.Common.{◌≡◌, refl, ap, ◌∙◌, ℕ, ◌+◌, ◌-◌, List, [], ◌∷◌, ◌++◌, append_assoc, Bool, true, false, length, cond}
use Rattle.std.specs.Prelude.{nat_lt, Option, Some, None}
use Rattle.script_model.specs.declared.Reason.{Reason}
use Rattle.script_model.specs.declared.Reason.TheVariants as reason
use Rattle.lake_model.specs.Texts.{Text, lines_of}
use Rattle.script_model.specs.Commands.{Batch}
use Rattle.script_model.specs.Words.{without_return}
use Rattle.script_model.specs.Saying.{Said, Nothing, Wrong, Sync, Does, Fetches, Opens}
use Rattle.script_model.specs.Reading.{Grammar, Open, Reading, Reached, Stands, AtFault, LinesRead, read_with, Turn, Goes, Gives, Fails, turned, turn_of, read_more, read, counted, does, with_command, opened, fetched, file_size, next_file, unless_fault, line_fault, body_fault, line_in, is_end, body_after, with_body, block_ended}
use Rattle.script_model.specs.Script.{Commands, commands_with, commands_from, within, ended, FaultAt, begun_fault, unless_begun_fault, last_turn, end_turned, at_end}

-- these paths were asked for before all others
abbrev pub asking : List Text → Reading → Reading
asking paths reading = record reading { asked = paths ++ reading.asked }

abbrev pub turn_asking : List Text → Turn → Turn
turn_asking paths (Goes reading) = Goes (asking paths reading)
turn_asking paths (Gives batch reading) = Gives batch (asking paths reading)
turn_asking paths (Fails why asked) = Fails why (paths ++ asked)

abbrev pub reached_asking : List Text → Reached → Reached
reached_asking paths (Stands reading) = Stands (asking paths reading)
reached_asking paths (AtFault line why asked) = AtFault line why (paths ++ asked)

abbrev pub commands_asking : List Text → Commands → Commands
commands_asking paths made = commands_with made.batches made.end (paths ++ made.asked)

-- ---- one line

either_asking : (paths : List Text) (b : Bool) (one other : Turn) → cond b (turn_asking paths one) (turn_asking paths other) ≡ turn_asking paths (cond b one other)
either_asking paths true one other = refl
either_asking paths false one other = refl

unless_asking : (paths : List Text) (fault : Option Reason) (reading : Reading) (turn : Turn) → unless_fault fault (asking paths reading) (turn_asking paths turn) ≡ turn_asking paths (unless_fault fault reading turn)
unless_asking paths None reading turn = refl
unless_asking paths (Some why) reading turn = refl

does_asking : (grammar : Grammar) (paths : List Text) (said : Said) (reading : Reading) → does grammar said (asking paths reading) ≡ turn_asking paths (does grammar said reading)
does_asking grammar paths Nothing reading = refl
does_asking grammar paths (Wrong why) reading = refl
does_asking grammar paths Sync reading = refl
does_asking grammar paths (Does lane task) reading = either_asking paths (grammar.is_full (length reading.commands)) (Fails reason.BatchCommands reading.asked) (Goes (with_command lane task 0 reading))
does_asking grammar paths (Opens lane front) reading = either_asking paths (grammar.is_full (length reading.commands)) (Fails reason.BatchCommands reading.asked) (Goes (opened lane front reading))
does_asking grammar paths (Fetches lane name path) reading =
    let full : Bool = grammar.is_full (length reading.commands) in
    let file = next_file reading.later in
    let passes : Bool = grammar.bytes_pass (reading.bytes + file_size file) in
    let more : (paths ++ reading.asked) ++ path ∷ [] ≡ paths ++ (reading.asked ++ path ∷ []) = append_assoc paths reading.asked (path ∷ []) in
    let one : Reading = fetched lane name path file reading in
    ap (λ (asked : List Text). cond full (Fails reason.BatchCommands (paths ++ reading.asked)) (cond passes (Fails reason.BatchBytes asked) (Goes (record one { asked = asked })))) more
    ∙ ap (λ (turn : Turn). cond full (Fails reason.BatchCommands (paths ++ reading.asked)) turn) (either_asking paths passes (Fails reason.BatchBytes (reading.asked ++ path ∷ [])) (Goes one))
    ∙ either_asking paths full (Fails reason.BatchCommands reading.asked) (cond passes (Fails reason.BatchBytes (reading.asked ++ path ∷ [])) (Goes one))

line_asking : (grammar : Grammar) (paths : List Text) (block : Option Open) (line : Text) (reading : Reading) → line_in grammar block line (asking paths reading) ≡ turn_asking paths (line_in grammar block line reading)
line_asking grammar paths None line reading =
    ap (unless_fault (line_fault grammar line) (asking paths reading)) (does_asking grammar paths (grammar.says (without_return line)) reading)
    ∙ unless_asking paths (line_fault grammar line) reading (does grammar (grammar.says (without_return line)) reading)
line_asking grammar paths (Some block) line reading =
    let fault : Option Reason = body_fault grammar reading.bytes (body_after block line ++ 0x0A ∷ []) in
    let more : Turn = Goes (with_body block (body_after block line ++ 0x0A ∷ []) reading) in
    ap (λ (turn : Turn). cond (is_end line) (Goes (block_ended block (asking paths reading))) turn) (unless_asking paths fault reading more)
    ∙ either_asking paths (is_end line) (Goes (block_ended block reading)) (unless_fault fault reading more)

pub turn_of_asking : (grammar : Grammar) (paths : List Text) (line : Text) (reading : Reading) → turn_of grammar line (asking paths reading) ≡ turn_asking paths (turn_of grammar line reading)
turn_of_asking grammar paths line reading = line_asking grammar paths reading.block line (counted (length line + 1) reading)

-- ---- lines

abbrev pub lines_asking : List Text → LinesRead → LinesRead
lines_asking paths made = read_with made.batches (reached_asking paths made.reached)

turned_asking : (paths : List Text) (batches : List Batch) (line : ℕ) (turn : Turn) → turned batches line (turn_asking paths turn) ≡ lines_asking paths (turned batches line turn)
turned_asking paths batches line (Goes reading) = refl
turned_asking paths batches line (Gives batch reading) = refl
turned_asking paths batches line (Fails why asked) = refl

more_asking : (grammar : Grammar) (paths : List Text) (batches : List Batch) (reached : Reached) (line : Text) → read_more grammar batches (reached_asking paths reached) line ≡ lines_asking paths (read_more grammar batches reached line)
more_asking grammar paths batches (Stands reading) line =
    ap (turned batches (reading.lines + 1)) (turn_of_asking grammar paths line reading) ∙ turned_asking paths batches (reading.lines + 1) (turn_of grammar line reading)
more_asking grammar paths batches (AtFault at why asked) line = refl

pub read_asking : (grammar : Grammar) (paths : List Text) (before : LinesRead) (lines : List Text) → read grammar (lines_asking paths before) lines ≡ lines_asking paths (read grammar before lines)
unfolding read
read_asking grammar paths before [] = refl
read_asking grammar paths before (line ∷ lines) =
    ap (λ (b : LinesRead). read grammar b lines) (more_asking grammar paths before.batches before.reached line)
    ∙ read_asking grammar paths (read_more grammar before.batches before.reached line) lines

-- ---- the end

last_asking : (grammar : Grammar) (paths : List Text) (block : Option Open) (rest : Text) (reading : Reading) → last_turn grammar block rest (asking paths reading) ≡ turn_asking paths (last_turn grammar block rest reading)
last_asking grammar paths block [] reading = refl
last_asking grammar paths None (byte ∷ bytes) reading = line_asking grammar paths None (byte ∷ bytes) (counted (length (byte ∷ bytes)) reading)
last_asking grammar paths (Some block) (byte ∷ bytes) reading = either_asking paths (is_end (byte ∷ bytes)) (Goes (block_ended block reading)) (Goes reading)

at_end_asking : (paths : List Text) (batches : List Batch) (block : Option Open) (reading : Reading) → at_end batches block (asking paths reading) ≡ commands_asking paths (at_end batches block reading)
at_end_asking paths batches None reading = refl
at_end_asking paths batches (Some block) reading = refl

end_asking : (paths : List Text) (batches : List Batch) (line : ℕ) (turn : Turn) → end_turned batches line (turn_asking paths turn) ≡ commands_asking paths (end_turned batches line turn)
end_asking paths batches line (Goes reading) = at_end_asking paths batches reading.block reading
end_asking paths batches line (Gives batch reading) = at_end_asking paths (batches ++ batch ∷ []) reading.block reading
end_asking paths batches line (Fails why asked) = refl

stands_asking : (grammar : Grammar) (over : Bool) (paths : List Text) (batches : List Batch) (rest : Text) (reading : Reading) (fault : Option Reason)
    → unless_begun_fault fault batches (asking paths reading) (cond over (commands_with batches (FaultAt (reading.lines + 1) reason.InputTooLong) (paths ++ reading.asked)) (end_turned batches (reading.lines + 1) (last_turn grammar reading.block rest (asking paths reading))))
    ≡ commands_asking paths (unless_begun_fault fault batches reading (cond over (commands_with batches (FaultAt (reading.lines + 1) reason.InputTooLong) reading.asked) (end_turned batches (reading.lines + 1) (last_turn grammar reading.block rest reading))))
stands_asking grammar over paths batches rest reading (Some why) = refl
stands_asking grammar true paths batches rest reading None = refl
stands_asking grammar false paths batches rest reading None =
    ap (end_turned batches (reading.lines + 1)) (last_asking grammar paths reading.block rest reading) ∙ end_asking paths batches (reading.lines + 1) (last_turn grammar reading.block rest reading)

pub ended_asking : (grammar : Grammar) (over : Bool) (paths : List Text) (rest : Text) (batches : List Batch) (reached : Reached)
    → ended grammar over rest batches (reached_asking paths reached) ≡ commands_asking paths (ended grammar over rest batches reached)
ended_asking grammar over paths rest batches (Stands reading) = stands_asking grammar over paths batches rest reading (begun_fault grammar reading.block reading.bytes rest)
ended_asking grammar over paths rest batches (AtFault line why asked) = refl

-- The result of an input does not depend on the paths asked for before.
pub commands_from_asking : (grammar : Grammar) (paths : List Text) (reading : Reading) (bytes : List ℕ) → commands_from grammar (asking paths reading) bytes ≡ commands_asking paths (commands_from grammar reading bytes)
commands_from_asking grammar paths reading bytes =
    let over : Bool = nat_lt (grammar.input - reading.used) (length bytes) in
    let rest : Text = (lines_of (within grammar reading bytes)).rest in
    let made : LinesRead = read grammar (read_with [] (Stands reading)) (lines_of (within grammar reading bytes)).ended in
    ap (λ (m : LinesRead). ended grammar over rest m.batches m.reached) (read_asking grammar paths (read_with [] (Stands reading)) (lines_of (within grammar reading bytes)).ended)
    ∙ ended_asking grammar over paths rest made.batches made.reached
