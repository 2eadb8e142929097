-- The batches of a script have no more fetches than it asks for paths.
use Rattle.std.proofs.Common.{◌≡◌, refl, subst, ap, ℕ, ◌+◌, ◌≤◌, List, [], ◌∷◌, ◌++◌, Bool, true, false, cond, length, sum_by, arith, length-append}
use Rattle.std.specs.Prelude.{⊤, Option, None, Some, if◌then◌else◌}
use Rattle.std.proofs.lemmas.List.Sums.{sum_by-append, sum_by_push}
use Rattle.lake_model.specs.Texts.{Text, lines_of}
use Rattle.script_model.specs.declared.Reason.{Reason}
use Rattle.script_model.specs.declared.Reason.TheVariants as reason
use Rattle.script_model.specs.declared.ScriptLimits.{ScriptLimits}
use Rattle.script_model.specs.Commands.{Batch, Command, File, LoadFile, Task, command_with, fetches, is_fetch}
use Rattle.script_model.specs.Reading.{AtFault, Fails, Gives, Goes, Grammar, LinesRead, Open, Reached, Reading, Stands, Turn, block_ended, body_after, body_fault, counted, does, fetched, file_size, is_end, line_fault, line_in, next_file, opened, read, read_more, read_with, turn_of, turned, unless_fault, with_body, with_command}
use Rattle.script_model.specs.Saying.{AsOfBlock, ContainBlock, Does, Fetches, Front, LoadBlock, ReplaceBlock, SearchBlock, Nothing, Opens, Said, Sync, Wrong, closed, said}
use Rattle.script_model.specs.Script.{Commands, FaultAt, at_end, begun_fault, commands, commands_with, end_turned, ended, grammar_of, last_batch, last_turn, start, unless_begun_fault, within}
use Rattle.script_model.specs.Words.{number, without_return}
use Rattle.script_text.specs.Gathering.{ReadsOn, reading_at}
use Rattle.script_laws.specs.ScriptLaws.{AskForFiles}
use Rattle.script_laws.proofs.SaidFacts.{said_holds}

-- ---- what a line says

-- a whole command is no fetch
abbrev IsNoFetch : Said → Type 0
IsNoFetch Nothing = ⊤
IsNoFetch (Wrong why) = ⊤
IsNoFetch Sync = ⊤
IsNoFetch (Does lane task) = is_fetch task ≡ false
IsNoFetch (Fetches lane name path) = ⊤
IsNoFetch (Opens lane front) = ⊤

says_no_fetch : (lanes : ℕ) (text : Text) → IsNoFetch (said lanes text)
says_no_fetch lanes text = said_holds IsNoFetch (λ lane. ⊤) (record {
  nothing = tt;
  wrong = λ why. tt;
  sync = tt;
  does = λ lane task is no_fetch. no_fetch;
  opens = λ lane front is. tt;
  fetches = λ lane name path is. tt;
}) lanes text tt (λ lane is. tt)

-- ---- a turn

-- the batches before it have this many fetches
abbrev IsAsked : ℕ → Turn → Type 0
IsAsked n (Goes reading) = n + fetches reading.commands ≤ length reading.asked
IsAsked n (Gives batch reading) = n + fetches batch + fetches reading.commands ≤ length reading.asked
IsAsked n (Fails why asked) = n ≤ length asked

fetches_push : (batch : Batch) (number lane : ℕ) (task : Task) → fetches (batch ++ command_with number lane task ∷ []) ≡ fetches batch + cond (is_fetch task) 1 0
fetches_push batch number lane task = sum_by_push (λ (command : Command). cond (is_fetch command.task) 1 0) batch (command_with number lane task)

-- one more command, which is no fetch
pushed : (n : ℕ) (reading : Reading) (number lane : ℕ) (task : Task) (asked : List Text) → n + fetches reading.commands ≤ length asked → is_fetch task ≡ false
    → n + fetches (reading.commands ++ command_with number lane task ∷ []) ≤ length asked
pushed n reading number lane task asked h none =
    let zero_more : cond (is_fetch task) 1 0 ≡ 0 = ap (λ (b : Bool). let n : ℕ = cond b 1 0 in n) none in omega (arith, h, fetches_push reading.commands number lane task, zero_more)

asked_cond : (n : ℕ) (b : Bool) (x y : Turn) → IsAsked n x → IsAsked n y → IsAsked n (if b then x else y)
asked_cond n true x y h k = h
asked_cond n false x y h k = k

asked_unless : (n : ℕ) (fault : Option Reason) (reading : Reading) (turn : Turn) → n ≤ length reading.asked → IsAsked n turn → IsAsked n (unless_fault fault reading turn)
asked_unless n None reading turn h k = k
asked_unless n (Some why) reading turn h k = h

module _ (grammar : Grammar) (n : ℕ) where
  does_asked : (says : Said) (reading : Reading) → IsNoFetch says → n + fetches reading.commands ≤ length reading.asked → IsAsked n (does grammar says reading)
  does_asked Nothing reading none h = h
  does_asked (Wrong why) reading none h = omega (arith, h)
  does_asked Sync reading none h = omega (arith, h)
  does_asked (Does lane task) reading none h =
      asked_cond n (grammar.is_full (length reading.commands)) (Fails reason.BatchCommands reading.asked) (Goes (with_command lane task 0 reading)) (omega (arith, h)) (pushed n reading (reading.numbered + 1) lane task reading.asked h none)
  does_asked (Opens lane front) reading none h =
      asked_cond n (grammar.is_full (length reading.commands)) (Fails reason.BatchCommands reading.asked) (Goes (opened lane front reading)) (omega (arith, h)) h
  does_asked (Fetches lane name path) reading none h =
      let file : File = next_file reading.later in
      let one : length (reading.asked ++ path ∷ []) ≡ length reading.asked + 1 = length-append reading.asked (path ∷ []) in
      asked_cond n (grammar.is_full (length reading.commands)) (Fails reason.BatchCommands reading.asked) _ (omega (arith, h))
      (asked_cond n (grammar.bytes_pass (reading.bytes + file_size file)) (Fails reason.BatchBytes (reading.asked ++ path ∷ [])) (Goes (fetched lane name path file reading)) (omega (arith, h, one))
      (omega (arith, h, one, fetches_push reading.commands (reading.numbered + 1) lane (LoadFile name file))))

  closed_is : (front : Front) (body : List ℕ) → is_fetch (closed front body) ≡ false
  closed_is (LoadBlock name) body = refl
  closed_is (ReplaceBlock name) body = refl
  closed_is (SearchBlock k) body = refl
  closed_is (ContainBlock a b) body = refl
  closed_is (AsOfBlock asked k) body = refl

  block_asked : (block : Open) (reading : Reading) → n + fetches reading.commands ≤ length reading.asked → IsAsked n (Goes (block_ended block reading))
  block_asked block reading h = pushed n reading (reading.numbered + 1) block.lane (closed block.front block.body) reading.asked h (closed_is block.front block.body)

  line_asked : (block : Option Open) (line : Text) (reading : Reading) → ((text : Text) → IsNoFetch (grammar.says text)) → n + fetches reading.commands ≤ length reading.asked → IsAsked n (line_in grammar block line reading)
  line_asked None line reading none h =
      asked_unless n (line_fault grammar line) reading (does grammar (grammar.says (without_return line)) reading) (omega (arith, h)) (does_asked (grammar.says (without_return line)) reading (none (without_return line)) h)
  line_asked (Some block) line reading none h =
      asked_cond n (is_end line) (Goes (block_ended block reading)) _ (block_asked block reading h)
      (asked_unless n (body_fault grammar reading.bytes (body_after block line ++ 0x0A ∷ [])) reading (Goes (with_body block (body_after block line ++ 0x0A ∷ []) reading)) (omega (arith, h)) h)

  last_asked : (block : Option Open) (line : Text) (reading : Reading) → ((text : Text) → IsNoFetch (grammar.says text)) → n + fetches reading.commands ≤ length reading.asked → IsAsked n (last_turn grammar block line reading)
  last_asked None [] reading none h = h
  last_asked (Some block) [] reading none h = h
  last_asked None (byte ∷ bytes) reading none h = line_asked None (byte ∷ bytes) (counted (length (byte ∷ bytes)) reading) none h
  last_asked (Some block) (byte ∷ bytes) reading none h = asked_cond n (is_end (byte ∷ bytes)) (Goes (block_ended block reading)) (Goes reading) (block_asked block reading h) h

-- ---- lines

abbrev IsAskedTo : ℕ → Reached → Type 0
IsAskedTo n (Stands reading) = n + fetches reading.commands ≤ length reading.asked
IsAskedTo n (AtFault line why asked) = n ≤ length asked

abbrev AreAsked : LinesRead → Type 0
AreAsked made = IsAskedTo (sum_by fetches made.batches) made.reached

turned_asked : (batches : List Batch) (line : ℕ) (turn : Turn) → IsAsked (sum_by fetches batches) turn → AreAsked (turned batches line turn)
turned_asked batches line (Goes reading) h = h
turned_asked batches line (Gives batch reading) h = omega (arith, h, sum_by_push fetches batches batch)
turned_asked batches line (Fails why asked) h = h

line_more : (grammar : Grammar) (batches : List Batch) (reached : Reached) (line : Text) → ((text : Text) → IsNoFetch (grammar.says text)) → IsAskedTo (sum_by fetches batches) reached → AreAsked (read_more grammar batches reached line)
line_more grammar batches (Stands reading) line none h =
    turned_asked batches (reading.lines + 1) (turn_of grammar line reading) (line_asked grammar (sum_by fetches batches) reading.block line (counted (length line + 1) reading) none h)
line_more grammar batches (AtFault at why asked) line none h = h

pub read_asked : (grammar : Grammar) (before : LinesRead) (lines : List Text) → ((text : Text) → IsNoFetch (grammar.says text)) → AreAsked before → AreAsked (read grammar before lines)
unfolding read
read_asked grammar before [] none h = h
read_asked grammar before (line ∷ lines) none h = read_asked grammar (read_more grammar before.batches before.reached line) lines none (line_more grammar before.batches before.reached line none h)

-- The batches that whole lines gave.
pub reads_fetches : (limits : ScriptLimits) (lanes : ℕ) (after : Reading) (bytes held : List ℕ) (outcomes : List File) (made : List Batch) (asked : List Text)
    → ReadsOn (grammar_of limits lanes) (start []) bytes outcomes made after held asked → sum_by fetches made ≤ length asked
reads_fetches limits lanes after bytes held outcomes made asked lines_read =
    let from : AreAsked (read (grammar_of limits lanes) (read_with [] (Stands (reading_at (start []) [] (outcomes ++ [])))) lines_read.lines) =
    read_asked (grammar_of limits lanes) (read_with [] (Stands (reading_at (start []) [] (outcomes ++ [])))) lines_read.lines (says_no_fetch lanes) (omega arith) in
    let all : AreAsked (read_with made (Stands (reading_at after asked []))) = subst AreAsked (lines_read.reads []) from in
    omega (arith, all)

-- ---- the end

abbrev HasAsked : Commands → Type 0
HasAsked script = sum_by fetches script.batches ≤ length script.asked

last_fetches : (batches : List Batch) (batch : Batch) → sum_by fetches (batches ++ last_batch batch) ≡ sum_by fetches batches + fetches batch
last_fetches batches [] = sum_by-append fetches batches []
last_fetches batches (command ∷ commands) = sum_by_push fetches batches (command ∷ commands)

at_end_asked : (batches : List Batch) (block : Option Open) (reading : Reading) → sum_by fetches batches + fetches reading.commands ≤ length reading.asked → HasAsked (at_end batches block reading)
at_end_asked batches None reading h = omega (arith, h, last_fetches batches reading.commands)
at_end_asked batches (Some block) reading h = omega (arith, h)

end_asked : (batches : List Batch) (line : ℕ) (turn : Turn) → IsAsked (sum_by fetches batches) turn → HasAsked (end_turned batches line turn)
end_asked batches line (Goes reading) h = at_end_asked batches reading.block reading h
end_asked batches line (Gives batch reading) h = at_end_asked (batches ++ batch ∷ []) reading.block reading (omega (arith, h, sum_by_push fetches batches batch))
end_asked batches line (Fails why asked) h = h

has_cond : (b : Bool) (x y : Commands) → HasAsked x → HasAsked y → HasAsked (if b then x else y)
has_cond true x y h k = h
has_cond false x y h k = k

has_unless : (fault : Option Reason) (batches : List Batch) (reading : Reading) (made : Commands) → sum_by fetches batches ≤ length reading.asked → HasAsked made → HasAsked (unless_begun_fault fault batches reading made)
has_unless None batches reading made h k = k
has_unless (Some why) batches reading made h k = h

ended_asked : (grammar : Grammar) (over : Bool) (rest : Text) (batches : List Batch) (reached : Reached) → ((text : Text) → IsNoFetch (grammar.says text)) → IsAskedTo (sum_by fetches batches) reached → HasAsked (ended grammar over rest batches reached)
ended_asked grammar over rest batches (AtFault line why asked) none h = h
ended_asked grammar over rest batches (Stands reading) none h =
    has_unless (begun_fault grammar reading.block reading.bytes rest) batches reading _ (omega (arith, h))
    (has_cond over (commands_with batches (FaultAt (reading.lines + 1) reason.InputTooLong) reading.asked) (end_turned batches (reading.lines + 1) (last_turn grammar reading.block rest reading)) (omega (arith, h))
    (end_asked batches (reading.lines + 1) (last_turn grammar reading.block rest reading) (last_asked grammar (sum_by fetches batches) reading.block rest reading none h)))

pub script_fetches : AskForFiles
script_fetches limits lanes bytes files =
    let from : Grammar = grammar_of limits lanes in
    ended_asked from _ _ _ _ (says_no_fetch lanes) (read_asked from (read_with [] (Stands (start files))) (lines_of (within from (start files) bytes)).ended (says_no_fetch lanes) (omega arith))
