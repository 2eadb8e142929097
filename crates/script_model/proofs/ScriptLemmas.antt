-- A script may be read a piece at a time, and a line at a time.
use Rattle.std.proofs.Common.{◌≡◌, refl, ap, sym, ◌∙◌, ℕ, ◌+◌, ◌-◌, ◌≤◌, List, [], ◌∷◌, ◌++◌, append_assoc, Bool, true, false, length, take, cond, arith, length-append}
use Rattle.std.specs.Prelude.{◌==◌, nat_lt, Option, Some, None, ⊤}
use Rattle.std.proofs.lemmas.List.{append-nil, take_all}
use Rattle.std.proofs.lemmas.List.Sums.{fold-append}
use Rattle.std.proofs.Math.Seq.{take-append-add}
use Rattle.std.proofs.lemmas.Bool.Decides.{nat_tests}
use Rattle.script_model.specs.declared.Reason.{Reason}
use Rattle.script_model.specs.declared.Reason.TheVariants as reason
use Rattle.lake_model.specs.Texts.{Text, Lines, lines_with, onto_lines, lines_of}
use Rattle.script_model.specs.Words.{NoFeed, without_return}
use Rattle.script_model.specs.Reading.{Grammar, Open, Reading, Reached, Stands, AtFault, LinesRead, read_with, Turn, Goes, Gives, Fails, turned, turn_of, read_more, read, counted, does, with_command, opened, fetched, file_size, next_file, unless_fault, line_fault, body_fault, line_in, is_end, body_after, with_body, block_ended}
use Rattle.script_model.specs.Commands.{Batch}
use Rattle.script_model.specs.Saying.{Said, Nothing, Wrong, Sync, Does, Opens, Fetches}
use Rattle.script_model.specs.Script.{Commands, commands_with, commands_from, ended, FaultAt, Whole, begun_fault, unless_begun_fault, last_turn, end_turned, at_end, last_batch}

-- ---- lines

-- the lines of a text and of what follows
abbrev pub joined : Lines → Text → Lines
joined lines ys = lines_with (lines.ended ++ (lines_of (lines.rest ++ ys)).ended) (lines_of (lines.rest ++ ys)).rest

joined_byte : (b : ℕ) (c : Bool) (lines : List Text) (rest ys : Text) → (b == 0x0A) ≡ c
    → onto_lines b (joined (lines_with lines rest) ys) ≡ joined (onto_lines b (lines_with lines rest)) ys
unfolding lines_of
joined_byte b true lines rest ys e = rw e refl
joined_byte b false [] rest ys e = rw (e, e) refl
joined_byte b false (line ∷ lines) rest ys e = rw e refl

-- What follows a text goes on after its last line feed.
pub lines_more : (xs ys : Text) → lines_of (xs ++ ys) ≡ joined (lines_of xs) ys
unfolding lines_of
lines_more [] ys = refl
lines_more (b ∷ xs) ys = ap (onto_lines b) (lines_more xs ys) ∙ joined_byte b (b == 0x0A) (lines_of xs).ended (lines_of xs).rest ys refl

-- A text that begins with a line.
pub lines_first : (line more : Text) → NoFeed line → lines_of (line ++ 0x0A ∷ more) ≡ lines_with (line ∷ (lines_of more).ended) (lines_of more).rest
unfolding lines_of
lines_first [] more h = refl
lines_first (b ∷ line) more h = ap (onto_lines b) (lines_first line more h.1) ∙ (rw h.0 refl)

pub lines_none : (line : Text) → NoFeed line → lines_of line ≡ lines_with [] line
unfolding lines_of
lines_none [] h = refl
lines_none (b ∷ line) h = ap (onto_lines b) (lines_none line h.1) ∙ (rw h.0 refl)

-- ---- reading

-- Lines are read one after another.
pub read_on : (grammar : Grammar) (before : LinesRead) (xs ys : List Text) → read grammar before (xs ++ ys) ≡ read grammar (read grammar before xs) ys
unfolding read
read_on grammar before xs ys = fold-append _ before xs ys

-- ---- the batches given before are kept

abbrev pub behind_batches : List Batch → LinesRead → LinesRead
behind_batches given made = read_with (given ++ made.batches) made.reached

turned_behind : (given batches : List Batch) (line : ℕ) (turn : Turn) → turned (given ++ batches) line turn ≡ behind_batches given (turned batches line turn)
turned_behind given batches line (Goes reading) = refl
turned_behind given batches line (Gives batch reading) = ap (λ bs. read_with bs (Stands reading)) (append_assoc given batches (batch ∷ []))
turned_behind given batches line (Fails why asked) = refl

more_behind : (grammar : Grammar) (given batches : List Batch) (reached : Reached) (line : Text)
    → read_more grammar (given ++ batches) reached line ≡ behind_batches given (read_more grammar batches reached line)
more_behind grammar given batches (Stands reading) line = turned_behind given batches (reading.lines + 1) (turn_of grammar line reading)
more_behind grammar given batches (AtFault at why asked) line = refl

-- The result of lines does not depend on the batches given before.
pub read_behind : (grammar : Grammar) (given : List Batch) (before : LinesRead) (lines : List Text)
    → read grammar (behind_batches given before) lines ≡ behind_batches given (read grammar before lines)
unfolding read
read_behind grammar given before [] = refl
read_behind grammar given before (line ∷ lines) =
    ap (λ (b : LinesRead). read grammar b lines) (more_behind grammar given before.batches before.reached line)
    ∙ read_behind grammar given (read_more grammar before.batches before.reached line) lines

pub read_fault : (grammar : Grammar) (batches : List Batch) (at : ℕ) (why : Reason) (asked : List Text) (lines : List Text)
    → read grammar (read_with batches (AtFault at why asked)) lines ≡ read_with batches (AtFault at why asked)
unfolding read
read_fault grammar batches at why asked [] = refl
read_fault grammar batches at why asked (line ∷ lines) = read_fault grammar batches at why asked lines

abbrev pub with_batches : List Batch → Commands → Commands
with_batches given made = commands_with (given ++ made.batches) made.end made.asked

at_end_behind : (given batches : List Batch) (block : Option Open) (reading : Reading) → at_end (given ++ batches) block reading ≡ with_batches given (at_end batches block reading)
at_end_behind given batches None reading = ap (λ bs. commands_with bs Whole reading.asked) (append_assoc given batches (last_batch reading.commands))
at_end_behind given batches (Some block) reading = refl

end_behind : (given batches : List Batch) (line : ℕ) (turn : Turn) → end_turned (given ++ batches) line turn ≡ with_batches given (end_turned batches line turn)
end_behind given batches line (Goes reading) = at_end_behind given batches reading.block reading
end_behind given batches line (Gives batch reading) = ap (λ bs. at_end bs reading.block reading) (append_assoc given batches (batch ∷ [])) ∙ at_end_behind given (batches ++ batch ∷ []) reading.block reading
end_behind given batches line (Fails why asked) = refl

stands_behind : (grammar : Grammar) (over : Bool) (rest : Text) (given batches : List Batch) (reading : Reading) (fault : Option Reason)
    → unless_begun_fault fault (given ++ batches) reading (cond over (commands_with (given ++ batches) (FaultAt (reading.lines + 1) reason.InputTooLong) reading.asked) (end_turned (given ++ batches) (reading.lines + 1) (last_turn grammar reading.block rest reading)))
    ≡ with_batches given (unless_begun_fault fault batches reading (cond over (commands_with batches (FaultAt (reading.lines + 1) reason.InputTooLong) reading.asked) (end_turned batches (reading.lines + 1) (last_turn grammar reading.block rest reading))))
stands_behind grammar over rest given batches reading (Some why) = refl
stands_behind grammar true rest given batches reading None = refl
stands_behind grammar false rest given batches reading None = end_behind given batches (reading.lines + 1) (last_turn grammar reading.block rest reading)

ended_behind : (grammar : Grammar) (over : Bool) (rest : Text) (given batches : List Batch) (reached : Reached)
    → ended grammar over rest (given ++ batches) reached ≡ with_batches given (ended grammar over rest batches reached)
ended_behind grammar over rest given batches (Stands reading) = stands_behind grammar over rest given batches reading (begun_fault grammar reading.block reading.bytes rest)
ended_behind grammar over rest given batches (AtFault line why asked) = refl

-- ---- the bytes that a turn used

abbrev pub UsesUpTo : ℕ → Turn → Type 0
UsesUpTo n (Goes reading) = reading.used ≡ n
UsesUpTo n (Gives batch reading) = reading.used ≡ n
UsesUpTo n (Fails why asked) = ⊤

fails_or : (b : Bool) (n : ℕ) (why : Reason) (asked : List Text) (turn : Turn) → UsesUpTo n turn → UsesUpTo n (cond b (Fails why asked) turn)
fails_or true n why asked turn h = tt
fails_or false n why asked turn h = h

does_uses : (grammar : Grammar) (said : Said) (reading : Reading) → UsesUpTo reading.used (does grammar said reading)
does_uses grammar Nothing reading = refl
does_uses grammar (Wrong why) reading = tt
does_uses grammar Sync reading = refl
does_uses grammar (Does lane task) reading = fails_or (grammar.is_full (length reading.commands)) reading.used reason.BatchCommands reading.asked (Goes (with_command lane task 0 reading)) refl
does_uses grammar (Opens lane front) reading = fails_or (grammar.is_full (length reading.commands)) reading.used reason.BatchCommands reading.asked (Goes (opened lane front reading)) refl
does_uses grammar (Fetches lane name path) reading =
    let file = next_file reading.later in
    fails_or (grammar.is_full (length reading.commands)) reading.used reason.BatchCommands reading.asked
    (cond (grammar.bytes_pass (reading.bytes + file_size file)) (Fails reason.BatchBytes (reading.asked ++ path ∷ [])) (Goes (fetched lane name path file reading)))
    (fails_or (grammar.bytes_pass (reading.bytes + file_size file)) reading.used reason.BatchBytes (reading.asked ++ path ∷ []) (Goes (fetched lane name path (next_file reading.later) reading)) refl)

unless_uses : (fault : Option Reason) (n : ℕ) (reading : Reading) (turn : Turn) → UsesUpTo n turn → UsesUpTo n (unless_fault fault reading turn)
unless_uses None n reading turn h = h
unless_uses (Some why) n reading turn h = tt

either : (b : Bool) (n : ℕ) (one other : Turn) → UsesUpTo n one → UsesUpTo n other → UsesUpTo n (cond b one other)
either true n one other h k = h
either false n one other h k = k

line_uses : (grammar : Grammar) (block : Option Open) (line : Text) (reading : Reading) → UsesUpTo reading.used (line_in grammar block line reading)
line_uses grammar None line reading = unless_uses (line_fault grammar line) reading.used reading (does grammar (grammar.says (without_return line)) reading) (does_uses grammar (grammar.says (without_return line)) reading)
line_uses grammar (Some block) line reading =
    either (is_end line) reading.used (Goes (block_ended block reading)) _ refl
    (unless_uses (body_fault grammar reading.bytes (body_after block line ++ 0x0A ∷ [])) reading.used reading (Goes (with_body block (body_after block line ++ 0x0A ∷ []) reading)) refl)

-- A turn uses its line and the line feed.
pub turn_uses : (grammar : Grammar) (line : Text) (reading : Reading) → UsesUpTo (reading.used + (length line + 1)) (turn_of grammar line reading)
turn_uses grammar line reading = line_uses grammar reading.block line (counted (length line + 1) reading)

-- ---- one line

-- the result of an input after a turn
abbrev pub after_turn : Grammar → ℕ → Turn → Text → Commands
after_turn grammar line (Goes reading) more = commands_from grammar reading more
after_turn grammar line (Gives batch reading) more = with_batches (batch ∷ []) (commands_from grammar reading more)
after_turn grammar line (Fails why asked) more = commands_with [] (FaultAt line why) asked

-- the end of an input of which at most this many bytes may still come
abbrev finish : Grammar → ℕ → Text → LinesRead → Commands
finish grammar room more made = ended grammar (nat_lt room (length more)) (lines_of (take room more)).rest made.batches made.reached

finish_turn : (grammar : Grammar) (n line : ℕ) (more : Text) (turn : Turn) → UsesUpTo n turn
    → finish grammar (grammar.input - n) more (read grammar (turned [] line turn) (lines_of (take (grammar.input - n) more)).ended) ≡ after_turn grammar line turn more
finish_turn grammar n line more (Goes reading) h =
    ap (λ (m : ℕ). finish grammar (grammar.input - m) more (read grammar (read_with [] (Stands reading)) (lines_of (take (grammar.input - m) more)).ended)) (sym h)
finish_turn grammar n line more (Gives batch reading) h =
    ap (λ (m : ℕ). finish grammar (grammar.input - m) more (read grammar (read_with (batch ∷ []) (Stands reading)) (lines_of (take (grammar.input - m) more)).ended)) (sym h)
    ∙ ap (finish grammar (grammar.input - reading.used) more) (read_behind grammar (batch ∷ []) (read_with [] (Stands reading)) (lines_of (take (grammar.input - reading.used) more)).ended)
    ∙ ended_behind grammar (nat_lt (grammar.input - reading.used) (length more)) (lines_of (take (grammar.input - reading.used) more)).rest (batch ∷ []) _ _
finish_turn grammar n line more (Fails why asked) h =
    ap (finish grammar (grammar.input - n) more) (read_fault grammar [] line why asked (lines_of (take (grammar.input - n) more)).ended)

take_line : (room : ℕ) (line more : Text) → length line + 1 ≤ room → take room (line ++ 0x0A ∷ more) ≡ line ++ 0x0A ∷ take (room - (length line + 1)) more
take_line room line more h =
    let e : room ≡ length line + (1 + (room - (length line + 1))) = omega (arith, h) in
    ap (λ (n : ℕ). take n (line ++ 0x0A ∷ more)) e ∙ take-append-add line (0x0A ∷ more) (1 + (room - (length line + 1))) ∙ ap (λ xs. line ++ xs) (take-append-add (0x0A ∷ []) more (room - (length line + 1)))

over_line : (room : ℕ) (line more : Text) → length line + 1 ≤ room → nat_lt room (length (line ++ 0x0A ∷ more)) ≡ nat_lt (room - (length line + 1)) (length more)
over_line room line more h =
    let e : length (line ++ 0x0A ∷ more) ≡ length line + 1 + length more = omega (arith, length-append line (0x0A ∷ more)) in
    ap (nat_lt room) e ∙ grind (arith, nat_tests, h)

-- An input that begins with a whole line within the limit gives that line's turn and then the rest.
pub commands_line : (grammar : Grammar) (reading : Reading) (line more : Text) → NoFeed line → reading.used + (length line + 1) ≤ grammar.input
    → commands_from grammar reading (line ++ 0x0A ∷ more) ≡ after_turn grammar (reading.lines + 1) (turn_of grammar line reading) more
unfolding read
commands_line grammar reading line more whole h =
    let room : ℕ = grammar.input - reading.used in
    let fits : length line + 1 ≤ grammar.input - reading.used = omega (arith, h) in
    let left : grammar.input - reading.used - (length line + 1) ≡ grammar.input - (reading.used + (length line + 1)) = omega arith in
    let lines : lines_of (take (grammar.input - reading.used) (line ++ 0x0A ∷ more)) ≡ lines_with (line ∷ (lines_of (take (grammar.input - (reading.used + (length line + 1))) more)).ended) (lines_of (take (grammar.input - (reading.used + (length line + 1))) more)).rest =
    ap lines_of (take_line (grammar.input - reading.used) line more fits ∙ ap (λ (m : ℕ). line ++ 0x0A ∷ take m more) left) ∙ lines_first line (take (grammar.input - (reading.used + (length line + 1))) more) whole in
    let over : nat_lt (grammar.input - reading.used) (length (line ++ 0x0A ∷ more)) ≡ nat_lt (grammar.input - (reading.used + (length line + 1))) (length more) =
    over_line (grammar.input - reading.used) line more fits ∙ ap (λ (m : ℕ). nat_lt m (length more)) left in
    ap (λ (ls : Lines). ended grammar (nat_lt (grammar.input - reading.used) (length (line ++ 0x0A ∷ more))) ls.rest (read grammar (read_with [] (Stands reading)) ls.ended).batches (read grammar (read_with [] (Stands reading)) ls.ended).reached) lines
    ∙ ap (λ (b : Bool). ended grammar b (lines_of (take (grammar.input - (reading.used + (length line + 1))) more)).rest (read grammar (read_with [] (Stands reading)) (line ∷ (lines_of (take (grammar.input - (reading.used + (length line + 1))) more)).ended)).batches (read grammar (read_with [] (Stands reading)) (line ∷ (lines_of (take (grammar.input - (reading.used + (length line + 1))) more)).ended)).reached) over
    ∙ finish_turn grammar (reading.used + (length line + 1)) (reading.lines + 1) more (turn_of grammar line reading) (line_uses grammar reading.block line (counted (length line + 1) reading))

-- ---- a part of an input

-- The batches of the lines so far are the first batches of the whole input, however it goes on.
pub batches_first : (grammar : Grammar) (reading : Reading) (given left : Text) → reading.used + length (given ++ left) ≤ grammar.input
    → (later : Commands) × (commands_from grammar reading (given ++ left) ≡ with_batches (read grammar (read_with [] (Stands reading)) (lines_of given).ended).batches later)
batches_first grammar reading given left h =
    let made : LinesRead = read grammar (read_with [] (Stands reading)) (lines_of given).ended in
    let all : Lines = lines_of (given ++ left) in
    let next : List Text = (lines_of ((lines_of given).rest ++ left)).ended in
    let over : Bool = nat_lt (grammar.input - reading.used) (length (given ++ left)) in
    let rest : LinesRead = read grammar (read_with [] made.reached) next in
    let start_again : behind_batches made.batches (read_with [] made.reached) ≡ made = ap (λ bs. read_with bs made.reached) (append-nil made.batches) in
    let reads : read grammar (read_with [] (Stands reading)) all.ended ≡ behind_batches made.batches rest =
    ap (λ (ls : Lines). read grammar (read_with [] (Stands reading)) ls.ended) (lines_more given left)
    ∙ read_on grammar (read_with [] (Stands reading)) (lines_of given).ended next
    ∙ ap (λ (b : LinesRead). read grammar b next) (sym start_again)
    ∙ read_behind grammar made.batches (read_with [] made.reached) next in
    let fits : take (grammar.input - reading.used) (given ++ left) ≡ given ++ left = take_all (grammar.input - reading.used) (given ++ left) (omega (arith, h)) in (
      ended grammar over all.rest rest.batches rest.reached,
      ap (λ (xs : Text). ended grammar over (lines_of xs).rest (read grammar (read_with [] (Stands reading)) (lines_of xs).ended).batches (read grammar (read_with [] (Stands reading)) (lines_of xs).ended).reached) fits
          ∙ ap (λ (r : LinesRead). ended grammar over all.rest r.batches r.reached) reads
          ∙ ended_behind grammar over all.rest made.batches rest.batches rest.reached,
    )
