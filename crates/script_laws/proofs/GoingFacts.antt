-- What holds of the commands of a script, if each further command keeps it.
use Rattle.std.proofs.Common.{◌≡◌, refl, subst, sym, ap, ◌∙◌, ℕ, ◌+◌, List, [], ◌∷◌, ◌++◌, append_assoc, Bool, true, false, length}
use Rattle.std.specs.Prelude.{⊤, Option, None, Some, if◌then◌else◌}
use Rattle.std.proofs.lemmas.List.{append-nil}
use Rattle.std.proofs.lemmas.Grind.{flat_map-append}
use Rattle.lake_model.specs.Texts.{Text, lines_of}
use Rattle.script_model.specs.declared.Reason.{Reason}
use Rattle.script_model.specs.declared.Reason.TheVariants as reason
use Rattle.script_model.specs.Commands.{Batch, File, LoadFile, Task, command_with}
use Rattle.script_model.specs.Reading.{AtFault, Fails, Gives, Goes, Grammar, LinesRead, Open, Reached, Reading, Stands, Turn, block_ended, body_after, body_fault, counted, does, fetched, file_size, is_end, line_fault, line_in, next_file, opened, read, read_more, read_with, turn_of, turned, unless_fault, with_body, with_command}
use Rattle.script_model.specs.Saying.{Does, Fetches, Nothing, Opens, Said, Sync, Wrong, closed}
use Rattle.script_model.specs.Script.{Commands, FaultAt, at_end, begun_fault, commands_from, commands_with, end_turned, ended, last_batch, last_turn, unless_begun_fault, within}
use Rattle.script_model.specs.Words.{without_return}
use Rattle.script_laws.specs.ScriptLaws.{all_commands}

-- a line states only lanes of which this holds
abbrev pub OfLanes : (ℕ → Type 0) → Said → Type 0
OfLanes L Nothing = ⊤
OfLanes L (Wrong why) = ⊤
OfLanes L Sync = ⊤
OfLanes L (Does lane task) = L lane
OfLanes L (Opens lane front) = L lane
OfLanes L (Fetches lane name path) = L lane

-- It holds of this many commands, also of the first ones, and is kept by one more command in such a lane.
pub record Keeps (Q : Batch → ℕ → Type 0) (L : ℕ → Type 0) : Type 0 where
  pub none : Q [] 0
  pub more : (commands : Batch) (n lane : ℕ) (task : Task) → Q commands n → L lane → Q (commands ++ command_with (n + 1) lane task ∷ []) (n + 1)
  pub front : (commands others : Batch) (n : ℕ) → Q (commands ++ others) n → (m : ℕ) × Q commands m

module _ (Q : Batch → ℕ → Type 0) (L : ℕ → Type 0) (keeps : Keeps Q L) (grammar : Grammar) (says : (text : Text) → OfLanes L (grammar.says text)) where
  abbrev IsOpenOf : Option Open → Type 0
  IsOpenOf None = ⊤
  IsOpenOf (Some block) = L block.lane

  -- it holds of the batches and the commands after them
  abbrev Stays : List Batch → Reading → Type 0
  Stays batches reading = Q (all_commands batches ++ reading.commands) reading.numbered × IsOpenOf reading.block

  abbrev Ends : List Batch → Type 0
  Ends batches = (m : ℕ) × Q (all_commands batches) m

  abbrev StaysTurn : List Batch → Turn → Type 0
  StaysTurn batches (Goes reading) = Stays batches reading
  StaysTurn batches (Gives batch reading) = Stays (batches ++ batch ∷ []) reading
  StaysTurn batches (Fails why asked) = Ends batches

  -- ---- turns

  front_ends : (batches : List Batch) (reading : Reading) → Stays batches reading → Ends batches
  front_ends batches reading h = keeps.front (all_commands batches) reading.commands reading.numbered h.0

  all_push : (batches : List Batch) (batch : Batch) → all_commands (batches ++ batch ∷ []) ≡ all_commands batches ++ batch
  all_push batches batch = flat_map-append (λ (b : Batch). b) batches (batch ∷ []) ∙ ap (λ (commands : Batch). all_commands batches ++ commands) (append-nil batch)

  turn_cond : (batches : List Batch) (b : Bool) (x y : Turn) → StaysTurn batches x → StaysTurn batches y → StaysTurn batches (if b then x else y)
  turn_cond batches true x y h k = h
  turn_cond batches false x y h k = k

  turn_unless : (batches : List Batch) (fault : Option Reason) (reading : Reading) (turn : Turn) → Ends batches → StaysTurn batches turn → StaysTurn batches (unless_fault fault reading turn)
  turn_unless batches None reading turn h k = k
  turn_unless batches (Some why) reading turn h k = h

  one_more : (batches : List Batch) (commands : Batch) (n lane : ℕ) (task : Task) → Q (all_commands batches ++ commands) n → L lane → Q (all_commands batches ++ (commands ++ command_with (n + 1) lane task ∷ [])) (n + 1)
  one_more batches commands n lane task h k =
      subst (λ (all : Batch). Q all (n + 1)) (append_assoc (all_commands batches) commands (command_with (n + 1) lane task ∷ [])) (keeps.more (all_commands batches ++ commands) n lane task h k)

  does_stay : (batches : List Batch) (said : Said) (reading : Reading) → reading.block ≡ None → OfLanes L said → Stays batches reading → StaysTurn batches (does grammar said reading)
  does_stay batches Nothing reading closed said h = h
  does_stay batches (Wrong why) reading closed said h = front_ends batches reading h
  does_stay batches Sync reading closed said h =
      (subst (λ (all : Batch). Q all reading.numbered) (sym (append-nil (all_commands (batches ++ reading.commands ∷ [])) ∙ all_push batches reading.commands)) h.0, h.1)
  does_stay batches (Does lane task) reading closed said h =
      turn_cond batches (grammar.is_full (length reading.commands)) (Fails reason.BatchCommands reading.asked) (Goes (with_command lane task 0 reading)) (front_ends batches reading h)
      (one_more batches reading.commands reading.numbered lane task h.0 said, h.1)
  does_stay batches (Opens lane front) reading closed said h =
      turn_cond batches (grammar.is_full (length reading.commands)) (Fails reason.BatchCommands reading.asked) (Goes (opened lane front reading)) (front_ends batches reading h) (h.0, said)
  does_stay batches (Fetches lane name path) reading closed said h =
      let file : File = next_file reading.later in
      turn_cond batches (grammar.is_full (length reading.commands)) (Fails reason.BatchCommands reading.asked) _ (front_ends batches reading h)
      (turn_cond batches (grammar.bytes_pass (reading.bytes + file_size file)) (Fails reason.BatchBytes (reading.asked ++ path ∷ [])) (Goes (fetched lane name path file reading)) (front_ends batches reading h)
      (one_more batches reading.commands reading.numbered lane (LoadFile name file) h.0 said, h.1))

  block_stays : (batches : List Batch) (block : Open) (reading : Reading) → L block.lane → Stays batches reading → StaysTurn batches (Goes (block_ended block reading))
  block_stays batches block reading lane h = (one_more batches reading.commands reading.numbered block.lane (closed block.front block.body) h.0 lane, tt)

  line_stays : (batches : List Batch) (block : Option Open) (line : Text) (reading : Reading) → reading.block ≡ block → Stays batches reading → StaysTurn batches (line_in grammar block line reading)
  line_stays batches None line reading is h =
      turn_unless batches (line_fault grammar line) reading (does grammar (grammar.says (without_return line)) reading) (front_ends batches reading h)
      (does_stay batches (grammar.says (without_return line)) reading is (says (without_return line)) h)
  line_stays batches (Some block) line reading is h =
      let lane : L block.lane = subst IsOpenOf is h.1 in
      turn_cond batches (is_end line) (Goes (block_ended block reading)) _ (block_stays batches block reading lane h)
      (turn_unless batches (body_fault grammar reading.bytes (body_after block line ++ 0x0A ∷ [])) reading (Goes (with_body block (body_after block line ++ 0x0A ∷ []) reading)) (front_ends batches reading h) (h.0, lane))

  last_stays : (batches : List Batch) (block : Option Open) (line : Text) (reading : Reading) → reading.block ≡ block → Stays batches reading → StaysTurn batches (last_turn grammar block line reading)
  last_stays batches None [] reading is h = h
  last_stays batches (Some block) [] reading is h = h
  last_stays batches None (byte ∷ bytes) reading is h = line_stays batches None (byte ∷ bytes) (counted (length (byte ∷ bytes)) reading) is h
  last_stays batches (Some block) (byte ∷ bytes) reading is h =
      turn_cond batches (is_end (byte ∷ bytes)) (Goes (block_ended block reading)) (Goes reading) (block_stays batches block reading (subst IsOpenOf is h.1) h) h

  -- ---- lines

  abbrev StaysTo : List Batch → Reached → Type 0
  StaysTo batches (Stands reading) = Stays batches reading
  StaysTo batches (AtFault line why asked) = Ends batches

  abbrev Stay : LinesRead → Type 0
  Stay made = StaysTo made.batches made.reached

  turned_stay : (batches : List Batch) (line : ℕ) (turn : Turn) → StaysTurn batches turn → Stay (turned batches line turn)
  turned_stay batches line (Goes reading) h = h
  turned_stay batches line (Gives batch reading) h = h
  turned_stay batches line (Fails why asked) h = h

  more_stay : (batches : List Batch) (reached : Reached) (line : Text) → StaysTo batches reached → Stay (read_more grammar batches reached line)
  more_stay batches (Stands reading) line h = turned_stay batches (reading.lines + 1) (turn_of grammar line reading) (line_stays batches reading.block line (counted (length line + 1) reading) refl h)
  more_stay batches (AtFault at why asked) line h = h

  read_stay : (before : LinesRead) (lines : List Text) → Stay before → Stay (read grammar before lines)
  unfolding read
  read_stay before [] h = h
  read_stay before (line ∷ lines) h = read_stay (read_more grammar before.batches before.reached line) lines (more_stay before.batches before.reached line h)

  -- ---- the end

  last_all : (batches : List Batch) (batch : Batch) → all_commands (batches ++ last_batch batch) ≡ all_commands batches ++ batch
  last_all batches [] = ap all_commands (append-nil batches) ∙ sym (append-nil (all_commands batches))
  last_all batches (command ∷ commands) = all_push batches (command ∷ commands)

  at_end_stays : (batches : List Batch) (block : Option Open) (reading : Reading) → Stays batches reading → Ends (at_end batches block reading).batches
  at_end_stays batches None reading h = (reading.numbered, subst (λ (all : Batch). Q all reading.numbered) (sym (last_all batches reading.commands)) h.0)
  at_end_stays batches (Some block) reading h = front_ends batches reading h

  end_stays : (batches : List Batch) (line : ℕ) (turn : Turn) → StaysTurn batches turn → Ends (end_turned batches line turn).batches
  end_stays batches line (Goes reading) h = at_end_stays batches reading.block reading h
  end_stays batches line (Gives batch reading) h = at_end_stays (batches ++ batch ∷ []) reading.block reading h
  end_stays batches line (Fails why asked) h = h

  end_cond : (b : Bool) (x y : Commands) → Ends x.batches → Ends y.batches → Ends (if b then x else y).batches
  end_cond true x y h k = h
  end_cond false x y h k = k

  end_unless : (fault : Option Reason) (batches : List Batch) (reading : Reading) (made : Commands) → Ends batches → Ends made.batches → Ends (unless_begun_fault fault batches reading made).batches
  end_unless None batches reading made h k = k
  end_unless (Some why) batches reading made h k = h

  ended_stays : (over : Bool) (rest : Text) (batches : List Batch) (reached : Reached) → StaysTo batches reached → Ends (ended grammar over rest batches reached).batches
  ended_stays over rest batches (AtFault line why asked) h = h
  ended_stays over rest batches (Stands reading) h =
      end_unless (begun_fault grammar reading.block reading.bytes rest) batches reading _ (front_ends batches reading h)
      (end_cond over (commands_with batches (FaultAt (reading.lines + 1) reason.InputTooLong) reading.asked) (end_turned batches (reading.lines + 1) (last_turn grammar reading.block rest reading)) (front_ends batches reading h)
      (end_stays batches (reading.lines + 1) (last_turn grammar reading.block rest reading) (last_stays batches reading.block rest reading refl h)))

  -- It holds of the commands of a whole script.
  pub commands_stay : (from : Reading) (bytes : List ℕ) → Stays [] from → Ends (commands_from grammar from bytes).batches
  commands_stay from bytes h = ended_stays _ _ _ _ (read_stay (read_with [] (Stands from)) (lines_of (within grammar from bytes)).ended h)
