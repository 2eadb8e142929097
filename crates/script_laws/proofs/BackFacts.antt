-- A batch that is printed reads back.
use Rattle.std.proofs.Common.{◌≡◌, refl, ap, sym, ◌∙◌, ℕ, ◌+◌, ◌^◌, ◌<◌, ◌≤◌, List, [], ◌∷◌, ◌++◌, append_assoc, Bool, codes, decimal, length, flat_map, map, sum_by, arith, length-append}
use Rattle.std.specs.Prelude.{if◌then◌else◌, nat_lt, Option, None, Some}
use Rattle.std.specs.List.{AllByRecursion}
use Rattle.std.proofs.lemmas.Bool.{cond-false, le-ltb, lt-leb}
use Rattle.std.proofs.lemmas.List.{append-nil}
use Rattle.std.proofs.lemmas.List.Sums.{sum_by-cons}
use Rattle.lake_model.specs.Texts.{Text, lines_of}
use Rattle.script_model.specs.declared.Reason.TheVariants as reason
use Rattle.script_model.specs.declared.ScriptLimits.{ScriptLimits}
use Rattle.script_model.specs.Commands.{Batch, Command, File, Task, Load, LoadFile, DropTable, Replace, Tables, Search, Like, Contain, AsOf, Merge, command_with}
use Rattle.script_model.specs.Lanes.{IsOfLanes}
use Rattle.script_model.specs.Reading.{Fails, Goes, Grammar, LinesRead, Open, Reading, Stands, Turn, block_ended, body_fault, does, fetched, file_size, is_end, opened, read, read_with, turn_of, turned, unless_fault, with_command}
use Rattle.script_model.specs.Saying.{AsOfBlock, ContainBlock, Does, Front, LoadBlock, Opens, ReplaceBlock, Said, SearchBlock, closed, said}
use Rattle.script_model.specs.Script.{Commands, Whole, commands, commands_from, commands_with, grammar_of, start, unless_begun_fault}
use Rattle.script_model.specs.Words.{line_text, NoFeed, without_return}
use Rattle.script_model.proofs.LinesLemmas.{commands_lines, lines_use}
use Rattle.list_laws.proofs.ListLemmas.{all_append}
use Rattle.script_model.proofs.ScriptLemmas.{read_on}
use Rattle.script_text.proofs.EndLemmas.{commands_end}
use Rattle.script_laws.specs.Printed.{AreNumberedFrom, AreTasks, IsBody, IsTask, batch_lines, block_lines, body_lines, command_line, dotted, files_in, files_of, first_path, paths_behind, paths_in, printed, task_size, task_text, with_word}
use Rattle.script_laws.specs.ScriptLaws.{ReadsBack}
use Rattle.script_laws.proofs.LineFacts.{body_no_feed, dotted_no_end, kept_whole, line_ends, line_no_feed, lines_back, undotted_back}
use Rattle.script_laws.proofs.SayFacts.{says_line, task_said}
use Rattle.script_text.specs.Readings.{open_with}

-- a reading by its parts
abbrev reading_of : ℕ → ℕ → ℕ → Batch → ℕ → Option Open → List Text → List File → Reading
reading_of lines used numbered commands bytes block asked later =
    record { lines = lines; used = used; numbered = numbered; commands = commands; bytes = bytes; block = block; asked = asked; later = later }

-- Lines lead from one reading to another, whatever the number of lines and bytes is.
record Leads (by : Grammar) (before : Reading) (lines : List Text) (numbered : ℕ) (commands : Batch) (bytes : ℕ) (block : Option Open) (asked : List Text) (later : List File) : Type 0 where
  pub line : ℕ
  pub used : ℕ
  pub went : read by (read_with [] (Stands before)) lines ≡ read_with [] (Stands (reading_of line used numbered commands bytes block asked later))

module _ (limits : ScriptLimits) (lanes : ℕ) where
  abbrev by : Grammar
  by = grammar_of limits lanes

  -- one line that goes on
  one_line : (before after : Reading) (line : Text) → turn_of by line before ≡ Goes after → read by (read_with [] (Stands before)) (line ∷ []) ≡ read_with [] (Stands after)
  unfolding read
  one_line before after line e = ap (turned [] (before.lines + 1)) e

  -- one line, followed by others
  then_lines : (before after : Reading) (line : Text) (lines : List Text) → turn_of by line before ≡ Goes after → read by (read_with [] (Stands before)) (line ∷ lines) ≡ read by (read_with [] (Stands after)) lines
  unfolding read
  then_lines before after line lines e = ap (λ (t : Turn). read by (turned [] (before.lines + 1) t) lines) e

  -- ---- a line outside a block

  line_turn : (line : Text) (what : Said) (l u n : ℕ) (commands : Batch) (bytes : ℕ) (asked : List Text) (later : List File) → without_return line ≡ line → length line ≤ limits.line → said lanes line ≡ what
      → turn_of by line (reading_of l u n commands bytes None asked later) ≡ does by what (reading_of (l + 1) (u + (length line + 1)) n commands bytes None asked later)
  line_turn line what l u n commands bytes asked later kept fits e =
      let now : Reading = reading_of (l + 1) (u + (length line + 1)) n commands bytes None asked later in
      ap (λ (text : Text). unless_fault (if nat_lt limits.line (length text) then Some reason.LineTooLong else None) (reading_of (l + 1) (u + (length line + 1)) n commands bytes None asked later) (does by (said lanes text) (reading_of (l + 1) (u + (length line + 1)) n commands bytes None asked later))) kept
      ∙ ap (λ (b : Bool). unless_fault (if b then Some reason.LineTooLong else None) (reading_of (l + 1) (u + (length line + 1)) n commands bytes None asked later) (does by (said lanes line) (reading_of (l + 1) (u + (length line + 1)) n commands bytes None asked later))) (le-ltb limits.line (length line) fits)
      ∙ ap (λ (s : Said). does by s (reading_of (l + 1) (u + (length line + 1)) n commands bytes None asked later)) e

  -- ---- a block

  block_line : (line : Text) (l u n : ℕ) (commands : Batch) (bytes opened_at lane : ℕ) (front : Front) (body : List ℕ) (asked : List Text) (later : List File)
      → length (body ++ line_text line) ≤ limits.block → bytes + length (body ++ line_text line) ≤ limits.bytes
      → turn_of by (dotted line) (reading_of l u n commands bytes (Some (open_with opened_at lane front body)) asked later)
      ≡ Goes (reading_of (l + 1) (u + (length (dotted line) + 1)) n commands bytes (Some (open_with opened_at lane front (body ++ line_text line))) asked later)
  block_line line l u n commands bytes opened_at lane front body asked later small few =
      let block : Open = open_with opened_at lane front body in
      cond-false (is_end (dotted line)) (Goes (block_ended (open_with opened_at lane front body) (reading_of (l + 1) (u + (length (dotted line) + 1)) n commands bytes (Some (open_with opened_at lane front body)) asked later))) _ (dotted_no_end line)
      ∙ ap (λ (text : List ℕ). unless_fault (body_fault by bytes text) (reading_of (l + 1) (u + (length (dotted line) + 1)) n commands bytes (Some (open_with opened_at lane front body)) asked later)
      (Goes (reading_of (l + 1) (u + (length (dotted line) + 1)) n commands bytes (Some (open_with opened_at lane front text)) asked later)))
      (ap (λ (text : Text). (body ++ text) ++ 0x0A ∷ []) (undotted_back line) ∙ append_assoc body line (0x0A ∷ []))
      ∙ ap (λ (b : Bool). unless_fault (if b then Some reason.BlockTooLong else if nat_lt limits.bytes (bytes + length (body ++ line_text line)) then Some reason.BatchBytes else None) (reading_of (l + 1) (u + (length (dotted line) + 1)) n commands bytes (Some (open_with opened_at lane front body)) asked later)
      (Goes (reading_of (l + 1) (u + (length (dotted line) + 1)) n commands bytes (Some (open_with opened_at lane front (body ++ line_text line))) asked later)))
      (le-ltb limits.block (length (body ++ line_text line)) small)
      ∙ ap (λ (b : Bool). unless_fault (if b then Some reason.BatchBytes else None) (reading_of (l + 1) (u + (length (dotted line) + 1)) n commands bytes (Some (open_with opened_at lane front body)) asked later)
      (Goes (reading_of (l + 1) (u + (length (dotted line) + 1)) n commands bytes (Some (open_with opened_at lane front (body ++ line_text line))) asked later)))
      (le-ltb limits.bytes (bytes + length (body ++ line_text line)) few)

  -- the lines of a body, and the one that ends it
  block_back : (lines : List Text) (l u n : ℕ) (commands : Batch) (bytes opened_at lane : ℕ) (front : Front) (body : List ℕ) (asked : List Text) (later : List File)
      → length (body ++ flat_map line_text lines) ≤ limits.block → bytes + length (body ++ flat_map line_text lines) ≤ limits.bytes
      → Leads by (reading_of l u n commands bytes (Some (open_with opened_at lane front body)) asked later) (map dotted lines ++ codes "." ∷ [])
      (n + 1) (commands ++ command_with (n + 1) lane (closed front (body ++ flat_map line_text lines)) ∷ []) (bytes + length (body ++ flat_map line_text lines)) None asked later
  block_back [] l u n commands bytes opened_at lane front body asked later small few = record {
    line = l + 1;
    used = u + 2;
    went = one_line (reading_of l u n commands bytes (Some (open_with opened_at lane front body)) asked later) (block_ended (open_with opened_at lane front body) (reading_of (l + 1) (u + 2) n commands bytes (Some (open_with opened_at lane front body)) asked later)) (codes ".") refl
        ∙ ap (λ (text : List ℕ). read_with [] (Stands (reading_of (l + 1) (u + 2) (n + 1) (commands ++ command_with (n + 1) lane (closed front text) ∷ []) (bytes + length text) None asked later))) (sym (append-nil body));
  }
  block_back (line ∷ lines) l u n commands bytes opened_at lane front body asked later small few =
      let all : body ++ flat_map line_text (line ∷ lines) ≡ (body ++ line_text line) ++ flat_map line_text lines = sym (append_assoc body (line_text line) (flat_map line_text lines)) in
      let size : length (body ++ flat_map line_text (line ∷ lines)) ≡ length ((body ++ line_text line) ++ flat_map line_text lines) = ap length all in
      let front_size : length (body ++ line_text line) ≤ length ((body ++ line_text line) ++ flat_map line_text lines) = omega (arith, length-append (body ++ line_text line) (flat_map line_text lines)) in
      let others = block_back lines (l + 1) (u + (length (dotted line) + 1)) n commands bytes opened_at lane front (body ++ line_text line) asked later (omega (arith, small, size)) (omega (arith, few, size)) in
      record {
        line = others.line;
        used = others.used;
        went = then_lines (reading_of l u n commands bytes (Some (open_with opened_at lane front body)) asked later) _ (dotted line) (map dotted lines ++ codes "." ∷ [])
            (block_line line l u n commands bytes opened_at lane front body asked later (omega (arith, small, size, front_size)) (omega (arith, few, size, front_size)))
            ∙ others.went
            ∙ ap (λ (text : List ℕ). read_with [] (Stands (reading_of others.line others.used (n + 1) (commands ++ command_with (n + 1) lane (closed front text) ∷ []) (bytes + length text) None asked later))) (sym all);
      }

  -- ---- a command

  module _ (lane : ℕ) (some : 0 < lane) (low : lane ≤ lanes) (small : lane < 2 ^ 64) (path : Text) where
    abbrev line_of : Task → Text
    line_of task = with_word (0x40 ∷ decimal lane) (task_text path task)

    -- what the line of the command does
    command_turn : (task : Task) (l u n : ℕ) (commands : Batch) (bytes : ℕ) (asked : List Text) (later : List File) → IsTask limits path task → length (line_of task) ≤ limits.line
        → turn_of by (line_of task) (reading_of l u n commands bytes None asked later) ≡ does by (task_said lane path task) (reading_of (l + 1) (u + (length (line_of task) + 1)) n commands bytes None asked later)
    command_turn task l u n commands bytes asked later is fits =
        line_turn (line_of task) (task_said lane path task) l u n commands bytes asked later (kept_whole (line_of task) (line_ends limits lane path task is)) fits (says_line limits lanes lane path task some low small is)

    -- a command without a body
    alone : (task : Task) (l u n : ℕ) (commands : Batch) (bytes : ℕ) (asked : List Text) (later : List File) → IsTask limits path task → length (line_of task) ≤ limits.line → length commands < limits.commands
        → task_said lane path task ≡ Does lane task → Leads by (reading_of l u n commands bytes None asked later) (line_of task ∷ []) (n + 1) (commands ++ command_with (n + 1) lane task ∷ []) (bytes + 0) None (asked ++ []) later
    alone task l u n commands bytes asked later is fits room e = record {
      line = l + 1;
      used = u + (length (line_of task) + 1);
      went = one_line (reading_of l u n commands bytes None asked later) (with_command lane task 0 (reading_of (l + 1) (u + (length (line_of task) + 1)) n commands bytes None asked later)) (line_of task)
          (command_turn task l u n commands bytes asked later is fits
          ∙ ap (λ (s : Said). does by s (reading_of (l + 1) (u + (length (line_of task) + 1)) n commands bytes None asked later)) e
          ∙ cond-false _ (Fails reason.BatchCommands asked) (Goes (with_command lane task 0 (reading_of (l + 1) (u + (length (line_of task) + 1)) n commands bytes None asked later))) (lt-leb limits.commands (length commands) room))
          ∙ ap (λ (paths : List Text). read_with [] (Stands (reading_of (l + 1) (u + (length (line_of task) + 1)) (n + 1) (commands ++ command_with (n + 1) lane task ∷ []) (bytes + 0) None paths later))) (sym (append-nil asked));
    }

    -- a command with a body
    with_block : (task : Task) (front : Front) (body : List ℕ) (l u n : ℕ) (commands : Batch) (bytes : ℕ) (asked : List Text) (later : List File) → IsTask limits path task → length (line_of task) ≤ limits.line → length commands < limits.commands
        → IsBody limits body → bytes + length body ≤ limits.bytes → task_said lane path task ≡ Opens lane front → closed front body ≡ task
        → Leads by (reading_of l u n commands bytes None asked later) (line_of task ∷ block_lines body) (n + 1) (commands ++ command_with (n + 1) lane task ∷ []) (bytes + length body) None (asked ++ []) later
    with_block task front body l u n commands bytes asked later is fits room of_lines few e same =
        let whole : flat_map line_text (lines_of body).ended ≡ body =
        sym (append-nil (flat_map line_text (lines_of body).ended)) ∙ ap (λ (rest : Text). flat_map line_text (lines_of body).ended ++ rest) (sym of_lines.0) ∙ lines_back body in
        let size : length (flat_map line_text (lines_of body).ended) ≡ length body = ap length whole in
        let now : Reading = reading_of (l + 1) (u + (length (line_of task) + 1)) n commands bytes (Some (open_with (l + 1) lane front [])) asked later in
        let others = block_back (lines_of body).ended (l + 1) (u + (length (line_of task) + 1)) n commands bytes (l + 1) lane front [] asked later (omega (arith, size, of_lines.1)) (omega (arith, size, few)) in
        record {
          line = others.line;
          used = others.used;
          went = then_lines (reading_of l u n commands bytes None asked later) (reading_of (l + 1) (u + (length (line_of task) + 1)) n commands bytes (Some (open_with (l + 1) lane front [])) asked later) (line_of task) (block_lines body)
              (command_turn task l u n commands bytes asked later is fits
              ∙ ap (λ (s : Said). does by s (reading_of (l + 1) (u + (length (line_of task) + 1)) n commands bytes None asked later)) e
              ∙ cond-false _ (Fails reason.BatchCommands asked) (Goes (opened lane front (reading_of (l + 1) (u + (length (line_of task) + 1)) n commands bytes None asked later))) (lt-leb limits.commands (length commands) room))
              ∙ others.went
              ∙ ap (λ (text : List ℕ). read_with [] (Stands (reading_of others.line others.used (n + 1) (commands ++ command_with (n + 1) lane (closed front text) ∷ []) (bytes + length text) None asked later))) whole
              ∙ ap (λ (t : Task). read_with [] (Stands (reading_of others.line others.used (n + 1) (commands ++ command_with (n + 1) lane t ∷ []) (bytes + length body) None asked later))) same
              ∙ ap (λ (paths : List Text). read_with [] (Stands (reading_of others.line others.used (n + 1) (commands ++ command_with (n + 1) lane task ∷ []) (bytes + length body) None paths later))) (sym (append-nil asked));
        }

    -- a command whose file is fetched
    with_file : (name : Text) (file : File) (l u n : ℕ) (commands : Batch) (bytes : ℕ) (asked : List Text) (later : List File) → IsTask limits path (LoadFile name file) → length (line_of (LoadFile name file)) ≤ limits.line → length commands < limits.commands
        → bytes + file_size file ≤ limits.bytes
        → Leads by (reading_of l u n commands bytes None asked (file ∷ later)) (line_of (LoadFile name file) ∷ []) (n + 1) (commands ++ command_with (n + 1) lane (LoadFile name file) ∷ []) (bytes + file_size file) None (asked ++ path ∷ []) later
    with_file name file l u n commands bytes asked later is fits room few =
        let task : Task = LoadFile name file in
        record {
          line = l + 1;
          used = u + (length (line_of (LoadFile name file)) + 1);
          went = one_line (reading_of l u n commands bytes None asked (file ∷ later)) (fetched lane name path file (reading_of (l + 1) (u + (length (line_of (LoadFile name file)) + 1)) n commands bytes None asked (file ∷ later))) (line_of (LoadFile name file))
              (command_turn (LoadFile name file) l u n commands bytes asked (file ∷ later) is fits
              ∙ cond-false _ (Fails reason.BatchCommands asked) _ (lt-leb limits.commands (length commands) room)
              ∙ cond-false _ (Fails reason.BatchBytes (asked ++ path ∷ [])) _ (le-ltb limits.bytes (bytes + file_size file) few));
        }

    command_back : (task : Task) (l u n : ℕ) (commands : Batch) (bytes : ℕ) (asked : List Text) (later : List File) → IsTask limits path task → length (line_of task) ≤ limits.line → length commands < limits.commands
        → bytes + task_size task ≤ limits.bytes
        → Leads by (reading_of l u n commands bytes None asked (files_in task ++ later)) (line_of task ∷ body_lines task) (n + 1) (commands ++ command_with (n + 1) lane task ∷ []) (bytes + task_size task) None (asked ++ paths_in task path) later
    command_back (Load name body) l u n commands bytes asked later is fits room few = with_block (Load name body) (LoadBlock name) body l u n commands bytes asked later is fits room is.1 few refl refl
    command_back (LoadFile name file) l u n commands bytes asked later is fits room few = with_file name file l u n commands bytes asked later is fits room few
    command_back (DropTable name) l u n commands bytes asked later is fits room few = alone (DropTable name) l u n commands bytes asked later is fits room refl
    command_back (Replace name body) l u n commands bytes asked later is fits room few = with_block (Replace name body) (ReplaceBlock name) body l u n commands bytes asked later is fits room is.1 few refl refl
    command_back Tables l u n commands bytes asked later is fits room few = alone Tables l u n commands bytes asked later is fits room refl
    command_back (Search k body) l u n commands bytes asked later is fits room few = with_block (Search k body) (SearchBlock k) body l u n commands bytes asked later is fits room is.1 few refl refl
    command_back (Contain a b body) l u n commands bytes asked later is fits room few = with_block (Contain a b body) (ContainBlock a b) body l u n commands bytes asked later is fits room is.3 few refl refl
    command_back (AsOf position k body) l u n commands bytes asked later is fits room few = with_block (AsOf position k body) (AsOfBlock position k) body l u n commands bytes asked later is fits room is.2 few refl refl
    command_back (Like k name place) l u n commands bytes asked later is fits room few = alone (Like k name place) l u n commands bytes asked later is fits room refl
    command_back (Merge all) l u n commands bytes asked later is fits room few = alone (Merge all) l u n commands bytes asked later is fits room refl

  -- ---- a batch

  abbrev sizes : Batch → ℕ
  sizes batch = sum_by (λ command. task_size command.task) batch

  record GivesBack (before : Reading) (lines : List Text) (batch : Batch) (asked : List Text) : Type 0 where
    pub line : ℕ
    pub used : ℕ
    pub numbered : ℕ
    pub gave : read by (read_with [] (Stands before)) lines ≡ read_with (batch ∷ []) (Stands (reading_of line used numbered [] 0 None asked []))

  sync_back : (l u n : ℕ) (commands : Batch) (bytes : ℕ) (asked : List Text) → 4 ≤ limits.line → GivesBack (reading_of l u n commands bytes None asked []) (codes "sync" ∷ []) commands asked
  unfolding read
  sync_back l u n commands bytes asked fits = record {
    line = l + 1;
    used = u + 5;
    numbered = n;
    gave = ap (turned [] (l + 1)) (line_turn (codes "sync") _ l u n commands bytes asked [] refl fits refl);
  }

  batch_back : (rest : Batch) (paths : List Text) (l u n : ℕ) (commands : Batch) (bytes : ℕ) (asked : List Text) → lanes < 2 ^ 64 → 4 ≤ limits.line → AreNumberedFrom (n + 1) rest → IsOfLanes lanes rest → AreTasks limits paths rest
      → length commands + length rest ≤ limits.commands → bytes + sizes rest ≤ limits.bytes → GivesBack (reading_of l u n commands bytes None asked (files_of rest)) (batch_lines paths rest) (commands ++ rest) (asked ++ paths)
  batch_back [] paths l u n commands bytes asked small sync_fits numbers of_lanes tasks room few =
      let last = sync_back l u n commands bytes asked sync_fits in
      record {
        line = last.line;
        used = last.used;
        numbered = last.numbered;
        gave = last.gave ∙ ap (λ (batch : Batch). read_with (batch ∷ []) (Stands (reading_of last.line last.used last.numbered [] 0 None asked []))) (sym (append-nil commands))
            ∙ ap (λ (all : List Text). read_with ((commands ++ []) ∷ []) (Stands (reading_of last.line last.used last.numbered [] 0 None all []))) (sym (append-nil asked) ∙ ap (λ (ps : List Text). asked ++ ps) (sym tasks));
      }
  batch_back (command ∷ rest) paths l u n commands bytes asked small sync_fits numbers of_lanes tasks room few =
      let path : Text = first_path paths in
      let lane : ℕ = command.lane in
      let task : Task = command.task in
      let more : sizes (command ∷ rest) ≡ task_size command.task + sizes rest = sum_by-cons (λ (c : Command). task_size c.task) command rest in
      let here = command_back command.lane of_lanes.0.0 of_lanes.0.1 (omega (arith, of_lanes.0.1, small)) (first_path paths) command.task l u n commands bytes asked (files_of rest) tasks.0 tasks.1 (omega (arith, room)) (omega (arith, few, more)) in
      let behind : List Text = paths_behind command.task paths in
      let others = batch_back rest (paths_behind command.task paths) here.line here.used (n + 1) (commands ++ command ∷ []) (bytes + task_size command.task) (asked ++ paths_in command.task (first_path paths)) small sync_fits numbers.1 of_lanes.1 tasks.3
      (omega (arith, room, length-append commands (command ∷ []))) (omega (arith, few, more)) in
      record {
        line = others.line;
        used = others.used;
        numbered = others.numbered;
        gave = read_on by (read_with [] (Stands (reading_of l u n commands bytes None asked (files_of (command ∷ rest))))) (command_line (first_path paths) command ∷ body_lines command.task) (batch_lines (paths_behind command.task paths) rest)
            ∙ ap (λ (made : LinesRead). read by made (batch_lines (paths_behind command.task paths) rest)) (here.went
            ∙ ap (λ (number : ℕ). read_with [] (Stands (reading_of here.line here.used (n + 1) (commands ++ command_with number command.lane command.task ∷ []) (bytes + task_size command.task) None (asked ++ paths_in command.task (first_path paths)) (files_of rest)))) (sym numbers.0))
            ∙ others.gave
            ∙ ap (λ (batch : Batch). read_with (batch ∷ []) (Stands (reading_of others.line others.used others.numbered [] 0 None ((asked ++ paths_in command.task (first_path paths)) ++ paths_behind command.task paths) []))) (append_assoc commands (command ∷ []) rest)
            ∙ ap (λ (all : List Text). read_with ((commands ++ command ∷ rest) ∷ []) (Stands (reading_of others.line others.used others.numbered [] 0 None all [])))
            (append_assoc asked (paths_in command.task (first_path paths)) (paths_behind command.task paths) ∙ ap (λ (ps : List Text). asked ++ ps) (sym tasks.2));
      }

  lines_whole : (paths : List Text) (batch : Batch) → lanes < 2 ^ 64 → IsOfLanes lanes batch → AreTasks limits paths batch → AllByRecursion NoFeed (batch_lines paths batch)
  lines_whole paths [] small of_lanes tasks = ((refl, (refl, (refl, (refl, tt)))), tt)
  lines_whole paths (command ∷ rest) small of_lanes tasks =
      all_append NoFeed (command_line (first_path paths) command ∷ body_lines command.task) (batch_lines (paths_behind command.task paths) rest)
      (line_no_feed limits command.lane (first_path paths) command.task (omega (arith, of_lanes.0.1, small)) tasks.0, body_no_feed command.task)
      (lines_whole (paths_behind command.task paths) rest small of_lanes.1 tasks.3)

  -- nothing follows
  nothing_behind : (l u n : ℕ) (asked : List Text) → u ≤ limits.input → commands_from by (reading_of l u n [] 0 None asked []) [] ≡ commands_with [] Whole asked
  nothing_behind l u n asked within =
      let now : Reading = reading_of l u n [] 0 None asked [] in
      commands_end by (reading_of l u n [] 0 None asked []) [] tt (omega (arith, within))
      ∙ ap (λ (b : Bool). unless_begun_fault (if b then Some reason.LineTooLong else None) [] (reading_of l u n [] 0 None asked []) (commands_with [] Whole asked)) (le-ltb limits.line 0 (omega arith))

pub reads_back : ReadsBack
reads_back limits lanes paths batch is =
    let all = batch_back limits lanes batch paths 0 0 0 [] 0 [] is.few_lanes is.sync_fits is.numbers is.of_lanes is.tasks (omega (arith, is.count)) (omega (arith, is.bytes)) in
    let after : Reading = reading_of all.line all.used all.numbered [] 0 None paths [] in
    let bytes_used : all.used ≡ 0 + length (flat_map line_text (batch_lines paths batch)) = lines_use (grammar_of limits lanes) (batch_lines paths batch) (start (files_of batch)) (batch ∷ []) (reading_of all.line all.used all.numbered [] 0 None paths []) all.gave in
    let within : all.used ≤ limits.input = omega (arith, bytes_used, is.input) in
    ap (commands_from (grammar_of limits lanes) (start (files_of batch))) (sym (append-nil (printed paths batch)))
    ∙ commands_lines (grammar_of limits lanes) (batch_lines paths batch) (start (files_of batch)) (batch ∷ []) (reading_of all.line all.used all.numbered [] 0 None paths []) [] (lines_whole limits lanes paths batch is.few_lanes is.of_lanes is.tasks) all.gave within
    ∙ ap (λ (rest : Commands). commands_with ((batch ∷ []) ++ rest.batches) rest.end rest.asked) (nothing_behind limits lanes all.line all.used all.numbered paths within)
