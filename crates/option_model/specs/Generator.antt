-- The lake that is made from a seed: its tables, the commands that load and search them, and the summary of the
-- replies.
use Rattle.std.specs.Prelude.{ℕ, zero, suc, ◌+◌, ◌-◌, ◌*◌, ◌^◌, ◌/◌, ◌%◌, ◌==◌, if◌then◌else◌, List, [], ◌∷◌, ◌++◌, length, map, flat_map, sum_by, codes, decimal, Some, false}
use Rattle.std.specs.List.{range_with_len, enumerate_from}
use Rattle.lake_model.specs.Texts.{Text}
use Rattle.lake_model.specs.declared.Keys.TheVariants.{Canonical}
use Rattle.script_model.specs.Commands.{Task, Load, Like, Merge, Batch, command_with}
use Rattle.record_model.specs.Replies.{Reply, Loaded, Found, Merged}
use Rattle.script_model.specs.Options.{Options, options_with}
use Rattle.record_model.specs.Record.{Answered, RunRecord}
use Rattle.script_model.specs.Words.{line_text}
use Rattle.record_model.specs.Texts.{spaced}

-- ---- draws: a linear congruential generator, whose draws are the upper 16 bits of its states

abbrev pub next_state : ℕ → ℕ
next_state state = (1664525 * state + 1013904223) % 2 ^ 32

-- the state before the draw with this number, counted from 0
unfoldable pub state_at : ℕ → ℕ → ℕ
state_at seed zero = seed
state_at seed (suc n) = next_state (state_at seed n)

-- the draw with this number, counted from 0
abbrev pub draw : ℕ → ℕ → ℕ
draw seed n = next_state (state_at seed n) / 65536

-- ---- tables

-- a cell: `v` and a number below `below`, the bound of its column
abbrev pub cell : ℕ → ℕ → ℕ → Text
cell seed n below = 0x76 ∷ decimal (draw seed n % below)

-- the record whose first cell is the draw with this number
abbrev pub record_text : ℕ → ℕ → Text
record_text seed n = cell seed n 64 ++ 0x2C ∷ cell seed (n + 1) 1024 ++ 0x2C ∷ cell seed (n + 2) 16384 ++ 0x0A ∷ []

-- the table whose first cell is the draw with this number
abbrev pub table_text : ℕ → ℕ → ℕ → Text
table_text seed rows n = codes "a,b,c\n" ++ flat_map (λ row. record_text seed (n + 3 * row)) (range_with_len 0 rows)

abbrev pub table_name : ℕ → Text
table_name i = 0x67 ∷ decimal i

-- ---- commands

-- the load of the table with this number, counted from 1; a merge follows every fourth load
abbrev pub load_tasks : ℕ → ℕ → ℕ → List Task
load_tasks seed rows i =
    Load (table_name i) (table_text seed rows (3 * rows * (i - 1))) ∷ (if i % 4 == 0 then Merge false ∷ [] else [])

-- the search with this number, counted from 0: two draws, after those of all tables, choose its column
abbrev pub search_task : ℕ → ℕ → ℕ → ℕ → Task
search_task seed tables rows n =
    let first = 3 * rows * tables + 2 * n in
    Like 10 (table_name (1 + draw seed first % tables)) (1 + draw seed (first + 1) % 3)

-- how many searches there are
abbrev pub searches : ℕ
searches = 50

abbrev pub tasks : ℕ → ℕ → ℕ → List Task
tasks seed tables rows = flat_map (load_tasks seed rows) (range_with_len 1 tables) ++ map (search_task seed tables rows) (range_with_len 0 searches)

-- all of them, as one batch of lane 1
abbrev pub made_batch : ℕ → ℕ → ℕ → Batch
made_batch seed tables rows = map (λ task. command_with task.0 1 task.1) (enumerate_from 1 (tasks seed tables rows))

-- the options: an order of two empty pieces
abbrev pub made_options : Options
made_options = options_with 1 (Some ([] ∷ [] ∷ [])) false false Canonical

-- ---- the summary

-- what a reply adds to each sum
abbrev pub loads_in : Reply → ℕ
loads_in (Loaded name columns members at) = 1
loads_in reply = 0

abbrev pub members_in : Reply → ℕ
members_in (Loaded name columns members at) = members
members_in reply = 0

abbrev pub merges_in : Reply → ℕ
merges_in (Merged layout parts tables at) = 1
merges_in reply = 0

abbrev pub answers_in : Reply → ℕ
answers_in (Found query rows reads probes layout) = 1
answers_in reply = 0

abbrev pub rows_in : Reply → ℕ
rows_in (Found query rows reads probes layout) = length rows
rows_in reply = 0

abbrev pub overlap_in : Reply → ℕ
overlap_in (Found query rows reads probes layout) = sum_by (λ row. row.overlap) rows
overlap_in reply = 0

abbrev pub reads_in : Reply → ℕ
reads_in (Found query rows reads probes layout) = reads
reads_in reply = 0

abbrev pub probes_in : Reply → ℕ
probes_in (Found query rows reads probes layout) = probes
probes_in reply = 0

abbrev pub summed : (Reply → ℕ) → List Answered → ℕ
summed count answers = sum_by (λ answer. count answer.reply) answers

-- accepted loads and their members, accepted swaps, the searches that were answered, their rows and the overlaps of
-- these, and the posting lists that these searches read and the sets that they probed
abbrev pub summary_lines : List Answered → List Text
summary_lines answers =
    spaced (codes "tables" ∷ decimal (summed loads_in answers) ∷ [])
    ∷ spaced (codes "members" ∷ decimal (summed members_in answers) ∷ [])
    ∷ spaced (codes "merges" ∷ decimal (summed merges_in answers) ∷ [])
    ∷ spaced (codes "answers" ∷ decimal (summed answers_in answers) ∷ codes "rows" ∷ decimal (summed rows_in answers) ∷ codes "overlap" ∷ decimal (summed overlap_in answers) ∷ [])
    ∷ spaced (codes "reads" ∷ decimal (summed reads_in answers) ∷ codes "probes" ∷ decimal (summed probes_in answers) ∷ [])
    ∷ []

abbrev pub summary : RunRecord → Text
summary made = flat_map line_text (summary_lines made.answers)
