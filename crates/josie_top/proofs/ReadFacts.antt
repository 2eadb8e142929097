-- What was read call by call is the same as what one call reads.
use Rattle.std.proofs.Common.{◌≡◌, refl, ap, sym, ◌∙◌, ℕ, suc, ◌≤◌, List, [], ◌∷◌, ◌++◌, append_assoc, length, flat_map}
use Rattle.std.specs.Prelude.{Option}
use Rattle.std.proofs.lemmas.List.{append-nil}
use Rattle.std.proofs.lemmas.Grind.{flat_map-append}
use Rattle.lake_io.specs.Files as shelf
use Rattle.lake_model.specs.Texts.{Text}
use Rattle.script_model.specs.Commands.{File, Batch}
use Rattle.script_model.specs.Words.{NoFeed, line_text}
use Rattle.script_model.specs.Reading.{Grammar, Reading, Stands, LinesRead, read_with, read}
use Rattle.script_model.specs.Script.{Commands, commands_with, commands_from}
use Rattle.script_model.proofs.ScriptLemmas.{read_on, behind_batches, read_behind, with_batches}
use Rattle.script_model.proofs.AskedLemmas.{asking, lines_asking, reached_asking, read_asking, commands_from_asking}
use Rattle.script_model.proofs.LinesLemmas.{commands_lines}
use Rattle.list_laws.proofs.ListLemmas.{all_append}
use Rattle.script_text.specs.Outcomes.{AreFetched, AreFetchedSoFar}
use Rattle.script_text.specs.Gathering.{ReadsOn, reading_at}

-- ---- lines after lines

-- these batches and paths came before
abbrev read_before : List Batch → List Text → LinesRead → LinesRead
read_before batches asked made = read_with (batches ++ made.batches) (reached_asking asked made.reached)

read_from : (from : Grammar) (batches : List Batch) (reading : Reading) (asked : List Text) (later : List File) (lines : List Text)
    → read from (read_with batches (Stands (reading_at reading asked later))) lines ≡ read_before batches asked (read from (read_with [] (Stands (reading_at reading [] later))) lines)
read_from from batches reading asked later lines =
    ap (λ (paths : List Text). read from (read_with batches (Stands (reading_at reading paths later))) lines) (sym (append-nil asked))
    ∙ ap (λ (b : List Batch). read from (read_with b (Stands (asking asked (reading_at reading [] later)))) lines) (sym (append-nil batches))
    ∙ read_behind from batches (lines_asking asked (read_with [] (Stands (reading_at reading [] later)))) lines
    ∙ ap (behind_batches batches) (read_asking from asked (read_with [] (Stands (reading_at reading [] later))) lines)

pub reads_more : (from : Grammar) (before mid after : Reading) (bytes more held left : List ℕ) (outcomes others : List File) (made later : List Batch) (asked paths : List Text)
    → ReadsOn from before bytes outcomes made mid held asked → ReadsOn from mid (held ++ more) others later after left paths
    → ReadsOn from before (bytes ++ more) (outcomes ++ others) (made ++ later) after left (asked ++ paths)
reads_more from before mid after bytes more held left outcomes others made later asked paths first second = record {
  lines = first.lines ++ second.lines;
  whole = all_append NoFeed first.lines second.lines first.whole second.whole;
  cut = ap (λ (b : List ℕ). b ++ more) first.cut ∙ append_assoc (flat_map line_text first.lines) held more
      ∙ ap (λ (b : List ℕ). flat_map line_text first.lines ++ b) second.cut
      ∙ sym (append_assoc (flat_map line_text first.lines) (flat_map line_text second.lines) left)
      ∙ ap (λ (b : List ℕ). b ++ left) (sym (flat_map-append line_text first.lines second.lines));
  reads = λ to_come.
      ap (λ (files : List File). read from (read_with [] (Stands (reading_at before [] files))) (first.lines ++ second.lines)) (append_assoc outcomes others to_come)
      ∙ read_on from (read_with [] (Stands (reading_at before [] (outcomes ++ (others ++ to_come))))) first.lines second.lines
      ∙ ap (λ (b : LinesRead). read from b second.lines) (first.reads (others ++ to_come))
      ∙ read_from from made mid asked (others ++ to_come) second.lines
      ∙ ap (read_before made asked) (second.reads to_come);
}

-- ---- what follows whole lines

abbrev pub given_before : List Batch → List Text → Commands → Commands
given_before batches asked made = commands_with (batches ++ made.batches) made.end (asked ++ made.asked)

pub reads_commands : (from : Grammar) (before after : Reading) (bytes held : List ℕ) (outcomes : List File) (made : List Batch) (asked : List Text) (later : List File) (more : List ℕ)
    → ReadsOn from before bytes outcomes made after held asked → after.used ≤ from.input
    → commands_from from (reading_at before [] (outcomes ++ later)) (bytes ++ more) ≡ given_before made asked (commands_from from (reading_at after [] later) (held ++ more))
reads_commands from before after bytes held outcomes made asked later more lines_read within =
    ap (λ (b : List ℕ). commands_from from (reading_at before [] (outcomes ++ later)) (b ++ more)) lines_read.cut
    ∙ ap (commands_from from (reading_at before [] (outcomes ++ later))) (append_assoc (flat_map line_text lines_read.lines) held more)
    ∙ commands_lines from lines_read.lines (reading_at before [] (outcomes ++ later)) made (reading_at after asked later) (held ++ more) lines_read.whole (lines_read.reads later) within
    ∙ ap (λ (paths : List Text). with_batches made (commands_from from (reading_at after paths later) (held ++ more))) (sym (append-nil asked))
    ∙ ap (with_batches made) (commands_from_asking from asked (reading_at after [] later) (held ++ more))

-- ---- outcomes

pub outcomes_size : (files : Option (List shelf.File)) (first second : ℕ) (asked : List Text) (outcomes : List File) → AreFetched files first second asked outcomes → length outcomes ≡ length asked
outcomes_size files first second [] [] h = refl
outcomes_size files first second [] (outcome ∷ outcomes) h = absurd h
outcomes_size files first second (path ∷ asked) [] h = absurd h
outcomes_size files first second (path ∷ asked) (outcome ∷ outcomes) (between, came, others) = ap (λ (n : ℕ). suc n) (outcomes_size files between second asked outcomes others)

-- fetches after which the count rose no further, or memory ran out
pub fetched_so_far : (files : Option (List shelf.File)) (first second third : ℕ) (asked : List Text) (outcomes : List File) → AreFetched files first second asked outcomes → second ≤ third → AreFetchedSoFar files first third asked outcomes
fetched_so_far files first second third asked outcomes h k = record { between = second; fetched = h; later = k }
