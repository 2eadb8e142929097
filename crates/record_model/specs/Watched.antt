-- Watched queries: what the files that hold them give, and the text that reports where the first rows of a query
-- change.
use Rattle.std.specs.Prelude.{ℕ, ◌+◌, ◌==◌, Bool, true, false, ◌&&◌, List, [], ◌∷◌, ◌++◌, length, map, bytes_eq, flat_map, codes, decimal, if◌then◌else◌, Option, Some, None}
use Rattle.std.specs.List.{enumerate_from}
use Rattle.lake_model.specs.declared.Keys.TheVariants.{Canonical}
use Rattle.lake_model.specs.declared.QueryRefused.{QueryRefused}
use Rattle.lake_model.specs.declared.QueryRefused.TheVariants as query
use Rattle.lake_model.specs.Texts.{Text}
use Rattle.lake_model.specs.Answer.{Row, answer}
use Rattle.lake_model.specs.Journal.{Entry, live}
use Rattle.lake_model.specs.Queries.{query_of, query_fault}
use Rattle.script_model.specs.Commands.{File, Bytes, Failed, Missing, TooLong}
use Rattle.script_model.specs.Words.{line_text}
use Rattle.record_model.specs.Texts.{spaced, row_line}
use Rattle.record_model.specs.declared.GivenWhy.{GivenWhy}
use Rattle.record_model.specs.declared.GivenWhy.TheVariants as given

-- ---- the files that hold the queries, one value on each line

-- the keys of a file's lines, or why it gives none
pub data GivenRead : Type 0 where
  IsGiven : (keys : List Text) → GivenRead
  NotGiven : (why : GivenWhy) → GivenRead

abbrev pub keys_given : List ℕ → Option QueryRefused → GivenRead
keys_given bytes None = IsGiven (query_of Canonical bytes)
keys_given bytes (Some (query.NotUtf8 line)) = NotGiven (given.NotUtf8 line)
keys_given bytes (Some query.TooManyValues) = NotGiven given.TooManyValues
keys_given bytes (Some query.NoMemory) = IsGiven (query_of Canonical bytes)

unfoldable pub given_read : File → GivenRead
given_read (Bytes bytes) = keys_given bytes (query_fault Canonical bytes)
given_read Failed = NotGiven given.Failed
given_read Missing = NotGiven given.Missing
given_read TooLong = NotGiven given.TooLong

-- the queries of the files, or the number of the first file at fault and its fault
pub data QueriesRead : Type 0 where
  AreQueries : (queries : List (List Text)) → QueriesRead
  FaultIn : (path : ℕ) (why : GivenWhy) → QueriesRead

-- one more query before the others
abbrev pub with_query : List Text → QueriesRead → QueriesRead
with_query keys (AreQueries queries) = AreQueries (keys ∷ queries)
with_query keys (FaultIn path why) = FaultIn path why

abbrev pub read_before : ℕ → GivenRead → QueriesRead → QueriesRead
read_before n (IsGiven keys) rest = with_query keys rest
read_before n (NotGiven why) rest = FaultIn n why

-- the queries of files that are numbered from n on
unfoldable pub queries_from : ℕ → List File → QueriesRead
queries_from n [] = AreQueries []
queries_from n (file ∷ files) = read_before n (given_read file) (queries_from (n + 1) files)

-- ---- the text of what changes

-- whether two rows are the same, and whether two lists of rows are
abbrev pub same_row : Row → Row → Bool
same_row a b = a.overlap == b.overlap && (bytes_eq a.table b.table && (bytes_eq a.column b.column && a.place == b.place))

unfoldable pub same_rows : List Row → List Row → Bool
same_rows [] [] = true
same_rows [] (row ∷ others) = false
same_rows (row ∷ rows) [] = false
same_rows (row ∷ rows) (other ∷ others) = same_row row other && same_rows rows others

-- the first rows of a query over the live tables of a journal
abbrev pub watched_rows : ℕ → List Entry → List Text → List Row
watched_rows k journal keys = answer (live journal) keys k None

-- the line that gives a query's number, at a position, and how many rows it has, and then those rows
abbrev pub change_lines : ℕ → ℕ → List Row → List Text
change_lines at number rows = spaced (decimal at ∷ codes "query" ∷ decimal number ∷ codes "rows" ∷ decimal (length rows) ∷ []) ∷ map row_line rows

-- the lines for a query, from what its rows were and what they are
abbrev pub told_lines : ℕ → ℕ → List Row → List Row → List Text
told_lines at number before rows = if same_rows before rows then [] else change_lines at number rows

-- the lines for all queries, from what the journal was and what it is
abbrev pub lines_at : ℕ → List (List Text) → List Entry → List Entry → List Text
lines_at k queries before journal =
    flat_map (λ query. told_lines (length journal) query.0 (watched_rows k before query.1) (watched_rows k journal query.1)) (enumerate_from 1 queries)

-- the lines for some entries, one after another, that follow a journal
unfoldable pub lines_behind : ℕ → List (List Text) → List Entry → List Entry → List Text
lines_behind k queries before [] = []
lines_behind k queries before (entry ∷ entries) = lines_at k queries before (before ++ entry ∷ []) ++ lines_behind k queries (before ++ entry ∷ []) entries

-- the text for some entries that follow a journal
abbrev pub watch_text_behind : ℕ → List (List Text) → List Entry → List Entry → Text
watch_text_behind k queries before entries = flat_map line_text (lines_behind k queries before entries)

-- the text for a whole journal
abbrev pub watch_text : ℕ → List (List Text) → List Entry → Text
watch_text k queries journal = watch_text_behind k queries [] journal

-- the last line, which is written if the script was read to its end
abbrev pub end_text : List Entry → Text
end_text journal = line_text (spaced (codes "end" ∷ decimal (length journal) ∷ []))
