-- Worked runs that watch queries, from the files of the queries and the bytes of a script to the bytes that are written if memory is ample
-- and nothing fails.
use Rattle.std.proofs.Common.{◌≡◌, refl, ℕ, List, [], ◌∷◌, ◌++◌}
use Rattle.std.specs.Prelude.{codes, flat_map, map}
use Rattle.std.specs.Str.{trim_start, trim_end, chars, is_utf8}
use Rattle.std.specs.Fmt.{digits}
use lib.Utf8.{encode}
use Rattle.caseless.proofs.Computing.{caseless}
use Rattle.csv.specs.Machine.{next_record}
use Rattle.csv.specs.Reading.{records_from, strip_bom}
use Rattle.lake_model.specs.Texts.{lines_of}
use Rattle.lake_model.specs.Journal.{Entry}
use Rattle.lake_model.specs.Records.{rows_fault, text_fault}
use Rattle.lake_model.specs.Queries.{line_fault}
use Rattle.lake_model.specs.Sorting.{in_order, put_in_order}
use Rattle.lake_model.specs.declared.Keys.TheVariants.{Canonical}
use Rattle.record_model.specs.Rules.{standard_rules}
use Rattle.script_model.specs.Reading.{read}
use Rattle.script_model.specs.Commands.{Bytes, Missing}
use Rattle.script_model.specs.Script.{commands, standard}
use Rattle.record_model.specs.Answered.{table_read, query_read}
use Rattle.script_model.specs.Options.{plain}
use Rattle.record_model.specs.Play.{play, played, played_from}
use Rattle.script_model.specs.Words.{line_text}
use Rattle.record_model.specs.Watched.{AreQueries, FaultIn, QueriesRead, end_text, given_read, lines_behind, queries_from, same_rows, watch_text}
use Rattle.record_model.specs.declared.GivenWhy.TheVariants as given

abbrev lines : List (List ℕ) → List ℕ
lines texts = flat_map line_text texts

abbrev journal_of : List ℕ → List Entry
journal_of script = (played (standard_rules Canonical) plain (commands standard 1 script []).batches []).journal

abbrev told : ℕ → QueriesRead → List Entry → List ℕ
told k (AreQueries queries) journal = watch_text k queries journal ++ end_text journal
told k (FaultIn path why) journal = []

abbrev watched : ℕ → List (List ℕ) → List ℕ → List ℕ
watched k files script = told k (queries_from 1 (map Bytes files)) (journal_of script)

abbrev grows_and_shrinks : List ℕ
grows_and_shrinks = lines (codes "load s" ∷ codes "c" ∷ codes "a" ∷ codes "." ∷ codes "load t" ∷ codes "c" ∷ codes "a" ∷ codes "b" ∷ codes "." ∷ codes "drop t" ∷ codes "load u" ∷ codes "c" ∷ codes "z" ∷ codes "." ∷ [])

-- a better table comes and goes, and a table that has no key of the query changes nothing
one_query : watched 1 (lines (codes "a" ∷ codes "b" ∷ []) ∷ []) grows_and_shrinks ≡ lines (codes "1 query 1 rows 1" ∷ codes "  1 s 1 \"c\"" ∷ codes "2 query 1 rows 1" ∷ codes "  2 t 1 \"c\"" ∷ codes "3 query 1 rows 1" ∷ codes "  1 s 1 \"c\"" ∷ codes "end 4" ∷ [])
unfolding lines_of read next_record records_from strip_bom is_utf8 caseless trim_start trim_end chars encode digits in_order put_in_order rows_fault text_fault line_fault table_read query_read play played_from given_read queries_from same_rows lines_behind
one_query = refl

-- a row drops to second place and returns to the first, and each query reports only its own changes
two_queries : watched 2 (lines (codes "a" ∷ codes "b" ∷ []) ∷ lines (codes "z" ∷ []) ∷ []) grows_and_shrinks ≡ lines (codes "1 query 1 rows 1" ∷ codes "  1 s 1 \"c\"" ∷ codes "2 query 1 rows 2" ∷ codes "  2 t 1 \"c\"" ∷ codes "  1 s 1 \"c\"" ∷ codes "3 query 1 rows 1" ∷ codes "  1 s 1 \"c\"" ∷ codes "4 query 2 rows 1" ∷ codes "  1 u 1 \"c\"" ∷ codes "end 4" ∷ [])
unfolding lines_of read next_record records_from strip_bom is_utf8 caseless trim_start trim_end chars encode digits in_order put_in_order rows_fault text_fault line_fault table_read query_read play played_from given_read queries_from same_rows lines_behind
two_queries = refl

-- the second file is at fault in its second line, and the third is not looked at
file_at_fault : queries_from 1 (Bytes (codes "a") ∷ Bytes (codes "b\n" ++ 0xFF ∷ []) ∷ Missing ∷ []) ≡ FaultIn 2 (given.NotUtf8 2)
unfolding lines_of is_utf8 caseless trim_start trim_end chars encode line_fault given_read queries_from
file_at_fault = refl
