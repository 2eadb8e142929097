-- Worked runs with lanes, stated orders, a merger and traces: from the bytes of a script to the bytes that are written if memory is ample.
use Rattle.std.proofs.Common.{◌≡◌, refl, List, [], ◌∷◌, ℕ}
use Rattle.std.specs.Prelude.{codes, false, flat_map, Some, true}
use Rattle.std.specs.Str.{trim_start, trim_end, chars, is_utf8}
use Rattle.std.specs.Fmt.{digits}
use lib.Utf8.{encode}
use Rattle.caseless.proofs.Computing.{caseless}
use Rattle.csv.specs.Machine.{next_record}
use Rattle.csv.specs.Reading.{records_from, strip_bom}
use Rattle.lake_model.specs.Texts.{lines_of}
use Rattle.lake_model.specs.Records.{rows_fault, text_fault}
use Rattle.lake_model.specs.Queries.{line_fault}
use Rattle.lake_model.specs.Sorting.{in_order, put_in_order}
use Rattle.lake_model.specs.declared.Keys.TheVariants.{Canonical}
use Rattle.record_model.specs.Rules.{standard_rules}
use Rattle.search_model.specs.Looks.{log, looks_of, run, run_within}
use Rattle.search_model.specs.Segment.{segment, tokens_of}
use Rattle.script_model.specs.Reading.{read}
use Rattle.script_model.specs.Script.{commands, standard}
use Rattle.record_model.specs.Answered.{table_read, query_read}
use Rattle.script_model.specs.Options.{Options, options_with}
use Rattle.record_model.specs.Record.{with_end}
use Rattle.record_model.specs.Play.{play, played, played_from}
use Rattle.script_model.specs.Words.{line_text}
use Rattle.record_model.specs.Texts.{text}
use Rattle.record_model.specs.Work.{lists_read, sets_probed}

abbrev lines : List (List ℕ) → List ℕ
lines texts = flat_map line_text texts

abbrev written : Options → List ℕ → List ℕ
written options script = text (with_end true (played (standard_rules Canonical) options (commands standard options.lanes script []).batches []))

-- A merge of four parts is planned, and one of its tables is dropped before it ends: a search that was pinned in between does not find the
-- dropped table, nor does one after the merge.
merge_planned_before_a_drop : written (options_with 2 (Some ((1 ∷ 1 ∷ 1 ∷ 1 ∷ 1 ∷ 2 ∷ 2 ∷ 2 ∷ 1 ∷ 1 ∷ 1 ∷ []) ∷ [])) false false Canonical) (lines (codes "load a1" ∷ codes "c" ∷ codes "x" ∷ codes "." ∷ codes "load a2" ∷ codes "c" ∷ codes "x" ∷ codes "." ∷ codes "load a3" ∷ codes "c" ∷ codes "x" ∷ codes "." ∷ codes "load a4" ∷ codes "c" ∷ codes "x" ∷ codes "." ∷ codes "merge" ∷ codes "@2 drop a2" ∷ codes "@2 search 9" ∷ codes "x" ∷ codes "." ∷ codes "search 9" ∷ codes "x" ∷ codes "." ∷ [])) ≡ lines (codes "1 loaded a1 columns 1 members 1 at 1" ∷ codes "2 loaded a2 columns 1 members 1 at 2" ∷ codes "3 loaded a3 columns 1 members 1 at 3" ∷ codes "4 loaded a4 columns 1 members 1 at 4" ∷ codes "5 merged 4 parts into 4 tables at 6" ∷ codes "6 dropped a2 at 5" ∷ codes "7 answer 3 of 1 at 5" ∷ codes "  1 a1 1 \"c\"" ∷ codes "  1 a3 1 \"c\"" ∷ codes "  1 a4 1 \"c\"" ∷ codes "8 answer 3 of 1 at 6" ∷ codes "  1 a1 1 \"c\"" ∷ codes "  1 a3 1 \"c\"" ∷ codes "  1 a4 1 \"c\"" ∷ [])
unfolding lines_of read next_record records_from strip_bom is_utf8 caseless trim_start trim_end chars encode digits in_order put_in_order rows_fault text_fault line_fault table_read query_read play played_from
merge_planned_before_a_drop = refl

-- A search answers from the lake as it was when it began, while another lane drops a table and merges.
search_pinned_before_a_drop : written (options_with 2 (Some ((1 ∷ 1 ∷ 1 ∷ 2 ∷ 2 ∷ 2 ∷ 1 ∷ 1 ∷ 1 ∷ []) ∷ [])) false false Canonical) (lines (codes "load b1" ∷ codes "c" ∷ codes "x" ∷ codes "y" ∷ codes "." ∷ codes "load b2" ∷ codes "c" ∷ codes "x" ∷ codes "." ∷ codes "search 1" ∷ codes "x" ∷ codes "y" ∷ codes "." ∷ codes "@2 drop b1" ∷ codes "@2 merge all" ∷ codes "search 1" ∷ codes "x" ∷ codes "y" ∷ codes "." ∷ [])) ≡ lines (codes "1 loaded b1 columns 1 members 2 at 1" ∷ codes "2 loaded b2 columns 1 members 1 at 2" ∷ codes "3 answer 1 of 2 at 2" ∷ codes "  2 b1 1 \"c\"" ∷ codes "4 dropped b1 at 3" ∷ codes "5 merged 2 parts into 1 tables at 4" ∷ codes "6 answer 1 of 2 at 4" ∷ codes "  1 b2 1 \"c\"" ∷ [])
unfolding lines_of read next_record records_from strip_bom is_utf8 caseless trim_start trim_end chars encode digits in_order put_in_order rows_fault text_fault line_fault table_read query_read play played_from
search_pinned_before_a_drop = refl

-- Two lanes plan a merge of the same parts, and the second is too late.
same_parts_merged_twice : written (options_with 2 (Some ((1 ∷ 1 ∷ 1 ∷ 2 ∷ 1 ∷ 2 ∷ []) ∷ [])) false false Canonical) (lines (codes "load a" ∷ codes "c" ∷ codes "x" ∷ codes "." ∷ codes "load b" ∷ codes "c" ∷ codes "x" ∷ codes "." ∷ codes "merge all" ∷ codes "@2 merge all" ∷ [])) ≡ lines (codes "1 loaded a columns 1 members 1 at 1" ∷ codes "2 loaded b columns 1 members 1 at 2" ∷ codes "3 merged 2 parts into 2 tables at 3" ∷ codes "4 refused stale part 1 at 3" ∷ [])
unfolding lines_of read next_record records_from strip_bom is_utf8 caseless trim_start trim_end chars encode digits in_order put_in_order rows_fault text_fault line_fault table_read query_read play played_from
same_parts_merged_twice = refl

-- The merger takes its turns in a stated order, and its replies come after the batch; all is traced.
merger_with_a_trace : written (options_with 1 (Some ((1 ∷ 1 ∷ 1 ∷ 1 ∷ 0 ∷ 0 ∷ []) ∷ [])) true true Canonical) (lines (codes "load a1" ∷ codes "c" ∷ codes "x" ∷ codes "." ∷ codes "load a2" ∷ codes "c" ∷ codes "x" ∷ codes "." ∷ codes "load a3" ∷ codes "c" ∷ codes "x" ∷ codes "." ∷ codes "load a4" ∷ codes "c" ∷ codes "x" ∷ codes "." ∷ [])) ≡ lines (codes "1 loaded a1 columns 1 members 1 at 1" ∷ codes "2 loaded a2 columns 1 members 1 at 2" ∷ codes "3 loaded a3 columns 1 members 1 at 3" ∷ codes "4 loaded a4 columns 1 members 1 at 4" ∷ codes "m1 merged 4 parts into 4 tables at 5" ∷ codes "  layout at 4 parts 1:1 2:2 3:3 4:4" ∷ codes "m2 refused nothing to merge at 5" ∷ codes "  layout at 5 parts 5:1,2,3,4" ∷ codes "m3 refused nothing to merge at 5" ∷ codes "  layout at 5 parts 5:1,2,3,4" ∷ codes "m4 refused nothing to merge at 5" ∷ codes "  layout at 5 parts 5:1,2,3,4" ∷ codes "journal 5" ∷ codes "  1 load lane 1 command 1 a1" ∷ codes "  2 load lane 1 command 2 a2" ∷ codes "  3 load lane 1 command 3 a3" ∷ codes "  4 load lane 1 command 4 a4" ∷ codes "  5 swap lane 0 command m1 from 1,2,3,4 kept 1,2,3,4" ∷ [])
unfolding lines_of read next_record records_from strip_bom is_utf8 caseless trim_start trim_end chars encode digits in_order put_in_order rows_fault text_fault line_fault table_read query_read play played_from
merger_with_a_trace = refl

-- A table is replaced between the plan of a merge and its end: its old columns never answer again.
replaced_before_a_swap : written (options_with 2 (Some ((1 ∷ 1 ∷ 1 ∷ 2 ∷ 1 ∷ 1 ∷ 1 ∷ []) ∷ [])) false true Canonical) (lines (codes "load a" ∷ codes "c" ∷ codes "x" ∷ codes "." ∷ codes "load b" ∷ codes "c" ∷ codes "x" ∷ codes "." ∷ codes "merge all" ∷ codes "@2 replace a" ∷ codes "c" ∷ codes "y" ∷ codes "." ∷ codes "search 9" ∷ codes "x" ∷ codes "." ∷ [])) ≡ lines (codes "1 loaded a columns 1 members 1 at 1" ∷ codes "2 loaded b columns 1 members 1 at 2" ∷ codes "3 merged 2 parts into 2 tables at 4" ∷ codes "  layout at 2 parts 1:1 2:2" ∷ codes "4 replaced a columns 1 members 1 at 3" ∷ codes "5 answer 1 of 1 at 4" ∷ codes "  1 b 1 \"c\"" ∷ codes "  work reads 1 probes 0" ∷ codes "  layout at 4 parts 4:1-,2 3:3" ∷ codes "journal 4" ∷ codes "  1 load lane 1 command 1 a" ∷ codes "  2 load lane 1 command 2 b" ∷ codes "  3 replace lane 2 command 4 a" ∷ codes "  4 swap lane 1 command 3 from 1,2 kept 1,2" ∷ [])
unfolding lines_of read next_record records_from strip_bom is_utf8 caseless trim_start trim_end chars encode digits in_order put_in_order rows_fault text_fault line_fault table_read query_read play played_from tokens_of segment run_within run looks_of log lists_read sets_probed
replaced_before_a_swap = refl
