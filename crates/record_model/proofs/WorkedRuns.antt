-- Worked runs, from the bytes of a script to the bytes that are written if memory is ample and nothing fails.
use Rattle.std.proofs.Common.{◌≡◌, refl, ℕ, List, [], ◌∷◌, ◌++◌}
use Rattle.std.specs.Prelude.{codes, false, flat_map, None, true}
use Rattle.std.specs.Str.{trim_start, trim_end, chars, is_utf8}
use Rattle.std.specs.Fmt.{digits}
use lib.Utf8.{encode}
use Rattle.caseless.proofs.Computing.{caseless}
use Rattle.csv.specs.Machine.{next_record}
use Rattle.csv.specs.Reading.{records_from, strip_bom}
use Rattle.lake_model.specs.Texts.{lines_of}
use Rattle.lake_model.specs.Records.{rows_fault, text_fault}
use Rattle.lake_model.specs.Queries.{line_fault}
use Rattle.lake_model.specs.Sorting.{in_order, put_in_order}
use Rattle.lake_model.specs.declared.Keys.TheVariants.{Canonical}
use Rattle.record_model.specs.Rules.{standard_rules}
use Rattle.search_model.specs.Looks.{log, looks_of, run, run_within}
use Rattle.search_model.specs.Contain.{contain_log}
use Rattle.search_model.specs.Segment.{segment, tokens_of}
use Rattle.script_model.specs.Reading.{read}
use Rattle.script_model.specs.Script.{Commands, commands, standard}
use Rattle.record_model.specs.Answered.{table_read, query_read}
use Rattle.script_model.specs.Options.{Options, options_with, plain}
use Rattle.record_model.specs.Record.{with_end}
use Rattle.record_model.specs.Play.{play, played, played_from}
use Rattle.script_model.specs.Words.{line_text}
use Rattle.record_model.specs.Texts.{text}
use Rattle.record_model.specs.Work.{lists_read, sets_probed, contain_reads, contain_probes}

abbrev lines : List (List ℕ) → List ℕ
lines texts = flat_map line_text texts

abbrev commands_of : List ℕ → Commands
commands_of script = commands standard 1 script []

abbrev written : List ℕ → List ℕ
written script = text (played (standard_rules Canonical) plain (commands_of script).batches [])

-- a search of an empty lake
nothing_loaded : written (lines (codes "search 5" ∷ codes "a" ∷ codes "." ∷ [])) ≡ lines (codes "1 answer 0 of 1 at 0" ∷ [])
unfolding lines_of read next_record records_from strip_bom is_utf8 caseless trim_start trim_end chars encode digits in_order put_in_order rows_fault text_fault line_fault table_read query_read play played_from
nothing_loaded = refl

-- two values of three match
first_table : written (lines (codes "load t1" ∷ codes "id,city" ∷ codes "1,Rome" ∷ codes "2,Oslo" ∷ codes "." ∷ codes "search 1" ∷ codes "rome" ∷ codes "OSLO" ∷ codes "Paris" ∷ codes "." ∷ [])) ≡ lines (codes "1 loaded t1 columns 2 members 4 at 1" ∷ codes "2 answer 1 of 3 at 1" ∷ codes "  2 t1 2 \"city\"" ∷ [])
unfolding lines_of read next_record records_from strip_bom is_utf8 caseless trim_start trim_end chars encode digits in_order put_in_order rows_fault text_fault line_fault table_read query_read play played_from
first_table = refl

-- a table without values, and bytes without a header
no_header : written (lines (codes "load h" ∷ codes "a,b" ∷ codes "." ∷ codes "load z" ∷ codes "." ∷ codes "search 3" ∷ codes "a" ∷ codes "." ∷ [])) ≡ lines (codes "1 loaded h columns 2 members 0 at 1" ∷ codes "2 refused csv no-header" ∷ codes "3 answer 0 of 1 at 1" ∷ [])
unfolding lines_of read next_record records_from strip_bom is_utf8 caseless trim_start trim_end chars encode digits in_order put_in_order rows_fault text_fault line_fault table_read query_read play played_from
no_header = refl

-- ties by column name and then by place; an empty name
ties : written (lines (codes "load d" ∷ codes "x,x," ∷ codes "1,1,1" ∷ codes "." ∷ codes "search 3" ∷ codes "1" ∷ codes "." ∷ [])) ≡ lines (codes "1 loaded d columns 3 members 3 at 1" ∷ codes "2 answer 3 of 1 at 1" ∷ codes "  1 d 3 \"\"" ∷ codes "  1 d 1 \"x\"" ∷ codes "  1 d 2 \"x\"" ∷ [])
unfolding lines_of read next_record records_from strip_bom is_utf8 caseless trim_start trim_end chars encode digits in_order put_in_order rows_fault text_fault line_fault table_read query_read play played_from
ties = refl

-- German sharp s, and an e with an acute accent as one character and as two
unicode : written (lines (codes "load s" ∷ codes "v" ∷ (32 ∷ 83 ∷ 116 ∷ 114 ∷ 97 ∷ 195 ∷ 159 ∷ 101 ∷ []) ∷ codes "STRASSE" ∷ codes "strasse " ∷ (195 ∷ 169 ∷ []) ∷ (101 ∷ 204 ∷ 129 ∷ []) ∷ codes "." ∷ codes "search 1" ∷ codes "STRASSE" ∷ (195 ∷ 137 ∷ []) ∷ codes "." ∷ [])) ≡ lines (codes "1 loaded s columns 1 members 2 at 1" ∷ codes "2 answer 1 of 2 at 1" ∷ codes "  2 s 1 \"v\"" ∷ [])
unfolding lines_of read next_record records_from strip_bom is_utf8 caseless trim_start trim_end chars encode digits in_order put_in_order rows_fault text_fault line_fault table_read query_read play played_from
unicode = refl

-- a refused table leaves its name free
repeated : written (lines (codes "load t" ∷ codes "a,b" ∷ codes "1" ∷ codes "." ∷ codes "load t" ∷ codes "c" ∷ codes "x" ∷ codes "." ∷ codes "load t" ∷ codes "c" ∷ codes "y" ∷ codes "." ∷ [])) ≡ lines (codes "1 refused csv record 2 want 2 got 1" ∷ codes "2 loaded t columns 1 members 1 at 1" ∷ codes "3 refused repeated t at 1" ∷ [])
unfolding lines_of read next_record records_from strip_bom is_utf8 caseless trim_start trim_end chars encode digits in_order put_in_order rows_fault text_fault line_fault table_read query_read play played_from
repeated = refl

-- bytes that are not UTF-8, in a table and in a query
not_utf8 : written (lines (codes "load w" ∷ codes "a" ∷ (255 ∷ []) ∷ codes "." ∷ codes "search 1" ∷ (255 ∷ []) ∷ codes "." ∷ [])) ≡ lines (codes "1 refused csv record 2 field 1 not UTF-8" ∷ codes "2 refused query line 1 not UTF-8" ∷ [])
unfolding lines_of read next_record records_from strip_bom is_utf8 caseless trim_start trim_end chars encode digits in_order put_in_order rows_fault text_fault line_fault table_read query_read play played_from
not_utf8 = refl

-- a line of a block that begins with a dot is written with one more
stuffed : written (lines (codes "load p" ∷ codes "v" ∷ codes ".." ∷ codes "." ∷ codes "search 1" ∷ codes ".." ∷ codes "." ∷ [])) ≡ lines (codes "1 loaded p columns 1 members 1 at 1" ∷ codes "2 answer 1 of 1 at 1" ∷ codes "  1 p 1 \"v\"" ∷ [])
unfolding lines_of read next_record records_from strip_bom is_utf8 caseless trim_start trim_end chars encode digits in_order put_in_order rows_fault text_fault line_fault table_read query_read play played_from
stuffed = refl

-- a carriage return before the line feed of a command, and before that of a dot; a last line without a line feed
returns : written (codes "load t\r\nc\nx\n.\r\nsearch 1\nx\n.") ≡ lines (codes "1 loaded t columns 1 members 1 at 1" ∷ codes "2 answer 1 of 1 at 1" ∷ codes "  1 t 1 \"c\"" ∷ [])
unfolding lines_of read next_record records_from strip_bom is_utf8 caseless trim_start trim_end chars encode digits in_order put_in_order rows_fault text_fault line_fault table_read query_read play played_from
returns = refl

-- a table is replaced as a whole; a name that is not live is unknown
replaced : written (lines (codes "load t" ∷ codes "c" ∷ codes "a" ∷ codes "." ∷ codes "replace t" ∷ codes "c" ∷ codes "b" ∷ codes "." ∷ codes "search 1" ∷ codes "a" ∷ codes "." ∷ codes "search 1" ∷ codes "b" ∷ codes "." ∷ codes "replace z" ∷ codes "c" ∷ codes "a" ∷ codes "." ∷ [])) ≡ lines (codes "1 loaded t columns 1 members 1 at 1" ∷ codes "2 replaced t columns 1 members 1 at 2" ∷ codes "3 answer 0 of 1 at 2" ∷ codes "4 answer 1 of 1 at 2" ∷ codes "  1 t 1 \"c\"" ∷ codes "5 refused unknown z at 2" ∷ [])
unfolding lines_of read next_record records_from strip_bom is_utf8 caseless trim_start trim_end chars encode digits in_order put_in_order rows_fault text_fault line_fault table_read query_read play played_from
replaced = refl

-- what was live after one entry, after two and before the first; and a position past the end of the journal
past : written (lines (codes "load n" ∷ codes "c" ∷ codes "a" ∷ codes "." ∷ codes "drop n" ∷ codes "load n" ∷ codes "c" ∷ codes "b" ∷ codes "." ∷ codes "asof 1 1" ∷ codes "a" ∷ codes "." ∷ codes "asof 2 1" ∷ codes "a" ∷ codes "." ∷ codes "asof 0 1" ∷ codes "a" ∷ codes "." ∷ codes "asof 4 1" ∷ codes "a" ∷ codes "." ∷ [])) ≡ lines (codes "1 loaded n columns 1 members 1 at 1" ∷ codes "2 dropped n at 2" ∷ codes "3 loaded n columns 1 members 1 at 3" ∷ codes "4 answer 1 of 1 as of 1 at 3" ∷ codes "  1 n 1 \"c\"" ∷ codes "5 answer 0 of 1 as of 2 at 3" ∷ codes "6 answer 0 of 1 as of 0 at 3" ∷ codes "7 refused later 4 at 3" ∷ [])
unfolding lines_of read next_record records_from strip_bom is_utf8 caseless trim_start trim_end chars encode digits in_order put_in_order rows_fault text_fault line_fault table_read query_read play played_from
past = refl

-- ---- traces

abbrev traced : Options
traced = options_with 1 None false true Canonical

abbrev written_traced : List ℕ → List ℕ
written_traced script = text (with_end true (played (standard_rules Canonical) traced (commands_of script).batches []))

-- One list and one probe end the search: the column with all four keys is in the rarest list.
one_read_one_probe : written_traced (lines (codes "load t1" ∷ codes "c" ∷ codes "a" ∷ codes "b" ∷ codes "c" ∷ codes "d" ∷ codes "." ∷ codes "load t2" ∷ codes "c" ∷ codes "d" ∷ codes "." ∷ codes "load t3" ∷ codes "c" ∷ codes "c" ∷ codes "d" ∷ codes "." ∷ codes "merge all" ∷ codes "search 1" ∷ codes "a" ∷ codes "b" ∷ codes "c" ∷ codes "d" ∷ codes "." ∷ [])) ≡ lines (codes "1 loaded t1 columns 1 members 4 at 1" ∷ codes "2 loaded t2 columns 1 members 1 at 2" ∷ codes "3 loaded t3 columns 1 members 2 at 3" ∷ codes "4 merged 3 parts into 3 tables at 4" ∷ codes "  layout at 3 parts 1:1 2:2 3:3" ∷ codes "5 answer 1 of 4 at 4" ∷ codes "  4 t1 1 \"c\"" ∷ codes "  work reads 1 probes 1" ∷ codes "  layout at 4 parts 4:1,2,3" ∷ codes "journal 4" ∷ codes "  1 load lane 1 command 1 t1" ∷ codes "  2 load lane 1 command 2 t2" ∷ codes "  3 load lane 1 command 3 t3" ∷ codes "  4 swap lane 1 command 4 from 1,2,3 kept 1,2,3" ∷ [])
unfolding lines_of read next_record records_from strip_bom is_utf8 caseless trim_start trim_end chars encode digits in_order put_in_order rows_fault text_fault line_fault table_read query_read play played_from tokens_of segment run_within run looks_of log lists_read sets_probed
one_read_one_probe = refl

-- Two likes over three parts: for each, the lists that are read and the sets that are probed before nothing can beat its rows.
like_by_two_columns : written_traced (lines (codes "load stations" ∷ ((239 ∷ 187 ∷ 191 ∷ []) ++ codes "station_id,city,country\r") ∷ (codes "1,\"S" ++ (195 ∷ 163 ∷ []) ++ codes "o Paulo, SP\",Brazil\r") ∷ (codes "2,Z" ++ (195 ∷ 188 ∷ []) ++ codes "rich,Switzerland\r") ∷ codes "3,\"New" ∷ codes "York\",USA\r" ∷ codes "." ∷ codes "load weather" ∷ codes "place,temp" ∷ (codes "Z" ++ (195 ∷ 156 ∷ []) ++ codes "RICH,12") ∷ (codes "\"S" ++ (195 ∷ 163 ∷ []) ++ codes "o Paulo, SP\",25") ∷ codes "Lima,18" ∷ codes "." ∷ codes "load census" ∷ codes "City,Country,Pop" ∷ (codes "z" ++ (195 ∷ 188 ∷ []) ++ codes "rich,switzerland,400000") ∷ codes "Oslo,Norway,700000" ∷ (codes "\"s" ++ (195 ∷ 163 ∷ []) ++ codes "o paulo, sp\",Brazil,12000000") ∷ codes "." ∷ codes "like 10 stations 2" ∷ codes "like 10 stations 3" ∷ [])) ≡ lines (codes "1 loaded stations columns 3 members 9 at 1" ∷ codes "2 loaded weather columns 2 members 6 at 2" ∷ codes "3 loaded census columns 3 members 9 at 3" ∷ codes "4 answer 2 of 3 at 3" ∷ codes "  2 census 1 \"City\"" ∷ codes "  2 weather 1 \"place\"" ∷ codes "  work reads 7 probes 2" ∷ codes "  layout at 3 parts 1:1 2:2 3:3" ∷ codes "5 answer 1 of 3 at 3" ∷ codes "  2 census 2 \"Country\"" ∷ codes "  work reads 5 probes 1" ∷ codes "  layout at 3 parts 1:1 2:2 3:3" ∷ codes "journal 3" ∷ codes "  1 load lane 1 command 1 stations" ∷ codes "  2 load lane 1 command 2 weather" ∷ codes "  3 load lane 1 command 3 census" ∷ [])
unfolding lines_of read next_record records_from strip_bom is_utf8 caseless trim_start trim_end chars encode digits in_order put_in_order rows_fault text_fault line_fault table_read query_read play played_from tokens_of segment run_within run looks_of log lists_read sets_probed
like_by_two_columns = refl

-- Half of four values: three lists of the first part show all but the last value of its column, one list of the second is enough, and the
-- third has too few.
half_held : written_traced (lines (codes "load t1" ∷ codes "c" ∷ codes "a" ∷ codes "b" ∷ codes "c" ∷ codes "d" ∷ codes "." ∷ codes "load t2" ∷ codes "c" ∷ codes "a" ∷ codes "b" ∷ codes "." ∷ codes "load t3" ∷ codes "c" ∷ codes "a" ∷ codes "." ∷ codes "contain 1 2" ∷ codes "a" ∷ codes "b" ∷ codes "c" ∷ codes "d" ∷ codes "." ∷ [])) ≡ lines (codes "1 loaded t1 columns 1 members 4 at 1" ∷ codes "2 loaded t2 columns 1 members 2 at 2" ∷ codes "3 loaded t3 columns 1 members 1 at 3" ∷ codes "4 answer 2 of 4 at 3" ∷ codes "  4 t1 1 \"c\"" ∷ codes "  2 t2 1 \"c\"" ∷ codes "  work reads 4 probes 2" ∷ codes "  layout at 3 parts 1:1 2:2 3:3" ∷ codes "journal 3" ∷ codes "  1 load lane 1 command 1 t1" ∷ codes "  2 load lane 1 command 2 t2" ∷ codes "  3 load lane 1 command 3 t3" ∷ [])
unfolding lines_of read next_record records_from strip_bom is_utf8 caseless trim_start trim_end chars encode digits in_order put_in_order rows_fault text_fault line_fault table_read query_read play played_from tokens_of segment contain_log contain_reads contain_probes
half_held = refl
