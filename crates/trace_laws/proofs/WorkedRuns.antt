-- Worked verdicts on short traces, from the bytes of a script and of a trace.
use Rattle.std.proofs.Common.{◌≡◌, refl, ℕ, List, [], ◌∷◌, Bool, true, false}
use Rattle.std.specs.Prelude.{codes, flat_map, None}
use Rattle.std.specs.Str.{trim_start, trim_end, chars, is_utf8}
use Rattle.std.specs.Fmt.{digits}
use lib.Utf8.{encode}
use Rattle.caseless.proofs.Computing.{caseless}
use Rattle.csv.specs.Machine.{next_record}
use Rattle.csv.specs.Reading.{records_from, strip_bom}
use Rattle.lake_model.specs.Texts.{lines_of}
use Rattle.lake_model.specs.Records.{rows_fault, text_fault}
use Rattle.lake_model.specs.Queries.{line_fault}
use Rattle.lake_model.specs.Sorting.{in_order, put_in_order}
use Rattle.lake_model.specs.declared.Keys.TheVariants.{Canonical}
use Rattle.record_model.specs.Rules.{standard_rules}
use Rattle.search_model.specs.Looks.{log, looks_of, run, run_within}
use Rattle.search_model.specs.Segment.{segment, tokens_of}
use Rattle.record_model.specs.Work.{lists_read, sets_probed}
use Rattle.script_model.specs.Reading.{read}
use Rattle.script_model.specs.Script.{commands, standard}
use Rattle.record_model.specs.Answered.{table_read, query_read}
use Rattle.script_model.specs.Options.{options_with}
use Rattle.script_model.specs.Words.{line_text}
use Rattle.trace_laws.specs.Passing.{verdict}

abbrev lines : List (List ℕ) → List ℕ
lines texts = flat_map line_text texts

-- the verdict on a trace of a script with the given number of lanes, without a merger
abbrev checked : ℕ → List (List ℕ) → List (List ℕ) → Bool
checked lanes script trace = verdict (standard_rules Canonical) (options_with lanes None false true Canonical) (commands standard lanes (lines script) []).batches (lines trace)

-- an empty run has the text of an empty journal
empty_trace : checked 1 [] [] ≡ false
unfolding lines_of read digits
empty_trace = refl

empty_run : checked 1 [] (codes "journal 0" ∷ []) ≡ true
unfolding lines_of read digits
empty_run = refl

-- a list of no tables, and the drop of an unknown one
asked : checked 1 (codes "tables" ∷ codes "drop t" ∷ []) (codes "1 tables 0 at 0" ∷ codes "2 refused unknown t at 0" ∷ codes "journal 0" ∷ []) ≡ true
unfolding lines_of read digits
asked = refl

-- that memory ran out is always right
denied : checked 1 (codes "tables" ∷ codes "drop t" ∷ []) (codes "1 no memory" ∷ codes "2 refused unknown t at 0" ∷ codes "journal 0" ∷ []) ≡ true
unfolding lines_of read digits
denied = refl

-- a reply with another position, or with another count, is wrong
elsewhere : checked 1 (codes "tables" ∷ codes "drop t" ∷ []) (codes "1 tables 0 at 1" ∷ codes "2 refused unknown t at 0" ∷ codes "journal 0" ∷ []) ≡ false
unfolding lines_of read digits
elsewhere = refl

miscounted : checked 1 (codes "tables" ∷ codes "drop t" ∷ []) (codes "1 tables 1 at 0" ∷ codes "2 refused unknown t at 0" ∷ codes "journal 0" ∷ []) ≡ false
unfolding lines_of read digits
miscounted = refl

-- two lanes load one name: either may be first, and each refusal is at its own position
abbrev two_loads : List (List ℕ)
two_loads = codes "load t" ∷ codes "c" ∷ codes "a" ∷ codes "." ∷ codes "@2 load t" ∷ codes "c" ∷ codes "b" ∷ codes "." ∷ []

first_lane : checked 2 two_loads (codes "1 loaded t columns 1 members 1 at 1" ∷ codes "2 refused repeated t at 1" ∷ codes "journal 1" ∷ codes "  1 load lane 1 command 1 t" ∷ []) ≡ true
unfolding lines_of read next_record records_from strip_bom is_utf8 caseless trim_start trim_end chars encode digits in_order put_in_order rows_fault text_fault line_fault table_read query_read
first_lane = refl

second_lane : checked 2 two_loads (codes "1 refused repeated t at 1" ∷ codes "2 loaded t columns 1 members 1 at 1" ∷ codes "journal 1" ∷ codes "  1 load lane 2 command 2 t" ∷ []) ≡ true
unfolding lines_of read next_record records_from strip_bom is_utf8 caseless trim_start trim_end chars encode digits in_order put_in_order rows_fault text_fault line_fault table_read query_read
second_lane = refl

-- both loads at one position, and a journal without one of its lines
both_first : checked 2 two_loads (codes "1 loaded t columns 1 members 1 at 1" ∷ codes "2 loaded t columns 1 members 1 at 1" ∷ codes "journal 1" ∷ codes "  1 load lane 1 command 1 t" ∷ []) ≡ false
unfolding lines_of read next_record records_from strip_bom is_utf8 caseless trim_start trim_end chars encode digits in_order put_in_order rows_fault text_fault line_fault table_read query_read
both_first = refl

left_out : checked 2 two_loads (codes "1 loaded t columns 1 members 1 at 1" ∷ codes "2 refused repeated t at 1" ∷ codes "journal 1" ∷ []) ≡ false
unfolding lines_of read next_record records_from strip_bom is_utf8 caseless trim_start trim_end chars encode digits in_order put_in_order rows_fault text_fault line_fault table_read query_read
left_out = refl

-- ---- answers and rows

-- a table is replaced, and a later load of its name is refused
abbrev replacing : List (List ℕ)
replacing = codes "load t" ∷ codes "c" ∷ codes "a" ∷ codes "." ∷ codes "replace t" ∷ codes "c" ∷ codes "b" ∷ codes "b" ∷ codes "." ∷ codes "load t" ∷ codes "c" ∷ codes "a" ∷ codes "." ∷ []

replaced : checked 1 replacing (codes "1 loaded t columns 1 members 1 at 1" ∷ codes "2 replaced t columns 1 members 1 at 2" ∷ codes "3 refused repeated t at 2" ∷ codes "journal 2" ∷ codes "  1 load lane 1 command 1 t" ∷ codes "  2 replace lane 1 command 2 t" ∷ []) ≡ true
unfolding lines_of read next_record records_from strip_bom is_utf8 caseless trim_start trim_end chars encode digits in_order put_in_order rows_fault text_fault line_fault table_read query_read
replaced = refl

-- the text of a load for a table that was replaced
not_loaded : checked 1 replacing (codes "1 loaded t columns 1 members 1 at 1" ∷ codes "2 loaded t columns 1 members 1 at 2" ∷ codes "3 refused repeated t at 2" ∷ codes "journal 2" ∷ codes "  1 load lane 1 command 1 t" ∷ codes "  2 replace lane 1 command 2 t" ∷ []) ≡ false
unfolding lines_of read next_record records_from strip_bom is_utf8 caseless trim_start trim_end chars encode digits in_order put_in_order rows_fault text_fault line_fault table_read query_read
not_loaded = refl

-- what was live after the first entry, and a position past the end of the journal
abbrev past : List (List ℕ)
past = codes "load t" ∷ codes "c" ∷ codes "a" ∷ codes "." ∷ codes "drop t" ∷ codes "asof 1 1" ∷ codes "a" ∷ codes "." ∷ codes "asof 3 1" ∷ codes "a" ∷ codes "." ∷ []

past_told : checked 1 past (codes "1 loaded t columns 1 members 1 at 1" ∷ codes "2 dropped t at 2" ∷ codes "3 answer 1 of 1 as of 1 at 2" ∷ codes "  1 t 1 \"c\"" ∷ codes "4 refused later 3 at 2" ∷ codes "journal 2" ∷ codes "  1 load lane 1 command 1 t" ∷ codes "  2 drop lane 1 command 2 t" ∷ []) ≡ true
unfolding lines_of read next_record records_from strip_bom is_utf8 caseless trim_start trim_end chars encode digits in_order put_in_order rows_fault text_fault line_fault table_read query_read
past_told = refl

-- the answer at the newest position instead of the earlier one
present_told : checked 1 past (codes "1 loaded t columns 1 members 1 at 1" ∷ codes "2 dropped t at 2" ∷ codes "3 answer 0 of 1 as of 1 at 2" ∷ codes "4 refused later 3 at 2" ∷ codes "journal 2" ∷ codes "  1 load lane 1 command 1 t" ∷ codes "  2 drop lane 1 command 2 t" ∷ []) ≡ false
unfolding lines_of read next_record records_from strip_bom is_utf8 caseless trim_start trim_end chars encode digits in_order put_in_order rows_fault text_fault line_fault table_read query_read
present_told = refl

-- a row of an answer, correct and forged
abbrev searched : List (List ℕ)
searched = codes "load t" ∷ codes "c" ∷ codes "a" ∷ codes "." ∷ codes "search 1" ∷ codes "a" ∷ codes "." ∷ []

row_told : checked 1 searched (codes "1 loaded t columns 1 members 1 at 1" ∷ codes "2 answer 1 of 1 at 1" ∷ codes "  1 t 1 \"c\"" ∷ codes "  work reads 1 probes 0" ∷ codes "  layout at 1 parts 1:1" ∷ codes "journal 1" ∷ codes "  1 load lane 1 command 1 t" ∷ []) ≡ true
unfolding lines_of read next_record records_from strip_bom is_utf8 caseless trim_start trim_end chars encode digits in_order put_in_order rows_fault text_fault line_fault table_read query_read tokens_of segment run_within run looks_of log lists_read sets_probed
row_told = refl

row_forged : checked 1 searched (codes "1 loaded t columns 1 members 1 at 1" ∷ codes "2 answer 1 of 1 at 1" ∷ codes "  1 u 1 \"c\"" ∷ codes "  work reads 1 probes 0" ∷ codes "  layout at 1 parts 1:1" ∷ codes "journal 1" ∷ codes "  1 load lane 1 command 1 t" ∷ []) ≡ false
unfolding lines_of read next_record records_from strip_bom is_utf8 caseless trim_start trim_end chars encode digits in_order put_in_order rows_fault text_fault line_fault table_read query_read tokens_of segment run_within run looks_of log lists_read sets_probed
row_forged = refl
