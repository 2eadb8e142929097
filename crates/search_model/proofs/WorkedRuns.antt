-- The definitions computed on small lakes, each with the value that the rules give by hand.
use Rattle.std.proofs.Common.{◌-◌, ◌≡◌, refl, ℕ, List, [], ◌∷◌, map, None, false, filter, length, not}
use Rattle.std.specs.Prelude.{codes}
use Rattle.lake_model.specs.Texts.{Text}
use Rattle.lake_model.specs.Tables.{column_with, Table, table_with}
use Rattle.lake_model.specs.Sorting.{in_order, put_in_order}
use Rattle.lake_model.specs.Answer.{Query, Row}
use Rattle.lake_model.specs.Journal.{What, Loaded, Swapped, Entry, entry_with, who_with}
use Rattle.lake_model.specs.Layout.{layout}
use Rattle.search_model.specs.declared.Posting.{Posting}
use Rattle.search_model.specs.declared.Look.{Look}
use Rattle.search_model.specs.declared.Look.TheVariants.{Read, Probe}
use Rattle.search_model.specs.Choosers.{profile}
use Rattle.search_model.specs.Segment.{tokens_of, columns_of, segment}
use Rattle.search_model.specs.Looks.{log, looks_of, run, run_within, is_read}
use Rattle.search_model.specs.Contain.{contain, contain_log}

abbrev table : Text → List Text → Table
table name keys = table_with name (column_with (codes "c") keys ∷ [])

abbrev entry : What → Entry
entry what = entry_with (who_with 1 1) what

-- ---- a segment of one table: column p has the keys z and a, column q has a

abbrev pq : List Table
pq = table_with (codes "t") (column_with (codes "p") (codes "z" ∷ codes "a" ∷ []) ∷ column_with (codes "q") (codes "a" ∷ []) ∷ []) ∷ []

rarest_first : tokens_of (columns_of pq) ≡ record { key = codes "z"; frequency = 1 } ∷ record { key = codes "a"; frequency = 2 } ∷ []
unfolding in_order put_in_order tokens_of
rarest_first = refl

sets : (segment pq).sets ≡ (0 ∷ 1 ∷ []) ∷ (1 ∷ []) ∷ []
unfolding in_order put_in_order tokens_of segment
sets = refl

abbrev posting : ℕ → ℕ → ℕ → Posting
posting column position size = record { column = column; rest = size - 1 - position }

lists : (segment pq).lists ≡ (posting 0 0 2 ∷ []) ∷ (posting 0 1 2 ∷ posting 1 0 1 ∷ []) ∷ []
unfolding in_order put_in_order tokens_of segment
lists = refl

-- ---- the looks of a search

abbrev ask : List Text → ℕ → Query
ask keys k = record { keys = keys; k = k; except = None }

abbrev a_b_c_d : List Text
a_b_c_d = codes "a" ∷ codes "b" ∷ codes "c" ∷ codes "d" ∷ []

-- the reads and the probes
abbrev work : List Look → List ℕ
work looks = length (filter is_read looks) ∷ length (filter (λ look. not (is_read look)) looks) ∷ []

-- One list gives t1 at position 0 of 4, so its bound is 4; a probe is cheaper than the next list, and closes every column.
abbrev three : List Entry
three = map entry (Loaded (table (codes "t1") a_b_c_d) ∷ Loaded (table (codes "t2") (codes "d" ∷ [])) ∷ Loaded (table (codes "t3") (codes "c" ∷ codes "d" ∷ []))
    ∷ Swapped (1 ∷ 2 ∷ 3 ∷ []) (1 ∷ 2 ∷ 3 ∷ []) ∷ [])

one_probe : log profile (ask a_b_c_d 1) (layout three) ≡ Read 4 0 ∷ Probe 4 0 0 ∷ []
unfolding in_order put_in_order tokens_of segment run_within run looks_of log
one_probe = refl

never_probing : work (log (λ _. false) (ask a_b_c_d 1) (layout three)) ≡ 4 ∷ 0 ∷ []
unfolding in_order put_in_order tokens_of segment run_within run looks_of log
never_probing = refl

-- an equal bound with an earlier name stays open
abbrev zz_and_aa : List Entry
zz_and_aa = map entry (Loaded (table (codes "zz") (codes "a" ∷ codes "b" ∷ [])) ∷ Loaded (table (codes "aa") (codes "c" ∷ codes "d" ∷ [])) ∷ Swapped (1 ∷ 2 ∷ []) (1 ∷ 2 ∷ []) ∷ [])

equal_bound : log profile (ask a_b_c_d 1) (layout zz_and_aa) ≡ Read 3 0 ∷ Probe 3 0 0 ∷ Read 3 1 ∷ Read 3 2 ∷ Probe 3 1 0 ∷ []
unfolding in_order put_in_order tokens_of segment run_within run looks_of log
equal_bound = refl

-- a part with fewer lists left than the threshold is not read
abbrev a_and_z : List Entry
a_and_z = map entry (Loaded (table (codes "a") (codes "a" ∷ codes "b" ∷ [])) ∷ Loaded (table (codes "z") (codes "c" ∷ [])) ∷ [])

part_passed_over : log (λ _. false) (ask (codes "a" ∷ codes "b" ∷ codes "c" ∷ []) 1) (layout a_and_z) ≡ Read 1 0 ∷ Read 1 1 ∷ []
unfolding in_order put_in_order tokens_of segment run_within run looks_of log
part_passed_over = refl

-- and one with as many lists left as the threshold is read
abbrev b_and_a : List Entry
b_and_a = map entry (Loaded (table (codes "b") (codes "a" ∷ [])) ∷ Loaded (table (codes "a") (codes "c" ∷ [])) ∷ [])

equal_threshold : log (λ _. false) (ask (codes "a" ∷ codes "c" ∷ []) 1) (layout b_and_a) ≡ Read 1 0 ∷ Read 2 0 ∷ []
unfolding in_order put_in_order tokens_of segment run_within run looks_of log
equal_threshold = refl

-- ---- the columns that hold a fraction of the query

abbrev shrinking_tables : List Table
shrinking_tables = table (codes "t1") a_b_c_d ∷ table (codes "t2") (codes "a" ∷ codes "b" ∷ []) ∷ table (codes "t3") (codes "a" ∷ []) ∷ []

abbrev shrinking : List Entry
shrinking = map entry (map Loaded shrinking_tables)

abbrev row : ℕ → Text → Row
row overlap name = record { overlap = overlap; table = name; column = codes "c"; place = 1 }

half_held : contain shrinking_tables a_b_c_d 1 2 ≡ row 4 (codes "t1") ∷ row 2 (codes "t2") ∷ []
unfolding in_order put_in_order
half_held = refl

-- Three lists of the first part and one of the second are read, and a column of each is probed; the third part has too few tokens.
half_looked_for : contain_log a_b_c_d 1 2 (layout shrinking) ≡ Read 1 0 ∷ Read 1 1 ∷ Read 1 2 ∷ Probe 1 0 2 ∷ Read 2 0 ∷ Probe 2 0 0 ∷ []
unfolding in_order put_in_order tokens_of segment contain_log
half_looked_for = refl

half_work : work (contain_log a_b_c_d 1 2 (layout shrinking)) ≡ 4 ∷ 2 ∷ []
unfolding in_order put_in_order tokens_of segment contain_log
half_work = refl

all_held : contain shrinking_tables a_b_c_d 1 1 ≡ row 4 (codes "t1") ∷ []
unfolding in_order put_in_order
all_held = refl

all_work : work (contain_log a_b_c_d 1 1 (layout shrinking)) ≡ 1 ∷ 1 ∷ []
unfolding in_order put_in_order tokens_of segment contain_log
all_work = refl
