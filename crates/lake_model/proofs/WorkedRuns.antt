-- The definitions computed on small inputs, each with the value that the rules give by hand.
use Rattle.std.proofs.Common.{◌≡◌, refl, ℕ, List, [], ◌∷◌, ◌++◌, map, Some, None, true, false}
use Rattle.std.specs.Prelude.{codes}
use Rattle.std.specs.Str.{trim_start, trim_end, chars, is_utf8}
use lib.Utf8.{encode}
use Rattle.caseless.proofs.Computing.{caseless}
use Rattle.csv.specs.Machine.{next_record}
use Rattle.csv.specs.Reading.{records_from, strip_bom}
use Rattle.lake_model.specs.declared.CsvRefused.TheVariants as csv
use Rattle.lake_model.specs.declared.Keys.TheVariants.{Canonical}
use Rattle.lake_model.specs.declared.QueryRefused.TheVariants as refused
use Rattle.lake_model.specs.declared.Counts.{Counts}
use Rattle.lake_model.specs.declared.Policy.TheVariants.{Tier, All}
use Rattle.lake_model.specs.Texts.{Text, lines_of, all_lines}
use Rattle.lake_model.specs.Keys.{key}
use Rattle.lake_model.specs.Tables.{Column, column_with, Table, table_with, overlap}
use Rattle.lake_model.specs.Records.{records_of, csv_fault, rows_fault, text_fault, table_of}
use Rattle.lake_model.specs.Queries.{query_of, query_fault, line_fault}
use Rattle.lake_model.specs.Sorting.{in_order, put_in_order}
use Rattle.lake_model.specs.Answer.{Row, answer}
use Rattle.lake_model.specs.Journal.{What, Loaded, Dropped, Replaced, Swapped, Entry, entry_with, who_with, live, counts}
use Rattle.lake_model.specs.Layout.{layout, shown, is_legal}
use Rattle.lake_model.specs.Plan.{plan, binary_digits}

-- ---- keys

abbrev e_acute : Text
e_acute = 0xC3 ∷ 0xA9 ∷ []

abbrev e_and_acute : Text
e_and_acute = 0x65 ∷ 0xCC ∷ 0x81 ∷ []

sharp_s : key Canonical (codes " Stra" ++ 0xC3 ∷ 0x9F ∷ codes "e") ≡ Some (codes "strasse")
unfolding caseless trim_start trim_end chars encode
sharp_s = refl

capitals : key Canonical (codes "STRASSE ") ≡ Some (codes "strasse")
unfolding caseless trim_start trim_end chars encode
capitals = refl

one_character : key Canonical e_acute ≡ Some e_and_acute
unfolding caseless trim_start trim_end chars encode
one_character = refl

two_characters : key Canonical e_and_acute ≡ Some e_and_acute
unfolding caseless trim_start trim_end chars encode
two_characters = refl

capital_e_acute : key Canonical (0xC3 ∷ 0x89 ∷ []) ≡ Some e_and_acute
unfolding caseless trim_start trim_end chars encode
capital_e_acute = refl

-- a space, a tab and a no-break space
missing : key Canonical (32 ∷ 9 ∷ 0xC2 ∷ 0xA0 ∷ []) ≡ None
unfolding caseless trim_start trim_end chars encode
missing = refl

-- ---- lines, tables and queries

lines : all_lines (codes "a\n\nb") ≡ codes "a" ∷ [] ∷ codes "b" ∷ []
unfolding lines_of
lines = refl

abbrev cities : List ℕ
cities = codes "id,city\n1,Rome\n2,Oslo\n"

cities_are_a_table : csv_fault 1024 cities ≡ None
unfolding next_record records_from strip_bom is_utf8 chars encode rows_fault text_fault
cities_are_a_table = refl

abbrev t1 : Table
t1 = table_with (codes "t1") (column_with (codes "id") (codes "1" ∷ codes "2" ∷ []) ∷ column_with (codes "city") (codes "rome" ∷ codes "oslo" ∷ []) ∷ [])

cities_table : table_of Canonical (codes "t1") (records_of cities) ≡ t1
unfolding next_record records_from strip_bom caseless trim_start trim_end chars encode
cities_table = refl

-- a byte order mark, lines that end in CR LF, a quoted comma and a quoted line feed
quoted : records_of (0xEF ∷ 0xBB ∷ 0xBF ∷ codes "a,b\r\n\"x, y\",\"New\nYork\"\r\n") ≡ (codes "a" ∷ codes "b" ∷ []) ∷ (codes "x, y" ∷ codes "New\nYork" ∷ []) ∷ []
unfolding next_record records_from strip_bom
quoted = refl

no_header : csv_fault 1024 [] ≡ Some csv.NoHeader
unfolding next_record records_from strip_bom rows_fault text_fault
no_header = refl

unequal : csv_fault 1024 (codes "a,b,c,d\n1,2,3\n") ≡ Some (csv.Unequal 2 4 3)
unfolding next_record records_from strip_bom is_utf8 chars encode rows_fault text_fault
unequal = refl

not_utf8 : csv_fault 1024 (codes "a\n" ++ 0xFF ∷ 0x0A ∷ []) ≡ Some (csv.NotUtf8 2 1)
unfolding next_record records_from strip_bom is_utf8 chars encode rows_fault text_fault
not_utf8 = refl

query : query_of Canonical (codes "rome\nOSLO\nParis\n Rome \n\n") ≡ codes "rome" ∷ codes "oslo" ∷ codes "paris" ∷ []
unfolding lines_of caseless trim_start trim_end chars encode
query = refl

query_not_utf8 : query_fault Canonical (codes "a\n" ++ 0xFF ∷ 0x0A ∷ []) ≡ Some (refused.NotUtf8 2)
unfolding lines_of line_fault is_utf8 caseless trim_start trim_end chars encode
query_not_utf8 = refl

-- ---- answers

abbrev row : ℕ → Text → ℕ → Text → Row
row overlap table place column = record { overlap = overlap; table = table; column = column; place = place }

two_of_three : answer (t1 ∷ []) (codes "rome" ∷ codes "oslo" ∷ codes "paris" ∷ []) 1 None ≡ row 2 (codes "t1") 2 (codes "city") ∷ []
unfolding in_order put_in_order
two_of_three = refl

-- ties by column name, and then by place
abbrev d : Table
d = table_with (codes "d") (column_with (codes "x") (codes "1" ∷ []) ∷ column_with (codes "x") (codes "1" ∷ []) ∷ column_with [] (codes "1" ∷ []) ∷ [])

ties : answer (d ∷ []) (codes "1" ∷ []) 3 None ≡ row 1 (codes "d") 3 [] ∷ row 1 (codes "d") 1 (codes "x") ∷ row 1 (codes "d") 2 (codes "x") ∷ []
unfolding in_order put_in_order
ties = refl

abbrev column : List Text → List Column
column keys = column_with (codes "c") keys ∷ []

-- ties by table name; the excepted table gives no row
abbrev zz_and_aa : List Table
zz_and_aa = table_with (codes "zz") (column (codes "a" ∷ codes "b" ∷ [])) ∷ table_with (codes "aa") (column (codes "c" ∷ codes "d" ∷ [])) ∷ []

table_ties : answer zz_and_aa (codes "a" ∷ codes "b" ∷ codes "c" ∷ codes "d" ∷ []) 1 None ≡ row 2 (codes "aa") 1 (codes "c") ∷ []
unfolding in_order put_in_order
table_ties = refl

excepted : answer zz_and_aa (codes "a" ∷ codes "b" ∷ codes "c" ∷ codes "d" ∷ []) 1 (Some (codes "aa")) ≡ row 2 (codes "zz") 1 (codes "c") ∷ []
unfolding in_order put_in_order
excepted = refl

-- ---- journals

abbrev counts_with : ℕ → ℕ → ℕ → ℕ → Counts
counts_with live updates members key_bytes = record { live = live; updates = updates; members = members; key_bytes = key_bytes }

abbrev entry : What → Entry
entry what = entry_with (who_with 1 1) what

abbrev load : Text → List Text → What
load name keys = Loaded (table_with name (column keys))

-- two loads, a drop of the first, and a swap of both parts that keeps the second load
abbrev four : List Entry
four = map entry (load (codes "b1") (codes "x" ∷ codes "y" ∷ []) ∷ load (codes "b2") (codes "x" ∷ []) ∷ Dropped (codes "b1") ∷ Swapped (1 ∷ 2 ∷ []) (2 ∷ []) ∷ [])

abbrev three : List Entry
three = map entry (load (codes "b1") (codes "x" ∷ codes "y" ∷ []) ∷ load (codes "b2") (codes "x" ∷ []) ∷ Dropped (codes "b1") ∷ [])

marked : shown (layout three) ≡ (1, (1, true) ∷ []) ∷ (2, (2, false) ∷ []) ∷ []
marked = refl

swapped : shown (layout four) ≡ (4, (2, false) ∷ []) ∷ []
swapped = refl

planned : plan All three ≡ Some (1 ∷ 2 ∷ [], 2 ∷ [])
planned = refl

legal : is_legal four ≡ true
legal = refl

swaps_are_no_updates : (counts four).updates ≡ 3
swaps_are_no_updates = refl

live_passes_over_swaps : live four ≡ live three
live_passes_over_swaps = refl

-- two loads, planned together; the first table is replaced before the swap, which keeps its mark
abbrev replaced_between : List Entry
replaced_between = map entry (load (codes "a") (codes "x" ∷ []) ∷ load (codes "b") (codes "x" ∷ []) ∷ Replaced (table_with (codes "a") (column (codes "y" ∷ []))) ∷ Swapped (1 ∷ 2 ∷ []) (1 ∷ 2 ∷ []) ∷ [])

replaced_layout : shown (layout replaced_between) ≡ (4, (1, true) ∷ (2, false) ∷ []) ∷ (3, (3, false) ∷ []) ∷ []
replaced_layout = refl

replaced_is_legal : is_legal replaced_between ≡ true
replaced_is_legal = refl

replaced_live : live replaced_between ≡ table_with (codes "b") (column (codes "x" ∷ [])) ∷ table_with (codes "a") (column (codes "y" ∷ [])) ∷ []
replaced_live = refl

-- a replace counts as an update and with its members, but not as one more live table
replaced_counts : counts replaced_between ≡ counts_with 2 3 3 3
replaced_counts = refl

replaced_unknown : is_legal (map entry (Replaced (table_with (codes "z") []) ∷ [])) ≡ false
replaced_unknown = refl

loaded_again : is_legal (map entry (load (codes "n") [] ∷ load (codes "n") [] ∷ [])) ≡ false
loaded_again = refl

four_of_one_tier : plan Tier (map entry (load (codes "a1") [] ∷ load (codes "a2") [] ∷ load (codes "a3") [] ∷ load (codes "a4") [] ∷ [])) ≡ Some (1 ∷ 2 ∷ 3 ∷ 4 ∷ [], 1 ∷ 2 ∷ 3 ∷ 4 ∷ [])
four_of_one_tier = refl

digits_of_seven : binary_digits 7 ≡ 3
digits_of_seven = refl

digits_of_eight : binary_digits 8 ≡ 4
digits_of_eight = refl
