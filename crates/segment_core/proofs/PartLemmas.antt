-- The tables and the marks of a part's places, and the table to which a column belongs.
use Rattle.std.proofs.Common.{◌≡◌, refl, ap, ◌∙◌, ℕ, zero, suc, ◌+◌, ◌<◌, ◌≤◌, List, [], ◌∷◌, Bool, true, get_or, map, length, arith}
use Rattle.std.proofs.lemmas.List.{get_or-map}
use Rattle.std.specs.List.{AllByRecursion, flat_map, enumerate_from, slice_set}
use Rattle.list_laws.proofs.ListLemmas.{all_at, all_append}
use Rattle.lake_model.specs.Texts.{Text}
use Rattle.lake_model.specs.Tables.{Table, Column}
use Rattle.search_model.specs.Segment.{Titled, titled, columns_of, segment}
use Rattle.search_model.specs.Arrays.{titled_at, no_titled}
use Rattle.segment_core.specs.Positions.{loads_of}
use Rattle.lake_model.specs.Layout.{Part}
use Rattle.segment_core.specs.Versions.{part_at, places_with, part_with, tables_of, marks_of, mark_nth, place_with}

pub tables_with : (number : ℕ) (ns : List ℕ) (ts : List Table) (ms : List Bool) → length ns ≡ length ts → length ms ≡ length ts → tables_of (part_with number (places_with ns ts ms)) ≡ ts
tables_with number [] [] ms h k = refl
tables_with number [] (t ∷ ts) ms h k = absurd (omega arith)
tables_with number (n ∷ ns) [] ms h k = absurd (omega arith)
tables_with number (n ∷ ns) (t ∷ ts) [] h k = absurd (omega arith)
tables_with number (n ∷ ns) (t ∷ ts) (m ∷ ms) h k = ap (λ us. t ∷ us) (tables_with number ns ts ms (omega arith) (omega arith))

pub marks_with : (number : ℕ) (ns : List ℕ) (ts : List Table) (ms : List Bool) → length ns ≡ length ts → length ms ≡ length ts → marks_of (part_with number (places_with ns ts ms)) ≡ ms
marks_with number [] [] [] h k = refl
marks_with number [] [] (m ∷ ms) h k = absurd (omega arith)
marks_with number [] (t ∷ ts) ms h k = absurd (omega arith)
marks_with number (n ∷ ns) [] ms h k = absurd (omega arith)
marks_with number (n ∷ ns) (t ∷ ts) [] h k = absurd (omega arith)
marks_with number (n ∷ ns) (t ∷ ts) (m ∷ ms) h k = ap (λ us. m ∷ us) (marks_with number ns ts ms (omega arith) (omega arith))

from_one : (bound from : ℕ) (name : Text) (n : ℕ) (columns : List Column) → from < bound → AllByRecursion (λ (c : Titled). c.from < bound) (map (λ c. titled from name c.0 c.1) (enumerate_from n columns))
from_one bound from name n [] h = tt
from_one bound from name n (c ∷ columns) h = (h, from_one bound from name (n + 1) columns h)

from_all : (bound n : ℕ) (tables : List Table) → n + length tables ≤ bound → AllByRecursion (λ (c : Titled). c.from < bound) (flat_map (λ t. map (λ c. titled t.0 t.1.name c.0 c.1) (enumerate_from 1 t.1.columns)) (enumerate_from n tables))
from_all bound n [] h = tt
from_all bound n (t ∷ tables) h = all_append (λ (c : Titled). c.from < bound) _ _ (from_one bound n t.name 1 t.columns (omega arith)) (from_all bound (n + 1) tables (omega arith))

pub from_within : (tables : List Table) (set : ℕ) → set < length (segment tables).columns → (titled_at (segment tables).columns set).from < length tables
unfolding segment
from_within tables set h = all_at (λ (c : Titled). c.from < length tables) (columns_of tables) set no_titled (from_all (length tables) 0 tables (omega arith)) h

pub mark_with : (ns : List ℕ) (ts : List Table) (ms : List Bool) (i : ℕ) → length ns ≡ length ts → length ms ≡ length ts → places_with ns ts (slice_set ms i true) ≡ mark_nth i (places_with ns ts ms)
mark_with [] [] ms i h k = refl
mark_with [] (t ∷ ts) ms i h k = absurd (omega arith)
mark_with (n ∷ ns) [] ms i h k = absurd (omega arith)
mark_with (n ∷ ns) (t ∷ ts) [] i h k = absurd (omega arith)
mark_with (n ∷ ns) (t ∷ ts) (m ∷ ms) zero h k = refl
mark_with (n ∷ ns) (t ∷ ts) (m ∷ ms) (suc i) h k = ap (λ ps. place_with n t m ∷ ps) (mark_with ns ts ms i (omega arith) (omega arith))

pub length_places : (ns : List ℕ) (ts : List Table) (ms : List Bool) → length ns ≡ length ts → length ms ≡ length ts → length (places_with ns ts ms) ≡ length ms
length_places [] [] [] h k = refl
length_places [] [] (m ∷ ms) h k = absurd (omega arith)
length_places [] (t ∷ ts) ms h k = absurd (omega arith)
length_places (n ∷ ns) [] ms h k = absurd (omega arith)
length_places (n ∷ ns) (t ∷ ts) [] h k = absurd (omega arith)
length_places (n ∷ ns) (t ∷ ts) (m ∷ ms) h k = omega (arith, length_places ns ts ms (omega arith) (omega arith))

pub positions_with : (number : ℕ) (ns : List ℕ) (ts : List Table) (ms : List Bool) → length ns ≡ length ts → length ms ≡ length ts → loads_of (part_with number (places_with ns ts ms)) ≡ ns
positions_with number [] [] [] h k = refl
positions_with number [] [] (m ∷ ms) h k = absurd (omega arith)
positions_with number [] (t ∷ ts) ms h k = absurd (omega arith)
positions_with number (n ∷ ns) [] ms h k = absurd (omega arith)
positions_with number (n ∷ ns) (t ∷ ts) [] h k = absurd (omega arith)
positions_with number (n ∷ ns) (t ∷ ts) (m ∷ ms) h k = ap (λ us. n ∷ us) (positions_with number ns ts ms (omega arith) (omega arith))

-- the index at a part, of indexes that are those of the parts' tables
pub index_is : (indexes : List (List Table)) (parts : List Part) (i : ℕ) (d : List Table) → indexes ≡ map tables_of parts → i < length parts → get_or indexes i d ≡ tables_of (part_at parts i)
index_is indexes parts i d same h = ap (λ (all : List (List Table)). get_or all i d) same ∙ get_or-map tables_of parts i (part_with 0 []) d h
