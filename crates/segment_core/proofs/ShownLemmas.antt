-- What replies show of a version, from the lists that its parts keep.
use Rattle.std.proofs.Common.{◌≡◌, refl, ap, sym, ◌∙◌, ℕ, zero, suc, ◌+◌, ◌<◌, List, [], ◌∷◌, ◌++◌, Bool, true, false, cond, length, get_or, take, drop, arith, Option}
use Rattle.std.specs.List.{slice_set, splice, zip}
use Rattle.std.specs.Option.{option_to_list}
use Rattle.std.proofs.lemmas.List.{drop-map, map-append, take-map}
use Rattle.lake_model.specs.Layout.{Place, Part, shown}
use Rattle.lake_model.specs.Tables.{Table, Line, line_of}
use Rattle.search_model.specs.Arrays.{table_at}
use Rattle.segment_core.specs.Lines.{lines_without, mark_pair, mark_shown, shown_places, unmarked_lines}
use Rattle.segment_core.specs.Plans.{replaced}
use Rattle.segment_core.specs.Versions.{mark_nth, marked_at, part_at, places_with}

pub zip_places : (ns : List ℕ) (ts : List Table) (ms : List Bool) → length ns ≡ length ts → length ms ≡ length ts → shown_places (places_with ns ts ms) ≡ zip ns ms
zip_places [] [] [] h k = refl
zip_places [] [] (m ∷ ms) h k = absurd (omega arith)
zip_places [] (t ∷ ts) ms h k = absurd (omega arith)
zip_places (n ∷ ns) [] ms h k = absurd (omega arith)
zip_places (n ∷ ns) (t ∷ ts) [] h k = absurd (omega arith)
zip_places (n ∷ ns) (t ∷ ts) (m ∷ ms) h k = ap (λ (ps : List (ℕ × Bool)). (n, m) ∷ ps) (zip_places ns ts ms (omega arith) (omega arith))

pub lines_places : (ns : List ℕ) (ts : List Table) (ms : List Bool) → length ns ≡ length ts → length ms ≡ length ts → unmarked_lines (places_with ns ts ms) ≡ lines_without ts ms
lines_places [] [] ms h k = refl
lines_places [] (t ∷ ts) ms h k = absurd (omega arith)
lines_places (n ∷ ns) [] ms h k = absurd (omega arith)
lines_places (n ∷ ns) (t ∷ ts) [] h k = absurd (omega arith)
lines_places (n ∷ ns) (t ∷ ts) (true ∷ ms) h k = lines_places ns ts ms (omega arith) (omega arith)
lines_places (n ∷ ns) (t ∷ ts) (false ∷ ms) h k = ap (λ (ls : List Line). line_of t ∷ ls) (lines_places ns ts ms (omega arith) (omega arith))

without_from : (ts : List Table) (ms : List Bool) (i : ℕ) → i < length ts → length ms ≡ length ts
    → lines_without (take (suc i) ts) (take (suc i) ms) ≡ lines_without (take i ts) (take i ms) ++ cond (get_or ms i false) [] (line_of (table_at ts i) ∷ [])
without_from [] ms i h k = absurd (omega arith)
without_from (t ∷ ts) [] i h k = absurd (omega arith)
without_from (t ∷ ts) (m ∷ ms) zero h k = refl
without_from (t ∷ ts) (true ∷ ms) (suc i) h k = without_from ts ms i (omega arith) (omega arith)
without_from (t ∷ ts) (false ∷ ms) (suc i) h k = ap (λ (ls : List Line). line_of t ∷ ls) (without_from ts ms i (omega arith) (omega arith))

-- one more table
pub without_more : (ts : List Table) (ms : List Bool) (i : ℕ) → i < length ts → length ms ≡ length ts
    → lines_without (take (i + 1) ts) (take (i + 1) ms) ≡ lines_without (take i ts) (take i ms) ++ cond (get_or ms i false) [] (line_of (table_at ts i) ∷ [])
without_more ts ms i h k = let e : i + 1 ≡ suc i = omega arith in ap (λ (n : ℕ). lines_without (take n ts) (take n ms)) e ∙ without_from ts ms i h k

shown_nth : (n : ℕ) (ps : List Place) → shown_places (mark_nth n ps) ≡ mark_pair n (shown_places ps)
shown_nth n [] = refl
shown_nth zero (p ∷ ps) = refl
shown_nth (suc n) (p ∷ ps) = ap (λ (qs : List (ℕ × Bool)). (p.position, p.marked) ∷ qs) (shown_nth n ps)

-- a table of a part is marked
pub shown_set : (parts : List Part) (i n : ℕ) → shown (slice_set parts i (marked_at n (part_at parts i))) ≡ mark_shown i n (shown parts)
shown_set [] i n = refl
shown_set (p ∷ ps) zero n = ap (λ (qs : List (ℕ × Bool)). (p.number, qs) ∷ shown ps) (shown_nth n p.places)
shown_set (p ∷ ps) (suc i) n = ap (λ (qs : List (ℕ × List (ℕ × Bool))). (p.number, shown_places p.places) ∷ qs) (shown_set ps i n)

-- one more part
pub shown_more : (parts : List Part) (part : Part) → shown (parts ++ part ∷ []) ≡ shown parts ++ (part.number, shown_places part.places) ∷ []
shown_more parts part = map-append (λ (p : Part). (p.number, shown_places p.places)) parts (part ∷ [])

-- parts are replaced by one part or by none
pub shown_replaced : (first count : ℕ) (part : Option Part) (parts : List Part) → shown (replaced first count part parts) ≡ splice (shown parts) first (first + count) (shown (option_to_list part))
shown_replaced first count part parts =
    let one : Part → ℕ × List (ℕ × Bool) = λ p. (p.number, shown_places p.places) in
    let end = first + count in
    map-append one (take first parts) (option_to_list part ++ drop end parts)
    ∙ ap (λ (qs : List (ℕ × List (ℕ × Bool))). shown (take first parts) ++ qs) (map-append one (option_to_list part) (drop end parts))
    ∙ ap (λ (qs : List (ℕ × List (ℕ × Bool))). qs ++ (shown (option_to_list part) ++ shown (drop end parts))) (sym (take-map one first parts))
    ∙ ap (λ (qs : List (ℕ × List (ℕ × Bool))). take first (shown parts) ++ (shown (option_to_list part) ++ qs)) (sym (drop-map one end parts))
