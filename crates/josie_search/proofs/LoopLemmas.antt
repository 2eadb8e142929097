-- One more look in a part.
use Rattle.std.proofs.Common.{◌≡◌, refl, ap, sym, ◌∙◌, subst, ℕ, ◌+◌, ◌<◌, List, [], ◌++◌, Bool, true, false, not, ◌&&◌, length, set, take, get_or, arith, Option, ltb as nat_lt}
use Rattle.std.proofs.lemmas.Bool.Decides.{nat_tests}
use Rattle.lake_model.specs.Answer.{Query, Row, row_cmp}
use Rattle.search_model.specs.declared.Look.{Look}
use Rattle.search_model.specs.declared.Summary.{Summary}
use Rattle.search_model.specs.Looks.{hits, is_eligible, known_rows, next_look, Progress, searched, Searched}
use Rattle.search_laws.specs.Select.{best}
use Rattle.search_state.specs.State.{column_at}
use Rattle.segment_core.specs.Versions.{part_at, VersionOf}
use Rattle.part_columns.specs.declared.tally.Tally.{Tally}
use Rattle.part_columns.specs.Room.{unprobed}
use Rattle.josie_search.specs.Rows.{leads}
use Rattle.josie_search.specs.State.{IsAt}
use Rattle.part_columns.specs.Tallies.{AreTallies, tally_at}
use Rattle.josie_search.proofs.GoingLemmas.{Going, rows_known, stands}
use Rattle.part_columns.proofs.TallyLemmas.{tally_count}
use Rattle.part_columns.proofs.RoomLemmas.{unprobed_less}

-- what the next look says at a version
abbrev pub NextAt : (Summary → Bool) → Query → ℕ → List Tally → List Bool → ℕ → List Row → Option Look → VersionOf → Type 0
NextAt says query part tallies known read rows result version =
    (before : List Row) (progress : Progress) → IsAt (searched query (part_at version.parts part)) progress tallies known → progress.read ≡ read → rows ≡ best row_cmp query.k (before ++ known_rows query (searched query (part_at version.parts part)) progress)
    → result ≡ next_look says query before (searched query (part_at version.parts part)) progress

pub next_now : (says : Summary → Bool) (query : Query) (part : ℕ) (now version : VersionOf) (before : List Row) (old log : List Look) (read : ℕ) (tallies : List Tally) (known : List Bool) (rows : List Row) (result : Option Look) → now ≡ version
    → (going : Going says query (searched query (part_at version.parts part)) before old log read tallies known rows) → read < length (searched query (part_at version.parts part)).query → NextAt says query part tallies known read rows result now
    → result ≡ next_look says query before (searched query (part_at version.parts part)) going.progress
next_now says query part now version before old log read tallies known rows result same going unread next =
    let p = searched query (part_at version.parts part) in
    subst (NextAt says query part tallies known read rows result) same next before going.progress
    (stands says query p before old log read tallies known rows going unread) going.at (rows_known says query p before old log read tallies known rows going unread)

-- one more column is known
pub probed_less : (sets : List (List ℕ)) (tokens asked : List ℕ) (tallies : List Tally) (known : List Bool) (x read : ℕ) → tokens ≡ asked → AreTallies sets (take read asked) tallies → x < length sets → x < length known → get_or known x false ≡ false
    → 0 < (tally_at tallies x).count → unprobed sets tokens (set known x true) + 1 ≡ unprobed sets tokens known
probed_less sets tokens asked tallies known x read same are h k fresh seen =
    let found = hits (get_or sets x []) (take read asked) in
    let count = ap (λ (t : Tally). t.count) (are x) ∙ tally_count (get_or sets x []) found in
    unprobed_less sets tokens known x read h k fresh (subst (λ (ts : List ℕ). 0 < length (hits (get_or sets x []) (take read ts))) (sym same) (omega (arith, count, seen)))

-- a column that leads is eligible, is not known, and was seen
pub lead_parts : (query : Query) (part : Searched) (tallies : List Tally) (known : List Bool) (x : ℕ) → leads query part tallies known x ≡ true → (is_eligible query part (column_at part x) ≡ true) × (get_or known x false ≡ false) × (0 < (tally_at tallies x).count)
lead_parts query part tallies known x e =
    let p = by (is_eligible query part (column_at part x)) (get_or known x false) (nat_lt 0 (tally_at tallies x).count) e in
    (p.0, p.1, (let s = p.2 in grind (arith, nat_tests)))
  where
    by : (a b c : Bool) → (a && not b && c) ≡ true → (a ≡ true) × (b ≡ false) × (c ≡ true)
    by true false true e = (refl, refl, refl)
    by true false false e = cc
    by true true c e = cc
    by false b c e = cc
