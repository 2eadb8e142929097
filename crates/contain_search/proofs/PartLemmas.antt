-- What the steps of a part's search add up to.
use Rattle.std.proofs.Common.{◌≡◌, ap, sym, ◌∙◌, subst, ℕ, ◌+◌, ◌-◌, ◌<◌, ◌≤◌, List, [], ◌++◌, length, map, take, drop, get_or, arith, append_assoc}
use Rattle.std.specs.List.{AllByRecursion, flat_map}
use Rattle.std.proofs.lemmas.List.{get_or-take, length-take, take-append-drop}
use Rattle.std.proofs.lemmas.List.Elements.{All-from_recursion}
use Rattle.list_laws.proofs.ListLemmas.{all_left}
use Rattle.lake_model.specs.Answer.{Row}
use Rattle.lake_model.specs.Layout.{Part}
use Rattle.lake_model.specs.Texts.{Text}
use Rattle.contain_search.proofs.HoldLemmas.{may_columns_seen}
use Rattle.contain_search.proofs.SettleLemmas.{few_may, probes_are_needed, rows_are_found}
use Rattle.contain_search.specs.Met.{first_lists, may_columns, met, probes_of, rows_of}
use Rattle.part_columns.proofs.RoomLemmas.{few_unprobed}
use Rattle.part_columns.proofs.SegmentLists.{all_asked, token_within}
use Rattle.part_columns.proofs.TouchedLemmas.{all_among}
use Rattle.part_columns.specs.declared.tally.Tally.{Tally}
use Rattle.part_columns.specs.Room.{asked_in, probes_bound}
use Rattle.part_columns.specs.Tallies.{AreTallies, tally_at}
use Rattle.search_laws.specs.Found.{found_rows}
use Rattle.search_model.specs.Contain.{contain_looks, lists_needed, probes_needed, reads_needed}
use Rattle.search_model.specs.declared.Look.{Look}
use Rattle.search_model.specs.declared.Look.TheVariants.{Read}
use Rattle.search_model.specs.Looks.{Searched}
use Rattle.segment_core.proofs.SegmentLemmas.{length-sets}
use Rattle.segment_core.specs.Versions.{segment_of, tables_of}

-- the first of a part's tokens are tokens of the part
pub first_within : (part : Part) (keys : List Text) (tokens : List ℕ) (read : ℕ) → tokens ≡ asked_in keys part → (k d : ℕ) → k < length (take read tokens) → get_or (take read tokens) k d < length (segment_of part).tokens
first_within part keys tokens read is k d h =
    let below : k < read = omega (arith, h, length-take read tokens) in
    let all : k < length (asked_in keys part) = omega (arith, h, length-take read tokens, ap length is) in
    omega (arith, get_or-take read tokens k d below, ap (λ (ts : List ℕ). get_or ts k d) is, token_within (segment_of part).tokens keys k d all)

-- at most as many columns may hold enough as the lists that are read have postings, and as the part has columns
pub few_found : (part : Part) (keys : List Text) (tokens : List ℕ) (least : ℕ) → tokens ≡ asked_in keys part → length (may_columns least (met part tokens)) ≤ probes_bound part (first_lists least tokens)
few_found part keys tokens least is =
    let all = subst (λ (ts : List ℕ). AllByRecursion (λ t. t < length (segment_of part).tokens) ts) (sym is) (all_asked (segment_of part).tokens keys) in
    let split = subst (λ (ts : List ℕ). AllByRecursion (λ t. t < length (segment_of part).tokens) ts) (sym (take-append-drop (length tokens + 1 - least) tokens)) all in
    let first = all_left (λ t. t < length (segment_of part).tokens) (first_lists least tokens) (drop (length tokens + 1 - least) tokens) split in
    omega (arith, few_may least (met part tokens) (length-sets (tables_of part)), few_unprobed part (first_lists least tokens) [] first)

module _ (least : ℕ) (part : Searched) (long : length part.segment.sets ≡ length part.segment.columns) (tallies : List Tally) (read : ℕ) (is : read ≡ lists_needed least part) (counted : AreTallies part.segment.sets (take read part.query) tallies)
    (found : List ℕ) (holds : found ≡ may_columns least part) where
  are : AreTallies part.segment.sets (take (lists_needed least part) part.query) tallies
  are = subst (λ (n : ℕ). AreTallies part.segment.sets (take n part.query) tallies) is counted

  pub all_seen : (k d : ℕ) → k < length found → 0 < (tally_at tallies (get_or found k d)).count
  all_seen k d h =
      let each = all_among (λ x. 0 < (tally_at tallies x).count) (may_columns least part) (λ x e. (may_columns_seen least part long tallies are x e).1) in
      let some = All-from_recursion (λ x. 0 < (tally_at tallies x).count) (may_columns least part) each k d (omega (arith, h, ap length holds)) in
      omega (arith, some, ap (λ (xs : List ℕ). (tally_at tallies (get_or xs k d)).count) holds)

  pub looks_made : (number : ℕ) (sets : List (List ℕ)) (old mid news : List Look) → number ≡ part.number → sets ≡ part.segment.sets → mid ≡ old ++ map (λ token. Read part.number token) (take read part.query) → news ≡ mid ++ flat_map (probes_of number sets tallies (length part.query - read)) found
      → news ≡ old ++ contain_looks least part
  looks_made number sets old mid news same there reads probes =
      probes ∙ (λ i. reads i ++ flat_map (probes_of (same i) (there i) tallies (length part.query - is i)) (holds i))
      ∙ (λ i. (old ++ map (λ token. Read part.number token) (take (is i) part.query)) ++ probes_are_needed least part long tallies are i)
      ∙ append_assoc old (reads_needed least part) (probes_needed least part)

pub rows_made : (least : ℕ) (part other : Searched) (found : List ℕ) (old news : List Row) → other ≡ part → found ≡ may_columns least part → news ≡ old ++ flat_map (rows_of least other) found → news ≡ old ++ found_rows least part
rows_made least part other found old news same holds made = made ∙ (λ i. old ++ flat_map (rows_of least (same i)) (holds i)) ∙ ap (λ us. old ++ us) (rows_are_found least part)
