-- What comes next in a part, given the first column that is open.
use Rattle.std.proofs.Common.{◌≡◌, refl, ap, sym, ◌∙◌, subst, ℕ, ◌-◌, ◌<◌, List, [], ◌∷◌, ◌++◌, Bool, true, false, length, map, take, get_or, arith, cond, Option, Some, None}
use Rattle.std.specs.Prelude.{slice_get, IfSome}
use Rattle.std.specs.Option.{option_map}
use Rattle.std.proofs.lemmas.List.{length-map}
use Rattle.lake_model.specs.Answer.{Query, Row, row_cmp}
use Rattle.search_model.specs.declared.Look.TheVariants.{Probe, Read}
use Rattle.search_model.specs.declared.Summary.{Summary}
use Rattle.search_model.specs.Looks.{beats, choice, hits, known_rows, left_of, list_lengths, next_look, Progress, read_next, Searched, seen_by, summary_with, threshold, unseen_open, worst}
use Rattle.search_model.specs.Segment.{rank, Titled}
use Rattle.search_laws.specs.Select.{best}
use Rattle.search_state.specs.State.{column_at, seen_at}
use Rattle.search_state.proofs.OfferLemmas.{worst_is}
use Rattle.part_columns.specs.declared.tally.Tally.{Tally}
use Rattle.josie_search.specs.Costs.{lengths_of, summary_of, threshold_of}
use Rattle.josie_search.specs.Open.{chosen, IsHead, overlap_of, taken}
use Rattle.josie_search.specs.Rows.{FoundFrom, FoundTo, leads, MayLead}
use Rattle.josie_search.specs.State.{IsAt}
use Rattle.part_columns.proofs.ProbeLemmas.{position_is}
use Rattle.part_columns.proofs.TallyLemmas.{tally_count}
use Rattle.part_columns.specs.Tallies.{position_in, tally_at, tally_of}
use Rattle.josie_search.proofs.LoopLemmas.{lead_parts}
use Rattle.josie_search.proofs.OpenLemmas.{first_beaten, first_open, none_high, none_opens}

-- the code and the definition give the chooser the same summary
sum_same : (last : Option Row) (progress : Progress) (lengths : List ℕ) (c : Titled) (set : List ℕ) (x : ℕ) (found : List ℕ) → 0 < length found
    → summary_with last progress lengths (seen_by c set (length lengths - progress.read) x found) ≡ summary_of lengths progress.read (tally_of set found) (overlap_of last)
sum_same last progress lengths c set x [] h = absurd (omega arith)
sum_same None progress lengths c set x (t ∷ ts) h = refl
sum_same (Some w) progress lengths c set x (t ∷ ts) h = refl

-- what was seen of a column has the position of its last token in the lists read
seen_position : (c : Titled) (set : List ℕ) (left x : ℕ) (found : List ℕ) → 0 < length found → (seen_by c set left x found).position ≡ rank set (get_or found (length found - 1) 0)
seen_position c set left x [] h = absurd (omega arith)
seen_position c set left x (t ∷ ts) h = refl

pub threshold_same : (last : Option Row) → threshold last ≡ threshold_of (overlap_of last)
threshold_same None = refl
threshold_same (Some w) = refl

module _ (says : Summary → Bool) (query : Query) (before : List Row) (part : Searched) (progress : Progress) (tallies : List Tally) (known : List Bool) (is : IsAt part progress tallies known) where
  abbrev last : Option Row
  last = worst query (before ++ known_rows query part progress)

  abbrev lengths : List ℕ
  lengths = lengths_of part.segment part.query

  abbrev found_at : ℕ → List ℕ
  found_at x = hits (get_or part.segment.sets x []) (take progress.read part.query)

  lists : length lengths ≡ length part.query
  lists = length-map part.query (λ (token : ℕ). get_or (map (λ t. t.frequency) part.segment.tokens) token 0)

  summary_same : (x : ℕ) → 0 < (seen_at part progress x).count → summary_with last progress (list_lengths part) (seen_at part progress x) ≡ summary_of lengths progress.read (tally_at tallies x) (overlap_of last)
  summary_same x some =
      let set = get_or part.segment.sets x [] in
      let e : left_of part progress ≡ length lengths - progress.read = ap (λ (n : ℕ). n - progress.read) (sym lists) in
      ap (λ (left : ℕ). summary_with last progress (list_lengths part) (seen_by (column_at part x) set left x (found_at x))) e
      ∙ sum_same last progress lengths (column_at part x) set x (found_at x) some
      ∙ ap (λ (t : Tally). summary_of lengths progress.read t (overlap_of last)) (sym (is.tallies_are x))

  pub next_probes : (x : ℕ) → IsHead query part progress last (Some x) → 0 < (seen_at part progress x).count → says (summary_of lengths progress.read (tally_at tallies x) (overlap_of last)) ≡ true
      → next_look says query before part progress ≡ Some (Probe part.number x (position_in (get_or part.segment.sets x []) (tally_at tallies x)))
  next_probes x head some said =
      let set = get_or part.segment.sets x [] in
      let tally = tally_at tallies x in
      let counted : 0 < tally.count = omega (arith, ap (λ (t : Tally). t.count) (is.tallies_are x) ∙ tally_count set (found_at x), some) in
      let position : (seen_at part progress x).position ≡ position_in set tally =
      seen_position (column_at part x) set (left_of part progress) x (found_at x) some ∙ sym (position_is set part.query progress.read tally counted (is.tallies_are x)) in
      ap (choice says part progress last) head.1
      ∙ ap (λ b. cond b (Some (Probe part.number x (seen_at part progress x).position)) (Some (read_next part progress))) (ap says (summary_same x some) ∙ said)
      ∙ ap (λ (p : ℕ). Some (Probe part.number x p)) position

  pub next_reads : (x : ℕ) → IsHead query part progress last (Some x) → 0 < (seen_at part progress x).count → says (summary_of lengths progress.read (tally_at tallies x) (overlap_of last)) ≡ false
      → next_look says query before part progress ≡ Some (read_next part progress)
  next_reads x head some said =
      ap (choice says part progress last) head.1
      ∙ ap (λ b. cond b (Some (Probe part.number x (seen_at part progress x).position)) (Some (read_next part progress))) (ap says (summary_same x some) ∙ said)

  pub next_unseen : (b : Bool) → IsHead query part progress last None → unseen_open (left_of part progress) (threshold_of (overlap_of last)) ≡ b → next_look says query before part progress ≡ cond b (Some (read_next part progress)) None
  next_unseen b head e =
      ap (choice says part progress last) head
      ∙ ap (λ c. cond c (Some (read_next part progress)) None) (ap (unseen_open (left_of part progress)) (threshold_same last) ∙ e)

  -- the look that follows from the first open column and the chooser is the next look
  pub next_chosen : (column : Option ℕ) → IsHead query part progress last column → ((x : ℕ) → column ≡ Some x → 0 < (seen_at part progress x).count) → chosen says part.number lengths part.query progress.read part.segment.sets tallies (overlap_of last) column ≡ next_look says query before part progress
  next_chosen None head some = by (unseen_open (length part.query - progress.read) (threshold_of (overlap_of last))) refl
    where
      by : (b : Bool) → unseen_open (length part.query - progress.read) (threshold_of (overlap_of last)) ≡ b → cond b (Some (Read part.number (get_or part.query progress.read 0))) None ≡ next_look says query before part progress
      by true e = sym (next_unseen true head e)
      by false e = sym (next_unseen false head e)
  next_chosen (Some x) head some = by (says (summary_of lengths progress.read (tally_at tallies x) (overlap_of last))) refl
    where
      by : (b : Bool) → says (summary_of lengths progress.read (tally_at tallies x) (overlap_of last)) ≡ b → cond b (Some (Probe part.number x (position_in (get_or part.segment.sets x []) (tally_at tallies x)))) (Some (Read part.number (get_or part.query progress.read 0))) ≡ next_look says query before part progress
      by true e = sym (next_probes x head (some x refl) e)
      by false e = sym (next_reads x head (some x refl) e)

-- what follows from a look that was chosen
module _ (says : Summary → Bool) (number : ℕ) (lengths tokens : List ℕ) (read : ℕ) (sets : List (List ℕ)) (tallies : List Tally) (worst : Option ℕ) where
  pub chosen_probe : (column : Option ℕ) (n x after : ℕ) → chosen says number lengths tokens read sets tallies worst column ≡ Some (Probe n x after) → (n ≡ number) × (column ≡ Some x) × (after ≡ position_in (get_or sets x []) (tally_at tallies x))
  chosen_probe None n x after e = by (unseen_open (length tokens - read) (threshold_of worst)) e
    where
      by : (b : Bool) → cond b (Some (Read number (get_or tokens read 0))) None ≡ Some (Probe n x after) → (n ≡ number) × (None ≡ Some x) × (after ≡ position_in (get_or sets x []) (tally_at tallies x))
      by true e = absurd (let f : Some (Read number (get_or tokens read 0)) ≡ Some (Probe n x after) = e in cc)
      by false e = absurd (let f : None ≡ Some (Probe n x after) = e in cc)
  chosen_probe (Some y) n x after e = by (says (summary_of lengths read (tally_at tallies y) worst)) e
    where
      by : (b : Bool) → cond b (Some (Probe number y (position_in (get_or sets y []) (tally_at tallies y)))) (Some (Read number (get_or tokens read 0))) ≡ Some (Probe n x after) → (n ≡ number) × (Some y ≡ Some x) × (after ≡ position_in (get_or sets x []) (tally_at tallies x))
      by true f =
          let same_n : n ≡ number = cc in
          let same : y ≡ x = cc in
          let at : after ≡ position_in (get_or sets y []) (tally_at tallies y) = cc in
          (same_n, ap Some same, at ∙ ap (λ (z : ℕ). position_in (get_or sets z []) (tally_at tallies z)) same)
      by false f = absurd (let g : Some (Read number (get_or tokens read 0)) ≡ Some (Probe n x after) = f in cc)

  pub chosen_read : (column : Option ℕ) (n t : ℕ) → chosen says number lengths tokens read sets tallies worst column ≡ Some (Read n t) → (n ≡ number) × (t ≡ get_or tokens read 0)
  chosen_read None n t e = by (unseen_open (length tokens - read) (threshold_of worst)) e
    where
      by : (b : Bool) → cond b (Some (Read number (get_or tokens read 0))) None ≡ Some (Read n t) → (n ≡ number) × (t ≡ get_or tokens read 0)
      by true f = (let g : n ≡ number = cc in g, let g : t ≡ get_or tokens read 0 = cc in g)
      by false f = absurd (let g : None ≡ Some (Read n t) = f in cc)
  chosen_read (Some y) n t e = by (says (summary_of lengths read (tally_at tallies y) worst)) e
    where
      by : (b : Bool) → cond b (Some (Probe number y (position_in (get_or sets y []) (tally_at tallies y)))) (Some (Read number (get_or tokens read 0))) ≡ Some (Read n t) → (n ≡ number) × (t ≡ get_or tokens read 0)
      by true f = absurd (let g : Some (Probe number y (position_in (get_or sets y []) (tally_at tallies y))) ≡ Some (Read n t) = f in cc)
      by false f = (let g : n ≡ number = cc in g, let g : t ≡ get_or tokens read 0 = cc in g)

-- the k-th known row is the k-th of the first k that are kept
pub last_is : (query : Query) (known rows : List Row) (k : ℕ) → 0 < query.k → k ≡ query.k → rows ≡ best row_cmp query.k known → slice_get rows (k - 1) ≡ worst query known
last_is query known rows k some same e = (λ i. slice_get (e i) (same i - 1)) ∙ sym (worst_is query known some)

-- the first that leads, and whether it beats the last row, give the first of the open columns
pub head_found : (query : Query) (part : Searched) (progress : Progress) (tallies : List Tally) (known : List Bool) (last : Option Row) (found : Option (ℕ × Row)) → IsAt part progress tallies known
    → FoundTo query part tallies known (left_of part progress) (length part.segment.columns) found → (result : Option ℕ) → result ≡ taken last found
    → IsHead query part progress last result
head_found query part progress tallies known last None is h result e = subst (IsHead query part progress last) (sym e) (none_opens query part progress tallies known is last h)
head_found query part progress tallies known last (Some (x, row)) is h result e = subst (IsHead query part progress last) (sym e) (by (beats last row) refl)
  where
    by : (b : Bool) → beats last row ≡ b → IsHead query part progress last (cond b (Some x) None)
    by true f = first_open query part progress tallies known is last x row h f
    by false f = first_beaten query part progress tallies known is last x row h f

-- the first that leads with a bound of at least the k-th row's overlap, and whether it beats that row, give the first
-- of the open columns
pub head_from : (query : Query) (part : Searched) (progress : Progress) (tallies : List Tally) (known : List Bool) (last : Option Row) (found : Option (ℕ × Row)) (low : ℕ) → IsAt part progress tallies known → low ≡ threshold_of (overlap_of last)
    → FoundFrom query part tallies known (left_of part progress) (length part.segment.columns) low found → (result : Option ℕ) → result ≡ taken last found → IsHead query part progress last result
head_from query part progress tallies known last None low is high h result e = subst (IsHead query part progress last) (sym e) (none_high query part progress tallies known is last low high h)
head_from query part progress tallies known last (Some found) low is high h result e = head_found query part progress tallies known last (Some found) is h result e

-- the same, with other names for what is known
pub head_now : (query : Query) (part : Searched) (progress : Progress) (tallies : List Tally) (known : List Bool) (last kept : Option Row) (found : Option (ℕ × Row)) (left n low : ℕ) (result : Option ℕ) → IsAt part progress tallies known
    → kept ≡ last → left ≡ left_of part progress → n ≡ length part.segment.columns → low ≡ threshold_of (overlap_of kept) → FoundFrom query part tallies known left n low found → result ≡ taken kept found → IsHead query part progress last result
head_now query part progress tallies known last kept found left n low result is same l m high h e =
    head_from query part progress tallies known last found low is (high ∙ ap (λ (w : Option Row). threshold_of (overlap_of w)) same)
    (subst (λ (k : ℕ). FoundFrom query part tallies known (left_of part progress) k low found) m (subst (λ (k : ℕ). FoundFrom query part tallies known k n low found) l h))
    result (e ∙ ap (λ (w : Option Row). taken w found) same)

-- the column that was taken leads
pub taken_leads : (query : Query) (part : Searched) (tallies : List Tally) (known : List Bool) (kept : Option Row) (found : Option (ℕ × Row)) (left n low x : ℕ) → FoundFrom query part tallies known left n low found → Some x ≡ taken kept found
    → (x < n) × (leads query part tallies known x ≡ true)
taken_leads query part tallies known kept None left n low x h e = absurd (let f : Some x ≡ None = e in cc)
taken_leads query part tallies known kept (Some (y, row)) left n low x h e = by (beats kept row) e
  where
    by : (b : Bool) → Some x ≡ cond b (Some y) None → (x < n) × (leads query part tallies known x ≡ true)
    by true f = let same : y ≡ x = cc in subst (λ (z : ℕ). (z < n) × (leads query part tallies known z ≡ true)) same (h.within, h.does)
    by false f = absurd (let g : Some x ≡ None = f in cc)

-- the column that was found may lead
pub found_may_lead : (query : Query) (part : Searched) (tallies : List Tally) (known : List Bool) (found : Option (ℕ × Row)) (left n low : ℕ) (column : Option ℕ) → n ≡ length part.segment.columns → FoundFrom query part tallies known left n low found
    → column ≡ option_map (λ f. f.0) found → IfSome column (MayLead query part)
found_may_lead query part tallies known None left n low column m h e = subst (λ (c : Option ℕ). IfSome c (MayLead query part)) (sym e) tt
found_may_lead query part tallies known (Some found) left n low column m h e = subst (λ (c : Option ℕ). IfSome c (MayLead query part)) (sym e) (record {
  within = omega (arith, h.within, m);
  eligible = (lead_parts query part tallies known found.0 h.does).0;
})
