-- A part with too few tokens of the query, or with none: no look is taken in it, and none of its columns has a row.
use Rattle.std.proofs.Common.{◌≡◌, refl, ap, sym, ◌∙◌, inl, inr, ℕ, ◌+◌, ◌-◌, ◌<◌, ◌≤◌, List, [], ◌∷◌, ◌++◌, Bool, true, false, not, ◌&&◌, length, map, take, get_or, arith, cond, append-nil, Option, Some, None, ltb as nat_lt}
use Rattle.std.specs.Prelude.{◌==◌, bytes_eq, slice_get}
use Rattle.std.specs.List.{filter, sum_by, IsDistinct}
use Rattle.std.proofs.lemmas.Bool.{and_parts, cases_lt, eqb-true}
use Rattle.std.proofs.lemmas.List.{get_or_default}
use Rattle.std.proofs.lemmas.List.Sums.{sum_by_more}
use Rattle.lake_model.specs.Answer.{Query, Row, row_cmp}
use Rattle.lake_model.specs.Layout.{Part}
use Rattle.lake_model.specs.Tables.{overlap}
use Rattle.lake_model.specs.Texts.{Text}
use Rattle.search_laws.proofs.PartLemmas.{candidates, row_for, shares}
use Rattle.search_laws.specs.Select.{best}
use Rattle.search_model.proofs.LooksLemmas.{run-none}
use Rattle.search_model.specs.Arrays.{no_titled}
use Rattle.search_model.specs.declared.Look.{Look}
use Rattle.search_model.specs.declared.Summary.{Summary}
use Rattle.search_model.specs.Looks.{beats, choice, hits, is_eligible, is_known, known_rows, left_of, next_look, Progress, read_next, run, searched, Searched, start, threshold, unseen_open, worst}
use Rattle.search_model.specs.Segment.{Titled}
use Rattle.search_state.proofs.CoverLemmas.{none_open}
use Rattle.search_state.specs.State.{column_at, open_at, seen_at}
use Rattle.segment_core.specs.Versions.{part_at, part_with}
use Rattle.part_columns.proofs.AskedLemmas.{hits_overlap}
use Rattle.part_columns.specs.Room.{asked_in, looks_bound, looks_in}
use Rattle.josie_search.proofs.NextLemmas.{last_is}
use Rattle.josie_search.proofs.PartLemmas.{known_all, known_probed, rows_where}
use Rattle.josie_search.proofs.PartsLemmas.{length-searched, rows_kept, searched_at, Through, through_more}

pub no_tokens : (tokens : List ℕ) (empty : Bool) → empty ≡ (length tokens == 0) → empty ≡ true → tokens ≡ []
no_tokens [] empty e t = refl
no_tokens (token ∷ tokens) empty e t = absurd (omega (arith, eqb-true (length (token ∷ tokens)) 0 (sym e ∙ t)))

-- ---- the part's looks and rows

none_kept : (cs : List (ℕ × Titled)) → filter (λ c. false) cs ≡ []
none_kept [] = refl
none_kept (c ∷ cs) = none_kept cs

module _ (query : Query) (part : Part) (distinct : IsDistinct bytes_eq query.keys) (none : asked_in query.keys part ≡ []) where
  abbrev here : Searched
  here = searched query part

  shares_nothing : (x : ℕ) (c : Titled) → x < length here.segment.columns → c ≡ get_or here.segment.columns x c → shares query here (x, c) ≡ true → false ≡ true
  shares_nothing x c within at share =
      let set = get_or here.segment.sets x [] in
      let some : nat_lt 0 (overlap query.keys c.column.keys) ≡ true = (and_parts (is_eligible query here c) _ share).1 in
      let same : column_at here x ≡ c = get_or_default here.segment.columns x no_titled c within ∙ sym at in
      let zero_hits : length (hits set here.query) ≡ 0 = ap (λ (ts : List ℕ). length (hits set ts)) none in
      let shared : overlap query.keys c.column.keys ≡ 0 = ap (λ (d : Titled). overlap query.keys d.column.keys) (sym same) ∙ sym (hits_overlap query part x distinct within) ∙ zero_hits in
      sym (ap (nat_lt 0) shared) ∙ some

  all_read : length here.query ≤ 0
  all_read = omega (arith, ap length none)

  no_rows : known_rows query here start ≡ []
  no_rows = known_all query here start all_read ∙ sym (rows_where query here (λ x. false) shares_nothing) ∙ ap (map (row_for query)) (none_kept (candidates query here))

-- ---- before the first look no row is known and no column was seen

none_asked : (tokens : List ℕ) → length tokens ≤ 0 → tokens ≡ []
none_asked [] h = refl
none_asked (token ∷ tokens) h = absurd (omega arith)

none_known : (query : Query) (part : Part) → IsDistinct bytes_eq query.keys → known_rows query (searched query part) start ≡ []
none_known query part distinct =
    let here = searched query part in
    elim (cases_lt 0 (length here.query)) [
      | inl unread ↦ known_probed query here start unread ∙ ap (map (row_for query)) (none_kept (candidates query here))
      | inr all ↦ no_rows query part distinct (none_asked (asked_in query.keys part) all)
    ]

uncounted : (a b d : Bool) → (a && b && false && d) ≡ false
uncounted true true d = refl
uncounted true false d = refl
uncounted false b d = refl

closed_start : (query : Query) (part : Searched) (last : Option Row) (x : ℕ) → open_at query part start last x ≡ false
closed_start query part last x = uncounted (is_eligible query part (column_at part x)) (not (is_known part start x)) (beats last (seen_at part start x).bound)

module _ (says : Summary → Bool) (query : Query) (some : 0 < query.k) (part : Part) (distinct : IsDistinct bytes_eq query.keys) (rows : List Row) (kept : rows ≡ best row_cmp query.k rows)
    (few : unseen_open (length (asked_in query.keys part)) (threshold (slice_get rows (query.k - 1))) ≡ false) where
  abbrev whole : Searched
  whole = searched query part

  no_next : next_look says query rows whole start ≡ None
  no_next =
      let known = known_rows query whole start in
      let last = worst query (rows ++ known) in
      let same : rows ≡ best row_cmp query.k (rows ++ known) = kept ∙ ap (best row_cmp query.k) (sym (append-nil rows) ∙ ap (λ us. rows ++ us) (sym (none_known query part distinct))) in
      let at : slice_get rows (query.k - 1) ≡ last = last_is query (rows ++ known) rows query.k some refl same in
      let left : left_of whole start ≡ length (asked_in query.keys part) = omega arith in
      ap (choice says whole start last) (none_open query whole start last (λ x h. closed_start query whole last x))
      ∙ ap (λ b. cond b (Some (read_next whole start)) None) ((λ i. unseen_open (left i) (threshold (sym at i))) ∙ few)

  no_look : run says query rows whole start ≡ ([], start)
  no_look = run-none says query rows whole start no_next

-- a part with fewer of the query's tokens than the last row shares keys, or with none, can be passed over
pub through_few : (says : Summary → Bool) (query : Query) (some : 0 < query.k) (parts : List Part) (i : ℕ) (log : List Look) (rows : List Row) → i < length parts → IsDistinct bytes_eq query.keys
    → unseen_open (length (asked_in query.keys (part_at parts i))) (threshold (slice_get rows (query.k - 1))) ≡ false → Through says query (map (searched query) parts) i log rows → Through says query (map (searched query) parts) (i + 1) log rows
through_few says query some parts i log rows h distinct few through =
    let all = map (searched query) parts in
    let d = searched query (part_with 0 []) in
    let same : get_or all i d ≡ searched query (part_at parts i) = searched_at query parts i h in
    let kept : rows ≡ best row_cmp query.k rows = rows_kept says query some all i log rows through in
    let ran : run says query rows (get_or all i d) start ≡ ([], start) = ap (λ (part : Searched). run says query rows part start) same ∙ no_look says query some (part_at parts i) distinct rows kept few in
    let known : known_rows query (get_or all i d) (run says query rows (get_or all i d) start).1 ≡ [] =
    ap (λ (made : List Look × Progress). known_rows query (get_or all i d) made.1) ran ∙ ap (λ (part : Searched). known_rows query part start) same ∙ none_known query (part_at parts i) distinct in
    through_more says query some all i d log log rows rows (omega (arith, h, length-searched query parts)) through
    (sym (append-nil log) ∙ ap (λ (made : List Look × Progress). log ++ made.0) (sym ran))
    (kept ∙ ap (best row_cmp query.k) (sym (append-nil rows) ∙ ap (λ us. rows ++ us) (sym known)))

-- ---- room for the looks of the parts so far

pub room_more : (keys : List Text) (parts : List Part) (i : ℕ) (tokens : List ℕ) (spare more : ℕ) → i < length parts → tokens ≡ asked_in keys (part_at parts i) → sum_by (looks_in keys) (take i parts) ≤ spare
    → spare + looks_bound (part_at parts i) tokens ≤ more → sum_by (looks_in keys) (take (i + 1) parts) ≤ more
room_more keys parts i tokens spare more h is room bound = omega (arith, sum_by_more (looks_in keys) parts i (part_with 0 []) h, ap (looks_bound (part_at parts i)) is, room, bound)

pub no_looks : (part : Part) (tokens : List ℕ) → tokens ≡ [] → looks_bound part tokens ≡ 0
no_looks part [] e = omega arith
no_looks part (token ∷ tokens) e = absurd (let f : (token ∷ tokens) ≡ [] = e in cc)
