-- The relation and the function give the same looks.
use Rattle.std.proofs.Common.{◌≡◌, refl, ap, sym, ◌∙◌, subst, ℕ, zero, suc, ◌+◌, ◌<◌, ◌≤◌, List, [], ◌∷◌, ◌++◌, map, Bool, true, false, not, ◌&&◌, ◌||◌, length, arith, cond, Option, Some, None, eqb as nat_eq, leb as nat_le}
use Rattle.std.specs.Prelude.{slice_index}
use Rattle.std.specs.List.{filter, AllByRecursion, enumerate_from, count_by}
use Rattle.std.proofs.lemmas.List.Sums.{sum_by-cons}
use Rattle.std.proofs.lemmas.Bool.Decides.{nat_tests}
use Rattle.std.proofs.lemmas.Cmp.{on_total}
use Rattle.search_model.specs.Segment.{Titled}
use Rattle.search_model.specs.declared.Summary.{Summary}
use Rattle.search_model.specs.declared.Look.{Look}
use Rattle.search_model.specs.declared.Look.TheVariants.{Read, Probe}
use Rattle.search_model.specs.Looks.{Searched, Progress, Seen, seen, is_open, is_eligible, open_columns, choice, next_look, progress_after, left_of, work_left, run_within, run, Leads, IsLog, worst, known_rows, threshold, unseen_open}
use Rattle.lake_model.proofs.SortingLemmas.{all_in_order}
use Rattle.lake_model.proofs.AnswerLemmas.{row_cmp_total}
use Rattle.lake_model.specs.Answer.{Query, Row}
use Rattle.lake_model.specs.Layout.{is_among}
use Rattle.std.proofs.lemmas.Bool.{eq-eqb, ne_eqb}

first_of : (a b c d : Bool) → (a && not b && c && d) ≡ true → b ≡ false
first_of true true c d e = cc
first_of true false c d e = refl
first_of false b c d e = cc

either : (a b : Bool) → (a || b) ≡ false → (a ≡ false) × (b ≡ false)
either true b e = cc
either false b e = (refl, e)

-- ---- a probe lowers the number of columns that are not probed by one

abbrev unprobed : List ℕ → List (ℕ × Titled) → ℕ
unprobed probed cs = count_by (λ c. not (is_among probed c.0)) cs

abbrev one : Bool → ℕ
one b = cond b 1 0

unprobed-cons : (probed : List ℕ) (n : ℕ) (c : Titled) (cs : List Titled) → unprobed probed (enumerate_from n (c ∷ cs)) ≡ one (not (is_among probed n)) + unprobed probed (enumerate_from (n + 1) cs)
unprobed-cons probed n c cs = sum_by-cons (λ (c : ℕ × Titled). one (not (is_among probed c.0))) (n, c) (enumerate_from (n + 1) cs)

unprobed_above : (probed : List ℕ) (j n : ℕ) (cs : List Titled) → j < n → unprobed (j ∷ probed) (enumerate_from n cs) ≡ unprobed probed (enumerate_from n cs)
unprobed_above probed j n [] h = refl
unprobed_above probed j n (c ∷ cs) h =
    let e : is_among (j ∷ probed) n ≡ is_among probed n = ap (λ b. b || is_among probed n) (ne_eqb n j (λ k. omega arith)) in
    unprobed-cons (j ∷ probed) n c cs ∙ ap (λ b. one (not b) + unprobed (j ∷ probed) (enumerate_from (n + 1) cs)) e
    ∙ ap (λ m. one (not (is_among probed n)) + m) (unprobed_above probed j (n + 1) cs (omega arith)) ∙ sym (unprobed-cons probed n c cs)

unprobed_falls : (probed : List ℕ) (j n : ℕ) (cs : List Titled) → n ≤ j → j < n + length cs → is_among probed j ≡ false → unprobed (j ∷ probed) (enumerate_from n cs) + 1 ≡ unprobed probed (enumerate_from n cs)
unprobed_falls probed j n [] a b h = absurd (omega arith)
unprobed_falls probed j n (c ∷ cs) a b h = elim (nat_eq n j) as (λ t. nat_eq n j ≡ t → unprobed (j ∷ probed) (enumerate_from n (c ∷ cs)) + 1 ≡ unprobed probed (enumerate_from n (c ∷ cs))) [
  | true ↦ λ e.
      let at : n ≡ j = grind (arith, nat_tests) in
      let here : is_among (j ∷ probed) n ≡ true = ap (λ b. b || is_among probed n) e in
      let not_yet : is_among probed n ≡ false = ap (is_among probed) at ∙ h in
      let left = unprobed-cons (j ∷ probed) n c cs ∙ ap (λ b. one (not b) + unprobed (j ∷ probed) (enumerate_from (n + 1) cs)) here in
      let right = unprobed-cons probed n c cs ∙ ap (λ b. one (not b) + unprobed probed (enumerate_from (n + 1) cs)) not_yet in
      omega (arith, left, right, unprobed_above probed j (n + 1) cs (omega arith))
  | false ↦ λ e.
      let apart : n ≡ j → ⊥ = λ k. let t = eq-eqb n j k in let f : true ≡ false = sym t ∙ e in cc in
      let there : is_among (j ∷ probed) n ≡ is_among probed n = ap (λ b. b || is_among probed n) e in
      let left = unprobed-cons (j ∷ probed) n c cs ∙ ap (λ b. one (not b) + unprobed (j ∷ probed) (enumerate_from (n + 1) cs)) there in
      let right = unprobed-cons probed n c cs in
      let lt : n + 1 ≤ j = omega arith in
      omega (arith, left, right, unprobed_falls probed j (n + 1) cs lt (omega arith) h)
] refl

-- ---- the looks of a part, if these rows are known before it

module _ (chooser : Summary → Bool) (query : Query) (before : List Row) (part : Searched) where
  module _ (progress : Progress) where
    -- what holds of each open column
    record IsOpen (n m : ℕ) (x : Seen) : Type 0 where
      unread : progress.read < length part.query
      unprobed : is_among progress.probed x.column ≡ false
      from : n ≤ x.column
      below : x.column < m

    unread_by : (b : Bool) → nat_le (length part.query) progress.read ≡ b → b ≡ false → progress.read < length part.query
    unread_by b e f = let g : nat_le (length part.query) progress.read ≡ false = e ∙ f in grind (arith, nat_tests)

    open_here : (last : Option Row) (n m : ℕ) (c : Titled) → n < m → is_open query part progress last n c ≡ true → IsOpen n m (seen part progress n c)
    open_here last n m c lt e =
        let parts = either (nat_le (length part.query) progress.read) (is_among progress.probed n) (first_of (is_eligible query part c) _ _ _ e) in
        record { unread = unread_by _ refl parts.0; unprobed = parts.1; from = omega arith; below = lt }

    wider : (n m : ℕ) (xs : List Seen) → AllByRecursion (IsOpen (n + 1) m) xs → AllByRecursion (IsOpen n m) xs
    wider n m [] h = tt
    wider n m (x ∷ xs) h = (record { unread = h.0.unread; unprobed = h.0.unprobed; from = omega (arith, h.0.from); below = h.0.below }, wider n m xs h.1)

    all_open_from : (last : Option Row) (n m : ℕ) (cs : List Titled) → n + length cs ≡ m
        → AllByRecursion (IsOpen n m) (map (λ c. seen part progress c.0 c.1) (filter (λ c. is_open query part progress last c.0 c.1) (enumerate_from n cs)))
    all_open_from last n m [] e = tt
    all_open_from last n m (c ∷ cs) e =
        let rest = filter (λ (c : ℕ × Titled). is_open query part progress last c.0 c.1) (enumerate_from (n + 1) cs) in
        let later = wider n m _ (all_open_from last (n + 1) m cs (omega arith)) in
        elim (is_open query part progress last n c) as (λ b. is_open query part progress last n c ≡ b
        → AllByRecursion (IsOpen n m) (map (λ c. seen part progress c.0 c.1) (cond b ((n, c) ∷ rest) rest))) [
          | true ↦ λ t. (open_here last n m c (omega arith) t, later)
          | false ↦ λ f. later
        ] refl

    all_open : (last : Option Row) → AllByRecursion (IsOpen 0 (length part.segment.columns)) (open_columns query part progress last)
    all_open last = all_in_order (on_total (λ (x : Seen). x.bound) row_cmp_total) (IsOpen 0 (length part.segment.columns)) _ (all_open_from last 0 (length part.segment.columns) part.segment.columns (omega arith))

    abbrev Falls : Look → Type 0
    Falls look = work_left part (progress_after progress look) + 1 ≡ work_left part progress

    read_falls : progress.read < length part.query → (token : ℕ) → Falls (Read part.number token)
    read_falls lt token = omega arith

    probe_falls : (n : ℕ) (x : Seen) → n ≡ length part.segment.columns → IsOpen 0 n x → Falls (Probe part.number x.column x.position)
    probe_falls n x e h = omega (arith, unprobed_falls progress.probed x.column 0 part.segment.columns (omega arith) (omega (arith, h.below)) h.unprobed)

    left_some : (left t : ℕ) → unseen_open left t ≡ true → 0 < left
    left_some left t e = grind (arith, nat_tests)

    same_look : (made look : Look) → Some made ≡ Some look → made ≡ look
    same_look made look e = cc

    where_true : (b : Bool) (made look : Look) → (b ≡ true → Falls made) → cond b (Some made) None ≡ Some look → Falls look
    where_true true made look f e = subst Falls (same_look made look e) (f refl)
    where_true false made look f e = absurd (let g : None ≡ Some look = e in cc)

    either_way : (b : Bool) (p q look : Look) → Falls p → Falls q → cond b (Some p) (Some q) ≡ Some look → Falls look
    either_way true p q look f g e = subst Falls (same_look p look e) f
    either_way false p q look f g e = subst Falls (same_look q look e) g

    choice_falls : (last : Option Row) (xs : List Seen) → AllByRecursion (IsOpen 0 (length part.segment.columns)) xs → (look : Look) → choice chooser part progress last xs ≡ Some look → Falls look
    choice_falls last [] h look = where_true (unseen_open (left_of part progress) (threshold last)) _ look (λ t. let lt = left_some (left_of part progress) (threshold last) t in read_falls (omega arith) (slice_index part.query progress.read))
    choice_falls last (x ∷ xs) h look = either_way _ _ _ look (probe_falls _ x refl h.0) (read_falls h.0.unread (slice_index part.query progress.read))

    -- each look leaves less to do
    pub next_falls : (look : Look) → next_look chooser query before part progress ≡ Some look → work_left part (progress_after progress look) + 1 ≡ work_left part progress
    next_falls look e =
        let last = worst query (before ++ known_rows query part progress) in
        choice_falls last (open_columns query part progress last) (all_open last) look e

  -- the looks within a given number are those of any log, if the number suffices
  within_is : (fuel : ℕ) (looks : List Look) (progress final : Progress) → work_left part progress ≤ fuel → Leads chooser query before part progress looks final → next_look chooser query before part final ≡ None
      → run_within chooser query before part fuel progress ≡ (looks, final)
  unfolding run_within
  within_is zero [] progress final h leads done = ap (λ q. ([], q)) leads
  within_is (suc fuel) [] progress final h leads done =
      let e : next_look chooser query before part progress ≡ None = ap (next_look chooser query before part) leads ∙ done in
      rw (e, run_within) (ap (λ q. ([], q)) leads)
  within_is zero (look ∷ looks) progress final h leads done = absurd (omega (arith, next_falls progress look leads.0))
  within_is (suc fuel) (look ∷ looks) progress final h leads done =
      rw (leads.0, run_within) (ap (λ (r : List Look × Progress). (look ∷ r.0, r.1)) (within_is fuel looks (progress_after progress look) final (omega (arith, next_falls progress look leads.0)) leads.1 done))

  pub run_is : (looks : List Look) (progress final : Progress) → IsLog chooser query before part progress looks final → run chooser query before part progress ≡ (looks, final)
  unfolding run
  run_is looks progress final log = within_is (work_left part progress) looks progress final (omega arith) log.leads log.done

  -- there is a log
  log_within : (fuel : ℕ) (progress : Progress) → work_left part progress ≤ fuel → IsLog chooser query before part progress (run_within chooser query before part fuel progress).0 (run_within chooser query before part fuel progress).1
  unfolding run_within
  log_within zero progress h = by (next_look chooser query before part progress) refl
    where
      by : (o : Option Look) → next_look chooser query before part progress ≡ o → IsLog chooser query before part progress [] progress
      by None e = record { leads = refl; done = e }
      by (Some look) e = absurd (omega (arith, next_falls progress look e))
  log_within (suc fuel) progress h =
      elim (next_look chooser query before part progress) as (λ o. next_look chooser query before part progress ≡ o
      → (let r : List Look × Progress = elim o [ None ↦ ([], progress) | Some look ↦ let run = run_within chooser query before part fuel (progress_after progress look) in (look ∷ run.0, run.1) ] in
      IsLog chooser query before part progress r.0 r.1)) [
        | None ↦ λ e. record { leads = refl; done = e }
        | Some look ↦ λ e. let rest = log_within fuel (progress_after progress look) (omega (arith, next_falls progress look e)) in record { leads = (e, rest.leads); done = rest.done }
      ] refl

  pub run_is_log : (progress : Progress) → IsLog chooser query before part progress (run chooser query before part progress).0 (run chooser query before part progress).1
  unfolding run
  run_is_log progress = log_within (work_left part progress) progress (omega arith)

  -- one more look, as a loop makes it
  pub leads_more : (looks : List Look) (progress mid : Progress) (look : Look) → Leads chooser query before part progress looks mid → next_look chooser query before part mid ≡ Some look
      → Leads chooser query before part progress (looks ++ look ∷ []) (progress_after mid look)
  leads_more [] progress mid look h e = (ap (next_look chooser query before part) h ∙ e, ap (λ q. progress_after q look) h)
  leads_more (first ∷ looks) progress mid look h e = (h.0, leads_more looks (progress_after progress first) mid look h.1 e)

  -- the function, without a bound on the number of looks
  pub run-none : (progress : Progress) → next_look chooser query before part progress ≡ None → run chooser query before part progress ≡ ([], progress)
  run-none progress e = run_is [] progress progress (record { leads = refl; done = e })

  pub run-some : (progress : Progress) (look : Look) → next_look chooser query before part progress ≡ Some look
      → run chooser query before part progress ≡ (look ∷ (run chooser query before part (progress_after progress look)).0, (run chooser query before part (progress_after progress look)).1)
  run-some progress look e =
      let rest = run_is_log (progress_after progress look) in
      run_is _ progress _ (record { leads = (e, rest.leads); done = rest.done })
