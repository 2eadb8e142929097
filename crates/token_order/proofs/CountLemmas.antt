-- The steps of a count of runs.
use Rattle.std.proofs.Common.{◌≡◌, refl, ap, sym, ◌∙◌, subst, ℕ, ◌+◌, ◌<◌, ◌≤◌, List, [], ◌∷◌, ◌++◌, map, length, get_or, set, take, drop, inl, inr, ◌-◌, Bool, true, false, cond, arith, append_assoc, length-append}
use Rattle.std.specs.Prelude.{bytes_eq, sum_by}
use Rattle.std.specs.List.{All}
use Rattle.std.proofs.lemmas.Bool.{cases_eq, cases_lt}
use Rattle.std.proofs.lemmas.Slice.Eq.{bytes_eq-Decides}
use Rattle.std.proofs.lemmas.List.{at_drop_more, at_drop_all, get_or-append_right, get_or_append_left, get_or_default, get_or-map, get_or_push, get_or-set_other, get_or-set_same, get_or-take, length-map, length_push, length-take-le, map-append, map_push}
use Rattle.std.proofs.lemmas.List.Elements.{All-more, All-push}
use Rattle.std.proofs.lemmas.List.Sums.{sum_by-append, sum_by-cons}
use Rattle.lake_model.specs.Texts.{Text}
use Rattle.lake_model.specs.Tables.{Table}
use Rattle.search_model.specs.Segment.{Token}
use Rattle.search_model.specs.Arrays.{token_keys, token_with}
use Rattle.token_order.specs.Counting.{IsCounting}
use Rattle.token_order.specs.Counted.{AreNumbers}
use Rattle.token_order.specs.Grouping.{no_group}
use Rattle.token_order.specs.Groups.{group_token}
use Rattle.token_order.specs.Places.{pointed_by, IsThere}
use Rattle.token_order.specs.Ranks.{IsRank}
use Rattle.token_order.specs.Runs.{longer, run_token, runs_from, runs_of, AreRanked}
use Rattle.token_order.specs.declared.columns.ColumnAt.{ColumnAt}
use Rattle.token_order.specs.declared.groups.Group.{Group}
use Rattle.token_order.specs.declared.runs.Run.{Run}
use Rattle.token_order.proofs.OrderLemmas.{numbers_apart, numbers_below}
use Rattle.token_order.proofs.RunLemmas.{run_total}

-- the first of the runs
first_run : (first : Token) (ts : List Token) → (0 < length (token_keys (runs_from first ts))) × (get_or (token_keys (runs_from first ts)) 0 [] ≡ first.key)
first_run first [] = (omega arith, refl)
first_run first (t ∷ ts) = by (bytes_eq t.key first.key) (first_run (longer first t.frequency) ts)
  where
    by : (b : Bool) → (0 < length (token_keys (runs_from (longer first t.frequency) ts))) × (get_or (token_keys (runs_from (longer first t.frequency) ts)) 0 [] ≡ first.key)
        → (0 < length (token_keys (cond b (runs_from (longer first t.frequency) ts) (first ∷ runs_from t ts)))) × (get_or (token_keys (cond b (runs_from (longer first t.frequency) ts) (first ∷ runs_from t ts))) 0 [] ≡ first.key)
    by true u = u
    by false u = (omega arith, refl)

-- a run lengthened by the members of a group
abbrev pub run_longer : Run → ℕ → Run
run_longer run n = record { first = run.first; frequency = run.frequency + n; rank = run.rank }

-- a run that begins with a group
abbrev pub run_with : Group → ℕ → Run
run_with g rank = record { first = g.keyed.member; frequency = g.frequency; rank = rank }

ranked_push : (runs : List Run) (run : Run) → run.rank ≡ length runs → AreRanked runs → AreRanked (runs ++ run ∷ [])
ranked_push runs run e h i d b = elim (cases_lt i (length runs)) [
  | inl l ↦ ap (λ (r : Run). r.rank) (get_or_append_left runs (run ∷ []) d i l) ∙ h i d l
  | inr g ↦
      let at : i ≡ length runs = omega (arith, g, b, length_push runs run) in
      ap (λ (r : Run). r.rank) (get_or_push runs run d i (sym at)) ∙ e ∙ sym at
]

module _ (tables : List Table) (all : List Token) (columns : List ColumnAt) (groups : List Group) (ended : List Run) (run : Run) (i : ℕ) where
  abbrev rest : ℕ → List Token
  rest n = map (group_token tables columns) (drop n groups)

  abbrev then : Bool → Group → List Token
  then b g = cond b (runs_from (longer (run_token tables columns run) g.frequency) (rest (i + 1))) (run_token tables columns run ∷ runs_from (group_token tables columns g) (rest (i + 1)))

  one_more : (b : Bool) (g : Group) → IsCounting tables all columns groups ended run i → i < length groups → g ≡ get_or groups i g → bytes_eq (pointed_by tables columns g.keyed.member) (pointed_by tables columns run.first) ≡ b → map (run_token tables columns) ended ++ then b g ≡ all
  one_more b g h within is test =
      let from : List Group → List Token = λ gs. map (run_token tables columns) ended ++ runs_from (run_token tables columns run) (map (group_token tables columns) gs) in
      sym (ap (λ b. map (run_token tables columns) ended ++ then b g) test) ∙ ap (λ (n : Group). from (n ∷ drop (i + 1) groups)) is ∙ sym (at_drop_more from groups i g within) ∙ h.runs

  pub counting_same : (g : Group) → IsCounting tables all columns groups ended run i → i < length groups → g ≡ get_or groups i g → bytes_eq (pointed_by tables columns g.keyed.member) (pointed_by tables columns run.first) ≡ true → IsCounting tables all columns groups ended (run_longer run g.frequency) (i + 1)
  counting_same g h within is test =
      record { runs = one_more true g h within is test; within = h.within; here = h.here; ranked = h.ranked; rank = h.rank; few = omega (arith, h.few) }

  pub counting_next : (g : Group) → IsCounting tables all columns groups ended run i → i < length groups → g ≡ get_or groups i g → bytes_eq (pointed_by tables columns g.keyed.member) (pointed_by tables columns run.first) ≡ false → IsThere tables columns g.keyed.member → IsCounting tables all columns groups (ended ++ run ∷ []) (run_with g (run.rank + 1)) (i + 1)
  counting_next g h within is test here =
      let more = runs_from (group_token tables columns g) (rest (i + 1)) in
      record {
        runs =
            ap (λ (ts : List Token). ts ++ more) (map_push (run_token tables columns) ended run)
            ∙ append_assoc (map (run_token tables columns) ended) (run_token tables columns run ∷ []) more
            ∙ one_more false g h within is test;
        within = All-push (λ r. IsThere tables columns r.first) ended run h.within h.here;
        here = here;
        ranked = ranked_push ended run h.rank h.ranked;
        rank = omega (arith, h.rank, length_push ended run);
        few = omega (arith, length_push ended run, h.few);
      }

  pub counting_ends : IsCounting tables all columns groups ended run i → length groups ≤ i → map (run_token tables columns) (ended ++ run ∷ []) ≡ all
  counting_ends h past =
      let from : List Group → List Token = λ gs. map (run_token tables columns) ended ++ runs_from (run_token tables columns run) (map (group_token tables columns) gs) in
      map_push (run_token tables columns) ended run ∙ sym (at_drop_all from groups i past) ∙ h.runs

  pub counting_ranked : IsCounting tables all columns groups ended run i → AreRanked (ended ++ run ∷ [])
  counting_ranked h = ranked_push ended run h.rank h.ranked

  -- the current run and the group that comes next have no more members than all
  pub counting_short : (g : Group) → IsCounting tables all columns groups ended run i → i < length groups → g ≡ get_or groups i g → run.frequency + g.frequency ≤ sum_by (λ t. t.frequency) all
  counting_short g h within is =
      let size : Token → ℕ = λ t. t.frequency in
      let from : List Group → ℕ = λ gs. sum_by size (map (group_token tables columns) gs) in
      let here : from (drop i groups) ≡ g.frequency + from (drop (i + 1) groups) =
      at_drop_more from groups i g within ∙ ap (λ (n : Group). from (n ∷ drop (i + 1) groups)) (sym is) ∙ sum_by-cons size (group_token tables columns g) (rest (i + 1)) in
      omega (
        arith,
        ap (sum_by size) h.runs,
        sum_by-append size (map (run_token tables columns) ended) (runs_from (run_token tables columns run) (rest i)),
        run_total (run_token tables columns run) (rest i),
        here,
      )

  -- the current run's key is the one with its number among all
  pub counting_here : IsCounting tables all columns groups ended run i → IsRank (token_keys all) (pointed_by tables columns run.first) run.rank
  counting_here h =
      let key : Token → Text = λ t. t.key in
      let after = runs_from (run_token tables columns run) (rest i) in
      let before = map (run_token tables columns) ended in
      let split : map key all ≡ map key before ++ map key after = ap (map key) (sym h.runs) ∙ map-append key before after in
      let long : length (map key before) ≡ length ended = length-map before key ∙ length-map ended (run_token tables columns) in
      let first = first_run (run_token tables columns run) (rest i) in
      let number : IsRank (map key all) (pointed_by tables columns run.first) (length ended) =
      (omega (arith, ap length split, length-append (map key before) (map key after), long, first.0), ap (λ (ks : List Text). get_or ks (length ended) []) split ∙ get_or-append_right (map key before) (map key after) (length ended) (length ended) [] long (omega arith) ∙ (let z : length ended - length ended ≡ 0 = omega arith in ap (λ (n : ℕ). get_or (map key after) n []) z) ∙ first.1) in
      subst (IsRank (map key all) (pointed_by tables columns run.first)) (sym h.rank) number

pub counting_starts : (tables : List Table) (columns : List ColumnAt) (groups : List Group) (first : Run) → first.rank ≡ 0 → IsThere tables columns first.first → IsCounting tables (runs_from (run_token tables columns first) (map (group_token tables columns) groups)) columns groups [] first 0
counting_starts tables columns groups first zero h =
    record { runs = refl; within = λ k d b. absurd (omega arith); here = h; ranked = λ k d b. absurd (omega arith); rank = zero; few = omega arith }

-- all members are in groups
pub frequencies_total : (tables : List Table) (columns : List ColumnAt) (groups : List Group) → sum_by (λ t. t.frequency) (map (group_token tables columns) groups) ≡ sum_by (λ g. g.frequency) groups
frequencies_total tables columns [] = refl
frequencies_total tables columns (g ∷ groups) =
    let t = group_token tables columns g in
    let ts = map (group_token tables columns) groups in
    omega (arith, sum_by-cons (λ (t : Token). t.frequency) t ts, sum_by-cons (λ (g : Group). g.frequency) g groups, frequencies_total tables columns groups)

-- ---- ranks

-- one more number is written, in the slot of the element
pub slot_written : {X : Type 0} (P : ℕ → ℕ → Type 0) (slot : X → ℕ) (written : List ℕ) (xs : List X) (i : ℕ) (x : X) (n : ℕ) → i < length xs → x ≡ get_or xs i x → slot x < length written → P (slot x) n
    → All (λ q. P (slot q) (get_or written (slot q) 0)) (take i xs) → All (λ q. P (slot q) (get_or (set written (slot x) n) (slot q) 0)) (take (i + 1) xs)
slot_written {X = X} P slot written xs i x n within is inside holds before =
    let here : (q : X) → slot q ≡ slot x → P (slot q) (get_or (set written (slot x) n) (slot q) 0) = λ q e.
    subst (λ (s : ℕ). P s (get_or (set written (slot x) n) s 0)) (sym e) (subst (P (slot x)) (sym (get_or-set_same written (slot x) n 0 inside)) holds) in
    let each : All (λ q. P (slot q) (get_or (set written (slot x) n) (slot q) 0)) (take i xs) = λ k d b.
    (let q = get_or (take i xs) k d in
    elim (cases_eq (slot q) (slot x)) [
      | inl e ↦ here q e
      | inr ne ↦ subst (P (slot q)) (sym (get_or-set_other written (slot x) (slot q) n 0 ne)) (before k d b)
    ]) in
    All-more (λ q. P (slot q) (get_or (set written (slot x) n) (slot q) 0)) xs i x within each (here (get_or xs i x) (ap slot (sym is)))

abbrev number_in : Group → ℕ
number_in g = g.number

-- the number of a group is below the number of groups
pub number_below : (groups : List Group) (i : ℕ) (d : Group) → AreNumbers (map number_in groups) → i < length groups → (get_or groups i d).number < length groups
number_below groups i d all h =
    omega (arith, numbers_below (map number_in groups) all i 0 (omega (arith, h, length-map groups number_in)), get_or-map number_in groups i d 0 h, length-map groups number_in)

-- no two groups have the same number
groups_apart : (groups : List Group) (j i : ℕ) (d : Group) → AreNumbers (map number_in groups) → j < i → i < length groups → (get_or groups j d).number ≡ (get_or groups i d).number → ⊥
groups_apart groups j i d all l h e =
    numbers_apart (map number_in groups) all j i l (omega (arith, h, length-map groups number_in))
    (get_or-map number_in groups j d 0 (omega (arith, l, h)) ∙ e ∙ sym (get_or-map number_in groups i d 0 h))

-- one more rank is written, at the number of a group
pub ranks_written : (P : Group → ℕ → Type 0) (groups : List Group) (written : List ℕ) (i rank : ℕ) → AreNumbers (map number_in groups) → i < length groups → (get_or groups i no_group).number < length written → P (get_or groups i no_group) rank
    → All (λ h. P h (get_or written h.number 0)) (take i groups) → All (λ h. P h (get_or (set written (get_or groups i no_group).number rank) h.number 0)) (take (i + 1) groups)
ranks_written P groups written i rank all within inside holds before =
    let g = get_or groups i no_group in
    let new = set written g.number rank in
    let Q : Group → Type 0 = λ h. P h (get_or new h.number 0) in
    let each : All Q (take i groups) = λ k d b.
    (let h = get_or (take i groups) k d in
    let low : k < i = omega (arith, b, length-take-le i groups (omega (arith, within))) in
    let at : h ≡ get_or groups k no_group = get_or-take i groups k d low ∙ get_or_default groups k d no_group (omega (arith, low, within)) in
    let other : h.number ≡ g.number → ⊥ = λ e. groups_apart groups k i no_group all low within (sym (ap number_in at) ∙ e) in
    subst (P h) (sym (get_or-set_other written g.number h.number rank 0 other)) (before k d b)) in
    All-more Q groups i g within each (subst (λ (h : Group). Q h) (get_or_default groups i no_group g within) (subst (P g) (sym (get_or-set_same written g.number rank 0 inside)) holds))

-- the runs from the first member of a group that has not been counted yet
pub from_first : (tables : List Table) (columns : List ColumnAt) (groups : List Group) (first : Group) → 0 < length groups → first ≡ get_or groups 0 first
    → runs_from (token_with (pointed_by tables columns first.keyed.member) 0) (map (group_token tables columns) groups) ≡ runs_of (map (group_token tables columns) groups)
from_first tables columns [] first h is = absurd (omega arith)
from_first tables columns (g ∷ groups) first h is =
    let point : Group → Text = λ n. pointed_by tables columns n.keyed.member in
    let ts = map (group_token tables columns) groups in
    let t = group_token tables columns g in
    let same : bytes_eq (point g) (point g) ≡ true = (bytes_eq-Decides (point g) (point g)).1 refl in
    let z : 0 + g.frequency ≡ g.frequency = omega arith in
    ap (λ (n : Group). runs_from (token_with (point n) 0) (t ∷ ts)) is
    ∙ ap (λ b. cond b (runs_from (longer (token_with (point g) 0) g.frequency) ts) (token_with (point g) 0 ∷ runs_from t ts)) same
    ∙ ap (λ (n : ℕ). runs_from (token_with (point g) n) ts) z
