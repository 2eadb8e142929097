-- The rows that are known while a part is searched, and at its end.
use Rattle.std.proofs.Common.{◌≡◌, refl, ap, sym, ◌∙◌, ℕ, suc, ◌+◌, ◌-◌, ◌<◌, ◌≤◌, List, [], ◌∷◌, ◌++◌, Bool, true, false, ◌||◌, length, map, arith, cond, take, get_or, eqb as nat_eq, leb as nat_le}
use Rattle.std.specs.List.{enumerate_from, filter}
use Rattle.std.specs.List.Sorted.{IsPermutation}
use Rattle.std.proofs.lemmas.Bool.Decides.{nat_tests}
use Rattle.std.proofs.lemmas.List.Sorted.{IsPermutation-append_right, IsPermutation-map, IsPermutation-middle}
use Rattle.lake_model.proofs.AnswerLemmas.{row_cmp_exact, row_cmp_total}
use Rattle.lake_model.specs.Answer.{Query, Row, row_cmp}
use Rattle.lake_model.specs.Layout.{is_among}
use Rattle.lake_model.specs.Sorting.{put_in_order}
use Rattle.search_model.specs.Looks.{is_known, known_rows, Progress, Searched}
use Rattle.search_model.specs.Segment.{Titled}
use Rattle.search_laws.proofs.PartLemmas.{candidates, known_rows_are, row_for, shares}
use Rattle.search_laws.proofs.SelectLemmas.{best_IsPermutation, best_more}
use Rattle.search_laws.specs.Select.{best}
use Rattle.search_state.proofs.OfferLemmas.{one_more}

abbrev Numbered : Type 0
Numbered = ℕ × Titled

-- the rows of those columns that pass a test by their number
abbrev pub rows_by : Query → Searched → (ℕ → Bool) → List Row
rows_by query part test = map (row_for query) (filter (λ c. test c.0) (candidates query part))

filter_same : (p q : ℕ → Bool) → ((x : ℕ) → p x ≡ q x) → (cs : List Numbered) → filter (λ c. p c.0) cs ≡ filter (λ c. q c.0) cs
filter_same p q h [] = refl
filter_same p q h (c ∷ cs) = (λ i. cond (h c.0 i) (c ∷ filter_same p q h cs i) (filter_same p q h cs i))

pub rows_same : (query : Query) (part : Searched) (p q : ℕ → Bool) → ((x : ℕ) → p x ≡ q x) → rows_by query part p ≡ rows_by query part q
rows_same query part p q h = ap (map (row_for query)) (filter_same p q h (candidates query part))

-- while lists are left, the probed columns are known
pub known_probed : (query : Query) (part : Searched) (progress : Progress) → progress.read < length part.query → known_rows query part progress ≡ rows_by query part (is_among progress.probed)
known_probed query part progress unread =
    let more : nat_le (length part.query) progress.read ≡ false = grind (arith, nat_tests) in
    known_rows_are query part progress ∙ rows_same query part (is_known part progress) (is_among progress.probed) (λ x. ap (λ b. b || is_among progress.probed x) more)

-- one more column is offered
pub rows_more : (query : Query) (part : Searched) (before : List Row) (p q : ℕ → Bool) (y : ℕ) (d : Titled) → y < length part.segment.columns → d ≡ get_or part.segment.columns y d
    → ((x : ℕ) → (x ≡ y → ⊥) → q x ≡ p x) → p y ≡ false → q y ≡ true → shares query part (y, d) ≡ true
    → best row_cmp query.k (before ++ rows_by query part q) ≡ take query.k (put_in_order row_cmp (row_for query (y, d)) (best row_cmp query.k (before ++ rows_by query part p)))
rows_more query part before p q y d within at other not_yet now share =
    let row = row_for query (y, d) in
    let z : y - 0 ≡ y = omega arith in
    let moved = one_more (shares query part) p q y other not_yet now 0 part.segment.columns d (omega arith) (omega (arith, within)) (at ∙ ap (λ (i : ℕ). get_or part.segment.columns i d) (sym z)) share in
    let known : IsPermutation (row ∷ rows_by query part p) (rows_by query part q) = IsPermutation-map (row_for query) ((y, d) ∷ filter (λ c. p c.0) (candidates query part)) (filter (λ c. q c.0) (candidates query part)) moved in
    let all = IsPermutation-append_right before (row ∷ rows_by query part p) (rows_by query part q) known in
    best_IsPermutation row_cmp_total row_cmp_exact query.k (before ++ row ∷ rows_by query part p) (before ++ rows_by query part q) all
    ∙ sym (best_IsPermutation row_cmp_total row_cmp_exact query.k (before ++ row ∷ rows_by query part p) (row ∷ (before ++ rows_by query part p)) (IsPermutation-middle before row (rows_by query part p)))
    ∙ best_more row_cmp_total row_cmp_exact query.k row (before ++ rows_by query part p)

-- a column that shares nothing, or one that is there
module _ (keep : Numbered → Bool) (p q : ℕ → Bool) (y : ℕ) (other : (x : ℕ) → (x ≡ y → ⊥) → q x ≡ p x) where
  abbrev of : (ℕ → Bool) → List Numbered → List Numbered
  of t cs = filter (λ c. t c.0) (filter keep cs)

  front : (t : ℕ → Bool) (n : ℕ) (c : Titled) (cs : List Numbered) → of t ((n, c) ∷ cs) ≡ cond (keep (n, c)) (cond (t n) ((n, c) ∷ of t cs) (of t cs)) (of t cs)
  front t n c cs = by (keep (n, c))
    where
      by : (b : Bool) → filter (λ c. t c.0) (cond b ((n, c) ∷ filter keep cs) (filter keep cs)) ≡ cond b (cond (t n) ((n, c) ∷ of t cs) (of t cs)) (of t cs)
      by true = refl
      by false = refl

  none_changes : (n : ℕ) (cs : List Titled) → ((c : Titled) → n ≤ y → c ≡ get_or cs (y - n) c → y < n + length cs → keep (y, c) ≡ true → q y ≡ p y) → of q (enumerate_from n cs) ≡ of p (enumerate_from n cs)
  none_changes n [] h = refl
  none_changes n (c ∷ cs) h =
      let later = none_changes (n + 1) cs (λ d l e m k. h d (omega arith) (let z : y - n ≡ suc (y - (n + 1)) = omega arith in e ∙ ap (λ (i : ℕ). get_or (c ∷ cs) i d) (sym z)) (omega arith) k) in
      front q n c (enumerate_from (n + 1) cs) ∙ by (keep (n, c)) refl later ∙ sym (front p n c (enumerate_from (n + 1) cs))
    where
      here : keep (n, c) ≡ true → q n ≡ p n
      here k = elim (nat_eq n y) as (λ t. nat_eq n y ≡ t → q n ≡ p n) [
        | true ↦ λ e.
            let at : n ≡ y = grind (arith, nat_tests) in
            let z : y - n ≡ 0 = omega arith in
            ap q at ∙ h c (omega arith) (sym (ap (λ (i : ℕ). get_or (c ∷ cs) i c) z)) (omega arith) (ap (λ (m : ℕ). keep (m, c)) (sym at) ∙ k) ∙ sym (ap p at)
        | false ↦ λ e. other n (λ f. (let t : nat_eq n y ≡ true = grind (arith, nat_tests) in let g : true ≡ false = sym t ∙ e in cc))
      ] refl

      by : (b : Bool) → keep (n, c) ≡ b → of q (enumerate_from (n + 1) cs) ≡ of p (enumerate_from (n + 1) cs)
          → cond b (cond (q n) ((n, c) ∷ of q (enumerate_from (n + 1) cs)) (of q (enumerate_from (n + 1) cs))) (of q (enumerate_from (n + 1) cs)) ≡ cond b (cond (p n) ((n, c) ∷ of p (enumerate_from (n + 1) cs)) (of p (enumerate_from (n + 1) cs))) (of p (enumerate_from (n + 1) cs))
      by true e later = (λ i. cond (here e i) ((n, c) ∷ later i) (later i))
      by false e later = later

pub rows_stay : (query : Query) (part : Searched) (p q : ℕ → Bool) (y : ℕ) → ((x : ℕ) → (x ≡ y → ⊥) → q x ≡ p x) → ((c : Titled) → c ≡ get_or part.segment.columns y c → y < length part.segment.columns → shares query part (y, c) ≡ true → q y ≡ p y)
    → rows_by query part q ≡ rows_by query part p
rows_stay query part p q y other h =
    ap (map (row_for query)) (none_changes (shares query part) p q y other 0 part.segment.columns (λ c l e m k. let z : y - 0 ≡ y = omega arith in h c (e ∙ ap (λ (i : ℕ). get_or part.segment.columns i c) z) (omega arith) k))

filter_all : (cs : List Numbered) → filter (λ c. true) cs ≡ cs
filter_all [] = refl
filter_all (c ∷ cs) = ap (λ us. c ∷ us) (filter_all cs)

-- all lists were read
pub known_all : (query : Query) (part : Searched) (progress : Progress) → length part.query ≤ progress.read → known_rows query part progress ≡ rows_by query part (λ x. true)
known_all query part progress all =
    let more : nat_le (length part.query) progress.read ≡ true = grind (arith, nat_tests) in
    known_rows_are query part progress ∙ rows_same query part (is_known part progress) (λ x. true) (λ x. ap (λ b. b || is_among progress.probed x) more)

-- a test that all columns pass that share something
where_from : (keep : Numbered → Bool) (p : ℕ → Bool) (n : ℕ) (cs : List Titled) → ((x : ℕ) (c : Titled) → n ≤ x → x < n + length cs → c ≡ get_or cs (x - n) c → keep (x, c) ≡ true → p x ≡ true)
    → filter (λ c. p c.0) (filter keep (enumerate_from n cs)) ≡ filter (λ c. true) (filter keep (enumerate_from n cs))
where_from keep p n [] h = refl
where_from keep p n (c ∷ cs) h =
    let z : 0 ≡ n - n = omega arith in
    let later = where_from keep p (n + 1) cs (λ x d l m e k. h x d (omega arith) (omega arith) (let z : x - n ≡ suc (x - (n + 1)) = omega arith in e ∙ ap (λ (i : ℕ). get_or (c ∷ cs) i d) (sym z)) k) in
    by (keep (n, c)) (λ k. h n c (omega arith) (omega arith) (ap (λ (i : ℕ). get_or (c ∷ cs) i c) z) k) refl later
  where
    by : (b : Bool) → (keep (n, c) ≡ true → p n ≡ true) → keep (n, c) ≡ b → filter (λ c. p c.0) (filter keep (enumerate_from (n + 1) cs)) ≡ filter (λ c. true) (filter keep (enumerate_from (n + 1) cs))
        → filter (λ c. p c.0) (cond b ((n, c) ∷ filter keep (enumerate_from (n + 1) cs)) (filter keep (enumerate_from (n + 1) cs))) ≡ filter (λ c. true) (cond b ((n, c) ∷ filter keep (enumerate_from (n + 1) cs)) (filter keep (enumerate_from (n + 1) cs)))
    by true e k later = (λ i. cond (e k i) ((n, c) ∷ later i) (later i))
    by false e k later = later

pub rows_where : (query : Query) (part : Searched) (p : ℕ → Bool) → ((x : ℕ) (c : Titled) → x < length part.segment.columns → c ≡ get_or part.segment.columns x c → shares query part (x, c) ≡ true → p x ≡ true) → rows_by query part p ≡ rows_by query part (λ x. true)
rows_where query part p h =
    ap (map (row_for query)) (where_from (shares query part) p 0 part.segment.columns (λ x c l m e k. let z : x - 0 ≡ x = omega arith in h x c (omega arith) (e ∙ ap (λ (i : ℕ). get_or part.segment.columns i c) z) k))
