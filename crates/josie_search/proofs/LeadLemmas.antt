-- If the number of the first candidate is the bound of a column that leads, this column is the first that leads.
use Rattle.std.proofs.Common.{◌≡◌, refl, ap, sym, ◌∙◌, subst, inl, inr, ℕ, ◌<◌, ◌≤◌, List, [], Bool, true, false, length, get_or, arith, Option, Some, None}
use Rattle.std.specs.List.{AllByRecursion}
use Rattle.std.proofs.lemmas.Bool.{cases_eq, cases_lt}
use Rattle.std.proofs.lemmas.Bool.Decides.{nat_tests}
use Rattle.lake_model.specs.Answer.{Query, Row}
use Rattle.search_model.specs.Looks.{row_with, Searched}
use Rattle.search_model.specs.Ranks.{AreRanks}
use Rattle.search_state.specs.State.{column_at}
use Rattle.josie_search.specs.declared.candidates.Candidate.{Candidate}
use Rattle.part_columns.specs.declared.tally.Tally.{Tally}
use Rattle.josie_search.specs.Candidates.{AreHeld, IsAhead, IsExact, IsOfRank, most_now}
use Rattle.josie_search.specs.Rows.{bound_row, is_before, IsFirst, leads, NoneFrom}
use Rattle.part_columns.specs.Tallies.{most_of, tally_at}
use Rattle.josie_search.proofs.FirstLemmas.{later, sooner}
use Rattle.josie_search.proofs.HeldLemmas.{covered_below}

module _ (query : Query) (part : Searched) (ranks : List ℕ) (tallies : List Tally) (known : List Bool) (left low : ℕ) (all : List Candidate) (held : AreHeld query part ranks tallies known left low all) where
  abbrev bound_at : ℕ → ℕ
  bound_at x = most_of left (tally_at tallies x)

  abbrev rank_at : ℕ → ℕ
  rank_at x = get_or ranks x 0

  pub none_at_all : (n : ℕ) → all ≡ [] → NoneFrom query part tallies known left n low
  none_at_all n none y within lead = elim (cases_lt (bound_at y) low) [
    | inl l ↦ l
    | inr h ↦ absurd (let f : true ≡ false = sym (held y refl lead h) ∙ ap (λ cs. Rattle.josie_search.specs.Candidates.covers left (tally_at tallies y) (rank_at y) cs) none in cc)
  ]

  module _ (t : Candidate) (ahead : AllByRecursion (IsAhead left t) all) where
    pub none_so_high : (n : ℕ) → most_now left t < low → NoneFrom query part tallies known left n low
    none_so_high n less y within lead = elim (cases_lt (bound_at y) low) [
      | inl l ↦ l
      | inr h ↦ absurd (let b = (covered_below left (rank_at y) (tally_at tallies y) t all ahead (held y refl lead h)).0 in omega (arith, b, less, h))
    ]

    module _ (n x : ℕ) (column : Option ℕ) (row : Row) (same_n : n ≡ length part.segment.columns) (are : AreRanks part.segment.columns ranks) (high : low ≤ most_now left t) (of_rank : IsOfRank n ranks t.rank column)
        (is : IsExact query part tallies known left t column x row) (within : (y : ℕ) → leads query part tallies known y ≡ true → y < n) where
      rank_is : (x < n) × (rank_at x ≡ t.rank)
      rank_is = by column is.of_rank of_rank
        where
          by : (c : Option ℕ) → c ≡ Some x → IsOfRank n ranks t.rank c → (x < n) × (rank_at x ≡ t.rank)
          by None e h = absurd (let f : None ≡ Some x = e in cc)
          by (Some z) e h = let same : z ≡ x = cc in subst (λ (y : ℕ). (y < n) × (rank_at y ≡ t.rank)) same h

      -- no column that leads has a greater bound, or an equal bound and a lower rank
      below : (y : ℕ) → leads query part tallies known y ≡ true → (bound_at y ≤ bound_at x) × (bound_at y ≡ bound_at x → rank_at x ≤ rank_at y)
      below y lead = elim (cases_lt (bound_at y) low) [
        | inl l ↦ (let e = is.exact in omega (arith, l, high, e), λ f. absurd (let e = is.exact in omega (arith, l, high, e, f)))
        | inr h ↦
            let b = covered_below left (rank_at y) (tally_at tallies y) t all ahead (held y refl lead h) in
            (let e = is.exact in let l = b.0 in omega (arith, e, l), λ f. (let e = is.exact in let r = rank_is.1 in let k = b.1 (omega (arith, e, f)) in omega (arith, r, k)))
      ]

      inside : (y : ℕ) → leads query part tallies known y ≡ true → y < length part.segment.columns
      inside y lead = let w = within y lead in omega (arith, w, same_n)

      -- of equal bounds, the lower rank
      lower_rank : (y : ℕ) → leads query part tallies known y ≡ true → (y ≡ x → ⊥) → bound_at y ≡ bound_at x → rank_at x < rank_at y
      lower_rank y lead differ e =
          let le = (below y lead).1 e in
          elim (cases_eq (rank_at x) (rank_at y)) [
            | inl f ↦ absurd (differ (sym (are.apart x y (inside x is.does) (inside y lead) f)))
            | inr f ↦ (let l : rank_at x < rank_at y = grind (arith, nat_tests) in l)
          ]

      at_bound : (y : ℕ) → bound_at y ≡ bound_at x → bound_row part tallies left y ≡ row_with (bound_at x) (column_at part y)
      at_bound y e = ap (λ (u : ℕ). row_with u (column_at part y)) e

      pub first_exact : IsFirst query part tallies known left n x row
      first_exact = record {
        within = rank_is.0;
        does = is.does;
        same = is.same;
        lower = λ y l lead. elim (cases_lt (bound_at y) (bound_at x)) [
          | inl less ↦ ap (λ (r : Row). is_before r (bound_row part tallies left y)) is.same ∙ sooner (bound_row part tallies left y) (bound_row part tallies left x) less
          | inr most ↦
              let b = (below y lead).0 in
              let e : bound_at y ≡ bound_at x = omega (arith, b, most) in
              (λ i. is_before (is.same i) (at_bound y e i)) ∙ are.level x y (bound_at x) (inside x is.does) (inside y lead) (lower_rank y lead (λ f. omega (arith, f, l)) e) l
        ];
        higher = λ y l m lead. elim (cases_lt (bound_at y) (bound_at x)) [
          | inl less ↦ ap (is_before (bound_row part tallies left y)) is.same ∙ later (bound_row part tallies left y) (bound_row part tallies left x) less
          | inr most ↦
              let b = (below y lead).0 in
              let e : bound_at y ≡ bound_at x = omega (arith, b, most) in
              (λ i. is_before (at_bound y e i) (is.same i)) ∙ are.order x y (bound_at x) (inside x is.does) (inside y lead) (lower_rank y lead (λ f. omega (arith, f, l)) e)
        ];
      }
