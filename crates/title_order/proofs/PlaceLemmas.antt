-- The numbers 0, 1, and so on in some order, and the index of each.
use Rattle.std.proofs.Common.{◌≡◌, sym, ◌∙◌, subst, ℕ, ◌+◌, ◌<◌, List, false, length, get_or, inl, inr, arith, eqb}
use Rattle.std.specs.List.{All, IsDistinct, range_with_len}
use Rattle.std.proofs.lemmas.Bool.{cases_lt}
use Rattle.std.proofs.lemmas.List.FromFn.{get_or-range_with_len, length-range_with_len}
use Rattle.std.proofs.lemmas.List.Sorted.{All-permutation, IsPermutation-sym}
use Rattle.std.specs.List.Sorted.{IsSorted}
use Rattle.lake_model.specs.Tables.{Table}
use Rattle.search_model.specs.Ranks.{number_cmp, AreInverse, AreRanks}
use Rattle.search_model.specs.Segment.{columns_of, segment}
use Rattle.search_model.proofs.RankLemmas.{ranks_are}
use Rattle.title_order.specs.Titles.{IsPlace}
use Rattle.token_order.specs.Counted.{AreNumbers, ArePlaces}
use Rattle.token_order.proofs.OrderLemmas.{numbers_apart, numbers_below}

same_place : (numbers : List ℕ) → AreNumbers numbers → (r s : ℕ) → r < length numbers → s < length numbers → get_or numbers r 0 ≡ get_or numbers s 0 → r ≡ s
same_place numbers all r s b c e = elim (cases_lt r s) [
  | inl l ↦ absurd (numbers_apart numbers all r s l c e)
  | inr g ↦ elim (cases_lt s r) [
    | inl l ↦ absurd (numbers_apart numbers all s r l b (sym e))
    | inr h ↦ omega (arith, g, h)
  ]
]

places_forth : (numbers places : List ℕ) → AreNumbers numbers → ArePlaces numbers places → (r : ℕ) → r < length numbers → get_or places (get_or numbers r 0) 0 ≡ r
places_forth numbers places all are r b =
    let n = get_or numbers r 0 in
    let here = are.each n (numbers_below numbers all r 0 b) in
    same_place numbers all (get_or places n 0) r here.0 b here.1

-- what is written for each of them is its index
pub places_are : (numbers places : List ℕ) → AreNumbers numbers → length places ≡ length numbers → All (λ n. IsPlace numbers n (get_or places n 0)) numbers → ArePlaces numbers places
places_are numbers places all long written =
    let IsHere : ℕ → Type 0 = λ n. IsPlace numbers n (get_or places n 0) in
    let each : All IsHere (range_with_len 0 (length numbers)) = All-permutation IsHere numbers (range_with_len 0 (length numbers)) (IsPermutation-sym _ _ all) written in
    record {
      long = long;
      each = λ n b.
          (let at : get_or (range_with_len 0 (length numbers)) n 0 ≡ n = get_or-range_with_len 0 (length numbers) n 0 b ∙ (let z : 0 + n ≡ n = omega arith in z) in
          subst IsHere at (each n 0 (omega (arith, b, length-range_with_len 0 (length numbers)))));
    }

-- the indices and the numbers are inverse
pub places_inverse : (numbers places : List ℕ) → AreNumbers numbers → ArePlaces numbers places → AreInverse places numbers
places_inverse numbers places all are =
    record {
      size = sym are.long;
      back = λ x b. (are.each x (omega (arith, b, are.long))).1;
      within = λ r b. (let below = numbers_below numbers all r 0 b in omega (arith, below, are.long));
      forth = places_forth numbers places all are;
    }

-- the indices of the columns' numbers in order are their ranks
pub segment_ranks : (tables : List Table) (numbers places : List ℕ) → IsSorted (number_cmp (columns_of tables)) numbers → length numbers ≡ length (columns_of tables) → AreNumbers numbers → ArePlaces numbers places → AreRanks (segment tables).columns places
unfolding segment
segment_ranks tables numbers places up long all are =
    ranks_are (columns_of tables) places numbers (are.long ∙ long) (places_inverse numbers places all are) up (λ x b. (let here = (are.each x (omega (arith, b, long))).0 in omega (arith, here, long)))
