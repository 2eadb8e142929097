-- The ranks, made from the columns' numbers in order.
use Rattle.std.proofs.Common.{◌≡◌, refl, ap, sym, ◌∙◌, subst, ℕ, zero, suc, ◌+◌, ◌<◌, List, true, false, length, get_or, inl, inr, arith}
use Rattle.std.specs.Cmp.{IsTotalOrder, nat_cmp_is}
use Rattle.std.specs.List.Sorted.{IsSorted}
use Rattle.std.specs.Ordering.{is_lt, nat_cmp, ordering_reverse, ordering_then}
use Rattle.std.specs.declared.cmp.Ordering.{Ordering}
use Rattle.std.specs.declared.cmp.Ordering.TheVariants.{Less, Equal, Greater}
use Rattle.std.proofs.lemmas.Bool.{cases_lt}
use Rattle.std.proofs.lemmas.Cmp.{nat_cmp_total, nat_list_cmp_total, on_total, then_total}
use Rattle.std.proofs.lemmas.List.Sorted.{ranks_by, sorted_far}
use Rattle.search_model.specs.Arrays.{titled_at}
use Rattle.search_model.specs.Ranks.{AreInverse, AreRanks, AreRising, number_cmp, title_cmp}
use Rattle.search_model.specs.Segment.{Titled}

pub title_cmp_total : IsTotalOrder title_cmp
title_cmp_total = then_total (on_total (λ (c : Titled). c.table) nat_list_cmp_total) (then_total (on_total (λ (c : Titled). c.column.name) nat_list_cmp_total) (on_total (λ (c : Titled). c.place) nat_cmp_total))

pub number_cmp_total : (columns : List Titled) → IsTotalOrder (number_cmp columns)
number_cmp_total columns = then_total (on_total (titled_at columns) title_cmp_total) nat_cmp_total

-- rows of one overlap compare by their titles
level_first : (u : ℕ) (r : Ordering) → ordering_then (nat_cmp u u) r ≡ r
level_first u r = ap (λ (o : Ordering). ordering_then o r) (sym (nat_cmp_is u u Equal refl))

pub first_late : (r s : Ordering) → is_lt (ordering_then r s) ≡ false → is_lt r ≡ false
first_late Less s e = cc
first_late Equal s e = refl
first_late Greater s e = refl

strictly_late : (r s : Ordering) → s ≡ Less → is_lt (ordering_then r s) ≡ false → is_lt (ordering_reverse r) ≡ true
strictly_late Less s l e = cc
strictly_late Equal s l e = absurd (let f : true ≡ false = ap is_lt (sym l) ∙ e in cc)
strictly_late Greater s l e = refl

module _ (columns : List Titled) (ranks by_rank : List ℕ) (size : length ranks ≡ length columns) (inverse : AreInverse ranks by_rank) (up : IsSorted (number_cmp columns) by_rank)
    (below : (x : ℕ) → x < length columns → get_or ranks x 0 < length columns) where
  back : (x : ℕ) → x < length columns → get_or by_rank (get_or ranks x 0) 0 ≡ x
  back x h = inverse.back x (omega (arith, h, size))

  -- the column with the higher rank is not the first of the two
  late : (x y : ℕ) → x < length columns → y < length columns → get_or ranks x 0 < get_or ranks y 0 → is_lt (number_cmp columns y x) ≡ false
  late x y b c l =
      ap (λ (n : ℕ). is_lt (number_cmp columns n x)) (sym (back y c))
      ∙ ap (λ (n : ℕ). is_lt (number_cmp columns (get_or by_rank (get_or ranks y 0) 0) n)) (sym (back x b))
      ∙ sorted_far (λ a b. is_lt (number_cmp columns a b)) (ranks_by (number_cmp_total columns) (λ (n : ℕ). n)) by_rank up (get_or ranks x 0) (get_or ranks y 0) 0 (omega (arith, l)) (omega (arith, below y c, inverse.size, size))

  pub ranks_are : AreRanks columns ranks
  ranks_are = record {
    size = size;
    below = below;
    apart = λ x y b c e. sym (back x b) ∙ ap (λ (r : ℕ). get_or by_rank r 0) e ∙ back y c;
    order = λ x y u b c l.
        ap is_lt (level_first u (title_cmp (titled_at columns y) (titled_at columns x)))
        ∙ first_late (title_cmp (titled_at columns y) (titled_at columns x)) (nat_cmp y x) (late x y b c l);
    level = λ x y u b c l m.
        ap is_lt (level_first u (title_cmp (titled_at columns x) (titled_at columns y)))
        ∙ ap is_lt (title_cmp_total.antisymm (titled_at columns x) (titled_at columns y))
        ∙ strictly_late (title_cmp (titled_at columns y) (titled_at columns x)) (nat_cmp y x) (sym (nat_cmp_is y x Less m)) (late x y b c l);
  }

-- columns each of which comes before the next
module _ (columns : List Titled) (next : (k : ℕ) → k + 1 < length columns → title_cmp (titled_at columns k) (titled_at columns (k + 1)) ≡ Less) where
  next_one : (k : ℕ) → suc k < length columns → title_cmp (titled_at columns k) (titled_at columns (suc k)) ≡ Less
  next_one k b =
      let e : k + 1 ≡ suc k = omega arith in
      subst (λ (n : ℕ). title_cmp (titled_at columns k) (titled_at columns n) ≡ Less) e (next k (omega (arith, b)))

  first : (s r : ℕ) → r < s → s < length columns → title_cmp (titled_at columns r) (titled_at columns s) ≡ Less
  first zero r l b = absurd (omega (arith, l))
  first (suc s) r l b = elim (cases_lt r s) [
    | inl m ↦ title_cmp_total.trans (titled_at columns r) (titled_at columns s) (titled_at columns (suc s)) (first s r m (omega (arith, b))) (next_one s b)
    | inr g ↦ (let e : s ≡ r = omega (arith, g, l) in subst (λ (n : ℕ). title_cmp (titled_at columns n) (titled_at columns (suc s)) ≡ Less) e (next_one s b))
  ]

  pub rising_from_next : AreRising columns
  rising_from_next r s u l b = ap is_lt (level_first u (title_cmp (titled_at columns r) (titled_at columns s))) ∙ ap is_lt (first s r l b)
