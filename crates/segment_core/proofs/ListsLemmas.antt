-- Lists stored in one list, with the index at which each begins.
use Rattle.std.proofs.Common.{◌≡◌, refl, ap, sym, ◌∙◌, ℕ, zero, suc, ◌+◌, ◌-◌, ◌<◌, ◌≤◌, List, [], ◌∷◌, ◌++◌, length, get_or, take, drop, arith, length-append}
use Rattle.std.specs.List.{slice_index, slice_range}
use Rattle.std.proofs.lemmas.List.{drop-take, drop-drop}
use Rattle.std.proofs.Math.Seq.{take-append_seam, drop-append-add}
use Rattle.search_model.specs.Arrays.{starts_of, all_of}

pub length-starts_of : {X : Type 0} (n : ℕ) (lists : List (List X)) → length (starts_of n lists) ≡ length lists + 1
length-starts_of n [] = refl
length-starts_of n (l ∷ lists) = omega (arith, length-starts_of (n + length l) lists)

first-start : {X : Type 0} (n : ℕ) (lists : List (List X)) → slice_index (starts_of n lists) 0 ≡ n
first-start n [] = refl
first-start n (l ∷ lists) = refl

-- the list at i within the list of all, from its start to the start of the next
pub record Bounds {X : Type 0} (n : ℕ) (starts : List ℕ) (flat : List X) (i : ℕ) (list : List X) : Type 0 where
  pub there : i + 1 < length starts
  pub low : n ≤ slice_index starts i
  pub size : slice_index starts i + length list ≡ slice_index starts (i + 1)
  pub high : slice_index starts (i + 1) ≤ n + length flat
  pub is : take (length list) (drop (slice_index starts i - n) flat) ≡ list

bounds_from : {X : Type 0} (n : ℕ) (lists : List (List X)) (i : ℕ) → i < length lists → Bounds n (starts_of n lists) (all_of lists) i (get_or lists i [])
bounds_from n [] i h = absurd (omega arith)
bounds_from n (l ∷ lists) zero h =
    let first = first-start (n + length l) lists in
    let count = length-starts_of (n + length l) lists in
    let one : zero + 1 ≡ suc zero = omega arith in
    let none : n - n ≡ 0 = omega arith in
    let next : slice_index (starts_of n (l ∷ lists)) (zero + 1) ≡ n + length l = ap (λ (k : ℕ). slice_index (starts_of n (l ∷ lists)) k) one ∙ first in
    record {
      there = omega arith;
      low = omega arith;
      size = sym next;
      high = omega (arith, length-append l (all_of lists));
      is = ap (λ (k : ℕ). take (length l) (drop k (l ++ all_of lists))) none ∙ take-append_seam l (all_of lists);
    }
bounds_from n (l ∷ lists) (suc i) h =
    let rest = bounds_from (n + length l) lists i (omega arith) in
    let one : suc i + 1 ≡ suc (i + 1) = omega arith in
    let next : slice_index (starts_of n (l ∷ lists)) (suc i + 1) ≡ slice_index (starts_of (n + length l) lists) (i + 1) = ap (λ (k : ℕ). slice_index (starts_of n (l ∷ lists)) k) one in
    record {
      there = omega (arith, rest.there);
      low = omega (arith, rest.low);
      size = rest.size ∙ sym next;
      high = omega (arith, rest.high, length-append l (all_of lists));
      is = ap (take (length (get_or lists i []))) (drop_past l (all_of lists) n (slice_index (starts_of (n + length l) lists) i) rest.low) ∙ rest.is;
    }
  where
    drop_past : {X : Type 0} (l rest : List X) (n k : ℕ) → n + length l ≤ k → drop (k - n) (l ++ rest) ≡ drop (k - (n + length l)) rest
    drop_past l rest n k h = let e : k - n ≡ length l + (k - (n + length l)) = omega arith in rw e (drop-append-add l rest _)

pub bounds : {X : Type 0} (lists : List (List X)) (starts : List ℕ) (flat : List X) (i : ℕ) → starts ≡ starts_of 0 lists → flat ≡ all_of lists → i < length lists → Bounds 0 starts flat i (get_or lists i [])
bounds lists starts flat i s f h = rw (s, f) (bounds_from 0 lists i h)

pub part_is : {X : Type 0} (starts : List ℕ) (flat : List X) (i skip : ℕ) (list : List X) → Bounds 0 starts flat i list → skip ≤ length list
    → slice_range flat (slice_index starts i + skip) (slice_index starts (i + 1)) ≡ drop skip list
part_is starts flat i skip list b h =
    let from = slice_index starts i in
    let n : slice_index starts (i + 1) - (from + skip) ≡ length list - skip = omega (arith, b.size) in
    let m : skip + (length list - skip) ≡ length list = omega arith in
    let z : from - 0 ≡ from = omega arith in
    let is : take (length list) (drop from flat) ≡ list = ap (λ (k : ℕ). take (length list) (drop k flat)) (sym z) ∙ b.is in
    ap (λ (k : ℕ). take k (drop (from + skip) flat)) n
    ∙ ap (take (length list - skip)) (sym (drop-drop skip from flat))
    ∙ sym (drop-take skip (length list - skip) (drop from flat))
    ∙ ap (λ (k : ℕ). drop skip (take k (drop from flat))) m
    ∙ ap (drop skip) is
