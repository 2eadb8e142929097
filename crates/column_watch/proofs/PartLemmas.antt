-- The parts of the range of hashes, and the keys of one of them.
use Rattle.std.proofs.Common.{◌≡◌, ap, sym, subst, inl, inr, ℕ, zero, suc, ◌+◌, ◌-◌, ◌/◌, ◌*◌, ◌^◌, ◌<◌, ◌≤◌, List, [], ◌∷◌, ◌++◌, true, false, length, get_or, arith, ltb, take, drop}
use Rattle.std.specs.List.{AllByRecursion, AllWithin, slice_range}
use Rattle.std.specs.List.Sorted.{IsNonDecreasingBy, IsPartitionPoint, IsPartitionedBy}
use Rattle.std.proofs.Math.Nat.{div-mul-le_self}
use Rattle.std.proofs.lemmas.Bool.{cases_lt, lt-ltb, ltb-true, ltb-false}
use Rattle.std.proofs.lemmas.List.{get_or_append_left, get_or_default, get_or_past, get_or_push, length-append}
use Rattle.std.proofs.lemmas.List.Edits.{split_between}
use Rattle.std.proofs.lemmas.Nat.{le-div, pow_below, pow_pos, shr_below}
use Rattle.column_watch.specs.Index.{AreStarts, IsStretch, part_of}
use Rattle.column_watch.specs.declared.holders.KeyAt.{KeyAt}

-- the part of a hash is not before that of a lower hash
parts_rise : (shift a b : ℕ) → a ≤ b → part_of shift a ≤ part_of shift b
parts_rise shift a b h = let low : a / 2 ^ shift * 2 ^ shift ≤ a = div-mul-le_self a (2 ^ shift) in le-div (a / 2 ^ shift) b (2 ^ shift) (pow_pos shift) (omega (arith, low, h))

-- the number of the part after that of a hash fits 64 bits
pub part_fits : (shift hash : ℕ) → 32 ≤ shift → shift < 64 → hash < 2 ^ 64 → part_of shift hash + 1 < 2 ^ 64
part_fits shift hash wide narrow h =
    let whole : 64 ≡ 64 - shift + shift = omega (arith, narrow) in
    let low = shr_below hash (64 - shift) shift (subst (λ (n : ℕ). hash < 2 ^ n) whole h) in
    omega (arith, low, pow_below (64 - shift) 64 (omega (arith, wide, narrow)))

pub parted : (shift part : ℕ) (keys : List KeyAt) → IsNonDecreasingBy (λ at. at.hash) keys → IsPartitionedBy (λ at. ltb (part_of shift at.hash) part) keys
parted shift part keys up i j d l h e =
    let rise = parts_rise shift (get_or keys i d).hash (get_or keys j d).hash (up i j d l h) in
    let less = ltb-true (part_of shift (get_or keys j d).hash) part e in
    lt-ltb (part_of shift (get_or keys i d).hash) part (omega (arith, rise, less))

pub point : (shift part : ℕ) (keys : List KeyAt) (at : ℕ) → IsPartitionPoint (λ at. ltb (part_of shift at.hash) part ≡ true) (λ at. ltb (part_of shift at.hash) part ≡ false) keys at → IsPartitionPoint (λ at. part_of shift at.hash < part) (λ at. part ≤ part_of shift at.hash) keys at
point shift part keys at p =
    ((λ k d l h. ltb-true (part_of shift (get_or keys k d).hash) part (p.0 k d l h)), (λ k d l h. ltb-false (part_of shift (get_or keys k d).hash) part (p.1 k d l h)))

pub no_starts : (shift : ℕ) (keys : List KeyAt) (starts : List ℕ) → starts ≡ [] → AreStarts shift keys starts
no_starts shift keys starts e = subst (AreStarts shift keys) (sym e) (record { within = λ part. omega arith; points = λ part h. absurd (omega (arith, h)) })

-- one more part
pub starts_more : (shift : ℕ) (keys : List KeyAt) (starts after : List ℕ) (start : ℕ) → AreStarts shift keys starts → start ≤ length keys
    → IsPartitionPoint (λ at. part_of shift at.hash < length starts) (λ at. length starts ≤ part_of shift at.hash) keys start → after ≡ starts ++ start ∷ [] → AreStarts shift keys after
starts_more shift keys starts after start so_far within here e = subst (AreStarts shift keys) (sym e) (record {
  within = λ part. elim (cases_lt part (length starts)) [
    | inl l ↦ omega (arith, so_far.within part, get_or_append_left starts (start ∷ []) 0 part l)
    | inr m ↦ elim (cases_lt (length starts) part) [
      | inl l ↦ omega (arith, get_or_past (starts ++ start ∷ []) part 0 (omega (arith, l, length-append starts (start ∷ []))))
      | inr n ↦ omega (arith, within, get_or_push starts start 0 part (omega (arith, m, n)))
    ]
  ];
  points = λ part h. elim (cases_lt part (length starts)) [
    | inl l ↦ subst (IsPartitionPoint (λ at. part_of shift at.hash < part) (λ at. part ≤ part_of shift at.hash) keys) (sym (get_or_append_left starts (start ∷ []) 0 part l)) (so_far.points part l)
    | inr m ↦
        let last : length starts ≡ part = omega (arith, m, h, length-append starts (start ∷ [])) in
        subst (IsPartitionPoint (λ at. part_of shift at.hash < part) (λ at. part ≤ part_of shift at.hash) keys) (sym (get_or_push starts start 0 part last))
        (subst (λ (n : ℕ). IsPartitionPoint (λ at. part_of shift at.hash < n) (λ at. n ≤ part_of shift at.hash) keys start) last here)
  ];
})

-- ---- the keys of a part

all_before : {X : Type 0} (P : X → Type 0) (xs : List X) (n : ℕ) → AllWithin P xs 0 n → AllByRecursion P (take n xs)
all_before P [] zero h = tt
all_before P [] (suc n) h = tt
all_before P (x ∷ xs) zero h = tt
all_before P (x ∷ xs) (suc n) h = (h 0 x (omega arith) (omega arith), all_before P xs n (λ k d l m. h (suc k) d (omega arith) (omega (arith, m))))

all_behind : {X : Type 0} (P : X → Type 0) (xs : List X) (n : ℕ) → AllWithin P xs n (length xs) → AllByRecursion P (drop n xs)
all_behind P [] zero h = tt
all_behind P [] (suc n) h = tt
all_behind P (x ∷ xs) zero h = (h 0 x (omega arith) (omega arith), all_behind P xs 0 (λ k d l m. h (suc k) d (omega arith) (omega (arith, m))))
all_behind P (x ∷ xs) (suc n) h = all_behind P xs n (λ k d l m. h (suc k) d (omega (arith, l)) (omega (arith, m)))

module _ (shift hash : ℕ) (keys : List KeyAt) (starts : List ℕ) (are : AreStarts shift keys starts) (from to : ℕ) (first : from ≡ get_or starts (part_of shift hash) 0) (last : to ≡ get_or starts (part_of shift hash + 1) (length keys)) where
  abbrev here : ℕ
  here = part_of shift hash

  pub stretch_within : to ≤ length keys
  stretch_within = elim (cases_lt (here + 1) (length starts)) [
    | inl l ↦ omega (arith, last, are.within (here + 1), get_or_default starts (here + 1) (length keys) 0 l)
    | inr m ↦ omega (arith, last, get_or_past starts (here + 1) (length keys) m)
  ]

  before : (k : ℕ) (d : KeyAt) → k < from → part_of shift (get_or keys k d).hash < here
  before k d h = elim (cases_lt here (length starts)) [
    | inl l ↦ (are.points here l).0 k d (omega arith) (omega (arith, h, first))
    | inr m ↦ absurd (omega (arith, h, first, get_or_past starts here 0 m))
  ]

  behind : (k : ℕ) (d : KeyAt) → to ≤ k → k < length keys → here < part_of shift (get_or keys k d).hash
  behind k d g h = elim (cases_lt (here + 1) (length starts)) [
    | inl l ↦ let a = (are.points (here + 1) l).1 k d (omega (arith, g, last, get_or_default starts (here + 1) (length keys) 0 l)) h in omega (arith, a)
    | inr m ↦ absurd (omega (arith, g, h, last, get_or_past starts (here + 1) (length keys) m))
  ]

  pub stretch_rises : (d : KeyAt) → from ≤ to
  stretch_rises d = elim (cases_lt to from) [
    | inl l ↦ absurd (let a = before to d l in let b = behind to d (omega arith) (omega (arith, l, first, are.within here)) in omega (arith, a, b))
    | inr m ↦ m
  ]

  apart : (at : KeyAt) → part_of shift at.hash < here → at.hash ≡ hash → ⊥
  apart at h e = let f : part_of shift at.hash ≡ here = ap (part_of shift) e in omega (arith, h, f)

  apart_behind : (at : KeyAt) → here < part_of shift at.hash → at.hash ≡ hash → ⊥
  apart_behind at h e = let f : part_of shift at.hash ≡ here = ap (part_of shift) e in omega (arith, h, f)

  pub stretch_is : (d : KeyAt) → IsStretch hash keys (slice_range keys from to)
  stretch_is d = record {
    front = take from keys;
    back = drop to keys;
    whole = split_between keys from to (stretch_rises d);
    before = all_before (λ at. at.hash ≡ hash → ⊥) keys from (λ k e l h. apart (get_or keys k e) (before k e h));
    behind = all_behind (λ at. at.hash ≡ hash → ⊥) keys to (λ k e l h. apart_behind (get_or keys k e) (behind k e l h));
  }
