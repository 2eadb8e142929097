-- The words of buckets: one outside the words counts as full, and setting bits in a word leaves the others.
use Rattle.std.proofs.Common.{◌≡◌, ℕ, Bool, ◌+◌, ◌-◌, ◌*◌, ◌/◌, ◌%◌, ◌^◌, ◌<◌, ◌≤◌, ◌∙◌, List, true, ap, length, get_or, arith, bit_or, w64, slice_set}
use Rattle.std.proofs.lemmas.Bool.{and_from}
use Rattle.std.proofs.lemmas.Grind.{get_or-set_at}
use Rattle.std.proofs.lemmas.List.{get_or_default, get_or-set_same, get_or-set_other, get_or_past}
use Rattle.std.proofs.lemmas.Nat.Bits.{bit_at_ones, bit_at_set_same, bit_at_set_other}
use Rattle.hash_directory.specs.Buckets.{are_set, bucket_of, filter_with, is_set, may_have}

bit_of_full : (number : ℕ) → is_set (2 ^ 64 - 1) number ≡ true
bit_of_full number = grind (arith, bit_at_ones 64 (number % 64))

full : (hash : ℕ) → are_set (2 ^ 64 - 1) hash ≡ true
full hash = and_from _ (is_set (2 ^ 64 - 1) (hash / 2 ^ 12)) (and_from (is_set (2 ^ 64 - 1) hash) (is_set (2 ^ 64 - 1) (hash / 2 ^ 6)) (bit_of_full hash) (bit_of_full (hash / 2 ^ 6))) (bit_of_full (hash / 2 ^ 12))

pub set_outside : (shift : ℕ) (words : List ℕ) (hash : ℕ) → length words ≤ bucket_of shift hash → may_have (filter_with shift words) hash ≡ true
set_outside shift words hash h = ap (λ word. are_set word hash) (get_or_past words (bucket_of shift hash) (2 ^ 64 - 1) h) ∙ full hash

-- a word with one more bit set
abbrev pub with_bit : ℕ → ℕ → ℕ
with_bit word number = bit_or word (1 * 2 ^ (number % 64) % 2 ^ 64)

pub bit_set : (word number : ℕ) → is_set (with_bit word number) number ≡ true
bit_set word number = grind (arith, bit_at_set_same w64 word (number % 64))

-- a bit of a word stays set
pub bit_kept : (word number other : ℕ) → is_set word other ≡ true → is_set (with_bit word number) other ≡ true
bit_kept word number other was = grind (arith, bit_at_set_same w64 word (number % 64), bit_at_set_other w64 word (number % 64))

pub set_same : (shift : ℕ) (words : List ℕ) (hash word : ℕ) → bucket_of shift hash < length words → are_set word hash ≡ true
    → may_have (filter_with shift (slice_set words (bucket_of shift hash) word)) hash ≡ true
set_same shift words hash word h set = ap (λ w. are_set w hash) (get_or-set_same words (bucket_of shift hash) word (2 ^ 64 - 1) h) ∙ set

pub set_kept : (shift : ℕ) (words : List ℕ) (hash word other : ℕ) → bucket_of shift hash < length words
    → (are_set (get_or words (bucket_of shift hash) (2 ^ 64 - 1)) other ≡ true → are_set word other ≡ true)
    → may_have (filter_with shift words) other ≡ true
    → may_have (filter_with shift (slice_set words (bucket_of shift hash) word)) other ≡ true
set_kept shift words hash word other h kept was = grind (arith, kept, get_or-set_at words (bucket_of shift hash) (bucket_of shift other) word (2 ^ 64 - 1), get_or-set_other words (bucket_of shift hash) (bucket_of shift other) word (2 ^ 64 - 1))

-- what holds of the hashes so far holds of one more
pub one_more : (was is : ℕ → Bool) (hashes : List ℕ) (n : ℕ) → n < length hashes → ((hash : ℕ) → was hash ≡ true → is hash ≡ true) → is (get_or hashes n 0) ≡ true
    → ((k d : ℕ) → k < n → was (get_or hashes k d) ≡ true) → (k d : ℕ) → k < n + 1 → is (get_or hashes k d) ≡ true
one_more was is hashes n within kept added before k d h = grind (arith, before k d, kept (get_or hashes k d), added, get_or_default hashes n d 0)
