-- The first elements of a list of numbers, such as the bytes of a text, as the digits of one number.
use Rattle.std.specs.Prelude.{ℕ, List, zero, suc, ◌+◌, ◌*◌, get_or, map}

-- one more than the element at an index, from 0, or 0 past the last element
abbrev pub digit_at : List ℕ → ℕ → ℕ
digit_at xs i = get_or (map (λ x. x + 1) xs) i 0

-- the first n of them, as one number to a base
unfoldable pub digits : ℕ → ℕ → List ℕ → ℕ
digits base zero xs = 0
digits base (suc n) xs = digits base n xs * base + digit_at xs n
