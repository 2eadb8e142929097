-- The elements with one number in a list that is sorted by number.
use Rattle.std.proofs.Common.{◌≡◌, ap, sym, ◌∙◌, subst, ℕ, ◌+◌, ◌-◌, ◌<◌, ◌≤◌, List, length, length-drop, get_or, take, drop, true, false, arith, inl, inr, leb, ltb}
use Rattle.std.specs.Prelude.{◌⊎◌}
use Rattle.std.specs.List.{Contains}
use Rattle.std.specs.List.Sorted.{IsPartitionPoint}
use Rattle.std.proofs.lemmas.List.{get_or-drop, get_or-take, length-take-le, take_all}
use Rattle.std.proofs.lemmas.Bool.{cases_lt}
use Rattle.std.proofs.lemmas.Bool.Decides.{nat_tests}
use Rattle.trace_replay.specs.Stretches.{IsStretchAt}

between_is : (m at : ℕ) → leb m at ≡ true → ltb m at ≡ false → m ≡ at
between_is m at up down = grind (arith, nat_tests)

not_below : (m at : ℕ) → m ≡ at → ltb m at ≡ true → m < m
not_below m at e h = grind (arith, nat_tests)

not_above : (m at : ℕ) → m ≡ at → leb m at ≡ false → m < m
not_above m at e h = grind (arith, nat_tests)

ge_unless : (k n m : ℕ) → (k < n → m < m) → n ≤ k
ge_unless k n m h = by (cases_lt k n)
  where
    by : (k < n) ⊎ (n ≤ k) → n ≤ k
    by (inl low) = absurd (omega (arith, h low))
    by (inr high) = high

lt_unless : (k n m : ℕ) → (n ≤ k → m < m) → k < n
lt_unless k n m h = by (cases_lt k n)
  where
    by : (k < n) ⊎ (n ≤ k) → k < n
    by (inl low) = low
    by (inr high) = absurd (omega (arith, h high))

-- everything from an index on
pub rest_is : {X : Type 0} (xs : List X) (from : ℕ) → take (length xs - from) (drop from xs) ≡ drop from xs
rest_is xs from = let long = length-drop from xs in take_all (length xs - from) (drop from xs) (omega (arith, long))

-- from the first element that is not below the number, to the last that is not above it
pub stretch_found : {X : Type 0} (number : X → ℕ) (xs : List X) (at from to : ℕ) → from ≤ length xs → to ≤ length (drop from xs)
    → IsPartitionPoint (λ (x : X). ltb (number x) at ≡ true) (λ (x : X). ltb (number x) at ≡ false) xs from
    → IsPartitionPoint (λ (x : X). leb (number x) at ≡ true) (λ (x : X). leb (number x) at ≡ false) (drop from xs) to → IsStretchAt number xs at (take to (drop from xs))
stretch_found {X} number xs at from to low high first second = record { each = each; all = all; part = (from, neighbour) }
  where
    behind : List X
    behind = drop from xs

    size : length (take to behind) ≡ to
    size = length-take-le to behind high

    long : length behind ≡ length xs - from
    long = length-drop from xs

    there : (k : ℕ) (d : X) → k < to → get_or (take to behind) k d ≡ get_or behind k d
    there k d under = get_or-take to behind k d under

    each : (x : X) → Contains (take to behind) x → Contains xs x × (number x ≡ at)
    each x (k, inside, is) =
        let under : k < to = omega (arith, inside, size) in
        let same : get_or behind k x ≡ x = sym (there k x under) ∙ is in
        let first_same : get_or xs (from + k) x ≡ x = sym (get_or-drop from xs k x) ∙ same in
        let within : from + k < length xs = omega (arith, under, high, long, low) in
        let up : leb (number x) at ≡ true = ap (λ (y : X). leb (number y) at) (sym same) ∙ second.0 k x (omega arith) under in
        let down : ltb (number x) at ≡ false = ap (λ (y : X). ltb (number y) at) (sym first_same) ∙ first.1 (from + k) x (omega arith) within in
        ((from + k, within, first_same), between_is (number x) at up down)

    neighbour : (k : ℕ) (x : X) → k < length (take to behind) → (from + k < length xs) × (get_or (take to behind) k x ≡ get_or xs (from + k) x)
    neighbour k x inside =
        let under : k < to = omega (arith, inside, size) in
        (omega (arith, under, high, long, low), there k x under ∙ get_or-drop from xs k x)

    at_or_behind : (x : X) (k : ℕ) → get_or xs k x ≡ x → number x ≡ at → k < from → number x < number x
    at_or_behind x k is e before = not_below (number x) at e (ap (λ (y : X). ltb (number y) at) (sym is) ∙ first.0 k x (omega arith) before)

    before_end : (x : X) (k : ℕ) → k < length behind → get_or behind k x ≡ x → number x ≡ at → to ≤ k → number x < number x
    before_end x k inside is e late = not_above (number x) at e (ap (λ (y : X). leb (number y) at) (sym is) ∙ second.1 k x late inside)

    all : (x : X) → Contains xs x → number x ≡ at → Contains (take to behind) x
    all x (k, inside, is) e =
        let from_low : from ≤ k = ge_unless k from (number x) (at_or_behind x k is e) in
        let j : ℕ = k - from in
        let sum : from + j ≡ k = omega (arith, from_low) in
        let same : get_or behind j x ≡ x = get_or-drop from xs j x ∙ ap (λ (n : ℕ). get_or xs n x) sum ∙ is in
        let within : j < length behind = omega (arith, inside, long, from_low, low) in
        let under : j < to = lt_unless j to (number x) (before_end x j within same e) in
        (j, omega (arith, under, size), there j x under ∙ same)

-- the same, if what follows an index is a slice
pub stretch_of : {X : Type 0} (number : X → ℕ) (xs : List X) (at from to : ℕ) → let behind = take (length xs - from) (drop from xs) in from ≤ length xs → to ≤ length behind
    → IsPartitionPoint (λ (x : X). ltb (number x) at ≡ true) (λ (x : X). ltb (number x) at ≡ false) xs from
    → IsPartitionPoint (λ (x : X). leb (number x) at ≡ true) (λ (x : X). leb (number x) at ≡ false) behind to → IsStretchAt number xs at (take to behind)
stretch_of {X} number xs at from to low high first second =
    let same = rest_is xs from in
    let inside : to ≤ length (drop from xs) = subst (λ (ys : List X). to ≤ length ys) same high in
    let point = subst (λ (ys : List X). IsPartitionPoint (λ (x : X). leb (number x) at ≡ true) (λ (x : X). leb (number x) at ≡ false) ys to) same second in
    subst (λ (ys : List X). IsStretchAt number xs at (take to ys)) (sym same) (stretch_found number xs at from to low inside first point)
