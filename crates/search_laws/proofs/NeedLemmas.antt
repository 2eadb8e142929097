-- How many keys a column has to hold: the least number that is enough.
use Rattle.std.proofs.Common.{◌≡◌, ◌⊎◌, inl, inr, ℕ, ◌+◌, ◌*◌, ◌<◌, ◌≤◌, max, arith}
use Rattle.std.specs.Int.{div_ceil}
use Rattle.std.proofs.Math.Nat.{mul_comm, mul-le-mul_right}
use Rattle.std.proofs.lemmas.Bool.{cases_lt}
use Rattle.std.proofs.lemmas.Grind.{div_ceil_times}
use Rattle.std.proofs.lemmas.Nat.{mul-le}
use Rattle.search_model.specs.Contain.{need}
use Rattle.search_laws.specs.Laws.{NeedIsLeast}

pub need_least : NeedIsLeast
need_least a b n some =
    let up = div_ceil (a * n) b in
    let times = div_ceil_times (a * n) b some in
    let more : up ≤ max 1 up = omega arith in
    let enough = mul-le-mul_right b more in
    (omega arith, omega (arith, times.0, enough), λ k one holds. by k one holds (cases_lt k up))
  where
    by : (k : ℕ) → 1 ≤ k → a * n ≤ k * b → (k < div_ceil (a * n) b) ⊎ (div_ceil (a * n) b ≤ k) → need a b n ≤ k
    by k one holds (inl less) =
        let next : k + 1 ≤ div_ceil (a * n) b = omega arith in
        let high = mul-le-mul_right b next in
        let times = div_ceil_times (a * n) b some in
        let split : (k + 1) * b ≡ k * b + b = omega arith in
        absurd (omega (arith, high, times.1, split, holds))
    by k one holds (inr most) = omega (arith, one, most)

-- no column has to hold more keys than there are, if the fraction is at most the whole
pub need_few : (a b n : ℕ) → 1 ≤ a → a ≤ b → need a b n ≤ max 1 n
need_few a b n some whole =
    let low : n ≤ max 1 n = omega arith in
    let times = mul-le a n b (max 1 n) whole low in
    let turned : b * max 1 n ≡ max 1 n * b = mul_comm b (max 1 n) in
    (need_least a b n (omega (arith, some, whole))).2 (max 1 n) (omega arith) (omega (arith, times, turned))
