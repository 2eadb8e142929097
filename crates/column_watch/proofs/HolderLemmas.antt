-- The queries that hold a key, as the bits of a mask.
use Rattle.std.proofs.Common.{◌≡◌, refl, ap, ◌∙◌, ℕ, zero, suc, ◌^◌, ◌<◌, List, true, false, ◌||◌, arith, map, max, nat_eq}
use Rattle.std.specs.Int.{bit_at}
use Rattle.std.specs.Int.RustNames.{bit_or}
use Rattle.std.proofs.lemmas.Nat.Bits.{bit_at-lt, bit_at-pow_other, bit_at-pow_same, bit_at-zero, bit_at_or}
use Rattle.lake_model.specs.Texts.{Text}
use Rattle.column_watch.specs.Held.{StateOf}
use Rattle.column_watch.specs.Index.{has_query}
use Rattle.list_laws.proofs.TestLemmas.{once}

abbrev pub keys_of : List StateOf → List (List Text)
keys_of states = map (λ state. state.keys) states

pub query_itself : (w : ℕ) → has_query (2 ^ w) w ≡ true
query_itself w = ap (λ (n : ℕ). nat_eq n 1) (bit_at-pow_same w)

pub query_other : (w v : ℕ) → (v ≡ w → ⊥) → has_query (2 ^ w) v ≡ false
query_other w v apart = ap (λ (n : ℕ). nat_eq n 1) (bit_at-pow_other w v apart)

pub no_query : (w : ℕ) → has_query 0 w ≡ false
no_query w = ap (λ (n : ℕ). nat_eq n 1) (bit_at-zero w)

either : (m n : ℕ) → m < 2 → n < 2 → nat_eq (max m n) 1 ≡ (nat_eq m 1 || nat_eq n 1)
either zero zero h k = refl
either zero (suc zero) h k = refl
either (suc zero) zero h k = refl
either (suc zero) (suc zero) h k = refl
either zero (suc (suc n)) h k = absurd (omega arith)
either (suc zero) (suc (suc n)) h k = absurd (omega arith)
either (suc (suc m)) n h k = absurd (omega arith)

pub query_of_both : (a b w : ℕ) → has_query (bit_or a b) w ≡ (has_query a w || has_query b w)
query_of_both a b w = ap (λ (n : ℕ). nat_eq n 1) (bit_at_or a b w) ∙ either (bit_at a w) (bit_at b w) (bit_at-lt a w) (bit_at-lt b w)

-- a bit is one if the query holds the key, and else zero
pub bit_once : (mask w : ℕ) → bit_at mask w ≡ once (has_query mask w)
bit_once mask w = by (bit_at mask w) (bit_at-lt mask w)
  where
    by : (n : ℕ) → n < 2 → n ≡ once (nat_eq n 1)
    by zero h = refl
    by (suc zero) h = refl
    by (suc (suc n)) h = absurd (omega arith)
