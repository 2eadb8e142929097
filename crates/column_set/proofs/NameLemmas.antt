-- Names compare as their fronts, where these differ.
use Rattle.std.proofs.Common.{◌≡◌, refl, ap, ap₂, ◌∙◌, ℕ, ◌<◌, ◌≤◌, ◌^◌, List, [], ◌∷◌, true, ◌&&◌, length, lit<, arith}
use Rattle.std.specs.Prelude.{nat_le}
use Rattle.std.specs.List.{AllByRecursion, list_all}
use Rattle.std.specs.Cmp.Lexicographic.{slice_cmp}
use Rattle.std.specs.Ordering.{nat_cmp, ordering_then}
use Rattle.std.specs.declared.cmp.Ordering.{Ordering}
use Rattle.std.specs.declared.cmp.Ordering.TheVariants.{Less, Equal, Greater}
use Rattle.std.proofs.Math.Nat.{pow-le-pow_right}
use Rattle.std.proofs.lemmas.Bool.{and_parts}
use Rattle.lake_model.specs.Tables.{is_name}
use Rattle.list_laws.specs.Digits.{digits}
use Rattle.list_laws.proofs.DigitLemmas.{by_digits}
use Rattle.column_set.proofs.AsciiLemmas.{is_printable, printable_ascii}

-- nine digits fit
pub front_fits : (n d : ℕ) → n ≤ 9 → d < 129 ^ n → d < 2 ^ 64
front_fits n d l h =
    let up : 129 ^ n ≤ 129 ^ 9 = pow-le-pow_right (omega arith) l in
    let most : 129 ^ 9 < 2 ^ 64 = lit< tt in
    omega (arith, h, up, most)

small_each : (bytes : List ℕ) → list_all is_printable bytes ≡ true → AllByRecursion (λ byte. byte < 128) bytes
small_each [] h = tt
small_each (byte ∷ bytes) h =
    let parts = and_parts (is_printable byte) (list_all is_printable bytes) h in
    (printable_ascii byte parts.0, small_each bytes parts.1)

-- the bytes of a name are small
named : (name : List ℕ) → is_name name ≡ true → AllByRecursion (λ byte. byte < 128) name
named name h = small_each name (and_parts (nat_le 1 (length name) && nat_le (length name) 255) (list_all is_printable name) h).1

-- two names compare as their fronts, if these are not equal
pub by_front : (a b : List ℕ) (front other : ℕ) (o : Ordering) → is_name a ≡ true → is_name b ≡ true → front ≡ digits 129 9 a → other ≡ digits 129 9 b → o ≡ nat_cmp front other → (o ≡ Equal → ⊥) → o ≡ slice_cmp nat_cmp a b
by_front a b front other o is_a is_b first second compared unequal =
    let whole = slice_cmp nat_cmp a b in
    apart o whole unequal (ap (λ p. ordering_then p whole) (compared ∙ ap₂ nat_cmp first second) ∙ by_digits 128 9 a b (named a is_a) (named b is_b))
  where
    apart : (o p : Ordering) → (o ≡ Equal → ⊥) → ordering_then o p ≡ p → o ≡ p
    apart Less p n e = e
    apart Equal p n e = absurd (n refl)
    apart Greater p n e = e
