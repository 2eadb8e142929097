use Rattle.std.proofs.Common.{◌≡◌, ◌≤◌, ℕ, List, ◌++◌, string_bytes, encode_utf8_all}
use Rattle.std.specs.Prelude.{⊤}
use Rattle.std.specs.Str.Iter.{chars_steps}
use Rattle.std.specs.String.{string_capacity}
use Rattle.caseless.specs.Caseless.{default_case_fold}
use Rattle.unicode_normalization.specs.Decompositions.{CanDecompose, DecomposesTo}
use Rattle.unicode_normalization.specs.Iter.{chars_left}
use Rattle.value_key.proofs.fold_decomposed.Given as goal

abbrev pub invariant-loop-item : goal.invariant-loop-item
invariant-loop-item l =
    CanDecompose (λ _. ⊤) chars_left l.item-iterator
    × (string_capacity l.fn.into ≤ string_capacity l.into)
    × ((cs : List ℕ) → DecomposesTo chars_steps l.fn.decomposed cs
    → (left : List ℕ) × DecomposesTo chars_steps l.item-iterator left
    × (string_bytes l.into ++ encode_utf8_all (default_case_fold left) ≡ string_bytes l.fn.into ++ encode_utf8_all (default_case_fold cs)))
