use Rattle.std.proofs.Common.{◌≡◌, ◌≤◌, ℕ, List, ◌++◌, chars, string_bytes, encode_utf8_all}
use Rattle.std.specs.Str.Iter.{chars_steps}
use Rattle.std.specs.String.{string_capacity}
use Rattle.caseless.specs.Caseless.{default_case_fold}
use Rattle.unicode_normalization.specs.Iter.{Spells}
use Rattle.value_key.proofs.fold_text.Given as goal

abbrev pub invariant-loop-c : goal.invariant-loop-c
invariant-loop-c l =
    (string_capacity l.fn.into ≤ string_capacity l.into)
    × ((left : List ℕ) × Spells chars_steps l.c-iterator left
    × (string_bytes l.into ++ encode_utf8_all (default_case_fold left) ≡ string_bytes l.fn.into ++ encode_utf8_all (default_case_fold (chars l.fn.text))))
