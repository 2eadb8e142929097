-- A text keeps what it had through successive additions.
use Rattle.std.proofs.Common.{◌≡◌, ◌++◌, ◌∙◌, ◌≤◌, ap, sym, inl, inr, List, ℕ, length, take, arith, length-append}
use Rattle.std.proofs.lemmas.Bool.{cases_lt}
use Rattle.std.proofs.lemmas.List.{take-take, take_all}
use Rattle.std.proofs.Math.Seq.{take-append_seam}
use Rattle.reply_text.specs.Keeping.{Keeps}

-- what keeps a text with more after it keeps the text
pub keeps_behind : (xs ys zs more : List ℕ) → ys ≡ xs ++ more → Keeps ys zs → Keeps xs zs
keeps_behind xs ys zs more appended keeps =
    let shorter : length xs ≤ length ys = omega (arith, ap length appended, length-append xs more) in
    record { kept = sym (take-take (length xs) (length ys) zs shorter) ∙ ap (take (length xs)) (keeps.kept ∙ appended) ∙ take-append_seam xs more }

pub keeps_all : (xs : List ℕ) → Keeps xs xs
keeps_all xs = record { kept = take_all (length xs) xs (omega arith) }

-- what keeps a text that keeps an earlier one keeps that one too
pub keeps_on : (xs ys zs : List ℕ) → Keeps xs ys → Keeps ys zs → Keeps xs zs
keeps_on xs ys zs first second =
    let shorter : length xs ≤ length ys = elim (cases_lt (length ys) (length xs)) [
      | inl less ↦ omega (arith, ap length (sym (take_all (length xs) ys (omega (arith, less))) ∙ first.kept))
      | inr most ↦ most
    ] in
    record { kept = sym (take-take (length xs) (length ys) zs shorter) ∙ ap (take (length xs)) second.kept ∙ first.kept }
