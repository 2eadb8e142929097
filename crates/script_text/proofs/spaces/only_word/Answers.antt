use Rattle.std.proofs.Common.{[], ap, length, List, ◌∷◌, ℕ, sym, ◌∙◌}
use Rattle.std.specs.Prelude.{◌==◌}
use Rattle.script_model.specs.Words.{words}
use Rattle.script_text.specs.Fronts.{has_none}
use Rattle.script_text.proofs.WordLemmas.{not_one_more, not_one_none, words_one}
use Rattle.script_text.proofs.spaces.only_word.Goals as goal

pub returns-then-is_empty-clause-other : goal.returns-then-is_empty-clause-other
returns-then-is_empty-clause-other c =
    not_one_none c.args.text.now (ap (λ (w : List ℕ). length w == 0) (sym c.first_word-word.ensures) ∙ sym c.is_empty.ensures ∙ c.if-is_empty.true)

pub returns-then-not-has_no_word-clause-other : goal.returns-then-not-has_no_word-clause-other
returns-then-not-has_no_word-clause-other c =
    not_one_more c.args.text.now (ap (λ (t : List ℕ). has_none (words t)) (sym c.behind_word.ensures) ∙ sym c.has_no_word.ensures ∙ c.if-not-has_no_word.true)

pub returns-clause-one : goal.returns-clause-one
returns-clause-one c =
    words_one c.args.text.now (ap (λ (w : List ℕ). length w == 0) (sym c.first_word-word.ensures) ∙ sym c.is_empty.ensures ∙ c.if-is_empty.false)
    (ap (λ (t : List ℕ). has_none (words t)) (sym c.behind_word.ensures) ∙ sym c.has_no_word.ensures ∙ c.if-not-has_no_word.false)
    ∙ ap (λ (w : List ℕ). w ∷ []) (sym c.first_word-word.ensures)
