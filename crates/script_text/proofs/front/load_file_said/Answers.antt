use Rattle.std.proofs.Common.{◌≡◌, ap, false, List, refl, ℕ, sym, true, ◌∙◌}
use Rattle.std.specs.Str.{is_utf8}
use Rattle.std.proofs.lemmas.Bool.{false_from_ne_true, false≢true}
use Rattle.std.proofs.lemmas.Str.{IsUtf8-from_is_utf8, is_utf8-from_IsUtf8}
use Rattle.lake_model.specs.Tables.{is_name}
use Rattle.script_model.specs.Saying.{Fetches}
use Rattle.script_model.specs.Words.{before_spaces, behind_word, first_word, words}
use Rattle.script_text.specs.Fronts.{has_none}
use Rattle.script_text.proofs.FormLemmas.{few_file, full_file, fetch_both, fetch_no_name, fetch_no_text}
use Rattle.script_text.proofs.front.load_file_said.Goals as goal

pub returns-then-has_no_word-clause-said : goal.returns-then-has_no_word-clause-said
returns-then-has_no_word-clause-said c =
    few_file c.args.lane c.args.text.now (ap (λ (t : List ℕ). has_none (words t)) (sym c.behind_word-rest.ensures) ∙ sym c.has_no_word.ensures ∙ c.if-has_no_word.true)

pub returns-in_default-clause-said : goal.returns-in_default-clause-said
returns-in_default-clause-said c =
    let text = c.args.text.now in
    let none : is_name c.first_word.result.now ≡ false = false_from_ne_true (is_name c.first_word.result.now) (λ t. false≢true (c.in_default.ensures.exact.1 t)) in
    full_file c.args.lane text (ap (λ (t : List ℕ). has_none (words t)) (sym c.behind_word-rest.ensures) ∙ sym c.has_no_word.ensures ∙ c.if-has_no_word.false)
    ∙ fetch_no_name c.args.lane (first_word text) (before_spaces (behind_word text)) (ap is_name (sym c.first_word.ensures) ∙ none)

pub returns-in-Ok-clause-said : goal.returns-in-Ok-clause-said
returns-in-Ok-clause-said c =
    let text = c.args.text.now in
    let path : before_spaces (behind_word text) ≡ c.before_spaces.result.now = ap before_spaces (sym c.behind_word-rest.ensures) ∙ sym c.before_spaces.ensures in
    let name : is_name (first_word text) ≡ true = ap is_name (sym c.first_word.ensures) ∙ c.in-Some.ensures.exact.0 refl in
    let utf8 : is_utf8 (before_spaces (behind_word text)) ≡ true = ap is_utf8 path ∙ is_utf8-from_IsUtf8 c.before_spaces.result.now c.in-Ok.ensures.cases.1 in
    full_file c.args.lane text (ap (λ (t : List ℕ). has_none (words t)) (sym c.behind_word-rest.ensures) ∙ sym c.has_no_word.ensures ∙ c.if-has_no_word.false)
    ∙ fetch_both c.args.lane (first_word text) (before_spaces (behind_word text)) name utf8
    ∙ ap (λ (w : List ℕ). Fetches c.args.lane w (before_spaces (behind_word text))) (sym c.first_word.ensures ∙ sym c.in-Some.ensures.name)
    ∙ ap (λ (p : List ℕ). Fetches c.args.lane c.in-Some.name p) (path ∙ sym c.in-Ok.ensures.cases.0)

pub returns-in-Err-clause-said : goal.returns-in-Err-clause-said
returns-in-Err-clause-said c =
    let text = c.args.text.now in
    let path : before_spaces (behind_word text) ≡ c.before_spaces.result.now = ap before_spaces (sym c.behind_word-rest.ensures) ∙ sym c.before_spaces.ensures in
    let none : is_utf8 c.before_spaces.result.now ≡ false = false_from_ne_true (is_utf8 c.before_spaces.result.now) (λ t. c.in-Err.ensures.cases.0 (IsUtf8-from_is_utf8 c.before_spaces.result.now t)) in
    full_file c.args.lane text (ap (λ (t : List ℕ). has_none (words t)) (sym c.behind_word-rest.ensures) ∙ sym c.has_no_word.ensures ∙ c.if-has_no_word.false)
    ∙ fetch_no_text c.args.lane (first_word text) (before_spaces (behind_word text)) (ap is_utf8 path ∙ none)
