-- The words of a text, one after another.
use Rattle.std.proofs.Common.{◌≡◌, refl, ap, sym, ◌∙◌, ℕ, suc, ◌+◌, List, [], ◌∷◌, drop, length, take, Bool, true, false, cond, arith, inl, inr}
use Rattle.std.specs.Prelude.{◌==◌, nat_lt, not, filter, position, take_while, Some, None}
use Rattle.std.specs.List.{onto_first, position_or_len, prefix_len, slice_split}
use Rattle.std.proofs.lemmas.Bool.{both_ways, cases_Bool, eqb-true, ltb-false}
use Rattle.std.proofs.lemmas.List.Folds.{length-prefix_len}
use Rattle.std.proofs.lemmas.List.{take_all}
use Rattle.std.proofs.lemmas.List.Quantifiers.{position-Some}
use Rattle.std.proofs.lemmas.List.Recursion.{is_position_or_len}
use Rattle.std.proofs.lemmas.List.Sums.{prefix_len_is}
use Rattle.lake_model.specs.Texts.{Text}
use Rattle.script_model.specs.Words.{behind_spaces, behind_word, first_word, is_space, words}
use Rattle.script_text.specs.Fronts.{IsNotOne, has_none}

abbrev pub is_some_word : Text → Bool
is_some_word word = not (length word == 0)

abbrev pub is_letter : ℕ → Bool
is_letter byte = not (is_space byte)

-- ---- the first word of a text whose leading spaces were dropped

abbrev front : Text → ℕ
front text = prefix_len is_letter text

record Cut (text : Text) : Type 0 where
  parts : List Text
  split : slice_split is_space text ≡ take (front text) text ∷ parts
  others : words (drop (front text) text) ≡ filter is_some_word parts

cut_letter : (byte : ℕ) (text : Text) → is_space byte ≡ false → Cut text → Cut (byte ∷ text)
cut_letter byte text f cut =
    let one : 1 + prefix_len is_letter text ≡ suc (prefix_len is_letter text) = omega arith in
    record {
      parts = cut.parts;
      split = rw (f, one) (rw cut.split refl);
      others = rw (f, one) cut.others;
    }

words_space : (byte : ℕ) (text : Text) → is_space byte ≡ true → words (byte ∷ text) ≡ words text
words_space byte text t = ap (λ (b : Bool). filter is_some_word (cond b ([] ∷ slice_split is_space text) (onto_first byte (slice_split is_space text)))) t

cut_space : (byte : ℕ) (text : Text) → is_space byte ≡ true → Cut (byte ∷ text)
cut_space byte text t = record {
  parts = slice_split is_space text;
  split = rw t refl;
  others = ap (λ (b : Bool). words (drop (cond (not b) (1 + prefix_len is_letter text) 0) (byte ∷ text))) t ∙ words_space byte text t;
}

cut_at : (text : Text) → Cut text
cut_at [] = record { parts = []; split = refl; others = refl }
cut_at (byte ∷ text) = elim (cases_Bool (is_space byte)) [ inl t ↦ cut_space byte text t | inr f ↦ cut_letter byte text f (cut_at text) ]

-- ---- leading spaces

pub words_behind_spaces : (text : Text) → words (behind_spaces text) ≡ words text
words_behind_spaces [] = refl
words_behind_spaces (byte ∷ text) =
    let one : 1 + prefix_len is_space text ≡ suc (prefix_len is_space text) = omega arith in
    elim (cases_Bool (is_space byte)) [
      | inl t ↦ ap (λ (b : Bool). words (drop (cond b (1 + prefix_len is_space text) 0) (byte ∷ text))) t
          ∙ ap (λ (n : ℕ). words (drop n (byte ∷ text))) one ∙ words_behind_spaces text ∙ sym (words_space byte text t)
      | inr f ↦ ap (λ (b : Bool). words (drop (cond b (1 + prefix_len is_space text) 0) (byte ∷ text))) f
    ]

some_letter : (byte : ℕ) (text : Text) → is_space byte ≡ false → front (byte ∷ text) ≡ 0 → ⊥
some_letter byte text f h =
    let size : front (byte ∷ text) ≡ 1 + front text = ap (λ (b : Bool). cond (not b) (1 + front text) 0) f in
    omega (arith, h, size)

nothing_left : (text : Text) → front (behind_spaces text) ≡ 0 → behind_spaces text ≡ []
nothing_left [] h = refl
nothing_left (byte ∷ text) h =
    let one : 1 + prefix_len is_space text ≡ suc (prefix_len is_space text) = omega arith in
    elim (cases_Bool (is_space byte)) [
      | inl t ↦ rw (t, one) (nothing_left text (rw (t, one) at h))
      | inr f ↦ absurd (some_letter byte text f (ap (λ (b : Bool). front (drop (cond b (1 + prefix_len is_space text) 0) (byte ∷ text))) (sym f) ∙ h))
    ]

-- ---- one word more

word_size : (text : Text) → length (first_word text) ≡ front (behind_spaces text)
word_size text = length-prefix_len is_letter (behind_spaces text)

words_cut : (text : Text) → words text ≡ cond (is_some_word (first_word text)) (first_word text ∷ words (behind_word text)) (words (behind_word text))
words_cut text =
    let t = behind_spaces text in
    let cut = cut_at t in
    let rest : filter is_some_word cut.parts ≡ words (behind_word text) =
    sym cut.others ∙ ap (λ (n : ℕ). words (drop n t)) (sym (word_size text)) ∙ sym (words_behind_spaces (drop (length (first_word text)) t)) in
    sym (words_behind_spaces text) ∙ ap (filter is_some_word) cut.split ∙ ap (λ (ws : List Text). cond (is_some_word (first_word text)) (first_word text ∷ ws) ws) rest

-- A text whose first word is empty has no words.
pub words_none : (text : Text) → (length (first_word text) == 0) ≡ true → words text ≡ []
words_none text e =
    sym (words_behind_spaces text) ∙ ap words (nothing_left text (sym (word_size text) ∙ eqb-true (length (first_word text)) 0 e))

-- Any other text has that word, followed by the others.
pub words_some : (text : Text) → (length (first_word text) == 0) ≡ false → words text ≡ first_word text ∷ words (behind_word text)
words_some text e = words_cut text ∙ ap (λ (b : Bool). cond (not b) (first_word text ∷ words (behind_word text)) (words (behind_word text))) e

behind_none : (text : Text) → (length (first_word text) == 0) ≡ true → words (behind_word text) ≡ []
behind_none text e =
    let none : length (first_word text) ≡ 0 = eqb-true (length (first_word text)) 0 e in
    words_behind_spaces (drop (length (first_word text)) (behind_spaces text)) ∙ ap (λ (n : ℕ). words (drop n (behind_spaces text))) none ∙ words_behind_spaces text ∙ words_none text e

-- A text with a word after its first has both.
pub words_more : (text : Text) → has_none (words (behind_word text)) ≡ false → words text ≡ first_word text ∷ words (behind_word text)
words_more text h =
    elim (cases_Bool (length (first_word text) == 0)) [
      | inl t ↦ absurd (both_ways _ h (ap has_none (behind_none text t)))
      | inr f ↦ words_some text f
    ]

pub has_none_is : (text : Text) → has_none (words text) ≡ (length (first_word text) == 0)
has_none_is text =
    elim (cases_Bool (length (first_word text) == 0)) [
      | inl t ↦ ap has_none (words_none text t) ∙ sym t
      | inr f ↦ ap has_none (words_some text f) ∙ sym f
    ]

none_is : (ws : List Text) → has_none ws ≡ true → ws ≡ []
none_is [] h = refl
none_is (w ∷ ws) h = cc h

-- A text with one word.
pub words_one : (text : Text) → (length (first_word text) == 0) ≡ false → has_none (words (behind_word text)) ≡ true → words text ≡ first_word text ∷ []
words_one text f h = words_some text f ∙ ap (λ (ws : List Text). first_word text ∷ ws) (none_is (words (behind_word text)) h)

two_at_least : (w : Text) (ws : List Text) → has_none ws ≡ false → IsNotOne (w ∷ ws)
two_at_least w [] h = cc h
two_at_least w (v ∷ ws) h = tt

pub not_one_none : (text : Text) → (length (first_word text) == 0) ≡ true → IsNotOne (words text)
not_one_none text t = rw (words_none text t) tt

pub not_one_more : (text : Text) → has_none (words (behind_word text)) ≡ false → IsNotOne (words text)
not_one_more text h = rw (words_more text h) (two_at_least (first_word text) (words (behind_word text)) h)

-- ---- the text up to its first space

pub word_at : (text : Text) (end : ℕ) → position is_space text ≡ Some end → take end text ≡ take_while is_letter text
word_at text end h =
    let found = position-Some is_space text end 0 h in
    ap (λ (n : ℕ). take n text) (sym (prefix_len_is is_letter text end 0 (omega (arith, found.0)) (λ k lt. ap not (found.2 k lt)) (λ _. ap not found.1)))

step_same : (b : Bool) (n : ℕ) → cond (not b) (1 + n) 0 ≡ cond b 0 (1 + n)
step_same true n = refl
step_same false n = refl

pub word_all : (text : Text) → position is_space text ≡ None → text ≡ take_while is_letter text
word_all text h =
    let same : prefix_len is_letter text ≡ position_or_len is_space text = is_position_or_len (prefix_len is_letter) is_space refl (λ byte more. step_same (is_space byte) (prefix_len is_letter more)) text in
    elim (cases_Bool (nat_lt (position_or_len is_space text) (length text))) [
      | inl t ↦ cc (rw t at h)
      | inr f ↦ sym (take_all (prefix_len is_letter text) text (omega (arith, same, ltb-false (position_or_len is_space text) (length text) f)))
    ]
