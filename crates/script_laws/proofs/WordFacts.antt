-- Words, each followed by a space, as they read back.
use Rattle.std.proofs.Common.{◌≡◌, refl, ap, ◌∙◌, ℕ, ◌+◌, ◌<◌, List, [], ◌∷◌, Bool, false, cond, drop, take, length, get_or, arith}
use Rattle.std.specs.Prelude.{◌==◌, not, filter, take_while}
use Rattle.std.specs.List.{AllByRecursion, onto_first, prefix_len, slice_split}
use Rattle.std.proofs.Math.Seq.{take-append_seam}
use Rattle.lake_model.specs.Texts.{Text}
use Rattle.script_model.specs.Words.{behind_spaces, behind_word, first_word, is_space, words}
use Rattle.script_laws.specs.Printed.{with_word}
use Rattle.list_laws.proofs.ListLemmas.{drop_seam}
use Rattle.script_text.proofs.WordLemmas.{is_letter, is_some_word}

-- a word has at least one byte, and no space
abbrev pub IsWord : Text → Type 0
IsWord word = (0 < length word) × AllByRecursion (λ byte. is_space byte ≡ false) word

-- a text that does not begin with a space
abbrev pub BeginsWell : Text → Type 0
BeginsWell text = is_space (get_or text 0 0) ≡ false

letters_before : (word rest : Text) → AllByRecursion (λ byte. is_space byte ≡ false) word → prefix_len is_letter (with_word word rest) ≡ length word
letters_before [] rest h = refl
letters_before (byte ∷ word) rest h =
    ap (λ (b : Bool). cond (not b) (1 + prefix_len is_letter (with_word word rest)) 0) h.0 ∙ omega (arith, letters_before word rest h.1)

letters_alone : (word : Text) → AllByRecursion (λ byte. is_space byte ≡ false) word → prefix_len is_letter word ≡ length word
letters_alone [] h = refl
letters_alone (byte ∷ word) h = ap (λ (b : Bool). cond (not b) (1 + prefix_len is_letter word) 0) h.0 ∙ omega (arith, letters_alone word h.1)

behind_none : (text : Text) → BeginsWell text → behind_spaces text ≡ text
behind_none [] h = refl
behind_none (byte ∷ text) h = ap (λ (b : Bool). drop (cond b (1 + prefix_len is_space text) 0) (byte ∷ text)) h

pub word_begins : (word rest : Text) → IsWord word → BeginsWell (with_word word rest)
word_begins [] rest h = absurd (omega (arith, h.0))
word_begins (byte ∷ word) rest h = h.1.0

pub word_begins_alone : (word : Text) → IsWord word → BeginsWell word
word_begins_alone [] h = absurd (omega (arith, h.0))
word_begins_alone (byte ∷ word) h = h.1.0

take_all : (xs : Text) → take (length xs) xs ≡ xs
take_all [] = refl
take_all (x ∷ xs) = ap (λ (ys : Text). x ∷ ys) (take_all xs)

drop_all : (xs : Text) → drop (length xs) xs ≡ []
drop_all [] = refl
drop_all (x ∷ xs) = drop_all xs

-- ---- the first word

pub first_of : (word rest : Text) → IsWord word → first_word (with_word word rest) ≡ word
first_of word rest h =
    ap (take_while is_letter) (behind_none (with_word word rest) (word_begins word rest h))
    ∙ ap (λ (n : ℕ). take n (with_word word rest)) (letters_before word rest h.1) ∙ take-append_seam word (0x20 ∷ rest)

pub first_alone : (word : Text) → IsWord word → first_word word ≡ word
first_alone word h =
    ap (take_while is_letter) (behind_none word (word_begins_alone word h)) ∙ ap (λ (n : ℕ). take n word) (letters_alone word h.1) ∙ take_all word

pub behind_of : (word rest : Text) → IsWord word → BeginsWell rest → behind_word (with_word word rest) ≡ rest
behind_of word rest h begins =
    ap (λ (first : Text). behind_spaces (drop (length first) (behind_spaces (with_word word rest)))) (first_of word rest h)
    ∙ ap (λ (text : Text). behind_spaces (drop (length word) text)) (behind_none (with_word word rest) (word_begins word rest h))
    ∙ ap behind_spaces (drop_seam word (0x20 ∷ rest))
    ∙ behind_one rest begins
  where
    behind_one : (rest : Text) → BeginsWell rest → behind_spaces (0x20 ∷ rest) ≡ rest
    behind_one [] begins = refl
    behind_one (byte ∷ rest) begins = ap (λ (b : Bool). drop (1 + cond b (1 + prefix_len is_space rest) 0) (0x20 ∷ byte ∷ rest)) begins

pub behind_alone : (word : Text) → IsWord word → behind_word word ≡ []
behind_alone word h =
    ap (λ (first : Text). behind_spaces (drop (length first) (behind_spaces word))) (first_alone word h)
    ∙ ap (λ (text : Text). behind_spaces (drop (length word) text)) (behind_none word (word_begins_alone word h))
    ∙ ap behind_spaces (drop_all word)

-- ---- all words

split_of : (word rest : Text) → AllByRecursion (λ byte. is_space byte ≡ false) word → slice_split is_space (with_word word rest) ≡ word ∷ slice_split is_space rest
split_of [] rest h = refl
split_of (byte ∷ word) rest h =
    ap (λ (b : Bool). cond b ([] ∷ slice_split is_space (with_word word rest)) (onto_first byte (slice_split is_space (with_word word rest)))) h.0
    ∙ ap (onto_first byte) (split_of word rest h.1)

split_alone : (word : Text) → AllByRecursion (λ byte. is_space byte ≡ false) word → slice_split is_space word ≡ word ∷ []
split_alone [] h = refl
split_alone (byte ∷ word) h =
    ap (λ (b : Bool). cond b ([] ∷ slice_split is_space word) (onto_first byte (slice_split is_space word))) h.0 ∙ ap (onto_first byte) (split_alone word h.1)

keeps_word : (word : Text) (others : List Text) → 0 < length word → filter is_some_word (word ∷ others) ≡ word ∷ filter is_some_word others
keeps_word [] others h = absurd (omega (arith, h))
keeps_word (byte ∷ word) others h = let some : (length (byte ∷ word) == 0) ≡ false = grind arith in rw some refl

pub words_of : (word rest : Text) → IsWord word → words (with_word word rest) ≡ word ∷ words rest
words_of word rest h = ap (filter is_some_word) (split_of word rest h.1) ∙ keeps_word word (slice_split is_space rest) h.0

pub words_alone : (word : Text) → IsWord word → words word ≡ word ∷ []
words_alone word h = ap (filter is_some_word) (split_alone word h.1) ∙ keeps_word word [] h.0

-- a text that begins with no space has a first word
pub record HasWord (text : Text) : Type 0 where
  pub word : Text
  pub others : List Text
  pub are : words text ≡ word ∷ others

pub has_word : (text : Text) → 0 < length text → BeginsWell text → HasWord text
has_word [] some h = absurd (omega (arith, some))
has_word (byte ∷ text) some h = by_split (slice_split is_space text) refl
  where
    by_split : (parts : List Text) → slice_split is_space text ≡ parts → HasWord (byte ∷ text)
    by_split [] e = record {
      word = byte ∷ [];
      others = [];
      are = ap (λ (b : Bool). filter is_some_word (cond b ([] ∷ slice_split is_space text) (onto_first byte (slice_split is_space text)))) h
          ∙ ap (λ (ps : List Text). filter is_some_word (onto_first byte ps)) e ∙ keeps_word (byte ∷ []) [] (omega arith);
    }
    by_split (part ∷ parts) e = record {
      word = byte ∷ part;
      others = filter is_some_word parts;
      are = ap (λ (b : Bool). filter is_some_word (cond b ([] ∷ slice_split is_space text) (onto_first byte (slice_split is_space text)))) h
          ∙ ap (λ (ps : List Text). filter is_some_word (onto_first byte ps)) e ∙ keeps_word (byte ∷ part) parts (omega arith);
    }
