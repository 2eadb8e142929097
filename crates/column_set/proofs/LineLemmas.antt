-- The lines of a body with the first one cut off, and, line by line, the query and the error for which it is refused.
use Rattle.std.proofs.Common.{◌≡◌, ◌<◌, ◌≤◌, ◌+◌, ◌∙◌, ℕ, zero, suc, Bool, List, [], ◌∷◌, ◌++◌, Option, length, get_or, Some, None, true, false, refl, ap, sym, arith, inl, inr, drop, take, suc-add, subst, length-drop}
use Rattle.std.specs.Prelude.{◌==◌, ◌↔◌, nat_lt, position, MatchOption}
use Rattle.std.specs.List.{position_or_len}
use Rattle.std.specs.Str.{IsCharBoundary, IsUtf8, is_utf8}
use Rattle.std.proofs.lemmas.Bool.{cases_Bool, eqb-true, false≢true, ltb-false, ltb-true}
use Rattle.std.proofs.lemmas.List.{take-append-drop}
use Rattle.std.proofs.lemmas.List.Quantifiers.{position-Some}
use Rattle.std.proofs.lemmas.List.Sums.{fails_before_first, passes_at_first}
use Rattle.std.proofs.lemmas.Option.{same_Some}
use Rattle.std.proofs.lemmas.Str.{IsCharBoundary-after_ascii, IsCharBoundary-before_ascii, IsCharBoundary-from_drop, IsCharBoundary-from_take, IsUtf8-append, IsUtf8-drop, IsUtf8-from_ascii, IsUtf8-take, is_utf8-from_IsUtf8}
use Rattle.std.proofs.lemmas.Str.Ascii.{IsAscii-cons, IsAscii-nil}
use Rattle.std.proofs.Math.Seq.{drop-cons}
use Rattle.memchr.specs.Find.{IsFirstByte, first_of, places}
use Rattle.memchr.proofs.lemmas.ValueLemmas.{IsFirstByte-value}
use Rattle.lake_model.specs.declared.QueryRefused.TheVariants as query
use Rattle.lake_model.specs.Texts.{Text, Lines, lines_with, lines_of, last_line, all_lines}
use Rattle.lake_model.specs.Queries.{line_fault}

pub no_lines : all_lines [] ≡ []
unfolding lines_of
no_lines = refl

-- the index of the first line feed, or the length of the text
abbrev first_feed : Text → ℕ
first_feed text = position_or_len (λ byte. byte == 0x0A) text

abbrev lines_behind : ℕ → Text → Lines
lines_behind at text = lines_of (drop (at + 1) text)

-- the bytes before the first line feed are a line, and the other lines are those of the bytes after it
first_line : (text : Text) → first_feed text < length text → lines_of text ≡ lines_with (take (first_feed text) text ∷ (lines_behind (first_feed text) text).ended) (lines_behind (first_feed text) text).rest
unfolding lines_of
first_line [] h = absurd (omega arith)
first_line (byte ∷ text) h =
    elim (cases_Bool (byte == 0x0A)) [
      | inl feed ↦ rw feed refl
      | inr none ↦
          let shorter = rw none at h in
          let inner : first_feed text < length text = omega (arith, shorter) in
          let more : 1 + first_feed text ≡ suc (first_feed text) = omega arith in
          rw (none, first_line text inner, more, suc-add (first_feed text) 1) refl
    ]

-- a text without a line feed ends no line
last_line_only : (text : Text) → length text ≤ first_feed text → lines_of text ≡ lines_with [] text
unfolding lines_of
last_line_only [] h = refl
last_line_only (byte ∷ text) h =
    elim (cases_Bool (byte == 0x0A)) [
      | inl feed ↦ let none = rw feed at h in absurd (omega (arith, none))
      | inr none ↦
          let shorter = rw none at h in
          let inner : length text ≤ first_feed text = omega (arith, shorter) in
          rw (none, last_line_only text inner) refl
    ]

pub all_lines-feed : (text : Text) (at : ℕ) → position (λ byte. byte == 0x0A) text ≡ Some at → all_lines text ≡ take at text ∷ all_lines (drop (at + 1) text)
all_lines-feed text at e =
    elim (cases_Bool (nat_lt (first_feed text) (length text))) [
      | inl within ↦
          let here : first_feed text ≡ at = same_Some _ _ (rw within at e) in
          let first = first_line text (ltb-true (first_feed text) (length text) within) in
          subst (λ (n : ℕ). all_lines text ≡ take n text ∷ all_lines (drop (n + 1) text)) here (rw first refl)
      | inr past ↦ cc (rw past at e)
    ]

pub all_lines-no_feed : (text : Text) → 0 < length text → position (λ byte. byte == 0x0A) text ≡ None → all_lines text ≡ text ∷ all_lines []
unfolding lines_of
all_lines-no_feed [] h e = absurd (omega arith)
all_lines-no_feed (byte ∷ text) h e =
    elim (cases_Bool (nat_lt (first_feed (byte ∷ text)) (length (byte ∷ text)))) [
      | inl within ↦ cc (rw within at e)
      | inr past ↦ let last = last_line_only (byte ∷ text) (ltb-false (first_feed (byte ∷ text)) (length (byte ∷ text)) past) in
          ap (λ (lines : Lines). lines.ended ++ last_line lines.rest) last
    ]

pub line_fault-text : (n : ℕ) (line : Text) (lines : List Text) → is_utf8 line ≡ true → line_fault n (line ∷ lines) ≡ line_fault (n + 1) lines
unfolding line_fault
line_fault-text n line lines e = rw e refl

pub line_fault-other : (n : ℕ) (line : Text) (lines : List Text) → is_utf8 line ≡ false → line_fault n (line ∷ lines) ≡ Some (query.NotUtf8 n)
unfolding line_fault
line_fault-other n line lines e = rw e refl

pub line_fault-end : (n : ℕ) → line_fault n [] ≡ None
unfolding line_fault
line_fault-end n = refl

-- ---- the first line feed, among the places of all

first_is_first : (test : ℕ → Bool) (text : Text) → IsFirstByte test text (position test text)
first_is_first test text =
    elim (cases_Bool (nat_lt (position_or_len test text) (length text))) [
      | inl within ↦
          let inside = ltb-true (position_or_len test text) (length text) within in
          rw within (
            record { low = omega arith; high = inside; before = λ k low high passes. false≢true (sym (fails_before_first test text k 0 high) ∙ passes) },
            passes_at_first test text 0 inside,
          )
      | inr past ↦
          let outside = ltb-false (position_or_len test text) (length text) past in
          rw past (λ k low high passes. false≢true (sym (fails_before_first test text k 0 (omega (arith, outside, high))) ∙ passes))
    ]

-- what the first step through these places gives
pub first_place : (test : ℕ → Bool) (text all left : List ℕ) (r : Option ℕ) → all ≡ places test text → MatchOption r ((all ≡ []) × (left ≡ [])) (λ at. all ≡ at ∷ left) → r ≡ position test text
unfolding first_of
first_place test text all left None e h = sym (IsFirstByte-value test text (position test text) (first_is_first test text) ∙ ap first_of (sym e ∙ h.0))
first_place test text all left (Some at) e h = sym (IsFirstByte-value test text (position test text) (first_is_first test text) ∙ ap first_of (sym e ∙ h))

-- ---- texts cut at line feeds

feed_is_text : IsUtf8 (0x0A ∷ [])
feed_is_text = IsUtf8-from_ascii (0x0A ∷ []) (IsAscii-cons 0x0A [] (omega arith) IsAscii-nil)

feed_here : (text : Text) (at : ℕ) → at < length text → get_or text at 0 ≡ 0x0A → drop at text ≡ 0x0A ∷ drop (at + 1) text
feed_here text at h e =
    let next : suc at ≡ at + 1 = omega arith in
    drop-cons text at 0 h ∙ ap (λ (byte : ℕ). byte ∷ drop (suc at) text) e ∙ ap (λ (k : ℕ). 0x0A ∷ drop k text) next

-- a line feed is a whole character, so that the bytes on both sides of it are texts where the whole is one
pub text_cut : (text : Text) (at : ℕ) → position (λ byte. byte == 0x0A) text ≡ Some at → IsUtf8 text ↔ (IsUtf8 (take at text) × IsUtf8 (drop (at + 1) text))
text_cut text at e =
    let found = position-Some (λ byte. byte == 0x0A) text at 0 e in
    let feed : get_or text at 0 ≡ 0x0A = eqb-true (get_or text at 0) 0x0A found.1 in
    let ascii : get_or text at 0 < 128 = omega (arith, feed) in
    let behind = feed_here text at found.0 feed in (
      λ whole. (
        IsUtf8-take text at whole (IsCharBoundary-before_ascii text at found.0 ascii),
        IsUtf8-drop text (at + 1) whole (IsCharBoundary-after_ascii text at whole found.0 ascii),
      ),
      λ parts.
          let rest = subst IsUtf8 (sym behind) (IsUtf8-append (0x0A ∷ []) (drop (at + 1) text) feed_is_text parts.1) in
          subst IsUtf8 (take-append-drop at text) (IsUtf8-append (take at text) (drop at text) parts.0 rest),
    )

-- a text may be cut where its first line ends and where the next one begins
pub text_ends : (text bytes : Text) (end next : ℕ) → bytes ≡ text → IsUtf8 bytes → (end ≤ next) × (next ≤ length bytes) → IsUtf8 bytes ↔ (IsUtf8 (take end bytes) × IsUtf8 (drop next bytes))
    → IsCharBoundary text end × IsCharBoundary text next
text_ends text bytes end next is whole within texts =
    let parts = texts.0 whole in
    let at_end = IsCharBoundary-from_take bytes end whole (omega (arith, within.0, within.1)) parts.0 in
    let at_next = IsCharBoundary-from_drop bytes next within.1 parts.1 in
    subst (λ (t : Text). IsCharBoundary t end × IsCharBoundary t next) is (at_end, at_next)

sound_step : (room n : ℕ) (text : Text) → 0 < length text → length text ≤ suc room → IsUtf8 text
    → ((m : ℕ) (rest : Text) → length rest ≤ room → IsUtf8 rest → line_fault m (all_lines rest) ≡ None)
    → (found : Option ℕ) → position (λ byte. byte == 0x0A) text ≡ found → line_fault n (all_lines text) ≡ None
sound_step room n text some within whole shorter None e =
    ap (line_fault n) (all_lines-no_feed text some e ∙ ap (λ lines. text ∷ lines) no_lines)
    ∙ line_fault-text n text [] (is_utf8-from_IsUtf8 text whole) ∙ line_fault-end (n + 1)
sound_step room n text some within whole shorter (Some at) e =
    let parts = (text_cut text at e).0 whole in
    let rest = drop (at + 1) text in
    ap (line_fault n) (all_lines-feed text at e)
    ∙ line_fault-text n (take at text) (all_lines rest) (is_utf8-from_IsUtf8 (take at text) parts.0)
    ∙ shorter (n + 1) rest (omega (arith, length-drop (at + 1) text)) parts.1

sound_within : (room n : ℕ) (text : Text) → length text ≤ room → IsUtf8 text → line_fault n (all_lines text) ≡ None
sound_within room n [] h whole = ap (line_fault n) no_lines ∙ line_fault-end n
sound_within zero n (byte ∷ text) h whole = absurd (omega arith)
sound_within (suc room) n (byte ∷ text) h whole =
    sound_step room n (byte ∷ text) (omega arith) h whole (λ m rest within part. sound_within room m rest within part) (position (λ b. b == 0x0A) (byte ∷ text)) refl

-- no line of a text is at fault
pub text_sound : (n : ℕ) (text : Text) → IsUtf8 text → line_fault n (all_lines text) ≡ None
text_sound n text whole = sound_within (length text) n text (omega arith) whole
