-- Where the first line of a text ends.
use Rattle.std.proofs.Common.{◌≡◌, ap, sym, ◌∙◌, ℕ, zero, suc, ◌+◌, ◌<◌, ◌≤◌, [], ◌∷◌, ◌++◌, length, take, drop, get_or, true, subst, arith, append_assoc}
use Rattle.std.specs.Prelude.{◌==◌, Option, Some, None, IfSome}
use Rattle.std.proofs.lemmas.Bool.{eqb-true, false_from_ne_true}
use Rattle.std.proofs.lemmas.List.{drop_more, get_or-drop, length-drop, length-take, take-append-drop, take-take}
use Rattle.std.proofs.Math.Seq.{drop-append-le, take-add}
use Rattle.lake_model.specs.Texts.{Text}
use Rattle.script_model.specs.Words.{NoFeed}
use Rattle.script_text.specs.Inputs.{EndsLine}

pub no_feed_join : (xs ys : Text) → NoFeed xs → NoFeed ys → NoFeed (xs ++ ys)
no_feed_join [] ys h k = k
no_feed_join (x ∷ xs) ys h k = (h.0, no_feed_join xs ys h.1 k)

no_feed_before : (text : Text) (n : ℕ) → n ≤ length text → ((k : ℕ) → k < n → (get_or text k 0 == 0x0A) ≡ true → ⊥) → NoFeed (take n text)
no_feed_before text zero h none = tt
no_feed_before [] (suc n) h none = tt
no_feed_before (byte ∷ text) (suc n) h none =
    (false_from_ne_true (byte == 0x0A) (none 0 (omega arith)), no_feed_before text n (omega (arith, h)) (λ k lt e. none (suc k) (omega (arith, lt)) e))

no_feed_front : (text : Text) (n : ℕ) → NoFeed text → NoFeed (take n text)
no_feed_front text zero h = tt
no_feed_front [] (suc n) h = tt
no_feed_front (byte ∷ text) (suc n) h = (h.0, no_feed_front text n h.1)

-- A text in which none of the `n` bytes after the first `from` is a line feed.
pub no_feed_on : (text : Text) (from n : ℕ) → from + n ≤ length text → NoFeed (take from text)
    → ((k : ℕ) → k < n → (get_or (drop from text) k 0 == 0x0A) ≡ true → ⊥) → NoFeed (take (from + n) text)
no_feed_on text from n within before none =
    let size : n ≤ length (drop from text) = omega (arith, within, length-drop from text) in
    subst NoFeed (sym (take-add from n text)) (no_feed_join (take from text) (take n (drop from text)) before (no_feed_before (drop from text) n size none))

-- A text whose first line feed is here.
pub ends_line : (text : Text) (from at : ℕ) → from + at < length text → NoFeed (take (from + at) text) → (get_or (drop from text) at 0 == 0x0A) ≡ true → EndsLine text (from + at)
ends_line text from at within whole feed =
    let byte : get_or text (from + at) 0 ≡ 0x0A = sym (get_or-drop from text at 0) ∙ eqb-true (get_or (drop from text) at 0) 0x0A feed in
    record {
      within = within;
      whole = whole;
      cut = sym (take-append-drop (from + at) text)
          ∙ ap (λ (rest : Text). take (from + at) text ++ rest) (drop_more text (from + at) 0 within)
          ∙ ap (λ (b : ℕ). take (from + at) text ++ b ∷ drop (from + at + 1) text) byte;
    }

-- The first bytes of a text without a line feed have none.
pub no_feed_less : (held : Text) (searched few most : ℕ) → few ≤ searched → few ≤ most → NoFeed (take searched held) → NoFeed (take few (take most held))
no_feed_less held searched few most h k none =
    subst NoFeed (take-take few searched held h ∙ sym (take-take few most held k)) (no_feed_front (take searched held) few none)

-- A line that ends in the first bytes.
pub ends_in : (held : Text) (most at : ℕ) → EndsLine (take most held) at → EndsLine held at × (at < most)
ends_in held most at line =
    let below : at < most = omega (arith, line.within, length-take most held) in
    let few : at ≤ most = omega (arith, below) in
    let size : at + 1 ≤ length (take most held) = omega (arith, line.within) in
    let front : take at (take most held) ≡ take at held = take-take at most held few in
    let behind : drop (at + 1) (take most held) ++ drop most held ≡ drop (at + 1) held =
    sym (drop-append-le (at + 1) (take most held) (drop most held) size) ∙ ap (drop (at + 1)) (take-append-drop most held) in (
      record {
        within = omega (arith, line.within, length-take most held);
        whole = subst NoFeed front line.whole;
        cut = sym (take-append-drop most held) ∙ ap (λ (xs : Text). xs ++ drop most held) line.cut
            ∙ append_assoc (take at (take most held)) (0x0A ∷ drop (at + 1) (take most held)) (drop most held)
            ∙ ap (λ (xs : Text). xs ++ 0x0A ∷ (drop (at + 1) (take most held) ++ drop most held)) front
            ∙ ap (λ (xs : Text). take at held ++ 0x0A ∷ xs) behind;
      },
      below,
    )

pub found_in : (held now : Text) (few most : ℕ) (found : Option ℕ) → held ≡ now → few ≤ most → IfSome found (EndsLine (take few held)) → IfSome found (λ at. EndsLine now at × (at < most))
found_in held now few most None e h line = tt
found_in held now few most (Some at) e h line =
    let ends = ends_in held few at line in
    (subst (λ (text : Text). EndsLine text at) e ends.0, omega (arith, ends.1, h))
