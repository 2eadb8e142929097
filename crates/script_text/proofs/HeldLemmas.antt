-- The bytes between two places.
use Rattle.std.proofs.Common.{◌≡◌, ap, sym, ◌∙◌, ℕ, ◌+◌, ◌-◌, ◌≤◌, List, ◌++◌, length, take, drop, arith, subst}
use Rattle.std.specs.Prelude.{OnErr, Result, Ok, Err, IfNone, Option, None, Some}
use Rattle.std.proofs.lemmas.List.{drop-drop, drop-take, length-drop, length-take, take-append-le}
use Rattle.std.proofs.Math.Seq.{take-add}
use Rattle.script_model.specs.Words.{NoFeed}
use Rattle.script_text.specs.Inputs.{IsHeld}

-- they are what follows the first place in the bytes up to the second
held_is : (start filled : ℕ) (bytes : List ℕ) → start ≤ filled → take (filled - start) (drop start bytes) ≡ drop start (take filled bytes)
held_is start filled bytes h =
    let e : start + (filled - start) ≡ filled = omega (arith, h) in
    sym (drop-take start (filled - start) bytes) ∙ ap (λ (n : ℕ). drop start (take n bytes)) e

-- If the first bytes stay the same, so do they.
pub held_same : (start filled : ℕ) (bytes now : List ℕ) → start ≤ filled → take filled now ≡ take filled bytes
    → take (filled - start) (drop start now) ≡ take (filled - start) (drop start bytes)
held_same start filled bytes now h e = held_is start filled now h ∙ ap (drop start) e ∙ sym (held_is start filled bytes h)

-- More bytes follow them.
pub held_more : (start filled count : ℕ) (bytes now : List ℕ) → start ≤ filled → take filled now ≡ take filled bytes
    → take (filled + count - start) (drop start now) ≡ take (filled - start) (drop start bytes) ++ take count (drop filled now)
held_more start filled count bytes now h e =
    let size : filled + count - start ≡ filled - start + count = omega (arith, h) in
    let behind : start + (filled - start) ≡ filled = omega (arith, h) in
    ap (λ (n : ℕ). take n (drop start now)) size ∙ take-add (filled - start) count (drop start now)
    ∙ ap (λ (xs : List ℕ). xs ++ take count (drop (filled - start) (drop start now))) (held_same start filled bytes now h e)
    ∙ ap (λ (xs : List ℕ). take (filled - start) (drop start bytes) ++ take count xs) (drop-drop (filled - start) start now ∙ ap (λ (n : ℕ). drop n now) behind)

-- The first of them are used.
pub held_less : (start filled count : ℕ) (bytes : List ℕ) → start + count ≤ filled
    → take (filled - (start + count)) (drop (start + count) bytes) ≡ drop count (take (filled - start) (drop start bytes))
held_less start filled count bytes h =
    let size : count + (filled - (start + count)) ≡ filled - start = omega (arith, h) in
    ap (take (filled - (start + count))) (sym (drop-drop count start bytes)) ∙ sym (drop-take count (filled - (start + count)) (drop start bytes))
    ∙ ap (λ (n : ℕ). drop count (take n (drop start bytes))) size

-- They are still held if the first bytes stay the same.
pub held_kept : (start filled searched : ℕ) (bytes now : List ℕ) → IsHeld start filled searched bytes → take filled now ≡ take filled bytes → filled ≤ length now → IsHeld start filled searched now
held_kept start filled searched bytes now h e within = record {
  ordered = h.ordered;
  within = within;
  searched_none = subst (λ (xs : List ℕ). NoFeed (take searched xs)) (sym (held_same start filled bytes now (omega (arith, h.ordered)) e)) h.searched_none;
}

-- And they are with more bytes after them.
pub held_on : (start filled searched count : ℕ) (bytes now : List ℕ) → IsHeld start filled searched bytes → take filled now ≡ take filled bytes → filled + count ≤ length now → IsHeld start (filled + count) searched now
held_on start filled searched count bytes now h e within =
    let few : searched ≤ length (take (filled - start) (drop start bytes)) = omega (arith, h.ordered, h.within, length-take (filled - start) (drop start bytes), length-drop start bytes) in
    let first : take searched (take (filled + count - start) (drop start now)) ≡ take searched (take (filled - start) (drop start bytes)) =
    ap (take searched) (held_more start filled count bytes now (omega (arith, h.ordered)) e) ∙ take-append-le searched (take (filled - start) (drop start bytes)) (take count (drop filled now)) few in
    record {
      ordered = omega (arith, h.ordered);
      within = within;
      searched_none = subst NoFeed (sym first) h.searched_none;
    }

pub on_err : {T E : Type 0} (P : Type 0) (result : Result T E) → P → OnErr result P
on_err P (Ok x) p = tt
on_err P (Err e) p = p

pub if_none : {T : Type 0} (P : Type 0) (result : Option T) → P → IfNone result P
if_none P None p = p
if_none P (Some x) p = tt
