-- Texts in a region that grows.
use Rattle.std.proofs.Common.{◌≡◌, refl, ap, sym, ◌∙◌, ℕ, ◌+◌, ◌<◌, List, [], ◌∷◌, ◌++◌, map, take, get_or, length, append_assoc}
use Rattle.std.specs.List.{AllByRecursion}
use Rattle.std.proofs.lemmas.List.{map-append, take_more}
use Rattle.text_region.specs.Spans.{IsSpan, KeepsSpans, text_at}
use Rattle.text_region.specs.Written.{Written}
use Rattle.text_region.specs.declared.region.Span.{Span}

pub still_stand : (old new : Written) (spans : List Span) → KeepsSpans old new → AllByRecursion (IsSpan old) spans → AllByRecursion (IsSpan new) spans
still_stand old new [] kept h = tt
still_stand old new (span ∷ spans) kept h = ((kept span h.0).0, still_stand old new spans kept h.1)

pub same_texts : (old new : Written) (spans : List Span) → KeepsSpans old new → AllByRecursion (IsSpan old) spans → map (text_at new) spans ≡ map (text_at old) spans
same_texts old new [] kept h = refl
same_texts old new (span ∷ spans) kept h = (λ j. (kept span h.0).1 j ∷ same_texts old new spans kept h.1 j)

-- one more element of a list, after others
pub mapped_more : {X Y : Type 0} (f : X → Y) (front : List Y) (xs : List X) (i : ℕ) (x : X) → i < length xs → x ≡ get_or xs i x → (front ++ map f (take i xs)) ++ f x ∷ [] ≡ front ++ map f (take (i + 1) xs)
mapped_more f front xs i x h e =
    append_assoc front (map f (take i xs)) (f x ∷ [])
    ∙ ap (λ ys. front ++ (map f (take i xs) ++ f ys ∷ [])) e
    ∙ ap (λ ys. front ++ ys) (sym (map-append f (take i xs) (get_or xs i x ∷ [])) ∙ ap (map f) (sym (take_more xs i x h)))
