-- The lines of a list whose items are numbered from 1, item by item.
use Rattle.std.proofs.Common.{◌≡◌, ◌∙◌, ◌<◌, ◌+◌, ◌++◌, ◌∷◌, [], ap, sym, List, ℕ, length, get_or, take, map, flat_map, arith, append-nil, append_assoc, length-take-le}
use Rattle.std.proofs.lemmas.List.{take_more}
use Rattle.std.specs.List.{enumerate_from}
use Rattle.lake_model.specs.Texts.{Text}

pub enumerate_push : {X : Type 0} → (n : ℕ) (xs : List X) (x : X) → enumerate_from n (xs ++ x ∷ []) ≡ enumerate_from n xs ++ (n + length xs, x) ∷ []
enumerate_push n [] x =
    let number : n ≡ n + 0 = omega arith in
    ap (λ (k : ℕ). (k, x) ∷ []) number
enumerate_push n (y ∷ ys) x =
    let number : (n + 1) + length ys ≡ n + length (y ∷ ys) = omega arith in
    ap (λ rest. (n, y) ∷ rest) (enumerate_push (n + 1) ys x ∙ ap (λ (k : ℕ). enumerate_from (n + 1) ys ++ (k, x) ∷ []) number)

pub lines_push : {X : Type 0} → (text : X → Text) (line : Text → Text) (xs : List X) (x : X)
    → flat_map line (map text (xs ++ x ∷ [])) ≡ flat_map line (map text xs) ++ line (text x)
lines_push text line [] x = append-nil (line (text x))
lines_push text line (y ∷ ys) x =
    ap (λ (rest : Text). line (text y) ++ rest) (lines_push text line ys x)
    ∙ sym (append_assoc (line (text y)) (flat_map line (map text ys)) (line (text x)))

-- one more line, of the next item
pub numbered_more : {X : Type 0} → (text : ℕ × X → Text) (line : Text → Text) (start before after : Text) (xs : List X) (i : ℕ) (x : X)
    → i < length xs → x ≡ get_or xs i x
    → before ≡ start ++ flat_map line (map text (enumerate_from 1 (take i xs)))
    → after ≡ before ++ line (text (i + 1, x))
    → after ≡ start ++ flat_map line (map text (enumerate_from 1 (take (i + 1) xs)))
numbered_more {X} text line start before after xs i x within same earlier added =
    let so_far = enumerate_from 1 (take i xs) in
    let number : 1 + length (take i xs) ≡ i + 1 = omega (arith, length-take-le i xs (omega arith)) in
    let item : take (i + 1) xs ≡ take i xs ++ x ∷ [] = take_more xs i x within ∙ ap (λ (y : X). take i xs ++ y ∷ []) (sym same) in
    let taken : enumerate_from 1 (take (i + 1) xs) ≡ so_far ++ (i + 1, x) ∷ [] =
    ap (enumerate_from 1) item ∙ enumerate_push 1 (take i xs) x ∙ ap (λ (k : ℕ). so_far ++ (k, x) ∷ []) number in
    added
    ∙ ap (λ (t : Text). t ++ line (text (i + 1, x))) earlier
    ∙ append_assoc start (flat_map line (map text so_far)) (line (text (i + 1, x)))
    ∙ ap (λ (t : Text). start ++ t) (sym (lines_push text line so_far (i + 1, x)) ∙ ap (λ (es : List (ℕ × X)). flat_map line (map text es)) (sym taken))
