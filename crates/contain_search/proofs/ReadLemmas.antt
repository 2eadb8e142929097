-- Lists that grow by a piece for each element.
use Rattle.std.proofs.Common.{◌≡◌, ap, sym, ◌∙◌, ℕ, ◌+◌, ◌<◌, List, [], ◌∷◌, ◌++◌, Bool, cond, length, map, take, get_or, append_assoc, append-nil}
use Rattle.std.specs.List.{filter, flat_map}
use Rattle.std.proofs.lemmas.List.{map-append, take_more}
use Rattle.std.proofs.lemmas.List.Concat.{flat_map-append}
use Rattle.std.proofs.lemmas.List.Elements.{filter-append}

flat_map_more : {X Y : Type 0} (f : X → List Y) (xs : List X) (i : ℕ) (d : X) → i < length xs → flat_map f (take (i + 1) xs) ≡ flat_map f (take i xs) ++ f (get_or xs i d)
flat_map_more f xs i d h =
    ap (flat_map f) (take_more xs i d h) ∙ flat_map-append f (take i xs) (get_or xs i d ∷ []) ∙ ap (λ us. flat_map f (take i xs) ++ us) (append-nil (f (get_or xs i d)))

pub piece_more : {X Y : Type 0} (f : X → List Y) (xs : List X) (i : ℕ) (d : X) (old now news : List Y) → i < length xs → now ≡ old ++ flat_map f (take i xs) → news ≡ now ++ f (get_or xs i d) → news ≡ old ++ flat_map f (take (i + 1) xs)
piece_more f xs i d old now news h e g =
    g ∙ ap (λ us. us ++ f (get_or xs i d)) e ∙ append_assoc old (flat_map f (take i xs)) (f (get_or xs i d)) ∙ ap (λ us. old ++ us) (sym (flat_map_more f xs i d h))

pub mapped_more : {X Y : Type 0} (f : X → Y) (xs : List X) (i : ℕ) (d : X) (old now news : List Y) → i < length xs → now ≡ old ++ map f (take i xs) → news ≡ now ++ f (get_or xs i d) ∷ [] → news ≡ old ++ map f (take (i + 1) xs)
mapped_more f xs i d old now news h e g =
    g ∙ ap (λ us. us ++ f (get_or xs i d) ∷ []) e ∙ append_assoc old (map f (take i xs)) (f (get_or xs i d) ∷ [])
    ∙ ap (λ us. old ++ us) (sym (ap (map f) (take_more xs i d h) ∙ map-append f (take i xs) (get_or xs i d ∷ [])))

-- one more of those that pass a test
pub passed_more : {X : Type 0} (p : X → Bool) (xs : List X) (i : ℕ) (d : X) → i < length xs → filter p (take (i + 1) xs) ≡ filter p (take i xs) ++ cond (p (get_or xs i d)) (get_or xs i d ∷ []) []
passed_more p xs i d h = ap (filter p) (take_more xs i d h) ∙ filter-append p (take i xs) (get_or xs i d ∷ [])
