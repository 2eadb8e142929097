-- What a search finds, and when it finds nothing.
use Rattle.std.proofs.Common.{◌≡◌, refl, ap, sym, ◌∙◌, subst, ℕ, ◌≤◌, List, [], ◌∷◌, ◌++◌, Bool, true, false, cond, Option, Some, None, is_some, arith}
use Rattle.std.specs.Prelude.{find, option_map, nat_lt}
use Rattle.std.specs.List.{AllByRecursion}
use Rattle.std.proofs.lemmas.Bool.Decides.{nat_tests}

pub le_from : (a b : ℕ) → nat_lt a b ≡ false → b ≤ a
le_from a b h = grind (arith, nat_tests)

-- what a search finds
pub open_by : {X : Type 0} (b : Bool) (x : X) (rest : Option X) → cond b (Some x) rest ≡ None → (b ≡ false) × (rest ≡ None)
open_by true x rest h = cc
open_by false x rest h = (refl, h)

pub map_none : {X Y : Type 0} (f : X → Y) (o : Option X) → option_map f o ≡ None → o ≡ None
map_none f None h = refl
map_none f (Some x) h = cc

pub map_some : {X Y : Type 0} (f : X → Y) (o : Option X) (y : Y) → option_map f o ≡ Some y → (x : X) × (o ≡ Some x) × (f x ≡ y)
map_some f None y h = cc
map_some f (Some x) y h = let same : f x ≡ y = cc in (x, refl, same)

found_by : {X : Type 0} (P : X → Type 0) (b : Bool) (x found : X) (rest : Option X) → (b ≡ true → P x) → (rest ≡ Some found → P found) → cond b (Some x) rest ≡ Some found → P found
found_by P true x found rest h k e = let same : x ≡ found = cc in subst P same (h refl)
found_by P false x found rest h k e = k e

-- what is found is an element, and passes the test
pub find_all : {X : Type 0} (P : X → Type 0) (p : X → Bool) (xs : List X) (found : X) → AllByRecursion P xs → find p xs ≡ Some found → P found
find_all P p [] found h e = cc
find_all P p (x ∷ xs) found h e = found_by P (p x) x found (find p xs) (λ b. h.0) (find_all P p xs found h.1) e

pub find_passed : {X : Type 0} (p : X → Bool) (xs : List X) (found : X) → find p xs ≡ Some found → p found ≡ true
find_passed p [] found e = cc
find_passed p (x ∷ xs) found e = found_by (λ x. p x ≡ true) (p x) x found (find p xs) (λ b. b) (find_passed p xs found) e

find_last : {X : Type 0} (p : X → Bool) (xs : List X) (x : X) → find p xs ≡ None → find p (xs ++ x ∷ []) ≡ cond (p x) (Some x) None
find_last p [] x h = refl
find_last p (y ∷ ys) x h = let o = open_by (p y) y (find p ys) h in ap (λ (b : Bool). cond b (Some y) (find p (ys ++ x ∷ []))) o.0 ∙ find_last p ys x o.1

find_before : {X : Type 0} (p : X → Bool) (xs : List X) (x : X) → p x ≡ false → find p (xs ++ x ∷ []) ≡ find p xs
find_before p [] x h = ap (λ (b : Bool). cond b (Some x) None) h
find_before p (y ∷ ys) x h = ap (cond (p y) (Some y)) (find_before p ys x h)

-- one more element, if no earlier one passes when it does
pub find_push : {X : Type 0} (p : X → Bool) (xs : List X) (x : X) → (p x ≡ true → find p xs ≡ None) → find p (xs ++ x ∷ []) ≡ cond (p x) (Some x) (find p xs)
find_push p xs x h = by (p x) refl
  where
    by : (b : Bool) → p x ≡ b → find p (xs ++ x ∷ []) ≡ cond (p x) (Some x) (find p xs)
    by true e = find_last p xs x (h e) ∙ ap (λ (b : Bool). cond b (Some x) None) e ∙ sym (ap (λ (b : Bool). cond b (Some x) (find p xs)) e)
    by false e = find_before p xs x e ∙ sym (ap (λ (b : Bool). cond b (Some x) (find p xs)) e)

pub none_from : {X : Type 0} (o : Option X) → is_some o ≡ false → o ≡ None
none_from None h = refl
none_from (Some x) h = cc
