-- Of two lists of distinct texts, as many of the first are in the second as of the second in the first.
use Rattle.std.proofs.Common.{◌≡◌, refl, ap, sym, ◌∙◌, ◌+◌, List, [], ◌∷◌, Bool, true, false, ◌||◌, arith}
use Rattle.std.specs.Prelude.{bytes_eq, count_by}
use Rattle.std.specs.List.{IsDistinct}
use Rattle.std.proofs.lemmas.Slice.Eq.{bytes_eq-Decides}
use Rattle.lake_model.specs.Texts.{Text}
use Rattle.lake_model.specs.Tables.{has_key, overlap}
use Rattle.list_laws.proofs.TestLemmas.{count-cons, once}
use Rattle.list_laws.proofs.ListLemmas.{any_none}

-- the test of two texts, with its arguments swapped
pub flipped : (a b : Text) (r : Bool) → bytes_eq a b ≡ r → bytes_eq b a ≡ r
flipped a b true e = (bytes_eq-Decides b a).1 (sym ((bytes_eq-Decides a b).0 e))
flipped a b false e = other (bytes_eq b a) refl
  where
    other : (r : Bool) → bytes_eq b a ≡ r → r ≡ false
    other true f = let t : bytes_eq a b ≡ true = (bytes_eq-Decides a b).1 (sym ((bytes_eq-Decides b a).0 f)) in let g : true ≡ false = sym t ∙ e in cc
    other false f = refl

-- how often a text occurs in a list of distinct texts
count_once : (a : Text) (xs : List Text) → IsDistinct bytes_eq xs → count_by (λ x. bytes_eq x a) xs ≡ once (has_key xs a)
unfolding IsDistinct
count_once a [] d = refl
count_once a (x ∷ xs) d = by (count_once a xs d.1) (bytes_eq x a) refl
  where
    by : count_by (λ y. bytes_eq y a) xs ≡ once (has_key xs a) → (b : Bool) → bytes_eq x a ≡ b → count_by (λ y. bytes_eq y a) (x ∷ xs) ≡ once (bytes_eq a x || has_key xs a)
    by rest true e =
        let gone : has_key xs a ≡ false = ap (has_key xs) (sym ((bytes_eq-Decides x a).0 e)) ∙ any_none (bytes_eq x) xs d.0 in
        omega (arith, count-cons (λ y. bytes_eq y a) x xs, ap once e, rest, ap once gone, ap (λ b. once (b || has_key xs a)) (flipped x a true e))
    by rest false e = omega (arith, count-cons (λ y. bytes_eq y a) x xs, ap once e, rest, ap (λ b. once (b || has_key xs a)) (flipped x a false e))

overlap_none : (ys : List Text) → overlap ys [] ≡ 0
overlap_none [] = refl
overlap_none (y ∷ ys) = omega (arith, count-cons (has_key []) y ys, overlap_none ys)

-- one more text, which is not there already
overlap_more : (a : Text) (xs ys : List Text) → has_key xs a ≡ false → overlap ys (a ∷ xs) ≡ count_by (λ y. bytes_eq y a) ys + overlap ys xs
overlap_more a xs [] h = refl
overlap_more a xs (y ∷ ys) h = by (overlap_more a xs ys h) (bytes_eq y a) refl
  where
    by : overlap ys (a ∷ xs) ≡ count_by (λ y. bytes_eq y a) ys + overlap ys xs → (b : Bool) → bytes_eq y a ≡ b → overlap (y ∷ ys) (a ∷ xs) ≡ count_by (λ y. bytes_eq y a) (y ∷ ys) + overlap (y ∷ ys) xs
    by rest true e =
        let gone : has_key xs y ≡ false = ap (has_key xs) ((bytes_eq-Decides y a).0 e) ∙ h in
        omega (arith, count-cons (has_key (a ∷ xs)) y ys, count-cons (λ y. bytes_eq y a) y ys, count-cons (has_key xs) y ys, ap (λ b. once (b || has_key xs y)) e, ap once e, ap once gone, rest)
    by rest false e = omega (arith, count-cons (has_key (a ∷ xs)) y ys, count-cons (λ y. bytes_eq y a) y ys, count-cons (has_key xs) y ys, ap (λ b. once (b || has_key xs y)) e, ap once e, rest)

pub overlap_both_ways : (xs ys : List Text) → IsDistinct bytes_eq xs → IsDistinct bytes_eq ys → overlap xs ys ≡ overlap ys xs
unfolding IsDistinct
overlap_both_ways [] ys d e = sym (overlap_none ys)
overlap_both_ways (a ∷ xs) ys d e = omega (arith, count-cons (has_key ys) a xs, overlap_more a xs ys (any_none (bytes_eq a) xs d.0), count_once a ys e, overlap_both_ways xs ys d.1 e)
