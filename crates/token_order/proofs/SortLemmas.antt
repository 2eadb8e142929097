-- Sorted keys, and keys that differ from those after them.
use Rattle.std.proofs.Common.{◌≡◌, refl, ap, sym, ◌∙◌, subst, ℕ, zero, suc, ◌+◌, ◌<◌, List, [], ◌∷◌, map, length, get_or, Bool, true, false, arith}
use Rattle.std.specs.Prelude.{bytes_eq}
use Rattle.std.specs.List.{AllByRecursion}
use Rattle.std.specs.List.Sorted.{IsSorted, IsSortedBy, IsSortedByKey}
use Rattle.std.specs.Cmp.{IsStrictWeakOrder}
use Rattle.std.specs.Cmp.Lexicographic.{slice_cmp}
use Rattle.std.specs.Ordering.{is_lt, nat_cmp, ordering_reverse}
use Rattle.std.specs.declared.cmp.Ordering.{Ordering}
use Rattle.std.specs.declared.cmp.Ordering.TheVariants.{Less, Equal, Greater}
use Rattle.std.proofs.lemmas.Cmp.{nat_list_cmp_total}
use Rattle.std.proofs.lemmas.List.{get_or-map, length-map}
use Rattle.std.proofs.lemmas.List.Elements.{recursion_from_All}
use Rattle.std.proofs.lemmas.List.Sorted.{ranks_by, sorted_far}
use Rattle.std.proofs.lemmas.Map.Lookups.{exact_bytes}
use Rattle.std.proofs.lemmas.Slice.Eq.{bytes_eq-Decides}
use Rattle.lake_model.specs.Texts.{Text}

-- the keys of what is sorted by them are sorted
pub sorted_map : {X K : Type 0} (R : K → K → Ordering) (key : X → K) (xs : List X) → IsSortedByKey key R xs → IsSorted R (map key xs)
sorted_map R key [] up k d low h = absurd (omega arith)
sorted_map R key (x ∷ xs) up k d low h =
    let long : k + 1 < length (x ∷ xs) = omega (arith, length-map (x ∷ xs) key) in
    let first = get_or-map key (x ∷ xs) k x d (omega arith) in
    let second = get_or-map key (x ∷ xs) (k + 1) x d long in
    ap (λ b. is_lt (R (get_or (map key (x ∷ xs)) (k + 1) d) b)) first ∙ ap (λ a. is_lt (R a (key (get_or (x ∷ xs) k x)))) second ∙ up k x low long

abbrev pub less : Text → Text → Bool
less a b = is_lt (slice_cmp nat_cmp a b)

-- no key is less than one before it
abbrev pub TextsRise : List Text → Type 0
TextsRise [] = Unit {0}
TextsRise (x ∷ xs) = AllByRecursion (λ y. less y x ≡ false) xs × TextsRise xs

order : IsStrictWeakOrder less
order = ranks_by nat_list_cmp_total (λ (x : Text). x)

tail_sorted : (x : Text) (xs : List Text) → IsSortedBy less (x ∷ xs) → IsSortedBy less xs
tail_sorted x xs up k d a b =
    let at : less (get_or (x ∷ xs) (suc k + 1) d) (get_or (x ∷ xs) (suc k) d) ≡ false = up (suc k) d (omega arith) (omega arith) in
    let e : suc k + 1 ≡ suc (k + 1) = omega arith in
    subst (λ (n : ℕ). less (get_or (x ∷ xs) n d) (get_or xs k d) ≡ false) e at

pub rises : (xs : List Text) → IsSorted (slice_cmp nat_cmp) xs → TextsRise xs
rises [] up = tt
rises (x ∷ xs) up =
    (recursion_from_All (λ y. less y x ≡ false) xs (λ k d b. sorted_far less order (x ∷ xs) up 0 (suc k) d (omega arith) (omega arith)), rises xs (tail_sorted x xs up))

pub sorted_from_rises : (xs : List Text) → TextsRise xs → IsSorted (slice_cmp nat_cmp) xs
sorted_from_rises [] r k d a b = absurd (omega arith)
sorted_from_rises (x ∷ []) r k d a b = absurd (omega arith)
sorted_from_rises (x ∷ y ∷ xs) r zero d a b = r.0.0
sorted_from_rises (x ∷ y ∷ xs) r (suc k) d a b =
    let e : suc k + 1 ≡ suc (k + 1) = omega arith in
    subst (λ (n : ℕ). less (get_or (x ∷ y ∷ xs) n d) (get_or (y ∷ xs) k d) ≡ false) (sym e) (sorted_from_rises (y ∷ xs) r.1 k d (omega arith) (omega arith))

level : (r : Ordering) → is_lt r ≡ false → is_lt (ordering_reverse r) ≡ false → r ≡ Equal
level Less n m = cc
level Equal n m = refl
level Greater n m = cc

same_text : (x y : Text) → less x y ≡ false → less y x ≡ false → x ≡ y
same_text x y n m = exact_bytes x y (level (slice_cmp nat_cmp x y) n (ap is_lt (sym (nat_list_cmp_total.antisymm y x)) ∙ m))

-- texts that differ do so in either order
pub differ_back : (a k : Text) → bytes_eq k a ≡ false → bytes_eq a k ≡ false
differ_back a k n = by (bytes_eq a k) refl
  where
    by : (b : Bool) → bytes_eq a k ≡ b → b ≡ false
    by false e = refl
    by true e = absurd (let f : bytes_eq k a ≡ true = (bytes_eq-Decides k a).1 (sym ((bytes_eq-Decides a k).0 e)) in let g : true ≡ false = sym f ∙ n in cc)

-- k comes after a and differs from it, so what comes after k differs from a
beyond : (a k y : Text) → less k a ≡ false → bytes_eq k a ≡ false → less y k ≡ false → bytes_eq a y ≡ false
beyond a k y up n h = by (bytes_eq a y) refl
  where
    by : (b : Bool) → bytes_eq a y ≡ b → b ≡ false
    by false e = refl
    by true e = absurd (
        let same : a ≡ y = (bytes_eq-Decides a y).0 e in
        let low : less a k ≡ false = ap (λ (z : Text). less z k) same ∙ h in
        let f : bytes_eq k a ≡ true = (bytes_eq-Decides k a).1 (same_text k a up low) in
        let g : true ≡ false = sym f ∙ n in cc
        )

pub beyond_all : (a k : Text) (ys : List Text) → less k a ≡ false → bytes_eq k a ≡ false → AllByRecursion (λ y. less y k ≡ false) ys → AllByRecursion (λ y. bytes_eq a y ≡ false) ys
beyond_all a k [] up n h = tt
beyond_all a k (y ∷ ys) up n h = (beyond a k y up n h.0, beyond_all a k ys up n h.1)
