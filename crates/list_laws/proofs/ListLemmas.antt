-- What holds of each element, filters, lists of distinct elements, strictly increasing numbers, and the results of searches.
use Rattle.std.proofs.Common.{◌≡◌, refl, ap, sym, ◌∙◌, subst, ℕ, zero, suc, ◌+◌, ◌<◌, ◌≤◌, List, [], ◌∷◌, ◌++◌, Bool, true, false, ◌||◌, ◌&&◌, cond, map, length, get_or, drop, Some, None, inl, inr, arith, eqb as nat_eq}
use Rattle.std.specs.Prelude.{find, bytes_eq, slice_index}
use Rattle.std.specs.List.{AllByRecursion, filter, list_any, list_all}
use Rattle.std.specs.List.Sorted.{IsStrictlyIncreasing}
use Rattle.std.proofs.lemmas.Bool.{and_parts, cases_lt, or_parts}
use Rattle.std.proofs.lemmas.Bool.Decides.{nat_tests}
use Rattle.std.proofs.lemmas.Slice.Eq.{bytes_eq-Decides}
use Rattle.list_laws.specs.Distinct.{Lacks, AreDistinct, Rises}

-- ---- tests

pub joined : (a b : Bool) → a ≡ true → b ≡ true → (a && b) ≡ true
joined a b h k = ap (λ (x : Bool). x && b) h ∙ k

pub split_bool : (P : Type 0) (b : Bool) → (b ≡ true → P) → (b ≡ false → P) → P
split_bool P true h k = h refl
split_bool P false h k = k refl

pub not_both : (P : Type 0) (b : Bool) → b ≡ true → b ≡ false → P
not_both P b h k = let no : true ≡ false = sym h ∙ k in cc

pub same_texts : (a b : List ℕ) → bytes_eq a b ≡ true → a ≡ b
same_texts a b h = (bytes_eq-Decides a b).0 h

pub texts_same : (a b : List ℕ) → a ≡ b → bytes_eq a b ≡ true
texts_same a b h = (bytes_eq-Decides a b).1 h

pub and_assoc : (a b c : Bool) → (a && (b && c)) ≡ ((a && b) && c)
and_assoc true b c = refl
and_assoc false b c = refl

-- ---- what holds of each element

pub all_append : {X : Type 0} (P : X → Type 0) (xs ys : List X) → AllByRecursion P xs → AllByRecursion P ys → AllByRecursion P (xs ++ ys)
all_append P [] ys h k = k
all_append P (x ∷ xs) ys h k = (h.0, all_append P xs ys h.1 k)

pub all_at : {X : Type 0} (P : X → Type 0) (xs : List X) (i : ℕ) (d : X) → AllByRecursion P xs → i < length xs → P (get_or xs i d)
all_at P [] i d h below = absurd (omega (arith, below))
all_at P (x ∷ xs) zero d h below = h.0
all_at P (x ∷ xs) (suc i) d h below = all_at P xs i d h.1 (omega (arith, below))

pub all_left : {X : Type 0} (P : X → Type 0) (xs ys : List X) → AllByRecursion P (xs ++ ys) → AllByRecursion P xs
all_left P [] ys h = tt
all_left P (x ∷ xs) ys h = (h.0, all_left P xs ys h.1)

pub all_right : {X : Type 0} (P : X → Type 0) (xs ys : List X) → AllByRecursion P (xs ++ ys) → AllByRecursion P ys
all_right P [] ys h = h
all_right P (x ∷ xs) ys h = all_right P xs ys h.1

pub all_weaker : {X : Type 0} (P Q : X → Type 0) (xs : List X) → ((x : X) → P x → Q x) → AllByRecursion P xs → AllByRecursion Q xs
all_weaker P Q [] f h = tt
all_weaker P Q (x ∷ xs) f h = (f x h.0, all_weaker P Q xs f h.1)

pub all_both : {X : Type 0} (P Q R : X → Type 0) (xs : List X) → ((x : X) → P x → Q x → R x) → AllByRecursion P xs → AllByRecursion Q xs → AllByRecursion R xs
all_both P Q R [] f h k = tt
all_both P Q R (x ∷ xs) f h k = (f x h.0 k.0, all_both P Q R xs f h.1 k.1)

pub all_of : {X : Type 0} (P : X → Type 0) (xs : List X) → ((x : X) → P x) → AllByRecursion P xs
all_of P [] f = tt
all_of P (x ∷ xs) f = (f x, all_of P xs f)

pub all_unmap : {X Y : Type 0} (P : Y → Type 0) (f : X → Y) (xs : List X) → AllByRecursion P (map f xs) → AllByRecursion (λ x. P (f x)) xs
all_unmap P f [] h = tt
all_unmap P f (x ∷ xs) h = (h.0, all_unmap P f xs h.1)

pub all_map : {X Y : Type 0} (P : Y → Type 0) (f : X → Y) (xs : List X) → AllByRecursion (λ x. P (f x)) xs → AllByRecursion P (map f xs)
all_map P f [] h = tt
all_map P f (x ∷ xs) h = (h.0, all_map P f xs h.1)

pub all_cond : {X : Type 0} (P : X → Type 0) (b : Bool) (x : X) (xs : List X) → P x → AllByRecursion P xs → AllByRecursion P (cond b (x ∷ xs) xs)
all_cond P true x xs h k = (h, k)
all_cond P false x xs h k = k

pub all_filter : {X : Type 0} (P : X → Type 0) (p : X → Bool) (xs : List X) → AllByRecursion P xs → AllByRecursion P (filter p xs)
all_filter P p [] h = tt
all_filter P p (x ∷ xs) h = all_cond P (p x) x (filter p xs) h.0 (all_filter P p xs h.1)

passed_cond : {X : Type 0} (P : X → Type 0) (b : Bool) (x : X) (xs : List X) → (b ≡ true → P x) → AllByRecursion P xs → AllByRecursion P (cond b (x ∷ xs) xs)
passed_cond P true x xs h k = (h refl, k)
passed_cond P false x xs h k = k

-- what a filter keeps has passed its test
pub all_passed : {X : Type 0} (p : X → Bool) (xs : List X) → AllByRecursion (λ x. p x ≡ true) (filter p xs)
all_passed p [] = tt
all_passed p (x ∷ xs) = passed_cond (λ x. p x ≡ true) (p x) x (filter p xs) (λ h. h) (all_passed p xs)

pub all_tested : {X : Type 0} (p : X → Bool) (xs : List X) → list_all p xs ≡ true → AllByRecursion (λ x. p x ≡ true) xs
all_tested p [] h = tt
all_tested p (x ∷ xs) h = let s = and_parts (p x) (list_all p xs) h in (s.0, all_tested p xs s.1)

pub test_all : {X : Type 0} (p : X → Bool) (xs : List X) → AllByRecursion (λ x. p x ≡ true) xs → list_all p xs ≡ true
test_all p [] h = refl
test_all p (x ∷ xs) h = joined (p x) (list_all p xs) h.0 (test_all p xs h.1)

pub any_none : {X : Type 0} (p : X → Bool) (xs : List X) → AllByRecursion (λ x. p x ≡ false) xs → list_any p xs ≡ false
any_none p [] h = refl
any_none p (x ∷ xs) h = ap (λ b. b || list_any p xs) h.0 ∙ any_none p xs h.1

pub none_any : {X : Type 0} (p : X → Bool) (xs : List X) → list_any p xs ≡ false → AllByRecursion (λ x. p x ≡ false) xs
none_any p [] h = tt
none_any p (x ∷ xs) h = let s = or_parts (p x) (list_any p xs) h in (s.0, none_any p xs s.1)

-- ---- filters

pub filter_all : {X : Type 0} (p : X → Bool) (xs : List X) → AllByRecursion (λ x. p x ≡ true) xs → filter p xs ≡ xs
filter_all p [] h = refl
filter_all p (x ∷ xs) h = ap (λ b. cond b (x ∷ filter p xs) (filter p xs)) h.0 ∙ ap (λ us. x ∷ us) (filter_all p xs h.1)

pub filter_none : {X : Type 0} (p : X → Bool) (xs : List X) → AllByRecursion (λ x. p x ≡ false) xs → filter p xs ≡ []
filter_none p [] h = refl
filter_none p (x ∷ xs) h = ap (λ b. cond b (x ∷ filter p xs) (filter p xs)) h.0 ∙ filter_none p xs h.1

map_cond : {X Y : Type 0} (f : X → Y) (b : Bool) (x : X) (xs : List X) → map f (cond b (x ∷ xs) xs) ≡ cond b (f x ∷ map f xs) (map f xs)
map_cond f true x xs = refl
map_cond f false x xs = refl

-- a filter that looks only at the results of a map
pub map_filter : {X Y : Type 0} (f : X → Y) (p : Y → Bool) (xs : List X) → map f (filter (λ x. p (f x)) xs) ≡ filter p (map f xs)
map_filter f p [] = refl
map_filter f p (x ∷ xs) = map_cond f (p (f x)) x (filter (λ y. p (f y)) xs) ∙ ap (λ us. cond (p (f x)) (f x ∷ us) us) (map_filter f p xs)

-- filtering first by a weaker test changes nothing
pub filter_filter : {X : Type 0} (p q : X → Bool) (xs : List X) → AllByRecursion (λ x. p x ≡ true → q x ≡ true) xs → filter p (filter q xs) ≡ filter p xs
filter_filter p q [] h = refl
filter_filter p q (x ∷ xs) h = by (p x) (q x) refl refl ∙ ap (λ us. cond (p x) (x ∷ us) us) (filter_filter p q xs h.1)
  where
    by : (a b : Bool) → p x ≡ a → q x ≡ b → filter p (cond (q x) (x ∷ filter q xs) (filter q xs)) ≡ cond (p x) (x ∷ filter p (filter q xs)) (filter p (filter q xs))
    by a true e f = ap (λ c. filter p (cond c (x ∷ filter q xs) (filter q xs))) f
    by true false e f = not_both _ (q x) (h.0 e) f
    by false false e f = ap (λ c. filter p (cond c (x ∷ filter q xs) (filter q xs))) f ∙ sym (ap (λ c. cond c (x ∷ filter p (filter q xs)) (filter p (filter q xs))) e)

-- filters that agree on each element
pub filter_agree : {X : Type 0} (p q : X → Bool) (xs : List X) → AllByRecursion (λ x. p x ≡ q x) xs → filter p xs ≡ filter q xs
filter_agree p q [] h = refl
filter_agree p q (x ∷ xs) h = λ i. cond (h.0 i) (x ∷ filter_agree p q xs h.1 i) (filter_agree p q xs h.1 i)

pub length_filter_le : {X : Type 0} (p : X → Bool) (xs : List X) → length (filter p xs) ≤ length xs
length_filter_le p [] = omega arith
length_filter_le p (x ∷ xs) = by (p x) (length_filter_le p xs)
  where
    by : (b : Bool) → length (filter p xs) ≤ length xs → length (cond b (x ∷ filter p xs) (filter p xs)) ≤ length (x ∷ xs)
    by true rest = omega arith
    by false rest = omega arith

-- ---- lists of distinct elements

pub distinct_push : {X : Type 0} (xs : List X) (x : X) → AreDistinct xs → Lacks xs x → AreDistinct (xs ++ x ∷ [])
distinct_push [] x h k = (tt, tt)
distinct_push {X} (y ∷ ys) x h k = (all_append (λ (z : X). z ≡ y → ⊥) ys (x ∷ []) h.0 ((λ e. k.0 (sym e)), tt), distinct_push ys x h.1 k.1)

distinct_cond : {X Y : Type 0} (f : X → Y) (b : Bool) (x : X) (xs : List X) → Lacks (map f xs) (f x) → AreDistinct (map f xs) → AreDistinct (map f (cond b (x ∷ xs) xs))
distinct_cond f true x xs h k = (h, k)
distinct_cond f false x xs h k = k

pub distinct_filter : {X Y : Type 0} (f : X → Y) (p : X → Bool) (xs : List X) → AreDistinct (map f xs) → AreDistinct (map f (filter p xs))
distinct_filter f p [] h = tt
distinct_filter {X} {Y} f p (x ∷ xs) h =
    distinct_cond f (p x) x (filter p xs) (all_map (λ (z : Y). z ≡ f x → ⊥) f (filter p xs) (all_filter (λ (z : X). f z ≡ f x → ⊥) p xs (all_unmap (λ (z : Y). z ≡ f x → ⊥) f xs h.0))) (distinct_filter f p xs h.1)

pub distinct_right : {X : Type 0} (xs ys : List X) → AreDistinct (xs ++ ys) → AreDistinct ys
distinct_right [] ys h = h
distinct_right (x ∷ xs) ys h = distinct_right xs ys h.1

pub distinct_left : {X : Type 0} (xs ys : List X) → AreDistinct (xs ++ ys) → AreDistinct xs
distinct_left [] ys h = tt
distinct_left {X} (x ∷ xs) ys h = (all_left (λ (z : X). z ≡ x → ⊥) xs ys h.0, distinct_left xs ys h.1)

pub distinct_apart : {X : Type 0} (xs ys : List X) → AreDistinct (xs ++ ys) → AllByRecursion (Lacks ys) xs
distinct_apart [] ys h = tt
distinct_apart {X} (x ∷ xs) ys h = (all_right (λ (z : X). z ≡ x → ⊥) xs ys h.0, distinct_apart xs ys h.1)

pub distinct_append : {X : Type 0} (xs ys : List X) → AreDistinct xs → AreDistinct ys → AllByRecursion (Lacks ys) xs → AreDistinct (xs ++ ys)
distinct_append [] ys h k apart = k
distinct_append {X} (x ∷ xs) ys h k apart = (all_append (λ (z : X). z ≡ x → ⊥) xs ys h.0 apart.0, distinct_append xs ys h.1 k apart.1)

-- ---- numbers that strictly increase

pub rises_left : (ms ns : List ℕ) → Rises (ms ++ ns) → Rises ms
rises_left [] ns h = tt
rises_left (m ∷ ms) ns h = (all_left (λ later. m < later) ms ns h.0, rises_left ms ns h.1)

pub rises_right : (ms ns : List ℕ) → Rises (ms ++ ns) → Rises ns
rises_right [] ns h = h
rises_right (m ∷ ms) ns h = rises_right ms ns h.1

-- each number is below the next
pub rises_strictly : (ns : List ℕ) → Rises ns → IsStrictlyIncreasing ns
rises_strictly [] h k low = absurd (omega arith)
rises_strictly (n ∷ ns) h zero low = all_at (λ later. n < later) ns 0 0 h.0 (omega arith)
rises_strictly (n ∷ ns) h (suc k) low =
    let next : suc k + 1 ≡ suc (k + 1) = omega arith in
    subst (λ (j : ℕ). slice_index (n ∷ ns) (suc k) < slice_index (n ∷ ns) j) (sym next) (rises_strictly ns h.1 k (omega arith))

above_none : (x : ℕ) (ns : List ℕ) → AllByRecursion (λ later. x < later) ns → list_any (nat_eq x) ns ≡ false
above_none x [] h = refl
above_none x (n ∷ ns) h = let lt = h.0 in let e : nat_eq x n ≡ false = grind (arith, nat_tests) in ap (λ b. b || list_any (nat_eq x) ns) e ∙ above_none x ns h.1

-- increasing lists are equal if they have the same numbers
pub rises_same : (ms ns : List ℕ) → Rises ms → Rises ns → ((x : ℕ) → list_any (nat_eq x) ms ≡ list_any (nat_eq x) ns) → ms ≡ ns
rises_same [] [] h k same = refl
rises_same [] (n ∷ ns) h k same = absurd (let e : nat_eq n n ≡ true = grind (arith, nat_tests) in let f : false ≡ true = same n ∙ ap (λ b. b || list_any (nat_eq n) ns) e in cc)
rises_same (m ∷ ms) [] h k same = absurd (let e : nat_eq m m ≡ true = grind (arith, nat_tests) in let f : true ≡ false = sym (ap (λ b. b || list_any (nat_eq m) ms) e) ∙ same m in cc)
rises_same (m ∷ ms) (n ∷ ns) h k same = (λ i. head i ∷ rises_same ms ns h.1 k.1 tails i)
  where
    itself : (x : ℕ) → nat_eq x x ≡ true
    itself x = grind (arith, nat_tests)

    -- the lesser head would be missing from the other list
    missing : (x y : ℕ) (ys : List ℕ) → AllByRecursion (λ later. y < later) ys → x < y → list_any (nat_eq x) (y ∷ ys) ≡ false
    missing x y ys up lt = above_none x (y ∷ ys) (lt, all_weaker (λ later. y < later) (λ later. x < later) ys (λ later l. omega arith) up)

    head : m ≡ n
    head = elim (cases_lt m n) [
      | inl lt ↦ absurd (let f : true ≡ false = sym (ap (λ b. b || list_any (nat_eq m) ms) (itself m)) ∙ same m ∙ missing m n ns k.0 lt in cc)
      | inr ge ↦ elim (cases_lt n m) [
        | inl lt ↦ absurd (let f : true ≡ false = sym (ap (λ b. b || list_any (nat_eq n) ns) (itself n)) ∙ sym (same n) ∙ missing n m ms h.0 lt in cc)
        | inr le ↦ omega arith
      ]
    ]

    tails : (x : ℕ) → list_any (nat_eq x) ms ≡ list_any (nat_eq x) ns
    tails x = by (nat_eq x m) refl
      where
        by : (b : Bool) → nat_eq x m ≡ b → list_any (nat_eq x) ms ≡ list_any (nat_eq x) ns
        by true e =
            let at : x ≡ m = grind (arith, nat_tests) in
            let there : x ≡ n = at ∙ head in
            ap (λ (y : ℕ). list_any (nat_eq y) ms) at ∙ above_none m ms h.0 ∙ sym (ap (λ (y : ℕ). list_any (nat_eq y) ns) there ∙ above_none n ns k.0)
        by false e =
            let other : nat_eq x n ≡ false = ap (nat_eq x) (sym head) ∙ e in
            sym (ap (λ b. b || list_any (nat_eq x) ms) e) ∙ same x ∙ ap (λ b. b || list_any (nat_eq x) ns) other

pub rises_push : (ns : List ℕ) (n : ℕ) → Rises ns → AllByRecursion (λ m. m < n) ns → Rises (ns ++ n ∷ [])
rises_push [] n h k = (tt, tt)
rises_push (m ∷ ns) n h k = (all_append (λ later. m < later) ns (n ∷ []) h.0 (k.0, tt), rises_push ns n h.1 k.1)

pub rises_distinct : (ns : List ℕ) → Rises ns → AreDistinct ns
rises_distinct [] h = tt
rises_distinct (n ∷ ns) h = (all_weaker (λ later. n < later) (λ m. m ≡ n → ⊥) ns (λ m lt e. omega arith) h.0, rises_distinct ns h.1)

rises_cond : (b : Bool) (n : ℕ) (ns : List ℕ) → AllByRecursion (λ later. n < later) ns → Rises ns → Rises (cond b (n ∷ ns) ns)
rises_cond true n ns h k = (h, k)
rises_cond false n ns h k = k

pub rises_filter : (p : ℕ → Bool) (ns : List ℕ) → Rises ns → Rises (filter p ns)
rises_filter p [] h = tt
rises_filter p (n ∷ ns) h = rises_cond (p n) n (filter p ns) (all_filter (λ later. n < later) p ns h.0) (rises_filter p ns h.1)

-- a filter may be applied to a stretch in the middle
pub rises_thinner : (p : ℕ → Bool) (front run back : List ℕ) → Rises (front ++ (run ++ back)) → Rises (front ++ (filter p run ++ back))
rises_thinner p (n ∷ front) run back h = (
  all_append (λ later. n < later) front (filter p run ++ back) (all_left (λ later. n < later) front (run ++ back) h.0)
      (let r = all_right (λ later. n < later) front (run ++ back) h.0 in
      all_append (λ later. n < later) (filter p run) back (all_filter (λ later. n < later) p run (all_left (λ later. n < later) run back r)) (all_right (λ later. n < later) run back r)),
  rises_thinner p front run back h.1,
)
rises_thinner p [] [] back h = h
rises_thinner p [] (n ∷ run) back h = by (p n) (rises_thinner p [] run back h.1)
  where
    here : AllByRecursion (λ later. n < later) (filter p run ++ back)
    here = all_append (λ later. n < later) (filter p run) back (all_filter (λ later. n < later) p run (all_left (λ later. n < later) run back h.0)) (all_right (λ later. n < later) run back h.0)

    by : (b : Bool) → Rises (filter p run ++ back) → Rises (cond b (n ∷ filter p run) (filter p run) ++ back)
    by true rest = (here, rest)
    by false rest = rest

-- ---- the result of a search

pub find_none : {X : Type 0} (p : X → Bool) (xs : List X) → find p xs ≡ None → AllByRecursion (λ x. p x ≡ false) xs
find_none p [] h = tt
find_none p (x ∷ xs) h = let o = open_by (p x) h in (o.0, find_none p xs o.1)
  where
    open_by : (b : Bool) → cond b (Some x) (find p xs) ≡ None → (b ≡ false) × (find p xs ≡ None)
    open_by true h = cc
    open_by false h = (refl, h)

-- ---- what is left after a prefix is dropped

-- the second part of a list follows its first part
pub drop_seam : {X : Type 0} (xs ys : List X) → drop (length xs) (xs ++ ys) ≡ ys
drop_seam [] ys = refl
drop_seam (x ∷ xs) ys = drop_seam xs ys
