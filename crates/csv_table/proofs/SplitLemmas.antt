-- A flat list of fields as records of one length.
use Rattle.std.proofs.Common.{◌≡◌, ◌≤◌, ◌<◌, ◌+◌, ◌*◌, ℕ, zero, suc, List, [], ◌∷◌, ◌++◌, length, take, drop, get_or, refl, ap, arith, ◌∙◌}
use Rattle.std.proofs.lemmas.List.{drop-append-le, drop-drop, get_or-drop, get_or-take, length-drop, length-take-le, take-append-le, take_all}
use Rattle.std.proofs.Math.Nat.{suc-mul, zero-mul}
use Rattle.csv_table.specs.SplitRecords.{split_records}

empty_list : {A : Type 0} (xs : List A) → length xs ≡ 0 → xs ≡ []
empty_list [] e = refl
empty_list (x ∷ xs) e = absurd (omega arith)

pub split_records-more : (n c : ℕ) (xs r : List (List ℕ)) → length xs ≡ n * c → length r ≡ c → split_records (suc n) c (xs ++ r) ≡ split_records n c xs ++ r ∷ []
unfolding split_records
split_records-more zero c xs r e k =
    let none = empty_list xs (e ∙ zero-mul c) in
    rw none (ap (λ (t : List (List ℕ)). t ∷ []) (take_all c r (omega arith)))
split_records-more (suc n) c xs r e k =
    let whole = e ∙ suc-mul n c in
    let fits : c ≤ length xs = omega arith in
    let size = length-drop c xs in
    let left : length (drop c xs) ≡ n * c = omega arith in
    let rest = split_records-more n c (drop c xs) r left k in
    rw (take-append-le c xs r fits, drop-append-le c xs r fits) (ap (λ (t : List (List (List ℕ))). take c xs ∷ t) rest)

pub length-split_records : (n c : ℕ) (xs : List (List ℕ)) → length (split_records n c xs) ≡ n
unfolding split_records
length-split_records zero c xs = refl
length-split_records (suc n) c xs = ap suc (length-split_records n c (drop c xs))

pub get_or-split_records : (n c : ℕ) (xs : List (List ℕ)) (i : ℕ) → i < n → get_or (split_records n c xs) i [] ≡ take c (drop (i * c) xs)
unfolding split_records
get_or-split_records zero c xs i lt = absurd (omega arith)
get_or-split_records (suc n) c xs zero lt = rw (zero-mul c) refl
get_or-split_records (suc n) c xs (suc i) lt =
    let there : c + i * c ≡ suc i * c = omega (arith, suc-mul i c) in
    get_or-split_records n c (drop c xs) i (omega arith) ∙ ap (take c) (drop-drop (i * c) c xs ∙ ap (λ (t : ℕ). drop t xs) there)

pub field-split_records : (n c : ℕ) (xs : List (List ℕ)) (i j : ℕ) → i < n → j < c → get_or (get_or (split_records n c xs) i []) j [] ≡ get_or xs (i * c + j) []
field-split_records n c xs i j lt there =
    ap (λ (t : List (List ℕ)). get_or t j []) (get_or-split_records n c xs i lt) ∙ get_or-take c (drop (i * c) xs) j [] there ∙ get_or-drop (i * c) xs j []

pub column_count-split_records : (n c : ℕ) (xs : List (List ℕ)) → 0 < n → length xs ≡ n * c → length (get_or (split_records n c xs) 0 []) ≡ c
column_count-split_records zero c xs lt e = absurd (omega arith)
column_count-split_records (suc n) c xs lt e =
    let whole = e ∙ suc-mul n c in
    let fits : c ≤ length xs = omega arith in
    ap length (get_or-split_records (suc n) c xs 0 lt ∙ ap (λ (t : ℕ). take c (drop t xs)) (zero-mul c)) ∙ length-take-le c xs fits
