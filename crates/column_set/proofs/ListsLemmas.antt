-- Lists of texts one after another in one list: where each begins and ends, and one more list.
use Rattle.std.proofs.Common.{◌≡◌, refl, ap, sym, ◌∙◌, subst, ℕ, zero, suc, ◌+◌, ◌-◌, ◌<◌, ◌≤◌, List, [], ◌∷◌, ◌++◌, length, get_or, take, drop, arith, add-one, length-append, length-drop}
use Rattle.std.specs.List.{slice_index, slice_range}
use Rattle.std.specs.Prelude.{sum_by}
use Rattle.std.proofs.lemmas.List.Sums.{sum_by-append, sum_by-cons}
use Rattle.std.proofs.lemmas.List.{drop_all, drop-drop, take-append-drop, drop-append-le, get_or-drop, get_or-take, length-take-le, take-append-le}
use Rattle.std.proofs.Math.ListN.{get_or-eq_default}
use Rattle.std.proofs.Math.Seq.{drop-append_seam, take-length}
use Rattle.lake_model.specs.Texts.{Text}
use Rattle.column_set.specs.Lists.{AreLists, AreParts, parts_from, parts_of}

length-parts_from : {X : Type 0} (from : ℕ) (ends : List ℕ) (flat : List X) → length (parts_from from ends flat) ≡ length ends
length-parts_from from [] flat = refl
length-parts_from from (to ∷ ends) flat = omega (arith, length-parts_from to ends flat)

-- a list that begins at low and ends at high
pub record Bounds (texts : List Text) (list : List Text) (low high : ℕ) : Type 0 where
  pub rising : low ≤ high
  pub within : high ≤ length texts
  pub is : list ≡ slice_range texts low high

within_texts : (from : ℕ) (ends : List ℕ) (texts : List Text) → AreParts from ends texts → from ≤ length texts
within_texts from [] texts h = omega (arith, h)
within_texts from (to ∷ ends) texts h = let rest = within_texts to ends texts h.1 in omega (arith, h.0, rest)

bounds_from : (from : ℕ) (ends : List ℕ) (texts : List Text) → AreParts from ends texts → (i : ℕ) → i < length ends
    → Bounds texts (get_or (parts_from from ends texts) i []) (slice_index (from ∷ ends) i) (slice_index (from ∷ ends) (suc i))
bounds_from from [] texts h i b = absurd (omega arith)
bounds_from from (to ∷ ends) texts h zero b = record { rising = h.0; within = within_texts to ends texts h.1; is = refl }
bounds_from from (to ∷ ends) texts h (suc i) b = bounds_from to ends texts h.1 i (omega arith)

pub length-lists : (starts : List ℕ) (texts : List Text) → AreLists starts texts → (lists : List (List Text)) → parts_of starts texts ≡ lists → length lists + 1 ≡ length starts
length-lists [] texts held lists is = absurd held
length-lists (from ∷ ends) texts held lists is = omega (arith, length-parts_from from ends texts, ap length is)

-- the list at i, if the starts were read under another name
pub bounds_at : (starts : List ℕ) (texts : List Text) → AreLists starts texts → (lists : List (List Text)) → parts_of starts texts ≡ lists → (i : ℕ) → i < length lists
    → (read : List ℕ) → read ≡ starts → (low high : ℕ) → low ≡ slice_index read i → high ≡ slice_index read (i + 1) → Bounds texts (get_or lists i []) low high
bounds_at [] texts held lists is i inside read same low high e f = absurd held
bounds_at (from ∷ ends) texts held lists is i inside read same low high e f =
    let core = bounds_from from ends texts held.1 i (omega (arith, length-parts_from from ends texts, ap length is)) in
    let starts : low ≡ slice_index (from ∷ ends) i = e ∙ ap (λ (s : List ℕ). slice_index s i) same in
    let stops : high ≡ slice_index (from ∷ ends) (suc i) = f ∙ ap (λ (s : List ℕ). slice_index s (i + 1)) same ∙ ap (slice_index (from ∷ ends)) (add-one i) in
    let A : List (List Text) → Type 0 = λ (ls : List (List Text)). Bounds texts (get_or ls i []) (slice_index (from ∷ ends) i) (slice_index (from ∷ ends) (suc i)) in
    let B : ℕ → Type 0 = λ (n : ℕ). Bounds texts (get_or lists i []) n (slice_index (from ∷ ends) (suc i)) in
    let C : ℕ → Type 0 = λ (n : ℕ). Bounds texts (get_or lists i []) low n in
    subst C (sym stops) (subst B (sym starts) (subst A is core))

-- ---- one more list

slice_front : {X : Type 0} (xs ys : List X) (a b : ℕ) → a ≤ b → b ≤ length xs → slice_range (xs ++ ys) a b ≡ slice_range xs a b
slice_front xs ys a b h k =
    let room : b - a ≤ length (drop a xs) = omega (arith, length-drop a xs) in
    ap (take (b - a)) (drop-append-le a xs ys (omega arith)) ∙ take-append-le (b - a) (drop a xs) ys room

slice_back : {X : Type 0} (xs ys : List X) (a b : ℕ) → a ≡ length xs → b ≡ length xs + length ys → slice_range (xs ++ ys) a b ≡ ys
slice_back xs ys a b e f =
    let long : b - a ≡ length ys = omega arith in
    ap (λ (k : ℕ). take k (drop a (xs ++ ys))) long ∙ ap (λ (k : ℕ). take (length ys) (drop k (xs ++ ys))) e ∙ ap (take (length ys)) (drop-append_seam xs ys) ∙ take-length ys

parts_more : (from : ℕ) (ends : List ℕ) (texts keys : List Text) (end : ℕ) → AreParts from ends texts → end ≡ length texts + length keys
    → AreParts from (ends ++ end ∷ []) (texts ++ keys) × (parts_from from (ends ++ end ∷ []) (texts ++ keys) ≡ parts_from from ends texts ++ keys ∷ [])
parts_more from [] texts keys end h e =
    let start : from ≡ length texts = h in
    let back = slice_back texts keys from end start e in
    let both = length-append texts keys in
    ((omega arith, omega arith), ap (λ (ks : List Text). ks ∷ []) back)
parts_more from (to ∷ ends) texts keys end h e =
    let rest = parts_more to ends texts keys end h.1 e in
    let front = slice_front texts keys from to h.0 (within_texts to ends texts h.1) in
    ((h.0, rest.0), (λ j. front j ∷ rest.1 j))

pub lists_more : (starts : List ℕ) (texts keys : List Text) (end : ℕ) → AreLists starts texts → end ≡ length texts + length keys
    → AreLists (starts ++ end ∷ []) (texts ++ keys) × (parts_of (starts ++ end ∷ []) (texts ++ keys) ≡ parts_of starts texts ++ keys ∷ [])
lists_more [] texts keys end held e = absurd held
lists_more (from ∷ ends) texts keys end held e = let more = parts_more from ends texts keys end held.1 e in ((held.0, more.0), more.1)

lists_at : (starts read : List ℕ) (texts held : List Text) → read ≡ starts → held ≡ texts → AreLists starts texts → AreLists read held
lists_at starts read texts held e f h = subst (λ (s : List ℕ). AreLists s held) (sym e) (subst (AreLists starts) (sym f) h)

-- the same, if the new texts and starts have names of their own
pub lists_step : (starts : List ℕ) (texts keys : List Text) → AreLists starts texts → (new_texts : List Text) → new_texts ≡ texts ++ keys → (end : ℕ) → end ≡ length new_texts
    → (new_starts : List ℕ) → new_starts ≡ starts ++ end ∷ [] → AreLists new_starts new_texts × (parts_of new_starts new_texts ≡ parts_of starts texts ++ keys ∷ [])
lists_step starts texts keys held new_texts texts_are end end_is new_starts starts_are =
    let more = lists_more starts texts keys end held (end_is ∙ ap length texts_are ∙ length-append texts keys) in
    (lists_at _ new_starts _ new_texts starts_are texts_are more.0, (λ j. parts_of (starts_are j) (texts_are j)) ∙ more.1)

-- before the first list
pub no_lists : (starts : List ℕ) (texts : List Text) → starts ≡ 0 ∷ [] → texts ≡ [] → AreLists starts texts × (parts_of starts texts ≡ [])
no_lists starts texts starts_are texts_are = (lists_at (0 ∷ []) starts [] texts starts_are texts_are (refl, refl), (λ j. parts_of (starts_are j) (texts_are j)))

-- ---- the sums over all lists

pub length-part : {X : Type 0} (xs : List X) (low high : ℕ) → high ≤ length xs → length (slice_range xs low high) ≡ high - low
length-part xs low high within = length-take-le (high - low) (drop low xs) (omega (arith, length-drop low xs))

sum-parts_from : (f : Text → ℕ) (from : ℕ) (ends : List ℕ) (texts : List Text) → AreParts from ends texts → sum_by (λ keys. sum_by f keys) (parts_from from ends texts) ≡ sum_by f (drop from texts)
sum-parts_from f from [] texts h = sym (ap (sum_by f) (drop_all from texts (omega (arith, h))))
sum-parts_from f from (to ∷ ends) texts h =
    let here = sum_by-cons (λ (keys : List Text). sum_by f keys) (slice_range texts from to) (parts_from to ends texts) in
    let rest = sum-parts_from f to ends texts h.1 in
    let seam : from + (to - from) ≡ to = omega (arith, h.0) in
    let behind : drop (to - from) (drop from texts) ≡ drop to texts = drop-drop (to - from) from texts ∙ ap (λ (k : ℕ). drop k texts) seam in
    let both = ap (sum_by f) (sym (take-append-drop (to - from) (drop from texts))) ∙ sum_by-append f (slice_range texts from to) (drop (to - from) (drop from texts)) in
    omega (arith, here, rest, ap (sum_by f) behind, both)

length-parts : (from : ℕ) (ends : List ℕ) (texts : List Text) → AreParts from ends texts → sum_by (λ keys. length keys) (parts_from from ends texts) + from ≡ length texts
length-parts from [] texts h = omega (arith, h)
length-parts from (to ∷ ends) texts h =
    let here = sum_by-cons (λ (keys : List Text). length keys) (slice_range texts from to) (parts_from to ends texts) in
    let size = length-part texts from to (within_texts to ends texts h.1) in
    omega (arith, here, size, h.0, length-parts to ends texts h.1)

pub lists_count : (starts : List ℕ) (texts : List Text) → AreLists starts texts → (lists : List (List Text)) → parts_of starts texts ≡ lists → length texts ≡ sum_by (λ keys. length keys) lists
lists_count [] texts held lists is = absurd held
lists_count (from ∷ ends) texts held lists is = omega (arith, length-parts from ends texts held.1, held.0, ap (sum_by (λ (keys : List Text). length keys)) is)

pub lists_sum : (f : Text → ℕ) (starts : List ℕ) (texts : List Text) → AreLists starts texts → (lists : List (List Text)) → parts_of starts texts ≡ lists → sum_by f texts ≡ sum_by (λ keys. sum_by f keys) lists
lists_sum f [] texts held lists is = absurd held
lists_sum f (from ∷ ends) texts held lists is =
    let front : drop from texts ≡ texts = ap (λ (k : ℕ). drop k texts) held.0 in
    ap (sum_by f) (sym front) ∙ sym (sum-parts_from f from ends texts held.1) ∙ ap (sum_by (λ (keys : List Text). sum_by f keys)) is

-- ---- an element of a part

pub in_part : {X : Type 0} (xs : List X) (low high i : ℕ) (d : X) → low + i < high → get_or xs (low + i) d ≡ get_or (slice_range xs low high) i d
in_part xs low high i d h = sym (get_or-drop low xs i d) ∙ sym (get_or-take (high - low) (drop low xs) i d (omega arith))

pub past_part : {X : Type 0} (xs : List X) (low high i : ℕ) (d : X) → high ≤ low + i → high ≤ length xs → get_or (slice_range xs low high) i d ≡ d
past_part xs low high i d h within =
    let room : high - low ≤ length (drop low xs) = omega (arith, length-drop low xs) in
    let size : length (slice_range xs low high) ≡ high - low = length-take-le (high - low) (drop low xs) room in
    get_or-eq_default (slice_range xs low high) d (omega arith)
