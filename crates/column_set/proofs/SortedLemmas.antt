-- The indices of texts in sorted order, and the texts that repeat an earlier one.
use Rattle.std.proofs.Common.{true≢false, ◌≡◌, refl, ap, sym, ◌∙◌, subst, ℕ, suc, zero, ◌+◌, ◌-◌, ◌<◌, ◌≤◌, inl, inr, List, [], ◌∷◌, ◌++◌, map, take, drop, get_or, length, Bool, true, false, ◌||◌, arith, append_assoc, append-nil, length-append, length-drop, length-set, get_or-set_same, get_or-set_other, replicate, set}
use Rattle.std.specs.Prelude.{bytes_eq, fold, slice_range, OnOk}
use Rattle.std.proofs.Math.Dec.{eqb}
use Rattle.std.specs.Cmp.{IsStrictWeakOrder, IsTotalOrder}
use Rattle.std.specs.Cmp.Lexicographic.{slice_cmp}
use Rattle.std.specs.List.{All, AllByRecursion, Contains, IsDistinct, list_any, range_with_len}
use Rattle.std.specs.List.Sorted.{IsBinarySearchResult, IsPartitionPoint, IsPermutation, IsSearchInRange, IsSorted}
use Rattle.std.specs.Ordering.{is_eq, is_lt, nat_cmp, ordering_reverse, ordering_then}
use Rattle.std.specs.Result.{is_ok}
use Rattle.std.specs.declared.cmp.Ordering.{Ordering}
use Rattle.std.specs.declared.cmp.Ordering.TheVariants.{Less, Equal, Greater}
use Rattle.std.specs.declared.result.Result.{Result}
use Rattle.std.specs.declared.result.Result.TheVariants.{Err, Ok}
use Rattle.std.proofs.lemmas.Bool.{cases_Bool, cases_lt, eqb-false, ne_eqb}
use Rattle.std.proofs.lemmas.Cmp.{nat_cmp_total, nat_list_cmp_total, nat_eq_equiv, nat_list_eq_equiv, on_total, then_total, tied_itself}
use Rattle.std.proofs.lemmas.List.{drop-map, get_or-drop, get_or-map, length-map, get_or-replicate, get_or_default, length-replicate, length-take-le, map-append, take-map, take_more, take_more_set, take_all}
use Rattle.std.proofs.lemmas.List.Elements.{All-append, All-drop, All-from_recursion, All-same, All-take, recursion_from_All}
use Rattle.std.proofs.lemmas.List.Folds.{list_any-append, list_any_at, list_any_none}
use Rattle.std.proofs.lemmas.List.Sorted.{Contains-permutation, All-permutation, IsPermutation-map, length_permutation, ranks_by, searchable_from_sorted, sorted_far}
use Rattle.std.proofs.lemmas.List.FromFn.{get_or-range_with_len, length-range_with_len}
use Rattle.std.proofs.lemmas.Map.Keys.{apart_from_distinct, ge_from_not_lt, IsDistinct-IsPermutation, IsDistinct-from_apart}
use Rattle.std.proofs.lemmas.Map.Lookups.{exact_bytes}
use Rattle.std.proofs.lemmas.Map.Steps.{list_any_congr}
use Rattle.std.proofs.lemmas.Slice.Eq.{bytes_eq-Decides}
use Rattle.lake_model.specs.Texts.{Text}
use Rattle.lake_model.specs.Tables.{add_key, distinct, has_key}
use Rattle.column_set.specs.Hashes.{sip_of}
use Rattle.column_set.specs.Sorted.{entry_cmp, hashed_text, place_cmp, place_of, repeats_behind, repeats_of, sorted_by, unmarked, AreSortedPlaces, IsHashed, IsHashOrder}
use Rattle.column_set.specs.declared.sorted.HashedPlace.{HashedPlace}
use Rattle.column_set.proofs.ListsLemmas.{in_part, length-part}

pub on_ok : {P : Type 0} {T E : Type 0} (r : Result T E) → P → OnOk r P
on_ok (Ok x) p = p
on_ok (Err x) p = tt

-- ---- marks

unmarked_more : {X : Type 0} (marks : List Bool) (xs : List X) (mark : Bool) (x : X) → length marks ≡ length xs → unmarked (marks ++ mark ∷ []) (xs ++ x ∷ []) ≡ unmarked marks xs ++ unmarked (mark ∷ []) (x ∷ [])
unmarked_more [] [] mark x h = refl
unmarked_more [] (y ∷ ys) mark x h = absurd (omega (arith, h))
unmarked_more (m ∷ ms) [] mark x h = absurd (omega (arith, h))
unmarked_more (true ∷ ms) (y ∷ ys) mark x h = unmarked_more ms ys mark x (omega (arith, h))
unmarked_more (false ∷ ms) (y ∷ ys) mark x h = ap (λ zs. y ∷ zs) (unmarked_more ms ys mark x (omega (arith, h)))

pub map-unmarked : {X Y : Type 0} (f : X → Y) (marks : List Bool) (xs : List X) → map f (unmarked marks xs) ≡ unmarked marks (map f xs)
map-unmarked f marks [] = refl
map-unmarked f [] (x ∷ xs) = refl
map-unmarked f (true ∷ marks) (x ∷ xs) = map-unmarked f marks xs
map-unmarked f (false ∷ marks) (x ∷ xs) = ap (λ ys. f x ∷ ys) (map-unmarked f marks xs)

pub length-unmarked : {X : Type 0} (marks : List Bool) (xs : List X) → length (unmarked marks xs) ≤ length xs
length-unmarked marks [] = omega arith
length-unmarked [] (x ∷ xs) = omega arith
length-unmarked (true ∷ marks) (x ∷ xs) = omega (arith, length-unmarked marks xs)
length-unmarked (false ∷ marks) (x ∷ xs) = omega (arith, length-unmarked marks xs)

pub all-unmarked : {X : Type 0} (P : X → Type 0) (marks : List Bool) (xs : List X) → AllByRecursion P xs → AllByRecursion P (unmarked marks xs)
all-unmarked P marks [] h = tt
all-unmarked P [] (x ∷ xs) h = tt
all-unmarked P (true ∷ marks) (x ∷ xs) h = all-unmarked P marks xs h.1
all-unmarked P (false ∷ marks) (x ∷ xs) h = (h.0, all-unmarked P marks xs h.1)

-- a list whose marked elements are removed in place, from an index on: this many marks are read and this many elements are kept
pub record IsKept {X : Type 0} (old : List X) (marks : List Bool) (from i kept : ℕ) (now : List X) : Type 0 where
  pub done : take kept now ≡ take from old ++ unmarked (take i marks) (take i (drop from old))
  pub rest : (k : ℕ) (d : X) → from + i ≤ k → get_or now k d ≡ get_or old k d
  pub long : length now ≡ length old
  pub few : kept ≤ from + i

pub kept_none : {X : Type 0} (old : List X) (marks : List Bool) (from : ℕ) → IsKept old marks from 0 from old
kept_none old marks from = record {
  done = sym (append-nil (take from old));
  rest = λ k d h. refl;
  long = refl;
  few = omega arith;
}

module _ {X : Type 0} (old now : List X) (marks : List Bool) (from i kept : ℕ) (k : IsKept old marks from i kept now) (all : from + length marks ≡ length old) (within : i < length marks) where
  -- one more mark with its element
  seen_more : (x : X) → x ≡ get_or old (from + i) x → unmarked (take (i + 1) marks) (take (i + 1) (drop from old)) ≡ unmarked (take i marks) (take i (drop from old)) ++ unmarked (get_or marks i false ∷ []) (x ∷ [])
  seen_more x is =
      let inside : i < length (drop from old) = omega (arith, length-drop from old) in
      let here : get_or (drop from old) i x ≡ x = get_or-drop from old i x ∙ sym is in
      let elements : take (i + 1) (drop from old) ≡ take i (drop from old) ++ x ∷ [] = take_more (drop from old) i x inside ∙ ap (λ y. take i (drop from old) ++ y ∷ []) here in
      let both : length (take i marks) ≡ length (take i (drop from old)) = omega (arith, length-take-le i marks (omega arith), length-take-le i (drop from old) (omega arith)) in
      (λ j. unmarked (take_more marks i false within j) (elements j)) ∙ unmarked_more (take i marks) (take i (drop from old)) (get_or marks i false) x both

  first_of : (xs : List X) → 0 < length xs → X
  first_of [] h = absurd (omega arith)
  first_of (x ∷ xs) h = x

  -- past an element that is removed
  pub kept_past : get_or marks i false ≡ true → IsKept old marks from (i + 1) kept now
  kept_past marked =
      let first = first_of old (omega arith) in
      let x = get_or old (from + i) first in
      let more = seen_more x (get_or_default old (from + i) first x (omega arith)) ∙ ap (λ b. unmarked (take i marks) (take i (drop from old)) ++ unmarked (b ∷ []) (x ∷ [])) marked ∙ append-nil _ in
      record {
        done = k.done ∙ ap (λ xs. take from old ++ xs) (sym more);
        rest = λ n d h. k.rest n d (omega arith);
        long = k.long;
        few = omega (arith, k.few);
      }

  -- past one that moves forward
  pub kept_next : get_or marks i false ≡ false → (x : X) → x ≡ get_or now (from + i) x → (new : List X) → new ≡ set now kept x → IsKept old marks from (i + 1) (kept + 1) new
  kept_next plain x is new same =
      let here : x ≡ get_or old (from + i) x = is ∙ k.rest (from + i) x (omega arith) in
      let more = seen_more x here ∙ ap (λ b. unmarked (take i marks) (take i (drop from old)) ++ unmarked (b ∷ []) (x ∷ [])) plain in
      let moved : IsKept old marks from (i + 1) (kept + 1) (set now kept x) = record {
        done = take_more_set now kept x (omega (arith, k.few, k.long)) ∙ ap (λ xs. xs ++ x ∷ []) k.done ∙ append_assoc (take from old) (unmarked (take i marks) (take i (drop from old))) (x ∷ []) ∙ ap (λ xs. take from old ++ xs) (sym more);
        rest = λ n d h. get_or-set_other now kept n x d (λ e. omega (arith, k.few, e)) ∙ k.rest n d (omega arith);
        long = length-set now kept x ∙ k.long;
        few = omega (arith, k.few);
      } in
      subst (IsKept old marks from (i + 1) (kept + 1)) (sym same) moved

pub kept_all : {X : Type 0} (old now : List X) (marks : List Bool) (from i kept : ℕ) → IsKept old marks from i kept now → from + length marks ≡ length old → length marks ≤ i → take kept now ≡ take from old ++ unmarked marks (drop from old)
kept_all old now marks from i kept k all end =
    k.done ∙ (λ j. take from old ++ unmarked (take_all i marks end j) (take_all i (drop from old) (omega (arith, length-drop from old)) j))

-- what is kept of spans, and of their texts
pub left_all : {X : Type 0} (P : X → Type 0) (xs left : List X) (marks : List Bool) (from : ℕ) → left ≡ take from xs ++ unmarked marks (drop from xs) → AllByRecursion P xs → AllByRecursion P left
left_all P xs left marks from is h =
    let all = All-from_recursion P xs h in
    let front = All-take P from xs all in
    let back = All-from_recursion P (unmarked marks (drop from xs)) (all-unmarked P marks (drop from xs) (recursion_from_All P (drop from xs) (All-drop P from xs all))) in
    recursion_from_All P left (All-same P left (take from xs ++ unmarked marks (drop from xs)) is (All-append P (take from xs) (unmarked marks (drop from xs)) front back))

pub left_few : {X : Type 0} (xs left : List X) (marks : List Bool) (from : ℕ) → left ≡ take from xs ++ unmarked marks (drop from xs) → from ≤ length xs → length left ≤ length xs
left_few xs left marks from is within =
    omega (arith, ap length is, length-append (take from xs) (unmarked marks (drop from xs)), length-take-le from xs within, length-unmarked marks (drop from xs), length-drop from xs)

pub left_map : {X Y : Type 0} (f : X → Y) (xs left : List X) (ys : List Y) (marks : List Bool) (from : ℕ) → left ≡ take from xs ++ unmarked marks (drop from xs) → map f xs ≡ ys → map f left ≡ take from ys ++ unmarked marks (drop from ys)
left_map f xs left ys marks from is same =
    ap (map f) is ∙ map-append f (take from xs) (unmarked marks (drop from xs))
    ∙ (λ j. (sym (take-map f from xs) ∙ ap (take from) same) j ++ (map-unmarked f marks (drop from xs) ∙ ap (unmarked marks) (sym (drop-map f from xs) ∙ ap (drop from) same)) j)

-- ---- texts that repeat an earlier one

kept_again : (a b : Bool) → (b ≡ true → a ≡ true) → a ≡ (a || (b || false))
kept_again true b h = refl
kept_again false true h = h refl
kept_again false false h = refl

-- if those kept are the same as those seen, a text is added exactly if it is not marked
stays : (seen kept texts : List Text) → ((text : Text) → has_key kept text ≡ has_key seen text) → fold add_key kept texts ≡ kept ++ unmarked (repeats_behind seen texts) texts
stays seen kept [] same = sym (append-nil kept)
stays seen kept (first ∷ texts) same =
    elim (cases_Bool (has_key seen first)) [
      | inl there ↦ rw (same first, there) (stays (seen ++ first ∷ []) kept texts (λ text.
          same text ∙ kept_again (has_key seen text) (bytes_eq text first) (λ e. list_any_congr nat_list_eq_equiv text first seen e ∙ there) ∙ sym (list_any-append (bytes_eq text) seen (first ∷ []))))
      | inr new ↦ rw (same first, new) (stays (seen ++ first ∷ []) (kept ++ first ∷ []) texts (λ text.
          list_any-append (bytes_eq text) kept (first ∷ []) ∙ ap (λ (b : Bool). b || (bytes_eq text first || false)) (same text) ∙ sym (list_any-append (bytes_eq text) seen (first ∷ [])))
          ∙ append_assoc kept (first ∷ []) (unmarked (repeats_behind (seen ++ first ∷ []) texts) texts))
    ]

distinct_is : (texts : List Text) → unmarked (repeats_of texts) texts ≡ distinct texts
distinct_is texts = sym (stays [] [] texts (λ text. refl))

length-repeats : (seen texts : List Text) → length (repeats_behind seen texts) ≡ length texts
length-repeats seen [] = refl
length-repeats seen (text ∷ texts) = omega (arith, length-repeats (seen ++ text ∷ []) texts)

-- there is a mark for each text from the index on
pub each_marked : (texts : List Text) (from : ℕ) (marks : List Bool) → marks ≡ repeats_of (drop from texts) → from ≤ length texts → from + length marks ≡ length texts
each_marked texts from marks is within = omega (arith, ap length is, length-repeats [] (drop from texts), length-drop from texts)

-- and what is not marked is distinct
pub left_distinct : (texts left : List Text) (from : ℕ) (marks : List Bool) → marks ≡ repeats_of (drop from texts) → left ≡ take from texts ++ unmarked marks (drop from texts) → left ≡ take from texts ++ distinct (drop from texts)
left_distinct texts left from marks is same = same ∙ ap (λ (ts : List Text). take from texts ++ ts) (ap (λ (ms : List Bool). unmarked ms (drop from texts)) is ∙ distinct_is (drop from texts))

-- where nothing is marked, all elements are left
none_marked : {X : Type 0} (marks : List Bool) (xs : List X) → list_any (λ mark. mark) marks ≡ false → length marks ≡ length xs → unmarked marks xs ≡ xs
none_marked [] [] none same = refl
none_marked [] (x ∷ xs) none same = absurd (omega (arith, same))
none_marked (mark ∷ marks) [] none same = refl
none_marked (true ∷ marks) (x ∷ xs) none same = absurd (true≢false none)
none_marked (false ∷ marks) (x ∷ xs) none same = ap (λ ys. x ∷ ys) (none_marked marks xs none (omega (arith, same)))

-- so texts of which none is marked are distinct
pub all_distinct : (texts : List Text) (marks : List Bool) → marks ≡ repeats_of texts → list_any (λ mark. mark) marks ≡ false → texts ≡ distinct texts
all_distinct texts marks is none =
    sym (none_marked marks texts none (ap length is ∙ length-repeats [] texts)) ∙ ap (λ (ms : List Bool). unmarked ms texts) is ∙ distinct_is texts

-- marks that are right one by one
repeats_are : (seen texts : List Text) (marks : List Bool) → length marks ≡ length texts → ((k : ℕ) → k < length texts → get_or marks k false ≡ has_key (seen ++ take k texts) (get_or texts k [])) → marks ≡ repeats_behind seen texts
repeats_are seen [] [] long right = refl
repeats_are seen [] (mark ∷ marks) long right = absurd (omega (arith, long))
repeats_are seen (text ∷ texts) [] long right = absurd (omega (arith, long))
repeats_are seen (text ∷ texts) (mark ∷ marks) long right =
    let first : mark ≡ has_key seen text = right 0 (omega arith) ∙ ap (λ (ts : List Text). has_key ts text) (append-nil seen) in
    let rest = repeats_are (seen ++ text ∷ []) texts marks (omega (arith, long)) (λ k less. right (suc k) (omega (arith, less)) ∙ ap (λ (ts : List Text). has_key ts (get_or texts k [])) (sym (append_assoc seen (text ∷ []) (take k texts)))) in
    λ j. first j ∷ rest j

-- ---- the order of indices

place_cmp_total : (texts : List Text) → IsTotalOrder (place_cmp texts)
place_cmp_total texts = then_total (on_total (λ (p : ℕ). hashed_text (get_or texts p [])) nat_list_cmp_total) nat_cmp_total

module _ (texts : List Text) where
  abbrev text_of : ℕ → Text
  text_of p = get_or texts p []

  abbrev less : ℕ → ℕ → Bool
  less a b = is_lt (place_cmp texts a b)

  order : IsStrictWeakOrder less
  order = ranks_by (place_cmp_total texts) (λ (p : ℕ). p)

  abbrev key_of : ℕ → List ℕ
  key_of p = hashed_text (text_of p)

  key_not_less : (a b : ℕ) → less a b ≡ false → is_lt (slice_cmp nat_cmp (key_of a) (key_of b)) ≡ false
  key_not_less a b = by (slice_cmp nat_cmp (key_of a) (key_of b)) (nat_cmp a b)
    where
      by : (o r : Ordering) → is_lt (ordering_then o r) ≡ false → is_lt o ≡ false
      by Less r e = e
      by Equal r e = refl
      by Greater r e = refl

  place_not_less : (a b : ℕ) → text_of a ≡ text_of b → less a b ≡ false → b ≤ a
  place_not_less a b same e =
      let tied : slice_cmp nat_cmp (key_of a) (key_of b) ≡ Equal = ap (λ (t : Text). slice_cmp nat_cmp (key_of a) (hashed_text t)) (sym same) ∙ tied_itself nat_list_cmp_total (key_of a) in
      ge_from_not_lt a b (ap (λ (o : Ordering). is_lt (ordering_then o (nat_cmp a b))) (sym tied) ∙ e)

same_text : (x y : Text) → is_lt (slice_cmp nat_cmp (hashed_text x) (hashed_text y)) ≡ false → is_lt (slice_cmp nat_cmp (hashed_text y) (hashed_text x)) ≡ false → x ≡ y
same_text x y n m = ap (drop 1) (exact_bytes (hashed_text x) (hashed_text y) (level (slice_cmp nat_cmp (hashed_text x) (hashed_text y)) n (ap is_lt (sym (nat_list_cmp_total.antisymm (hashed_text y) (hashed_text x))) ∙ m)))
  where
    level : (r : Ordering) → is_lt r ≡ false → is_lt (ordering_reverse r) ≡ false → r ≡ Equal
    level Less n m = absurd (let e : true ≡ false = n in cc)
    level Equal n m = refl
    level Greater n m = absurd (let e : true ≡ false = m in cc)

-- ---- the sort

abbrev blank : HashedPlace
blank = record { hash = 0; place = 0 }

pub entry_total : (texts : List Text) → IsTotalOrder (entry_cmp texts)
entry_total texts = then_total (on_total (sorted_by texts) nat_list_cmp_total) (on_total place_of nat_cmp_total)

-- one more index with its hash
pub hashed_more : (texts : List Text) (before after : List HashedPlace) (entry : HashedPlace) → All (IsHashed texts) before → IsHashed texts entry → after ≡ before ++ entry ∷ [] → All (IsHashed texts) after
hashed_more texts before after entry all one e = subst (All (IsHashed texts)) (sym e) (All-append (IsHashed texts) before (entry ∷ []) all (All-from_recursion (IsHashed texts) (entry ∷ []) (one, tt)))

range_more : (a n j : ℕ) → a + n ≡ j → range_with_len a (suc n) ≡ range_with_len a n ++ j ∷ []
range_more a zero j e = let same : a ≡ j = omega arith in ap (λ k. k ∷ []) same
range_more a (suc n) j e = ap (λ ks. a ∷ ks) (range_more (a + 1) n j (omega arith))

pub places_more : (from place : ℕ) (before after : List HashedPlace) (entry : HashedPlace) → from ≤ place → entry.place ≡ place → map place_of before ≡ range_with_len from (place - from) → after ≡ before ++ entry ∷ [] → map place_of after ≡ range_with_len from (place + 1 - from)
places_more from place before after entry low is so_far e =
    let one : suc (place - from) ≡ place + 1 - from = omega (arith, low) in
    ap (map place_of) e ∙ map-append place_of before (entry ∷ []) ∙ (λ j. so_far j ++ is j ∷ []) ∙ sym (range_more from (place - from) place (omega (arith, low))) ∙ ap (range_with_len from) one

module _ (texts : List Text) (order : List HashedPlace) (hashed : All (IsHashed texts) order) (k : ℕ) (within : k < length order) where
  abbrev entry : HashedPlace
  entry = get_or order k blank

  pub place_there : (d : ℕ) → get_or (map place_of order) k d ≡ entry.place
  place_there d = get_or-map place_of order k blank d within

  -- what an entry is sorted by is what its index is sorted by
  key_there : hashed_text (get_or texts entry.place []) ≡ sorted_by texts entry
  key_there = let own : entry.hash ≡ sip_of (get_or texts entry.place []) = hashed k blank within in ap (λ (h : ℕ). h ∷ get_or texts entry.place []) (sym own)

pub hash_ordered : (texts : List Text) (from : ℕ) (made order : List HashedPlace) → All (IsHashed texts) made → map place_of made ≡ range_with_len from (length texts - from) → IsPermutation made order → IsSorted (entry_cmp texts) order → IsHashOrder texts from order
hash_ordered texts from made order all is moved up = record { hashed = hashed; places = record { all = subst (λ (ps : List ℕ). IsPermutation ps (map place_of order)) is (IsPermutation-map place_of made order moved); sorted = sorted } }
  where
    hashed : All (IsHashed texts) order
    hashed = All-permutation (IsHashed texts) made order moved all

    sorted : IsSorted (place_cmp texts) (map place_of order)
    sorted k d low h =
        let b : k + 1 < length order = omega (arith, h, length-map order place_of) in
        let a : k < length order = omega arith in
        let x = get_or order (k + 1) blank in
        let y = get_or order k blank in
        (λ j. is_lt (place_cmp texts (place_there texts order hashed (k + 1) b d j) (place_there texts order hashed k a d j)))
        ∙ (λ j. is_lt (ordering_then (slice_cmp nat_cmp (key_there texts order hashed (k + 1) b j) (key_there texts order hashed k a j)) (nat_cmp x.place y.place)))
        ∙ up k blank low b

-- whether a text equals one at a smaller index, from an index on
abbrev repeats_from : List Text → ℕ → ℕ → Bool
repeats_from texts from p = has_key (slice_range texts from p) (get_or texts p [])

-- there is a mark for each index, and those of the sorted indices walked so far are right
pub record AreMarked (texts : List Text) (from : ℕ) (places : List ℕ) (i : ℕ) (marks : List Bool) : Type 0 where
  pub some : 0 < i
  pub long : length marks ≡ length places
  pub right : (j : ℕ) → j < i → j < length places → get_or marks (get_or places j 0 - from) false ≡ repeats_from texts from (get_or places j 0)

module _ (texts : List Text) (from : ℕ) (places : List ℕ) (s : AreSortedPlaces texts from places) where
  pub place_count : length places ≡ length texts - from
  place_count = length_permutation (range_with_len from (length texts - from)) places s.all ∙ length-range_with_len from (length texts - from)

  abbrev IsPlace : ℕ → Type 0
  IsPlace p = (from ≤ p) × (p < length texts)

  pub are_places : All IsPlace places
  are_places = All-permutation IsPlace (range_with_len from (length texts - from)) places s.all (λ k d less.
      let within : k < length texts - from = omega (arith, less, length-range_with_len from (length texts - from)) in
      let here = get_or-range_with_len from (length texts - from) k d within in
      (omega (arith, here), omega (arith, here)))

  index_of : (p : ℕ) → from ≤ p → p < length texts → Contains places p
  index_of p low high =
      let n = length texts - from in
      Contains-permutation (range_with_len from n) places p s.all (p - from, omega (arith, length-range_with_len from n), get_or-range_with_len from n (p - from) p (omega arith) ∙ (let e : from + (p - from) ≡ p = omega arith in e))

  apart : (i j d : ℕ) → i < j → j < length places → get_or places i d ≡ get_or places j d → ⊥
  apart i j d l h =
      let n = length texts - from in
      let all = range_with_len from n in
      let long = length-range_with_len from n in
      let distinct : IsDistinct eqb all = IsDistinct-from_apart eqb all (λ a b d m w. ne_eqb (get_or all a d) (get_or all b d) (λ e. omega (arith, e, w, get_or-range_with_len from n a d (omega (arith, w, long)), get_or-range_with_len from n b d (omega (arith, w, long))))) in
      eqb-false (get_or places i d) (get_or places j d) (apart_from_distinct eqb places i j d (IsDistinct-IsPermutation eqb nat_eq_equiv.symm all places s.all distinct) l h)

  far : (i j : ℕ) → i ≤ j → j < length places → less texts (get_or places j 0) (get_or places i 0) ≡ false
  far i j le h = sorted_far (less texts) (order texts) places s.sorted i j 0 le h

  -- ---- a text repeats an earlier one exactly if it equals the text just before it in sorted order

  abbrev repeats : ℕ → Bool
  repeats p = repeats_from texts from p

  -- an earlier index with the same text comes before it in the sorted order
  earlier : (i : ℕ) → i < length places → (p : ℕ) → from ≤ p → p < get_or places i 0 → get_or texts p [] ≡ get_or texts (get_or places i 0) [] → (j : ℕ) × (j < i) × (get_or places j 0 ≡ p)
  earlier i h p low lower same =
      let here = get_or places i 0 in
      let found = index_of p low (omega (arith, lower, (are_places i 0 h).1)) in
      let j = found.0 in
      let there : get_or places j 0 ≡ p = get_or_default places j 0 p found.1 ∙ found.2 in
      elim (cases_lt j i) [
        | inl l ↦ (j, l, there)
        | inr m ↦ absurd (
            let late : is_lt (place_cmp texts p here) ≡ false = ap (λ (q : ℕ). is_lt (place_cmp texts q here)) (sym there) ∙ far i j m found.1 in
            omega (arith, lower, place_not_less texts p here same late))
      ]

  no_repeat_at : (here : ℕ) → here < length texts → ((p : ℕ) → from ≤ p → p < here → get_or texts p [] ≡ get_or texts here [] → ⊥) → repeats here ≡ false
  no_repeat_at here within none = list_any_none (bytes_eq (get_or texts here [])) (slice_range texts from here) (λ k d less. by k d less (bytes_eq (get_or texts here []) (get_or (slice_range texts from here) k d)) refl)
    where
      by : (k : ℕ) (d : Text) → k < length (slice_range texts from here) → (b : Bool) → bytes_eq (get_or texts here []) (get_or (slice_range texts from here) k d) ≡ b → b ≡ false
      by k d less false e = refl
      by k d less true e =
          let low : from + k < here = omega (arith, less, length-part texts from here (omega arith)) in
          let at : get_or (slice_range texts from here) k d ≡ get_or texts (from + k) [] = get_or_default (slice_range texts from here) k d [] less ∙ sym (in_part texts from here k [] low) in
          absurd (none (from + k) (omega arith) low (sym ((bytes_eq-Decides (get_or texts here []) (get_or (slice_range texts from here) k d)).0 e ∙ at)))

  module _ (i : ℕ) (some : 0 < i) (h : i < length places) where
    abbrev here : ℕ
    here = get_or places i 0

    abbrev before : ℕ
    before = get_or places (i - 1) 0

    repeats_there : get_or texts here [] ≡ get_or texts before [] → repeats here ≡ true
    repeats_there same =
        let low = (are_places (i - 1) 0 (omega arith)).0 in
        let within = (are_places i 0 h).1 in
        let le : before ≤ here = place_not_less texts here before same (far (i - 1) i (omega arith) h) in
        let lower : before < here = elim (cases_lt before here) [
          | inl l ↦ l
          | inr m ↦ absurd (apart (i - 1) i 0 (omega arith) h (omega (arith, le, m)))
        ] in
        let back : from + (before - from) ≡ before = omega (arith, low) in
        let at : get_or (slice_range texts from here) (before - from) [] ≡ get_or texts before [] = sym (in_part texts from here (before - from) [] (omega (arith, back, lower))) ∙ ap (λ (p : ℕ). get_or texts p []) back in
        list_any_at (bytes_eq (get_or texts here [])) (slice_range texts from here) (before - from) [] (omega (arith, low, lower, length-part texts from here (omega (arith, within)))) ((bytes_eq-Decides (get_or texts here []) (get_or (slice_range texts from here) (before - from) [])).1 (same ∙ sym at))

    repeats_not : bytes_eq (get_or texts here []) (get_or texts before []) ≡ false → repeats here ≡ false
    repeats_not differs = no_repeat_at here (are_places i 0 h).1 (λ p low lower same.
        let found = earlier i h p low lower same in
        let down = key_not_less texts here before (far (i - 1) i (omega arith) h) in
        let up : is_lt (slice_cmp nat_cmp (hashed_text (get_or texts before [])) (hashed_text (get_or texts here []))) ≡ false =
        ap (λ (t : Text). is_lt (slice_cmp nat_cmp (hashed_text (get_or texts before [])) (hashed_text t))) (sym same) ∙ ap (λ (q : ℕ). is_lt (slice_cmp nat_cmp (hashed_text (get_or texts before [])) (hashed_text (get_or texts q [])))) (sym found.2)
        ∙ key_not_less texts before (get_or places found.0 0) (far found.0 (i - 1) (omega (arith, found.1)) (omega arith)) in
        let equal : bytes_eq (get_or texts here []) (get_or texts before []) ≡ true = (bytes_eq-Decides (get_or texts here []) (get_or texts before [])).1 (same_text (get_or texts here []) (get_or texts before []) down up) in
        let no : true ≡ false = sym equal ∙ differs in cc)

    repeats_is : bytes_eq (get_or texts here []) (get_or texts before []) ≡ repeats here
    repeats_is = by (bytes_eq (get_or texts here []) (get_or texts before [])) refl
      where
        by : (b : Bool) → bytes_eq (get_or texts here []) (get_or texts before []) ≡ b → b ≡ repeats here
        by true e = sym (repeats_there ((bytes_eq-Decides (get_or texts here []) (get_or texts before [])).0 e))
        by false e = sym (repeats_not e)

  -- ---- the marks

  pub marked_first : (marks : List Bool) → marks ≡ replicate (length places) false → AreMarked texts from places 1 marks
  marked_first marks is = record {
    some = omega arith;
    long = ap length is ∙ length-replicate (length places) false;
    right = λ j first h.
        let p = get_or places j 0 in
        let place = are_places j 0 h in
        let mark : get_or marks (p - from) false ≡ false = ap (λ (ms : List Bool). get_or ms (p - from) false) is ∙ get_or-replicate (length places) (p - from) false false (omega (arith, place_count, place.0, place.1)) in
        mark ∙ sym (no_repeat_at p place.1 (λ q low lower same. let found = earlier j h q low lower same in omega (arith, first, found.1)));
  }

  pub marked_more : (i : ℕ) (marks : List Bool) → AreMarked texts from places i marks → i < length places → (b : Bool) → b ≡ bytes_eq (get_or texts (get_or places i 0) []) (get_or texts (get_or places (i - 1) 0) [])
      → (new : List Bool) → new ≡ set marks (get_or places i 0 - from) b → AreMarked texts from places (i + 1) new
  marked_more i marks m h b is new same = subst (AreMarked texts from places (i + 1)) (sym same) (record {
    some = omega arith;
    long = length-set marks (get_or places i 0 - from) b ∙ m.long;
    right = λ j less within.
        let place = are_places i 0 h in
        elim (cases_lt j i) [
          | inl l ↦
              let other : get_or places j 0 - from ≡ get_or places i 0 - from → ⊥ = λ e. apart j i 0 l h (omega (arith, e, place.0, (are_places j 0 within).0)) in
              get_or-set_other marks (get_or places i 0 - from) (get_or places j 0 - from) b false other ∙ m.right j l within
          | inr g ↦
              let this : i ≡ j = omega (arith, less, g) in
              subst (λ (k : ℕ). get_or (set marks (get_or places i 0 - from) b) (get_or places k 0 - from) false ≡ repeats (get_or places k 0)) this
              (get_or-set_same marks (get_or places i 0 - from) b false (omega (arith, m.long, place_count, place.0, place.1)) ∙ is ∙ repeats_is i m.some h)
        ];
  })

  pub all_marked : (i : ℕ) (marks : List Bool) → AreMarked texts from places i marks → length places ≤ i → marks ≡ repeats_of (drop from texts)
  all_marked i marks m end = repeats_are [] (drop from texts) marks (omega (arith, m.long, place_count, length-drop from texts)) (λ k less.
      let found = index_of (from + k) (omega arith) (omega (arith, less, length-drop from texts)) in
      let there : get_or places found.0 0 ≡ from + k = get_or_default places found.0 0 (from + k) found.1 ∙ found.2 in
      let back : from + k - from ≡ k = omega arith in
      let right = m.right found.0 (omega (arith, found.1)) found.1 in
      let at : get_or marks (from + k - from) false ≡ repeats (from + k) = subst (λ (p : ℕ). get_or marks (p - from) false ≡ repeats p) there right in
      ap (λ (n : ℕ). get_or marks n false) (sym back) ∙ at ∙ (λ j. has_key (take (back j) (drop from texts)) (sym (get_or-drop from texts k []) j)))

-- ---- a binary search

module _ (texts : List Text) (order : List HashedPlace) (s : IsHashOrder texts 0 order) (hash : ℕ) (key : Text) (own : hash ≡ sip_of key) where
  abbrev places : List ℕ
  places = map place_of order

  abbrev answer : HashedPlace → Ordering
  answer e = slice_cmp nat_cmp (sorted_by texts e) (hash ∷ key)

  rises : (k : ℕ) (d : HashedPlace) → 0 ≤ k → k + 1 < length order → is_lt (slice_cmp nat_cmp (sorted_by texts (get_or order (k + 1) blank)) (sorted_by texts (get_or order k blank))) ≡ false
  rises k d low h =
      let a : k < length order = omega arith in
      let x = get_or order (k + 1) blank in
      let y = get_or order k blank in
      let up : is_lt (place_cmp texts x.place y.place) ≡ false =
      (λ j. is_lt (place_cmp texts (sym (place_there texts order s.hashed (k + 1) h 0) j) (sym (place_there texts order s.hashed k a 0) j)))
      ∙ s.places.sorted k 0 low (omega (arith, h, length-map order place_of)) in
      (λ j. is_lt (slice_cmp nat_cmp (sym (key_there texts order s.hashed (k + 1) h) j) (sym (key_there texts order s.hashed k a) j))) ∙ key_not_less texts x.place y.place up

  pub found_is : (r : Result ℕ ℕ) → IsSearchInRange r (length order) → IsBinarySearchResult answer order r → is_ok r ≡ has_key texts key
  found_is (Ok i) within at =
      let e = get_or order i blank in
      let same : get_or texts e.place [] ≡ key = ap (drop 1) (exact_bytes (sorted_by texts e) (hash ∷ key) (at blank)) in
      let inside : e.place < length texts = omega (arith, (are_places texts 0 places s.places i 0 (omega (arith, within, length-map order place_of))).1, place_there texts order s.hashed i within 0) in
      sym (list_any_at (bytes_eq key) texts e.place [] inside ((bytes_eq-Decides key (get_or texts e.place [])).1 (sym same)))
  found_is (Err i) within at =
      let up = searchable_from_sorted nat_list_cmp_total (sorted_by texts) order (hash ∷ key) (λ k d low h.
      (λ j. is_lt (slice_cmp nat_cmp (sorted_by texts (get_or_default order (k + 1) d blank h j)) (sorted_by texts (get_or_default order k d blank (omega arith) j)))) ∙ rises k d low h) in
      let parted = at up in
      sym (list_any_none (bytes_eq key) texts (λ k d less. by parted k d less (bytes_eq key (get_or texts k d)) refl))
    where
      by : IsPartitionPoint (λ e. answer e ≡ Less) (λ e. answer e ≡ Greater) order i → (k : ℕ) (d : Text) → k < length texts → (b : Bool) → bytes_eq key (get_or texts k d) ≡ b → b ≡ false
      by parted k d less false e = refl
      by parted k d less true e =
          let found = index_of texts 0 places s.places k (omega arith) less in
          let j = found.0 in
          let inside : j < length order = omega (arith, found.1, length-map order place_of) in
          let x = get_or order j blank in
          let place : x.place ≡ k = sym (place_there texts order s.hashed j inside k) ∙ found.2 in
          let same : get_or texts x.place [] ≡ key = ap (λ (n : ℕ). get_or texts n []) place ∙ get_or_default texts k [] d less ∙ sym ((bytes_eq-Decides key (get_or texts k d)).0 e) in
          let hashes : x.hash ≡ hash = s.hashed j blank inside ∙ ap sip_of same ∙ sym own in
          let tied : answer x ≡ Equal = (λ i. slice_cmp nat_cmp (hashes i ∷ same i) (hash ∷ key)) ∙ tied_itself nat_list_cmp_total (hash ∷ key) in
          absurd (elim (cases_lt j i) [
            | inl l ↦ let f : Less ≡ Equal = sym (parted.0 j blank (omega arith) l) ∙ tied in let g : true ≡ false = ap is_lt f in cc
            | inr m ↦ let f : Greater ≡ Equal = sym (parted.1 j blank m inside) ∙ tied in let g : false ≡ true = ap is_eq f in cc
          ])
