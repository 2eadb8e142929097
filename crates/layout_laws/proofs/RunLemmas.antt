-- A run of adjacent parts in a layout, and what takes its place by a swap.
use Rattle.std.proofs.Common.{◌≡◌, refl, ap, sym, ◌∙◌, subst, ℕ, suc, ◌+◌, ◌<◌, List, [], ◌∷◌, ◌++◌, append-nil, Bool, true, false, not, ◌||◌, ◌&&◌, cond, length, take, drop, arith}
use Rattle.std.specs.Prelude.{nat_eq, bytes_eq}
use Rattle.std.specs.List.{AllByRecursion, filter, list_all, position_or_len, prefix_len}
use Rattle.std.proofs.lemmas.Bool.{eq-eqb, ne_eqb, or_right, not-true, and_parts}
use Rattle.std.proofs.lemmas.List.{map-append, take-append-drop, take_at, length-map}
use Rattle.lake_model.specs.Journal.{Entry}
use Rattle.lake_model.specs.Layout.{Place, Part, layout, parts_from, is_among, run_of, may_swap, positions_of}
use Rattle.list_laws.specs.Distinct.{Lacks, AreDistinct}
use Rattle.layout_laws.specs.Steps.{numbers_of, positions_in, ArePlaces, AreParts}
use Rattle.list_laws.proofs.ListLemmas.{joined, same_texts, texts_same, all_left, all_right, all_weaker, all_both, all_of, all_unmap, all_tested, test_all, any_none, filter_all, filter_none, distinct_right, distinct_apart}
use Rattle.std.proofs.lemmas.List.Elements.{filter-append}
use Rattle.layout_laws.specs.Places.{kept_places, places_of}
use Rattle.layout_laws.proofs.SwapLemmas.{is_planned, one_part, swapped, swapped_here}
use Rattle.layout_laws.proofs.StayLemmas.{swapped_run, numbers_same, stay_from, layout-append, layout_numbers, layout_before, has_number}

-- ---- what a swap requires of the parts that it takes

pub record MaySwap (run : List Part) (planned kept : List ℕ) : Type 0 where
  pub some : nat_eq (length planned) 0 ≡ false
  pub numbers : numbers_of run ≡ planned
  pub taken : filter (is_among kept) (positions_of run) ≡ kept
  pub others : AllByRecursion (λ place. (is_among kept place.position || place.marked) ≡ true) (places_of run)

pub opened : (parts : List Part) (planned kept : List ℕ) → may_swap parts planned kept ≡ true → MaySwap (run_of planned parts) planned kept
opened parts planned kept h =
    let run = run_of planned parts in
    let s = and_parts (not (nat_eq (length planned) 0) && bytes_eq (numbers_of run) planned && bytes_eq (filter (is_among kept) (positions_of run)) kept) (list_all (λ place. is_among kept place.position || place.marked) (places_of run)) h in
    let t = and_parts (not (nat_eq (length planned) 0) && bytes_eq (numbers_of run) planned) (bytes_eq (filter (is_among kept) (positions_of run)) kept) s.0 in
    let u = and_parts (not (nat_eq (length planned) 0)) (bytes_eq (numbers_of run) planned) t.0 in
    record {
      some = not-true (nat_eq (length planned) 0) u.0;
      numbers = same_texts (numbers_of run) planned u.1;
      taken = same_texts (filter (is_among kept) (positions_of run)) kept t.1;
      others = all_tested (λ (place : Place). is_among kept place.position || place.marked) (places_of run) s.1;
    }

pub closed : (parts : List Part) (planned kept : List ℕ) → MaySwap (run_of planned parts) planned kept → may_swap parts planned kept ≡ true
closed parts planned kept h =
    let run = run_of planned parts in
    joined (not (nat_eq (length planned) 0) && bytes_eq (numbers_of run) planned && bytes_eq (filter (is_among kept) (positions_of run)) kept) (list_all (λ place. is_among kept place.position || place.marked) (places_of run))
    (joined (not (nat_eq (length planned) 0) && bytes_eq (numbers_of run) planned) (bytes_eq (filter (is_among kept) (positions_of run)) kept)
    (joined (not (nat_eq (length planned) 0)) (bytes_eq (numbers_of run) planned) (ap not h.some) (texts_same (numbers_of run) planned h.numbers)) (texts_same (filter (is_among kept) (positions_of run)) kept h.taken))
    (test_all (λ (place : Place). is_among kept place.position || place.marked) (places_of run) h.others)

-- ---- where a run is

pub record Run (parts : List Part) (run : List Part) : Type 0 where
  pub front : List Part
  pub back : List Part
  pub whole : parts ≡ front ++ (run ++ back)

pub run_stands : (parts : List Part) (planned : List ℕ) → Run parts (run_of planned parts)
run_stands parts planned =
    let n = position_or_len (is_planned planned) parts in
    record { front = take n parts; back = drop (length planned) (drop n parts); whole = sym (take-append-drop n parts) ∙ ap (λ ps. take n parts ++ ps) (sym (take-append-drop (length planned) (drop n parts))) }

more_is : (n : ℕ) → 1 + n ≡ suc n
more_is n = omega arith

run_next : (planned : List ℕ) (part : Part) (parts : List Part) → is_planned planned part ≡ false → run_of planned (part ∷ parts) ≡ run_of planned parts
run_next planned part parts h =
    let n = prefix_len (λ (p : Part). not (is_planned planned p)) parts in
    ap (λ (b : Bool). take (length planned) (drop (cond (not b) (1 + n) 0) (part ∷ parts))) h ∙ ap (λ (m : ℕ). take (length planned) (drop m (part ∷ parts))) (more_is n)

run_here : (planned : List ℕ) (part : Part) (parts : List Part) → is_planned planned part ≡ true → run_of planned (part ∷ parts) ≡ take (length planned) (part ∷ parts)
run_here planned part parts h =
    let n = prefix_len (λ (p : Part). not (is_planned planned p)) parts in
    ap (λ (b : Bool). take (length planned) (drop (cond (not b) (1 + n) 0) (part ∷ parts))) h

run_front : (planned : List ℕ) (front parts : List Part) → AllByRecursion (λ part. is_planned planned part ≡ false) front → run_of planned (front ++ parts) ≡ run_of planned parts
run_front planned [] parts h = refl
run_front planned (part ∷ front) parts h = run_next planned part (front ++ parts) h.0 ∙ run_front planned front parts h.1

pub lacks_among : (ns : List ℕ) (n : ℕ) → Lacks ns n → is_among ns n ≡ false
lacks_among ns n h = any_none (nat_eq n) ns (all_weaker (λ (m : ℕ). m ≡ n → ⊥) (λ m. nat_eq n m ≡ false) ns (λ m f. ne_eqb n m (λ e. f (sym e))) h)

pub all_among : (ns : List ℕ) → AllByRecursion (λ n. is_among ns n ≡ true) ns
all_among [] = tt
all_among (n ∷ ns) = (ap (λ b. b || is_among ns n) (eq-eqb n n refl), all_weaker (λ (m : ℕ). is_among ns m ≡ true) (λ m. is_among (n ∷ ns) m ≡ true) ns (λ m h. or_right (nat_eq m n) (is_among ns m) h) (all_among ns))

apart_back : (ms ns : List ℕ) → AreDistinct (ms ++ ns) → AllByRecursion (Lacks ms) ns
apart_back [] ns h = all_of (λ (n : ℕ). Unit {0}) ns (λ n. tt)
apart_back (m ∷ ms) ns h = all_both (λ (n : ℕ). n ≡ m → ⊥) (Lacks ms) (Lacks (m ∷ ms)) ns (λ n f g. ((λ e. f (sym e)), g)) (all_right (λ (n : ℕ). n ≡ m → ⊥) ms ns h.0) (apart_back ms ns h.1)

numbers_apart : (front run back : List Part) → numbers_of (front ++ (run ++ back)) ≡ numbers_of front ++ (numbers_of run ++ numbers_of back)
numbers_apart front run back = map-append (λ (p : Part). p.number) front (run ++ back) ∙ ap (λ ns. numbers_of front ++ ns) (map-append (λ (p : Part). p.number) run back)

module _ (front run back : List Part) (distinct : AreDistinct (numbers_of (front ++ (run ++ back)))) where
  apart : AreDistinct (numbers_of front ++ (numbers_of run ++ numbers_of back))
  apart = subst AreDistinct (numbers_apart front run back) distinct

  pub front_free : AllByRecursion (λ part. is_planned (numbers_of run) part ≡ false) front
  front_free =
      all_unmap (λ (n : ℕ). is_among (numbers_of run) n ≡ false) (λ (p : Part). p.number) front
      (all_weaker (Lacks (numbers_of run ++ numbers_of back)) (λ n. is_among (numbers_of run) n ≡ false) (numbers_of front) (λ n f. lacks_among (numbers_of run) n (all_left (λ (m : ℕ). m ≡ n → ⊥) (numbers_of run) (numbers_of back) f)) (distinct_apart (numbers_of front) (numbers_of run ++ numbers_of back) apart))

  pub back_free : AllByRecursion (λ part. is_planned (numbers_of run) part ≡ false) back
  back_free =
      all_unmap (λ (n : ℕ). is_among (numbers_of run) n ≡ false) (λ (p : Part). p.number) back
      (all_weaker (Lacks (numbers_of run)) (λ n. is_among (numbers_of run) n ≡ false) (numbers_of back) (λ n f. lacks_among (numbers_of run) n f) (apart_back (numbers_of run) (numbers_of back) (distinct_right (numbers_of front) (numbers_of run ++ numbers_of back) apart)))

  pub run_planned : AllByRecursion (λ part. is_planned (numbers_of run) part ≡ true) run
  run_planned = all_unmap (λ (n : ℕ). is_among (numbers_of run) n ≡ true) (λ (p : Part). p.number) run (all_among (numbers_of run))

pub run_is : (front run back : List Part) → AreDistinct (numbers_of (front ++ (run ++ back))) → run_of (numbers_of run) (front ++ (run ++ back)) ≡ run
run_is front [] back h = run_front [] front back (front_free front [] back h)
run_is front (part ∷ run) back h =
    run_front (numbers_of (part ∷ run)) front (part ∷ run ++ back) (front_free front (part ∷ run) back h) ∙ run_here (numbers_of (part ∷ run)) part (run ++ back) (run_planned front (part ∷ run) back h).0
    ∙ take_at (part ∷ run) back (length (numbers_of (part ∷ run))) (sym (length-map (part ∷ run) (λ (p : Part). p.number)))

-- A swap of a run puts one part in its place, or none.
pub swapped_is : (position : ℕ) (kept : List ℕ) (front run back : List Part) → AreDistinct (numbers_of (front ++ (run ++ back))) → nat_eq (length (numbers_of run)) 0 ≡ false
    → swapped position (numbers_of run) kept (front ++ (run ++ back)) ≡ front ++ (one_part position (kept_places kept run) ++ back)
swapped_is position kept front [] back h some = cc
swapped_is position kept front (part ∷ run) back h some =
    let planned = numbers_of (part ∷ run) in
    let is = is_planned planned in
    let free : Part → Bool = λ p. not (is p) in
    let in_run = run_planned front (part ∷ run) back h in
    let in_back = back_free front (part ∷ run) back h in
    let taken : filter is (part ∷ run ++ back) ≡ part ∷ run = filter-append is (part ∷ run) back ∙ (λ i. filter_all is (part ∷ run) in_run i ++ filter_none is back in_back i) ∙ append-nil (part ∷ run) in
    let left : filter free (part ∷ run ++ back) ≡ back =
    filter-append free (part ∷ run) back
    ∙ (λ i. filter_none free (part ∷ run) (all_weaker (λ (p : Part). is p ≡ true) (λ p. free p ≡ false) (part ∷ run) (λ p f. ap not f) in_run) i ++ filter_all free back (all_weaker (λ (p : Part). is p ≡ false) (λ p. free p ≡ true) back (λ p f. ap not f) in_back) i) in
    swapped_run position planned kept front (part ∷ run ++ back) (front_free front (part ∷ run) back h)
    ∙ ap (λ ps. front ++ ps) (swapped_here position planned kept part (run ++ back) in_run.0 ∙ (λ i. one_part position (kept_places kept (taken i)) ++ left i))

-- ---- the same swap, later

places_append : (ps qs ps' qs' : List Place) → ArePlaces ps qs → ArePlaces ps' qs' → ArePlaces (ps ++ ps') (qs ++ qs')
places_append [] [] ps' qs' h k = k
places_append [] (q ∷ qs) ps' qs' h k = absurd h
places_append (p ∷ ps) [] ps' qs' h k = absurd h
places_append (p ∷ ps) (q ∷ qs) ps' qs' h k = (h.0, places_append ps qs ps' qs' h.1 k)

pub places_same : (ps qs : List Part) → AreParts ps qs → ArePlaces (places_of ps) (places_of qs)
places_same [] [] h = tt
places_same [] (q ∷ qs) h = absurd h
places_same (p ∷ ps) [] h = absurd h
places_same (p ∷ ps) (q ∷ qs) h = places_append p.places q.places (places_of ps) (places_of qs) h.0.places (places_same ps qs h.1)

pub positions_same : (ps qs : List Place) → ArePlaces ps qs → positions_in qs ≡ positions_in ps
positions_same [] [] h = refl
positions_same [] (q ∷ qs) h = absurd h
positions_same (p ∷ ps) [] h = absurd h
positions_same (p ∷ ps) (q ∷ qs) h = λ i. h.0.position i ∷ positions_same ps qs h.1 i

others_same : (kept : List ℕ) (ps qs : List Place) → ArePlaces ps qs → AllByRecursion (λ place. (is_among kept place.position || place.marked) ≡ true) ps → AllByRecursion (λ place. (is_among kept place.position || place.marked) ≡ true) qs
others_same kept [] [] h k = tt
others_same kept [] (q ∷ qs) h k = absurd h
others_same kept (p ∷ ps) [] h k = absurd h
others_same kept (p ∷ ps) (q ∷ qs) h k = (by (is_among kept p.position) p.marked (ap (is_among kept) h.0.position) h.0.mark k.0, others_same kept ps qs h.1 k.1)
  where
    by : (a b : Bool) → is_among kept q.position ≡ a → (b ≡ true → q.marked ≡ true) → (a || b) ≡ true → (is_among kept q.position || q.marked) ≡ true
    by true b e f g = ap (λ (c : Bool). c || q.marked) e
    by false true e f g = or_right (is_among kept q.position) q.marked (f refl)
    by false false e f g = cc

pub may_swap_later : (run now : List Part) (planned kept : List ℕ) → AreParts run now → MaySwap run planned kept → MaySwap now planned kept
may_swap_later run now planned kept h k = record {
  some = k.some;
  numbers = numbers_same run now h ∙ k.numbers;
  taken = ap (filter (is_among kept)) (positions_same (places_of run) (places_of now) (places_same run now h)) ∙ k.taken;
  others = others_same kept (places_of run) (places_of now) (places_same run now h) k.others;
}

-- the run of a swap, and the same run later
pub record Later (pinned behind : List Entry) (planned kept : List ℕ) : Type 0 where
  pub may : may_swap (layout (pinned ++ behind)) planned kept ≡ true
  pub same : AreParts (run_of planned (layout pinned)) (run_of planned (layout (pinned ++ behind)))

-- A swap that may follow a journal may follow a longer one that still has the numbers of its parts.
pub swap_later : (pinned behind : List Entry) (planned kept : List ℕ) → may_swap (layout pinned) planned kept ≡ true → list_all (has_number (layout (pinned ++ behind))) planned ≡ true → Later pinned behind planned kept
swap_later pinned behind planned kept h k =
    let parts = layout pinned in
    let run = run_of planned parts in
    let last = layout (pinned ++ behind) in
    let o = opened parts planned kept h in
    let w = run_stands parts planned in
    let before = subst (AllByRecursion (λ (p : Part). p.number < 1 + length pinned)) w.whole (layout_before pinned) in
    let in_run = all_left (λ (p : Part). p.number < 1 + length pinned) run w.back (all_right (λ (p : Part). p.number < 1 + length pinned) w.front (run ++ w.back) before) in
    let goes : last ≡ parts_from (1 + length pinned) (w.front ++ (run ++ w.back)) behind = layout-append pinned behind ∙ ap (λ (ps : List Part). parts_from (1 + length pinned) ps behind) w.whole in
    let numbers : AllByRecursion (λ (p : Part). has_number last p.number ≡ true) run =
    all_unmap (λ (n : ℕ). has_number last n ≡ true) (λ (p : Part). p.number) run (all_tested (has_number last) (numbers_of run) (ap (list_all (has_number last)) o.numbers ∙ k)) in
    let s = stay_from (1 + length pinned) w.front run w.back behind in_run (subst (λ (ps : List Part). AllByRecursion (λ (p : Part). has_number ps p.number ≡ true) run) goes numbers) in
    let whole : last ≡ s.front ++ (s.now ++ s.back) = goes ∙ s.whole in
    let same_numbers : numbers_of s.now ≡ planned = numbers_same run s.now s.same ∙ o.numbers in
    let now_is : run_of planned last ≡ s.now = (λ i. run_of (sym same_numbers i) (whole i)) ∙ run_is s.front s.now s.back (subst (λ (ps : List Part). AreDistinct (numbers_of ps)) whole (layout_numbers (pinned ++ behind))) in
    record {
      may = closed last planned kept (subst (λ (ps : List Part). MaySwap ps planned kept) (sym now_is) (may_swap_later run s.now planned kept s.same o));
      same = subst (AreParts run) (sym now_is) s.same;
    }
