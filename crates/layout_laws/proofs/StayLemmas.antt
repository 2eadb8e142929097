-- Part numbers are distinct, a part keeps its number and its places, and adjacent parts stay adjacent.
use Rattle.std.proofs.Common.{◌≡◌, refl, ap, sym, ◌∙◌, subst, ℕ, ◌+◌, ◌<◌, List, [], ◌∷◌, ◌++◌, append_assoc, Bool, true, false, not, ◌||◌, map, length, arith}
use Rattle.std.specs.Prelude.{nat_eq}
use Rattle.std.specs.List.{AllByRecursion, filter}
use Rattle.std.proofs.lemmas.Bool.{ne_eqb}
use Rattle.std.proofs.lemmas.List.{map-append}
use Rattle.lake_model.specs.Texts.{Text}
use Rattle.lake_model.specs.Tables.{Table}
use Rattle.lake_model.specs.Journal.{What, Loaded, Dropped, Replaced, Swapped, Entry, has_name}
use Rattle.lake_model.specs.Layout.{Place, Part, part_with, layout, parts_from, parts_after, mark, mark_place, is_among}
use Rattle.list_laws.specs.Distinct.{Lacks, AreDistinct}
use Rattle.layout_laws.specs.Steps.{numbers_of, IsSamePlace, ArePlaces, IsSamePart, AreParts}
use Rattle.list_laws.proofs.ListLemmas.{split_bool, not_both, all_append, all_weaker, all_both, all_map, all_unmap, all_filter, all_passed, any_none, none_any, filter_all, distinct_push, distinct_filter}
use Rattle.std.proofs.lemmas.List.Elements.{filter-append}
use Rattle.layout_laws.specs.Places.{kept_places}
use Rattle.layout_laws.proofs.SwapLemmas.{is_planned, one_part, all_one, swapped, swapped_here, swapped_next, all_swapped, all_marked, all_after}

-- ---- a journal that continues

pub parts_from-append : (position : ℕ) (parts : List Part) (entries more : List Entry) → parts_from position parts (entries ++ more) ≡ parts_from (position + length entries) (parts_from position parts entries) more
parts_from-append position parts [] more = let e : position ≡ position + length {A = Entry} [] = omega arith in ap (λ (n : ℕ). parts_from n parts more) e
parts_from-append position parts (first ∷ entries) more =
    let e : position + 1 + length entries ≡ position + length (first ∷ entries) = omega arith in
    parts_from-append (position + 1) (parts_after position parts first.what) entries more ∙ ap (λ (n : ℕ). parts_from n (parts_from (position + 1) (parts_after position parts first.what) entries) more) e

pub layout-append : (journal more : List Entry) → layout (journal ++ more) ≡ parts_from (1 + length journal) (layout journal) more
layout-append journal more = parts_from-append 1 [] journal more

-- ---- a part before and now

place_itself : (p : Place) → IsSamePlace p p
place_itself p = record { position = refl; table = refl; mark = λ h. h }

pub places_themselves : (ps : List Place) → ArePlaces ps ps
places_themselves [] = tt
places_themselves (p ∷ ps) = (place_itself p, places_themselves ps)

pub places_later : (ps qs rs : List Place) → ArePlaces ps qs → ArePlaces qs rs → ArePlaces ps rs
places_later [] [] [] h k = tt
places_later [] [] (r ∷ rs) h k = k
places_later [] (q ∷ qs) rs h k = absurd h
places_later (p ∷ ps) [] rs h k = absurd h
places_later (p ∷ ps) (q ∷ qs) [] h k = absurd k
places_later (p ∷ ps) (q ∷ qs) (r ∷ rs) h k =
    (record { position = k.0.position ∙ h.0.position; table = k.0.table ∙ h.0.table; mark = λ m. k.0.mark (h.0.mark m) }, places_later ps qs rs h.1 k.1)

pub places_marked : (name : Text) (ps : List Place) → ArePlaces ps (map (mark_place name) ps)
places_marked name [] = tt
places_marked name (p ∷ ps) = (record { position = refl; table = refl; mark = λ h. ap (λ (b : Bool). b || has_name name p.table) h }, places_marked name ps)

pub part_itself : (p : Part) → IsSamePart p p
part_itself p = record { number = refl; places = places_themselves p.places }

pub part_later : (p q r : Part) → IsSamePart p q → IsSamePart q r → IsSamePart p r
part_later p q r h k = record { number = k.number ∙ h.number; places = places_later p.places q.places r.places h.places k.places }

pub part_marked : (name : Text) (p : Part) → IsSamePart p (mark name p)
part_marked name p = record { number = refl; places = places_marked name p.places }

pub parts_themselves : (ps : List Part) → AreParts ps ps
parts_themselves [] = tt
parts_themselves (p ∷ ps) = (part_itself p, parts_themselves ps)

pub parts_later : (ps qs rs : List Part) → AreParts ps qs → AreParts qs rs → AreParts ps rs
parts_later [] [] [] h k = tt
parts_later [] [] (r ∷ rs) h k = k
parts_later [] (q ∷ qs) rs h k = absurd h
parts_later (p ∷ ps) [] rs h k = absurd h
parts_later (p ∷ ps) (q ∷ qs) [] h k = absurd k
parts_later (p ∷ ps) (q ∷ qs) (r ∷ rs) h k = (part_later p q r h.0 k.0, parts_later ps qs rs h.1 k.1)

pub parts_marked : (name : Text) (ps : List Part) → AreParts ps (map (mark name) ps)
parts_marked name [] = tt
parts_marked name (p ∷ ps) = (part_marked name p, parts_marked name ps)

pub numbers_same : (ps qs : List Part) → AreParts ps qs → numbers_of qs ≡ numbers_of ps
numbers_same [] [] h = refl
numbers_same [] (q ∷ qs) h = absurd h
numbers_same (p ∷ ps) [] h = absurd h
numbers_same (p ∷ ps) (q ∷ qs) h = λ i. h.0.number i ∷ numbers_same ps qs h.1 i

-- ---- numbers

numbers_marked : (name : Text) (parts : List Part) → numbers_of (map (mark name) parts) ≡ numbers_of parts
numbers_marked name [] = refl
numbers_marked name (part ∷ parts) = ap (λ ns. part.number ∷ ns) (numbers_marked name parts)

one_distinct : (number : ℕ) (places : List Place) (parts : List Part) → Lacks (numbers_of parts) number → AreDistinct (numbers_of parts) → AreDistinct (numbers_of (one_part number places ++ parts))
one_distinct number [] parts h k = k
one_distinct number (place ∷ places) parts h k = (h, k)

abbrev IsOther : ℕ → Part → Type 0
IsOther n part = part.number ≡ n → ⊥

numbers_swapped : (position : ℕ) (planned kept : List ℕ) (parts : List Part) → AllByRecursion (λ part. part.number < position) parts → AreDistinct (numbers_of parts) → AreDistinct (numbers_of (swapped position planned kept parts))
numbers_swapped position planned kept [] h k = tt
numbers_swapped position planned kept (part ∷ parts) h k =
    let rest = numbers_swapped position planned kept parts h.1 k.1 in
    let others : AllByRecursion (IsOther part.number) (swapped position planned kept parts) = all_swapped (IsOther part.number) position planned kept parts (λ places e. omega (arith, h.0)) (all_unmap (λ (n : ℕ). n ≡ part.number → ⊥) (λ (p : Part). p.number) parts k.0) in
    let new : AllByRecursion (IsOther position) (part ∷ parts) = all_weaker (λ (p : Part). p.number < position) (IsOther position) (part ∷ parts) (λ p lt e. omega arith) h in
    split_bool (AreDistinct (numbers_of (swapped position planned kept (part ∷ parts)))) (is_planned planned part)
    (λ e. subst (λ (ps : List Part). AreDistinct (numbers_of ps)) (sym (swapped_here position planned kept part parts e))
    (one_distinct position (kept_places kept (filter (is_planned planned) (part ∷ parts))) (filter (λ p. not (is_planned planned p)) (part ∷ parts))
    (all_map (λ (n : ℕ). n ≡ position → ⊥) (λ (p : Part). p.number) (filter (λ p. not (is_planned planned p)) (part ∷ parts)) (all_filter (IsOther position) (λ p. not (is_planned planned p)) (part ∷ parts) new))
    (distinct_filter (λ (p : Part). p.number) (λ p. not (is_planned planned p)) (part ∷ parts) k)))
    (λ e. subst (λ (ps : List Part). AreDistinct (numbers_of ps)) (sym (swapped_next position planned kept part parts e))
    (all_map (λ (n : ℕ). n ≡ part.number → ⊥) (λ (p : Part). p.number) (swapped position planned kept parts) others, rest))

numbers_put : (position : ℕ) (table : Table) (parts : List Part) → AllByRecursion (λ part. part.number < position) parts → AreDistinct (numbers_of parts) → AreDistinct (numbers_of (parts ++ part_with position table ∷ []))
numbers_put position table parts h k =
    subst AreDistinct (sym (map-append (λ (p : Part). p.number) parts _)) (distinct_push (numbers_of parts) position k (all_map (λ (n : ℕ). n ≡ position → ⊥) (λ (p : Part). p.number) parts (all_weaker (λ (p : Part). p.number < position) (IsOther position) parts (λ p lt e. omega arith) h)))

pub numbers_after : (position : ℕ) (what : What) (parts : List Part) → AllByRecursion (λ part. part.number < position) parts → AreDistinct (numbers_of parts) → AreDistinct (numbers_of (parts_after position parts what))
numbers_after position (Loaded table) parts h k = numbers_put position table parts h k
numbers_after position (Dropped name) parts h k = subst AreDistinct (sym (numbers_marked name parts)) k
numbers_after position (Replaced table) parts h k =
    numbers_put position table (map (mark table.name) parts) (all_marked (λ (p : Part). p.number < position) table.name parts (λ p lt. lt) h) (subst AreDistinct (sym (numbers_marked table.name parts)) k)
numbers_after position (Swapped planned kept) parts h k = numbers_swapped position planned kept parts h k

pub before_after : (position : ℕ) (what : What) (parts : List Part) → AllByRecursion (λ part. part.number < position) parts → AllByRecursion (λ part. part.number < position + 1) (parts_after position parts what)
before_after position what parts h =
    all_after (λ (p : Part). p.number < position + 1) position what parts (λ places. omega arith) (λ name p lt. lt) (all_weaker (λ (p : Part). p.number < position) (λ p. p.number < position + 1) parts (λ p lt. omega arith) h)

numbers_from : (position : ℕ) (parts : List Part) (entries : List Entry) → AllByRecursion (λ part. part.number < position) parts → AreDistinct (numbers_of parts) → AreDistinct (numbers_of (parts_from position parts entries))
numbers_from position parts [] h k = k
numbers_from position parts (entry ∷ entries) h k = numbers_from (position + 1) (parts_after position parts entry.what) entries (before_after position entry.what parts h) (numbers_after position entry.what parts h k)

before_from : (position : ℕ) (parts : List Part) (entries : List Entry) → AllByRecursion (λ part. part.number < position) parts → AllByRecursion (λ part. part.number < position + length entries) (parts_from position parts entries)
before_from position parts [] h = all_weaker (λ (p : Part). p.number < position) (λ p. p.number < position + 0) parts (λ p lt. omega arith) h
before_from position parts (entry ∷ entries) h =
    all_weaker (λ (p : Part). p.number < position + 1 + length entries) (λ p. p.number < position + length (entry ∷ entries)) (parts_from position parts (entry ∷ entries)) (λ p lt. omega arith)
    (before_from (position + 1) (parts_after position parts entry.what) entries (before_after position entry.what parts h))

pub layout_numbers : (journal : List Entry) → AreDistinct (numbers_of (layout journal))
layout_numbers journal = numbers_from 1 [] journal tt tt

pub layout_before : (journal : List Entry) → AllByRecursion (λ part. part.number < 1 + length journal) (layout journal)
layout_before journal = before_from 1 [] journal tt

-- ---- a number that occurs again is of the same part

abbrev pub IsFixed : Part → Part → Type 0
IsFixed part now = now.number ≡ part.number → IsSamePart part now

fixed_from : (part : Part) (position : ℕ) (parts : List Part) (entries : List Entry) → part.number < position → AllByRecursion (IsFixed part) parts → AllByRecursion (IsFixed part) (parts_from position parts entries)
fixed_from part position parts [] lt h = h
fixed_from part position parts (entry ∷ entries) lt h =
    fixed_from part (position + 1) (parts_after position parts entry.what) entries (omega arith)
    (all_after (IsFixed part) position entry.what parts (λ places e. absurd (omega arith)) (λ name p f e. part_later part p (mark name p) (f e) (part_marked name p)) h)

pub fixed_here : (parts : List Part) → AreDistinct (numbers_of parts) → AllByRecursion (λ part. AllByRecursion (IsFixed part) parts) parts
fixed_here [] h = tt
fixed_here (part ∷ parts) h =
    let others = all_unmap (λ (n : ℕ). n ≡ part.number → ⊥) (λ (p : Part). p.number) parts h.0 in (
      (λ e. part_itself part, all_weaker (IsOther part.number) (IsFixed part) parts (λ p f e. absurd (f e)) others),
      all_both (IsOther part.number) (λ p. AllByRecursion (IsFixed p) parts) (λ p. AllByRecursion (IsFixed p) (part ∷ parts)) parts (λ p f k. ((λ e. absurd (f (sym e))), k)) others (fixed_here parts h.1),
    )

pub layout_fixed : (pinned behind : List Entry) → AllByRecursion (λ part. AllByRecursion (IsFixed part) (layout (pinned ++ behind))) (layout pinned)
layout_fixed pinned behind =
    all_both (λ (part : Part). part.number < 1 + length pinned) (λ part. AllByRecursion (IsFixed part) (layout pinned)) (λ part. AllByRecursion (IsFixed part) (layout (pinned ++ behind))) (layout pinned)
    (λ part lt h. subst (AllByRecursion (IsFixed part)) (sym (layout-append pinned behind)) (fixed_from part (1 + length pinned) (layout pinned) behind lt h)) (layout_before pinned) (fixed_here (layout pinned) (layout_numbers pinned))

-- ---- a number that is gone does not come back

abbrev IsNot : ℕ → Part → Type 0
IsNot n part = nat_eq n part.number ≡ false

abbrev pub has_number : List Part → ℕ → Bool
has_number parts n = is_among (numbers_of parts) n

lacks_from : (n position : ℕ) (parts : List Part) (entries : List Entry) → n < position → AllByRecursion (IsNot n) parts → AllByRecursion (IsNot n) (parts_from position parts entries)
lacks_from n position parts [] lt h = h
lacks_from n position parts (entry ∷ entries) lt h =
    lacks_from n (position + 1) (parts_after position parts entry.what) entries (omega arith) (all_after (IsNot n) position entry.what parts (λ places. ne_eqb n position (λ e. omega arith)) (λ name p f. f) h)

pub gone_from : (n position : ℕ) (parts : List Part) (entries : List Entry) → n < position → has_number parts n ≡ false → has_number (parts_from position parts entries) n ≡ false
gone_from n position parts entries lt h =
    any_none (nat_eq n) (numbers_of (parts_from position parts entries)) (all_map (λ (m : ℕ). nat_eq n m ≡ false) (λ (p : Part). p.number) (parts_from position parts entries)
    (lacks_from n position parts entries lt (all_unmap (λ (m : ℕ). nat_eq n m ≡ false) (λ (p : Part). p.number) parts (none_any (nat_eq n) (numbers_of parts) h))))

-- a swap removes every planned part
planned_gone : (n position : ℕ) (planned kept : List ℕ) (parts : List Part) → n < position → is_among planned n ≡ true → AllByRecursion (IsNot n) (swapped position planned kept parts)
planned_gone n position planned kept [] lt h = tt
planned_gone n position planned kept (part ∷ parts) lt h =
    let rest = planned_gone n position planned kept parts lt h in
    let other : (p : Part) → is_planned planned p ≡ false → IsNot n p = λ p f. ne_eqb n p.number (λ e. not_both ⊥ (is_among planned n) h (ap (is_among planned) e ∙ f)) in
    split_bool (AllByRecursion (IsNot n) (swapped position planned kept (part ∷ parts))) (is_planned planned part)
    (λ e. subst (AllByRecursion (IsNot n)) (sym (swapped_here position planned kept part parts e)) (all_append (IsNot n) (one_part position (kept_places kept (filter (is_planned planned) (part ∷ parts)))) (filter (λ p. not (is_planned planned p)) (part ∷ parts))
    (all_one (IsNot n) position (kept_places kept (filter (is_planned planned) (part ∷ parts))) (λ places. ne_eqb n position (λ e. omega arith)))
    (all_weaker (λ (p : Part). not (is_planned planned p) ≡ true) (IsNot n) (filter (λ p. not (is_planned planned p)) (part ∷ parts)) (λ p f. other p (unsaid (is_planned planned p) f)) (all_passed (λ p. not (is_planned planned p)) (part ∷ parts)))))
    (λ e. subst (AllByRecursion (IsNot n)) (sym (swapped_next position planned kept part parts e)) (other part e, rest))
  where
    unsaid : (b : Bool) → not b ≡ true → b ≡ false
    unsaid true f = cc
    unsaid false f = refl

-- ---- adjacent parts that stay are adjacent

-- these parts are adjacent among the others, perhaps with more marks
pub record StayIn (run parts : List Part) : Type 0 where
  pub front : List Part
  pub now : List Part
  pub back : List Part
  pub whole : parts ≡ front ++ (now ++ back)
  pub same : AreParts run now

pub swapped_run : (position : ℕ) (planned kept : List ℕ) (run back : List Part) → AllByRecursion (λ part. is_planned planned part ≡ false) run → swapped position planned kept (run ++ back) ≡ run ++ swapped position planned kept back
swapped_run position planned kept [] back h = refl
swapped_run position planned kept (part ∷ run) back h = swapped_next position planned kept part (run ++ back) h.0 ∙ ap (λ ps. part ∷ ps) (swapped_run position planned kept run back h.1)

stay_swapped : (position : ℕ) (planned kept : List ℕ) (front run back : List Part) → AllByRecursion (λ part. is_planned planned part ≡ false) run → StayIn run (swapped position planned kept (front ++ (run ++ back)))
stay_swapped position planned kept [] run back h = record { front = []; now = run; back = swapped position planned kept back; whole = swapped_run position planned kept run back h; same = parts_themselves run }
stay_swapped position planned kept (part ∷ front) run back h =
    let rest = stay_swapped position planned kept front run back h in
    let free : Part → Bool = λ p. not (is_planned planned p) in
    let one = one_part position (kept_places kept (filter (is_planned planned) (part ∷ front ++ (run ++ back)))) in
    let left : filter free (part ∷ front ++ (run ++ back)) ≡ filter free (part ∷ front) ++ (run ++ filter free back) =
    filter-append free (part ∷ front) (run ++ back) ∙ ap (λ ps. filter free (part ∷ front) ++ ps) (filter-append free run back ∙ ap (λ ps. ps ++ filter free back) (filter_all free run (all_weaker (λ (p : Part). is_planned planned p ≡ false) (λ p. free p ≡ true) run (λ p f. ap not f) h))) in
    split_bool (StayIn run (swapped position planned kept (part ∷ front ++ (run ++ back)))) (is_planned planned part)
    (λ e. record {
      front = one ++ filter free (part ∷ front);
      now = run;
      back = filter free back;
      whole = swapped_here position planned kept part (front ++ (run ++ back)) e ∙ ap (λ ps. one ++ ps) left ∙ sym (append_assoc one (filter free (part ∷ front)) (run ++ filter free back));
      same = parts_themselves run;
    })
    (λ e. record { front = part ∷ rest.front; now = rest.now; back = rest.back; whole = swapped_next position planned kept part (front ++ (run ++ back)) e ∙ ap (λ ps. part ∷ ps) rest.whole; same = rest.same })

stay_marked : (name : Text) (front run back : List Part) → StayIn run (map (mark name) (front ++ (run ++ back)))
stay_marked name front run back =
    record { front = map (mark name) front; now = map (mark name) run; back = map (mark name) back; whole = map-append (mark name) front (run ++ back) ∙ ap (λ ps. map (mark name) front ++ ps) (map-append (mark name) run back); same = parts_marked name run }

stay_after : (position : ℕ) (what : What) (front run back : List Part) → AllByRecursion (λ part. part.number < position) run
    → AllByRecursion (λ part. has_number (parts_after position (front ++ (run ++ back)) what) part.number ≡ true) run → StayIn run (parts_after position (front ++ (run ++ back)) what)
stay_after position (Loaded table) front run back h k =
    let new = parts_after position [] (Loaded table) in
    record { front = front; now = run; back = back ++ new; whole = append_assoc front (run ++ back) new ∙ ap (λ ps. front ++ ps) (append_assoc run back new); same = parts_themselves run }
stay_after position (Dropped name) front run back h k = stay_marked name front run back
stay_after position (Replaced table) front run back h k =
    let s = stay_marked table.name front run back in
    let new = parts_after position [] (Loaded table) in
    record { front = s.front; now = s.now; back = s.back ++ new; whole = ap (λ ps. ps ++ new) s.whole ∙ append_assoc s.front (s.now ++ s.back) new ∙ ap (λ ps. s.front ++ ps) (append_assoc s.now s.back new); same = s.same }
stay_after position (Swapped planned kept) front run back h k =
    stay_swapped position planned kept front run back (all_both (λ (p : Part). p.number < position) (λ p. has_number (swapped position planned kept (front ++ (run ++ back))) p.number ≡ true) (λ p. is_planned planned p ≡ false) run
    (λ p lt there. split_bool (is_planned planned p ≡ false) (is_planned planned p)
    (λ e. not_both (is_planned planned p ≡ false) (has_number (swapped position planned kept (front ++ (run ++ back))) p.number) there
    (any_none (nat_eq p.number) (numbers_of (swapped position planned kept (front ++ (run ++ back)))) (all_map (λ (m : ℕ). nat_eq p.number m ≡ false) (λ (q : Part). q.number) (swapped position planned kept (front ++ (run ++ back))) (planned_gone p.number position planned kept (front ++ (run ++ back)) lt e))))
    (λ e. e)) h k)

pub all_same : (P : ℕ → Type 0) (ps qs : List Part) → AreParts ps qs → AllByRecursion (λ part. P part.number) ps → AllByRecursion (λ part. P part.number) qs
all_same P [] [] h k = tt
all_same P [] (q ∷ qs) h k = absurd h
all_same P (p ∷ ps) [] h k = absurd h
all_same P (p ∷ ps) (q ∷ qs) h k = (subst P (sym h.0.number) k.0, all_same P ps qs h.1 k.1)

pub stay_from : (position : ℕ) (front run back : List Part) (entries : List Entry) → AllByRecursion (λ part. part.number < position) run
    → AllByRecursion (λ part. has_number (parts_from position (front ++ (run ++ back)) entries) part.number ≡ true) run → StayIn run (parts_from position (front ++ (run ++ back)) entries)
stay_from position front run back [] h k = record { front = front; now = run; back = back; whole = refl; same = parts_themselves run }
stay_from position front run back (entry ∷ entries) h k =
    let next = parts_after position (front ++ (run ++ back)) entry.what in
    let there : AllByRecursion (λ (p : Part). has_number next p.number ≡ true) run =
    all_both (λ (p : Part). p.number < position) (λ p. has_number (parts_from (position + 1) next entries) p.number ≡ true) (λ p. has_number next p.number ≡ true) run
    (λ p lt last. split_bool (has_number next p.number ≡ true) (has_number next p.number) (λ e. e)
    (λ e. not_both (has_number next p.number ≡ true) (has_number (parts_from (position + 1) next entries) p.number) last (gone_from p.number (position + 1) next entries (omega arith) e))) h k in
    let s = stay_after position entry.what front run back h there in
    let rest = stay_from (position + 1) s.front s.now s.back entries (all_same (λ (n : ℕ). n < position + 1) run s.now s.same (all_weaker (λ (p : Part). p.number < position) (λ p. p.number < position + 1) run (λ p lt. omega arith) h))
    (subst (λ (ps : List Part). AllByRecursion (λ (p : Part). has_number (parts_from (position + 1) ps entries) p.number ≡ true) s.now) s.whole (all_same (λ (n : ℕ). has_number (parts_from (position + 1) next entries) n ≡ true) run s.now s.same k)) in
    record { front = rest.front; now = rest.now; back = rest.back; whole = ap (λ (ps : List Part). parts_from (position + 1) ps entries) s.whole ∙ rest.whole; same = parts_later run s.now rest.now s.same rest.same }
