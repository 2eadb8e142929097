-- Slots: one more number, one more key, and the look-up of a key.
use Rattle.std.proofs.Common.{◌≡◌, ◌≢◌, refl, ap, sym, ◌∙◌, subst, inl, inr, ℕ, zero, suc, ◌+◌, ◌-◌, ◌<◌, ◌≤◌, List, [], ◌∷◌, ◌++◌, length, get_or, true, false, arith, Bool, ◌⊎◌}
use Rattle.std.specs.Prelude.{bytes_eq, slice_index, slice_set, Err, IfOk, IfSome, None, Ok, Option, Result, Some}
use Rattle.std.specs.List.{All, AllByRecursion, IsDistinct}
use Rattle.std.specs.Option.{is_some}
use Rattle.std.proofs.lemmas.Bool.{cases_lt}
use Rattle.std.proofs.lemmas.List.{get_or_append_left, get_or-set_other, get_or-set_same, length-set, length-append}
use Rattle.std.proofs.lemmas.Cmp.{nat_list_eq_equiv}
use Rattle.std.proofs.lemmas.Map.Keys.{IsDistinct-push}
use Rattle.std.proofs.lemmas.List.Folds.{list_any_at, list_any_none}
use Rattle.std.proofs.lemmas.Slice.Eq.{bytes_eq-Decides}
use Rattle.lake_model.specs.Texts.{Text}
use Rattle.lake_model.specs.Tables.{has_key}
use Rattle.lake_model.proofs.DistinctLemmas.{no_repeat}
use Rattle.column_set.specs.Slots.{AreFree, Holds, IsAhead, IsFree, IsSlotted, IsSlottedSet, Passes, Reaches, hash_of, home_of, most_probes, next_of}

-- one step more
pub passes_more : (size : ℕ) (slots : List ℕ) (from at steps : ℕ) → Passes size slots from at steps → 0 < slice_index slots at → Passes size slots from (next_of size at) (suc steps)
passes_more size slots from at zero p taken = (subst (λ (n : ℕ). 0 < slice_index slots n) (sym p) taken, ap (next_of size) p)
passes_more size slots from at (suc steps) p taken = (p.0, passes_more size slots (next_of size from) at steps p.1 taken)

-- a slot that is taken is not one that is free
other_slot : (slots : List ℕ) (at to : ℕ) → slice_index slots at ≡ 0 → 0 < slice_index slots to → to ≢ at
other_slot slots at to free taken e = absurd (omega (arith, ap (slice_index slots) e))

still_there : (slots : List ℕ) (at to x : ℕ) → slice_index slots at ≡ 0 → 0 < slice_index slots to → slice_index (slice_set slots at x) to ≡ slice_index slots to
still_there slots at to x free taken = get_or-set_other slots at to x 0 (other_slot slots at to free taken)

-- a path over taken slots stays one when a free slot is taken
passes_kept : (size : ℕ) (slots : List ℕ) (at x from to steps : ℕ) → slice_index slots at ≡ 0 → Passes size slots from to steps → Passes size (slice_set slots at x) from to steps
passes_kept size slots at x from to zero free p = p
passes_kept size slots at x from to (suc steps) free p =
    (omega (arith, p.0, still_there slots at from x free p.0), passes_kept size slots at x (next_of size from) to steps free p.1)

reaches_kept : (size : ℕ) (slots : List ℕ) (at x from to : ℕ) → slice_index slots at ≡ 0 → Reaches size slots from to → Reaches size (slice_set slots at x) from to
reaches_kept size slots at x from to free r = record { steps = r.steps; few = r.few; passes = passes_kept size slots at x from to r.steps free r.passes }

holds_kept : (size : ℕ) (slots : List ℕ) (at x from number : ℕ) → 0 < number → slice_index slots at ≡ 0 → Holds size slots from number → Holds size (slice_set slots at x) from number
holds_kept size slots at x from number some free h =
    record { at = h.at; there = still_there slots at h.at x free (omega (arith, h.there)) ∙ h.there; reached = reaches_kept size slots at x from h.at free h.reached }

holds_new : (size : ℕ) (slots : List ℕ) (at x from : ℕ) → at < length slots → slice_index slots at ≡ 0 → Reaches size slots from at → Holds size (slice_set slots at x) from x
holds_new size slots at x from within free r = record { at = at; there = get_or-set_same slots at x 0 within; reached = reaches_kept size slots at x from at free r }

number_set : (slots : List ℕ) (at x to count : ℕ) → at < length slots → x ≤ count + 1 → ((n : ℕ) → slice_index slots n ≤ count) → slice_index (slice_set slots at x) to ≤ count + 1
number_set slots at x to count within few numbers =
    elim (cases_lt to at) [
      | inl l ↦ omega (arith, numbers to, get_or-set_other slots at to x 0 (λ e. absurd (omega (arith, e))))
      | inr g ↦ elim (cases_lt at to) [
        | inl l ↦ omega (arith, numbers to, get_or-set_other slots at to x 0 (λ e. absurd (omega (arith, e))))
        | inr h ↦ let same : to ≡ at = omega arith in omega (arith, ap (slice_index (slice_set slots at x)) same, get_or-set_same slots at x 0 within)
      ]
    ]

-- no slot is taken at first
all_free : (slots : List ℕ) → AllByRecursion (λ number. (number ≡ 0) ⊎ (number ≡ 0)) slots → (at : ℕ) → slice_index slots at ≡ 0
all_free [] h at = refl
all_free (number ∷ slots) h zero = elim h.0 [ inl e ↦ e | inr e ↦ e ]
all_free (number ∷ slots) h (suc at) = all_free slots h.1 at

pub all_are_free : (slots : List ℕ) → AllByRecursion (λ number. (number ≡ 0) ⊎ (number ≡ 0)) slots → AreFree slots
all_are_free slots h = all_free slots h

pub slotted_none : (slots : List ℕ) (keys : List Text) → AreFree slots → IsSlotted (length slots) slots keys 0
slotted_none slots keys free = record { numbers = λ at. omega (arith, free at); held = λ i less. absurd (omega arith) }

pub no_keys_slotted : (slots : List ℕ) (keys : List Text) → AreFree slots → keys ≡ [] → IsSlottedSet slots keys
no_keys_slotted slots keys free none = subst (IsSlottedSet slots) (sym none) (record { different = no_repeat; slotted = slotted_none slots [] free })

-- the next key takes a free slot
slotted_next : (slots : List ℕ) (keys : List Text) (count at : ℕ) → IsSlotted (length slots) slots keys count → IsFree slots (home_of (length slots) (hash_of (get_or keys count []))) at
    → IsSlotted (length slots) (slice_set slots at (count + 1)) keys (count + 1)
slotted_next slots keys count at s free = record {
  numbers = λ to. number_set slots at (count + 1) to count free.within (omega arith) s.numbers;
  held = λ i less. elim (cases_lt i count) [
    | inl l ↦ holds_kept (length slots) slots at (count + 1) _ (i + 1) (omega arith) free.free (s.held i l)
    | inr g ↦ let same : count ≡ i = omega arith in
        subst (λ (k : ℕ). Holds (length slots) (slice_set slots at (count + 1)) (home_of (length slots) (hash_of (get_or keys k []))) (k + 1)) same (holds_new (length slots) slots at (count + 1) _ free.within free.free free.reached)
  ];
}

pub slotted_more : (slots : List ℕ) (keys : List Text) (count at hash : ℕ) → IsSlotted (length slots) slots keys count → hash ≡ hash_of (get_or keys count [])
    → (read : List ℕ) → read ≡ slots → IsFree read (home_of (length read) hash) at → (new : List ℕ) → new ≡ slice_set slots at (count + 1) → IsSlotted (length new) new keys (count + 1)
slotted_more slots keys count at hash s is read read_is free new same =
    let F : ℕ → Type 0 = λ (h : ℕ). IsFree slots (home_of (length slots) h) at in
    let G : List ℕ → Type 0 = λ (xs : List ℕ). IsFree xs (home_of (length xs) hash) at in
    let next = slotted_next slots keys count at s (subst F is (subst G read_is free)) in
    let size : length slots ≡ length (slice_set slots at (count + 1)) = sym (length-set slots at (count + 1)) in
    let A : ℕ → Type 0 = λ (n : ℕ). IsSlotted n (slice_set slots at (count + 1)) keys (count + 1) in
    let B : List ℕ → Type 0 = λ (xs : List ℕ). IsSlotted (length xs) xs keys (count + 1) in
    subst B (sym same) (subst A size next)

-- keys that were just appended are in no slot yet
pub slotted_behind : (size : ℕ) (slots : List ℕ) (keys : List Text) (key : Text) → IsSlotted size slots keys (length keys) → IsSlotted size slots (keys ++ key ∷ []) (length keys)
slotted_behind size slots keys key s = record {
  numbers = s.numbers;
  held = λ i less. subst (λ (k : Text). Holds size slots (home_of size (hash_of k)) (i + 1)) (sym (get_or_append_left keys (key ∷ []) [] i less)) (s.held i less);
}

last_key : (keys : List Text) (key : Text) → get_or (keys ++ key ∷ []) (length keys) [] ≡ key
last_key [] key = refl
last_key (first ∷ keys) key = last_key keys key

-- one more key, appended and put into a free slot
pub slotted_push : (slots : List ℕ) (keys : List Text) (key : Text) (at hash : ℕ) → IsSlotted (length slots) slots keys (length keys) → hash ≡ hash_of key → IsFree slots (home_of (length slots) hash) at
    → (new : List ℕ) → new ≡ slice_set slots at (length keys + 1) → IsSlotted (length new) new (keys ++ key ∷ []) (length (keys ++ key ∷ []))
slotted_push slots keys key at hash s is free new same =
    let more = slotted_more slots (keys ++ key ∷ []) (length keys) at hash (slotted_behind (length slots) slots keys key s) (is ∙ ap hash_of (sym (last_key keys key))) slots refl free new same in
    subst (λ (n : ℕ). IsSlotted (length new) new (keys ++ key ∷ []) n) (sym (length-append keys (key ∷ []))) more

pub set_push : (slots : List ℕ) (keys : List Text) (key : Text) (at hash : ℕ) → IsSlottedSet slots keys → has_key keys key ≡ false → hash ≡ hash_of key → IsFree slots (home_of (length slots) hash) at
    → (pushed : List Text) → pushed ≡ keys ++ key ∷ [] → (count : ℕ) → count ≡ length pushed → IsSlottedSet (slice_set slots at count) pushed
set_push slots keys key at hash s absent is free pushed pushed_is count count_is =
    let n : count ≡ length keys + 1 = count_is ∙ ap length pushed_is ∙ length-append keys (key ∷ []) in
    let slotted = slotted_push slots keys key at hash s.slotted is free (slice_set slots at count) (ap (slice_set slots at) n) in
    subst (IsSlottedSet (slice_set slots at count)) (sym pushed_is) (record { different = IsDistinct-push nat_list_eq_equiv keys key s.different absent; slotted = slotted })

pub if_slotted : {V E : Type 0} (keys : List Text) (r : Result (Option V) E) (items : V → List ℕ) → IsDistinct bytes_eq keys → IfOk r (λ made. IfSome made (λ slots. IsSlotted (length (items slots)) (items slots) keys (length keys)))
    → IfOk r (λ made. IfSome made (λ slots. IsSlottedSet (items slots) keys))
if_slotted keys (Ok (Some slots)) items d s = record { different = d; slotted = s }
if_slotted keys (Ok None) items d s = tt
if_slotted keys (Err e) items d s = tt

-- if there are slots
pub differ_where_slotted : {V : Type 0} (keys : List Text) (o : Option V) (items : V → List ℕ) → is_some o ≡ true → IfSome o (λ v. IsSlottedSet (items v) keys) → IsDistinct bytes_eq keys
differ_where_slotted keys (Some v) items e s = s.different
differ_where_slotted keys None items e s = cc e

pub set_where_slotted : {V : Type 0} (keys : List Text) (o : Option V) (v : V) (items : V → List ℕ) → o ≡ Some v → IfSome o (λ w. IsSlottedSet (items w) keys) → IsSlottedSet (items v) keys
set_where_slotted {V = V} keys o v items e s = let P : Option V → Type 0 = λ q. IfSome q (λ w. IsSlottedSet (items w) keys) in subst P e s

-- ---- the look-up of a key: if it is one of the keys, its slot is ahead

abbrev pub AllAhead : ℕ → List ℕ → List Text → Text → ℕ → ℕ → Type 0
AllAhead size slots keys key from step = (i : ℕ) → i < length keys → get_or keys i [] ≡ key → IsAhead size slots from step (i + 1)

pub ahead_first : (size : ℕ) (slots : List ℕ) (keys : List Text) (key : Text) (hash from : ℕ) → IsSlotted size slots keys (length keys) → hash ≡ hash_of key → from ≡ home_of size hash → AllAhead size slots keys key from 0
ahead_first size slots keys key hash from s is start = λ i less same.
    let h = s.held i less in
    let there : home_of size (hash_of (get_or keys i [])) ≡ from = ap (λ (k : Text). home_of size (hash_of k)) same ∙ ap (home_of size) (sym is) ∙ sym start in
    record {
      at = h.at;
      there = h.there;
      steps = h.reached.steps;
      few = omega (arith, h.reached.few);
      passes = subst (λ (n : ℕ). Passes size slots n h.at h.reached.steps) there h.reached.passes;
    }

ahead_step : (size : ℕ) (slots : List ℕ) (from step number : ℕ) → slice_index slots from ≢ number → IsAhead size slots from step number → IsAhead size slots (next_of size from) (step + 1) number
ahead_step size slots from step number other a = by a.steps a.few a.passes
  where
    by : (steps : ℕ) → steps + step < most_probes → Passes size slots from a.at steps → IsAhead size slots (next_of size from) (step + 1) number
    by zero few p = absurd (other (ap (slice_index slots) p ∙ a.there))
    by (suc steps) few p = record { at = a.at; there = a.there; steps = steps; few = omega arith; passes = p.1 }

-- after a slot whose key is another
pub ahead_more : (size : ℕ) (slots : List ℕ) (keys : List Text) (key : Text) (from step number : ℕ) → AllAhead size slots keys key from step → number ≡ slice_index slots from → bytes_eq (get_or keys (number - 1) []) key ≡ false
    → AllAhead size slots keys key (next_of size from) (step + 1)
ahead_more size slots keys key from step number all is differs = λ i less same.
    ahead_step size slots from step (i + 1) (λ e.
    let here : number - 1 ≡ i = omega (arith, is ∙ e) in
    let k : get_or keys (number - 1) [] ≡ key = ap (λ (n : ℕ). get_or keys n []) here ∙ same in
    let t : bytes_eq (get_or keys (number - 1) []) key ≡ true = (bytes_eq-Decides (get_or keys (number - 1) []) key).1 k in
    let f : true ≡ false = sym t ∙ differs in
    cc) (all i less same)

not_ahead : (keys : List Text) (key : Text) → ((i : ℕ) → i < length keys → get_or keys i [] ≡ key → false ≡ true) → has_key keys key ≡ false
not_ahead keys key none = list_any_none (bytes_eq key) keys each
  where
    by : (b : Bool) (k : Text) → bytes_eq key k ≡ b → (key ≡ k → false ≡ true) → b ≡ false
    by true k e never = sym (never ((bytes_eq-Decides key k).0 e))
    by false k e never = refl

    each : All (λ k. bytes_eq key k ≡ false) keys
    each = λ i d less. by (bytes_eq key (get_or keys i d)) (get_or keys i d) refl (λ same. none i less (default_at keys i d less ∙ sym same))
      where
        default_at : (ks : List Text) (i : ℕ) (d : Text) → i < length ks → get_or ks i [] ≡ get_or ks i d
        default_at [] i d less = absurd (omega arith)
        default_at (k ∷ ks) zero d less = refl
        default_at (k ∷ ks) (suc i) d less = default_at ks i d (omega arith)

-- at a free slot the key is none of the keys
pub none_ahead : (size : ℕ) (slots : List ℕ) (keys : List Text) (key : Text) (from step : ℕ) → AllAhead size slots keys key from step → slice_index slots from ≡ 0 → has_key keys key ≡ false
none_ahead size slots keys key from step all free = not_ahead keys key (λ i less same. at_free i (all i less same))
  where
    at_free : (i : ℕ) → IsAhead size slots from step (i + 1) → false ≡ true
    at_free i a = by a.steps a.passes
      where
        by : (steps : ℕ) → Passes size slots from a.at steps → false ≡ true
        by zero p = absurd (omega (arith, free, ap (slice_index slots) p, a.there))
        by (suc steps) p = absurd (omega (arith, free, p.0))

-- nor after the last step
pub none_left : (size : ℕ) (slots : List ℕ) (keys : List Text) (key : Text) (from step : ℕ) → AllAhead size slots keys key from step → most_probes ≤ step → has_key keys key ≡ false
none_left size slots keys key from step all end = not_ahead keys key (λ i less same. absurd (omega (arith, (all i less same).few)))

-- nor if there are no slots
empty_slot : (slots : List ℕ) (at : ℕ) → length slots ≡ 0 → slice_index slots at ≡ 0
empty_slot [] at none = refl
empty_slot (number ∷ slots) at none = absurd (omega (arith, none))

pub none_slotted : (slots : List ℕ) (keys : List Text) (key : Text) (size : ℕ) → IsSlotted size slots keys (length keys) → length slots ≡ 0 → has_key keys key ≡ false
none_slotted slots keys key size s none = not_ahead keys key (λ i less same. let h = s.held i less in absurd (omega (arith, h.there, empty_slot slots h.at none)))

-- and a slot that holds the key's number shows that it is there
pub found_ahead : (keys : List Text) (key : Text) (number : ℕ) → 0 < number → number ≤ length keys → bytes_eq (get_or keys (number - 1) []) key ≡ true → has_key keys key ≡ true
found_ahead keys key number some few e =
    list_any_at (bytes_eq key) keys (number - 1) [] (omega arith) ((bytes_eq-Decides key (get_or keys (number - 1) [])).1 (sym ((bytes_eq-Decides (get_or keys (number - 1) []) key).0 e)))
