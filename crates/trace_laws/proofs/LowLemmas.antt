-- One pass over the answers decides whether the positions rise along each lane.
use Rattle.std.proofs.Common.{◌+◌, ◌≤◌, ◌≡◌, refl, ap, sym, ◌∙◌, subst, ℕ, zero, suc, ◌<◌, List, [], ◌∷◌, ◌++◌, flat_map, length, Bool, true, false, cond, arith}
use Rattle.std.specs.Prelude.{◌==◌, ◌&&◌, nat_le, filter, get_or, replicate, slice_set, Option, Some, None}
use Rattle.std.specs.List.{AllByRecursion, list_all}
use Rattle.std.proofs.lemmas.Bool.{eq-eqb, eqb-true, and_parts}
use Rattle.list_laws.proofs.ListLemmas.{not_both}
use Rattle.std.proofs.lemmas.List.{get_or-set_same, get_or-set_other, length-set, length-replicate, get_or-replicate}
use Rattle.record_model.specs.Right.{Moment}
use Rattle.trace_laws.specs.Checks.{is_behind, rises}
use Rattle.trace_laws.specs.Rebuilt.{Hinted}
use Rattle.trace_laws.specs.Passing.{lane_rises, moments_of}
use Rattle.trace_laws.specs.Lows.{PassIsTest, climbed, with_low, lows_on, all_below, rises_on, PassDecides}
use Rattle.trace_laws.proofs.PassingLemmas.{in_range}
use Rattle.trace_laws.proofs.DecidingLemmas.{all_in_range}

-- ---- one lane goes on

abbrev goes_on : Option ℕ → List Moment → ℕ → Bool
goes_on None ms to = false
goes_on (Some low) ms to = rises low ms to

rises_split : (low : ℕ) (ms ns : List Moment) (to : ℕ) → rises low (ms ++ ns) to ≡ goes_on (climbed low ms) ns to
rises_split low [] ns to = refl
rises_split low (m ∷ ms) ns to = by (is_behind m.own low m.at) (rises_split m.at ms ns to)
  where
    by : (b : Bool) → rises m.at (ms ++ ns) to ≡ goes_on (climbed m.at ms) ns to → (b && rises m.at (ms ++ ns) to) ≡ goes_on (cond b (climbed m.at ms) None) ns to
    by true h = h
    by false h = refl

-- ---- the list of last positions

set_other : (lows : List ℕ) (m l low : ℕ) → (m == l) ≡ false → get_or (slice_set lows m low) l 0 ≡ get_or lows l 0
set_other lows m l low e = get_or-set_other lows m l low 0 (λ same. not_both ⊥ (m == l) (eq-eqb m l (sym same)) e)

all_low : (to : ℕ) (lows : List ℕ) (l : ℕ) → list_all (λ low. nat_le low to) lows ≡ true → l < length lows → nat_le (get_or lows l 0) to ≡ true
all_low to [] l h below = absurd (omega (arith, below))
all_low to (x ∷ lows) zero h below = (and_parts (nat_le x to) (list_all (λ low. nat_le low to) lows) h).0
all_low to (x ∷ lows) (suc l) h below = all_low to lows l (and_parts (nat_le x to) (list_all (λ low. nat_le low to) lows) h).1 (omega (arith, below))

low_all : (to : ℕ) (lows : List ℕ) → ((l : ℕ) → l < length lows → nat_le (get_or lows l 0) to ≡ true) → list_all (λ low. nat_le low to) lows ≡ true
low_all to [] h = refl
low_all to (x ∷ lows) h = ap (λ (b : Bool). b && list_all (λ low. nat_le low to) lows) (h 0 (omega arith)) ∙ low_all to lows (λ l below. h (suc l) (omega (arith, below)))

-- ---- one more answer

abbrev pub mine : List Hinted → ℕ → List Moment
mine hinted lane = flat_map (λ (h : Hinted). moments_of h.hint) (filter (λ (h : Hinted). h.command.lane == lane) hinted)

-- a lane's positions, if the first answer is its own
pub own_first : (h : Hinted) (hinted : List Hinted) (lane : ℕ) → (h.command.lane == lane) ≡ true → mine (h ∷ hinted) lane ≡ moments_of h.hint ++ mine hinted lane
own_first h hinted lane e = ap (λ (b : Bool). flat_map (λ (h : Hinted). moments_of h.hint) (cond b (h ∷ filter (λ (h : Hinted). h.command.lane == lane) hinted) (filter (λ (h : Hinted). h.command.lane == lane) hinted))) e

pub other_first : (h : Hinted) (hinted : List Hinted) (lane : ℕ) → (h.command.lane == lane) ≡ false → mine (h ∷ hinted) lane ≡ mine hinted lane
other_first h hinted lane e = ap (λ (b : Bool). flat_map (λ (h : Hinted). moments_of h.hint) (cond b (h ∷ filter (λ (h : Hinted). h.command.lane == lane) hinted) (filter (λ (h : Hinted). h.command.lane == lane) hinted))) e

own_goes : (h : Hinted) (hinted : List Hinted) (lows : List ℕ) (to lane low : ℕ) → (h.command.lane == lane) ≡ true → lane < length lows → climbed (get_or lows h.command.lane 0) (moments_of h.hint) ≡ Some low
    → rises_on (h ∷ hinted) lows to lane ≡ rises_on hinted (slice_set lows h.command.lane low) to lane
own_goes h hinted lows to lane low e below c =
    let same : h.command.lane ≡ lane = eqb-true h.command.lane lane e in
    let at : get_or (slice_set lows h.command.lane low) lane 0 ≡ low = ap (λ (m : ℕ). get_or (slice_set lows m low) lane 0) same ∙ get_or-set_same lows lane low 0 below in
    ap (λ (ms : List Moment). rises (get_or lows lane 0) ms to) (own_first h hinted lane e)
    ∙ ap (λ (m : ℕ). rises (get_or lows m 0) (moments_of h.hint ++ mine hinted lane) to) (sym same)
    ∙ rises_split (get_or lows h.command.lane 0) (moments_of h.hint) (mine hinted lane) to
    ∙ ap (λ (o : Option ℕ). goes_on o (mine hinted lane) to) c
    ∙ ap (λ (m : ℕ). rises m (mine hinted lane) to) (sym at)

other_goes : (h : Hinted) (hinted : List Hinted) (lows : List ℕ) (to lane low : ℕ) → (h.command.lane == lane) ≡ false → rises_on (h ∷ hinted) lows to lane ≡ rises_on hinted (slice_set lows h.command.lane low) to lane
other_goes h hinted lows to lane low e =
    ap (λ (ms : List Moment). rises (get_or lows lane 0) ms to) (other_first h hinted lane e)
    ∙ ap (λ (m : ℕ). rises m (mine hinted lane) to) (sym (set_other lows h.command.lane lane low e))

each_goes : (h : Hinted) (hinted : List Hinted) (lows : List ℕ) (to lane low : ℕ) → lane < length lows → climbed (get_or lows h.command.lane 0) (moments_of h.hint) ≡ Some low
    → rises_on (h ∷ hinted) lows to lane ≡ rises_on hinted (slice_set lows h.command.lane low) to lane
each_goes h hinted lows to lane low below c = by (h.command.lane == lane) refl
  where
    by : (b : Bool) → (h.command.lane == lane) ≡ b → rises_on (h ∷ hinted) lows to lane ≡ rises_on hinted (slice_set lows h.command.lane low) to lane
    by true e = own_goes h hinted lows to lane low e below c
    by false e = other_goes h hinted lows to lane low e

none_on : (to : ℕ) (hinted : List Hinted) → all_below to (lows_on None hinted) ≡ true → ⊥
none_on to [] h = cc
none_on to (x ∷ hinted) h = cc

pass_sound : (to : ℕ) (lows : List ℕ) (hinted : List Hinted) → all_below to (lows_on (Some lows) hinted) ≡ true → (lane : ℕ) → lane < length lows → rises_on hinted lows to lane ≡ true
pass_sound to lows [] h lane below = all_low to lows lane h below
pass_sound to lows (x ∷ hinted) h lane below = by (climbed (get_or lows x.command.lane 0) (moments_of x.hint)) refl h (λ low. pass_sound to (slice_set lows x.command.lane low) hinted)
  where
    by : (o : Option ℕ) → climbed (get_or lows x.command.lane 0) (moments_of x.hint) ≡ o → all_below to (lows_on (with_low lows x.command.lane o) hinted) ≡ true
        → ((low : ℕ) → all_below to (lows_on (Some (slice_set lows x.command.lane low)) hinted) ≡ true → (l : ℕ) → l < length (slice_set lows x.command.lane low) → rises_on hinted (slice_set lows x.command.lane low) to l ≡ true)
        → rises_on (x ∷ hinted) lows to lane ≡ true
    by None e h rest = absurd (none_on to hinted h)
    by (Some low) e h rest = each_goes x hinted lows to lane low below e ∙ rest low h lane (let size = length-set lows x.command.lane low in omega (arith, size, below))

pass_complete : (to : ℕ) (lows : List ℕ) (hinted : List Hinted) → AllByRecursion (λ (h : Hinted). h.command.lane < length lows) hinted → ((lane : ℕ) → lane < length lows → rises_on hinted lows to lane ≡ true) → all_below to (lows_on (Some lows) hinted) ≡ true
pass_complete to lows [] within h = low_all to lows h
pass_complete to lows (x ∷ hinted) within h = by (climbed (get_or lows x.command.lane 0) (moments_of x.hint)) refl (λ low. pass_complete to (slice_set lows x.command.lane low) hinted)
  where
    there : (n : ℕ) (hs : List Hinted) (m : ℕ) → n ≡ m → AllByRecursion (λ (h : Hinted). h.command.lane < n) hs → AllByRecursion (λ (h : Hinted). h.command.lane < m) hs
    there n hs m e k = subst (λ (i : ℕ). AllByRecursion (λ (h : Hinted). h.command.lane < i) hs) e k

    by : (o : Option ℕ) → climbed (get_or lows x.command.lane 0) (moments_of x.hint) ≡ o
        → ((low : ℕ) → AllByRecursion (λ (h : Hinted). h.command.lane < length (slice_set lows x.command.lane low)) hinted → ((l : ℕ) → l < length (slice_set lows x.command.lane low) → rises_on hinted (slice_set lows x.command.lane low) to l ≡ true) → all_below to (lows_on (Some (slice_set lows x.command.lane low)) hinted) ≡ true)
        → all_below to (lows_on (with_low lows x.command.lane o) hinted) ≡ true
    by None e rest =
        let self : (x.command.lane == x.command.lane) ≡ true = eq-eqb x.command.lane x.command.lane refl in
        let no : rises_on (x ∷ hinted) lows to x.command.lane ≡ false =
        ap (λ (ms : List Moment). rises (get_or lows x.command.lane 0) ms to) (own_first x hinted x.command.lane self)
        ∙ rises_split (get_or lows x.command.lane 0) (moments_of x.hint) (mine hinted x.command.lane) to
        ∙ ap (λ (o : Option ℕ). goes_on o (mine hinted x.command.lane) to) e in
        let well = h x.command.lane within.0 in
        cc
    by (Some low) e rest =
        let size = length-set lows x.command.lane low in
        rest low (there (length lows) hinted (length (slice_set lows x.command.lane low)) (sym size) within.1)
        (λ l below. sym (each_goes x hinted lows to l low (omega (arith, size, below)) e) ∙ h l (omega (arith, size, below)))

pub pass_decides : PassDecides
pass_decides lanes to lows hinted size within =
    let within_lows : AllByRecursion (λ (h : Hinted). h.command.lane < length lows) hinted = subst (λ (n : ℕ). AllByRecursion (λ (h : Hinted). h.command.lane < n) hinted) (sym size) within in
    ((λ h lane below. pass_sound to lows hinted h lane (omega (arith, size, below))), (λ h. pass_complete to lows hinted within_lows (λ lane below. h lane (omega (arith, size, below)))))

-- ---- a batch from its start

within_more : (lanes : ℕ) (hinted : List Hinted) → AllByRecursion (λ (h : Hinted). h.command.lane ≤ lanes) hinted → AllByRecursion (λ (h : Hinted). h.command.lane < lanes + 1) hinted
within_more lanes [] h = tt
within_more lanes (x ∷ hinted) h = let le : x.command.lane ≤ lanes = h.0 in (omega (arith, le), within_more lanes hinted h.1)

pub pass_is_test : PassIsTest
pass_is_test lanes from to hinted within =
    let lows : List ℕ = replicate (lanes + 1) from in
    let decides = pass_decides (lanes + 1) to lows hinted (length-replicate (lanes + 1) from) (within_more lanes hinted within) in
    let same : (lane : ℕ) → lane < lanes + 1 → rises_on hinted lows to lane ≡ lane_rises hinted from to lane = λ lane below. ap (λ (low : ℕ). rises low (mine hinted lane) to) (get_or-replicate (lanes + 1) lane from 0 below) in (
      (λ h. all_in_range (lane_rises hinted from to) 0 (lanes + 1) (λ l below. sym (same l (omega (arith, below))) ∙ decides.0 h l (omega (arith, below)))),
      (λ h. decides.1 (λ l below. same l below ∙ in_range (lane_rises hinted from to) 0 (lanes + 1) l h (omega arith) (omega (arith, below)))),
    )
