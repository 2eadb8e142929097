-- The opening desk sees what each lane has seen, one after another.
use Rattle.std.proofs.Common.{◌≡◌, refl, ap, sym, ◌∙◌, subst, ℕ, zero, suc, ◌+◌, ◌-◌, ◌<◌, ◌≤◌, List, [], ◌∷◌, ◌++◌, length, take, get_or, arith, Bool, false}
use Rattle.std.specs.Prelude.{slice_set}
use Rattle.std.specs.List.{AllByRecursion}
use Rattle.std.proofs.lemmas.List.{take_more, take_all}
use mathlib.Core.List.{IsPrefix}
use Rattle.lake_model.specs.Journal.{Entry}
use Rattle.turn_lock.specs.History.{Grows}
use Rattle.turn_lock.specs.Passes.{Known, after_seeing, callers_of}
use Rattle.turn_lock.proofs.Histories.{grows_self, grows_trans}
use Rattle.lake.specs.Lawful.{caller_of}
use Rattle.atomic_table.specs.Seated.{TableId}
use Rattle.command_replies.proofs.PastLemmas.{prefix_on}
use Rattle.lake_desk.specs.Gathered.{AllBegin, AreFree, AreOfOneLock, IsGathered}

pub begin_on : (whole more : List Entry) (lanes : List (Known Entry)) → IsPrefix whole more → AllBegin whole lanes → AllBegin more lanes
begin_on whole more [] p h = tt
begin_on whole more (lane ∷ lanes) p h = (prefix_on lane.seen whole more h.0 p, begin_on whole more lanes p h.1)

begin_last : (whole : List Entry) (lanes : List (Known Entry)) (lane : Known Entry) → AllBegin whole lanes → IsPrefix lane.seen whole → AllBegin whole (lanes ++ lane ∷ [])
begin_last whole [] lane h k = (k, tt)
begin_last whole (x ∷ lanes) lane h k = (h.0, begin_last whole lanes lane h.1 k)

-- how far the lanes were gathered: the first n of them
pub record HasGathered (n : ℕ) (lanes : List (Known Entry)) (before now : Known Entry) : Type 0 where
  pub same : now ≡ after_seeing before now.seen false
  pub grows : Grows caller_of (callers_of before) before.seen now.seen
  pub begin : AllBegin now.seen (take n lanes)

pub gathered_none : (lanes : List (Known Entry)) (before : Known Entry) → before.holds ≡ false → HasGathered 0 lanes before before
gathered_none lanes before free = record { same = ap (λ (b : Bool). after_seeing before before.seen b) free; grows = grows_self caller_of (callers_of before) before.seen; begin = tt }

pub gathered_more : (n : ℕ) (lanes : List (Known Entry)) (before now later lane : Known Entry) (met : List Entry) → HasGathered n lanes before now → n < length lanes → lane ≡ get_or lanes n lane
    → later ≡ after_seeing now met false → Grows caller_of (callers_of now) now.seen later.seen → IsPrefix lane.seen later.seen → HasGathered (n + 1) lanes before later
gathered_more n lanes before now later lane met so_far within at meets grows begins =
    let callers : callers_of now ≡ callers_of before = ap callers_of so_far.same in
    let on : Grows caller_of (callers_of before) now.seen later.seen = subst (λ (cs : List ℕ). Grows caller_of cs now.seen later.seen) callers grows in
    let seen : later.seen ≡ met = ap (λ (p : Known Entry). p.seen) meets in
    record {
      same = meets ∙ ap (λ (p : Known Entry). after_seeing p met false) so_far.same ∙ ap (λ (j : List Entry). after_seeing before j false) (sym seen);
      grows = grows_trans caller_of so_far.grows on;
      begin = subst (AllBegin later.seen) (sym (take_more lanes n lane within ∙ ap (λ (p : Known Entry). take n lanes ++ p ∷ []) (sym at)))
          (begin_last later.seen (take n lanes) lane (begin_on now.seen later.seen (take n lanes) (on.rest, on.begins) so_far.begin) begins);
    }

-- writing what is already there changes nothing
pub set_same : (lanes : List (Known Entry)) (n : ℕ) (lane new : Known Entry) → n < length lanes → lane ≡ get_or lanes n lane → new ≡ lane → slice_set lanes n new ≡ lanes
set_same [] n lane new within at is = absurd (omega (arith, within))
set_same (x ∷ lanes) zero lane new within at is = ap (λ (p : Known Entry). p ∷ lanes) (is ∙ at)
set_same (x ∷ lanes) (suc n) lane new within at is = ap (λ (ps : List (Known Entry)). x ∷ ps) (set_same lanes n lane new (omega (arith, within)) at is)

-- ---- the desks as one list, the opening one first

-- how far the others were gathered, if the next one is at this place
pub record GathersTo (n : ℕ) (before now : List (Known Entry)) : Type 0 where
  pub opening : Known Entry
  pub later : Known Entry
  pub lanes : List (Known Entry)
  pub before_is : before ≡ opening ∷ lanes
  pub now_is : now ≡ later ∷ lanes
  pub gathered : HasGathered (n - 1) lanes opening later

pub gathers_none : (desks : List (Known Entry)) → 0 < length desks → AreFree desks → GathersTo 1 desks desks
gathers_none [] some free = absurd (omega (arith, some))
gathers_none (opening ∷ lanes) some free = record { opening = opening; later = opening; lanes = lanes; before_is = refl; now_is = refl; gathered = gathered_none lanes opening free.0 }

-- the next of the others
of_next : (n : ℕ) (opening : Known Entry) (lanes : List (Known Entry)) (lane : Known Entry) → 1 ≤ n → lane ≡ get_or (opening ∷ lanes) n lane → lane ≡ get_or lanes (n - 1) lane
of_next zero opening lanes lane up at = absurd (omega (arith, up))
of_next (suc n) opening lanes lane up at = at ∙ ap (λ (k : ℕ). get_or lanes k lane) (let e : n ≡ suc n - 1 = omega arith in e)

-- the result of writing at the first place and at the next of the others
set_two : (n : ℕ) (opening : Known Entry) (lanes : List (Known Entry)) (noted later : Known Entry) → 1 ≤ n → slice_set (slice_set (opening ∷ lanes) n noted) 0 later ≡ later ∷ slice_set lanes (n - 1) noted
set_two zero opening lanes noted later up = absurd (omega (arith, up))
set_two (suc n) opening lanes noted later up = ap (λ (k : ℕ). later ∷ slice_set lanes k noted) (let e : n ≡ suc n - 1 = omega arith in e)

first_stays : (n : ℕ) (opening : Known Entry) (lanes : List (Known Entry)) (noted first : Known Entry) → 1 ≤ n → first ≡ get_or (slice_set (opening ∷ lanes) n noted) 0 first → first ≡ opening
first_stays zero opening lanes noted first up at = absurd (omega (arith, up))
first_stays (suc n) opening lanes noted first up at = at

pub gathers_more : (n : ℕ) (before now : List (Known Entry)) (lane noted first later : Known Entry) (met : List Entry) → GathersTo n before now → 1 ≤ n → n < length now
    → lane ≡ get_or now n lane → noted ≡ lane → first ≡ get_or (slice_set now n noted) 0 first
    → later ≡ after_seeing first met false → Grows caller_of (callers_of first) first.seen later.seen → IsPrefix lane.seen later.seen
    → GathersTo (n + 1) before (slice_set (slice_set now n noted) 0 later)
gathers_more n before now lane noted first later met so_far up within at noting from meets grows begins =
    let lanes = so_far.lanes in
    let inside : n - 1 < length lanes = omega (arith, up, within, ap (λ (ds : List (Known Entry)). length ds) so_far.now_is) in
    let found : lane ≡ get_or lanes (n - 1) lane = of_next n so_far.later lanes lane up (at ∙ ap (λ (ds : List (Known Entry)). get_or ds n lane) so_far.now_is) in
    let mine : first ≡ so_far.later = first_stays n so_far.later lanes noted first up (from ∙ ap (λ (ds : List (Known Entry)). get_or (slice_set ds n noted) 0 first) so_far.now_is) in
    let next : n - 1 + 1 ≡ n + 1 - 1 = omega (arith, up) in
    record {
      opening = so_far.opening;
      later = later;
      lanes = lanes;
      before_is = so_far.before_is;
      now_is = ap (λ (ds : List (Known Entry)). slice_set (slice_set ds n noted) 0 later) so_far.now_is ∙ set_two n so_far.later lanes noted later up
          ∙ ap (λ (ds : List (Known Entry)). later ∷ ds) (set_same lanes (n - 1) lane noted inside found noting);
      gathered = subst (λ (k : ℕ). HasGathered k lanes so_far.opening later) next
          (gathered_more (n - 1) lanes so_far.opening so_far.later later lane met so_far.gathered inside found
          (meets ∙ ap (λ (p : Known Entry). after_seeing p met false) mine)
          (subst (λ (p : Known Entry). Grows caller_of (callers_of p) p.seen later.seen) mine grows) begins);
    }

pub gathers_all : (n : ℕ) (before now : List (Known Entry)) → GathersTo n before now → length now ≤ n → IsGathered before now
gathers_all n before now so_far all =
    let enough : length so_far.lanes ≤ n - 1 = omega (arith, all, ap (λ (ds : List (Known Entry)). length ds) so_far.now_is) in
    record {
      opening = so_far.opening;
      later = so_far.later;
      lanes = so_far.lanes;
      before_is = so_far.before_is;
      after_is = so_far.now_is;
      same = so_far.gathered.same;
      grows = so_far.gathered.grows;
      begin = subst (AllBegin so_far.later.seen) (take_all (n - 1) so_far.lanes enough) so_far.gathered.begin;
    }

-- ---- one lock

lock_at : (lock : TableId) (lanes : List (Known Entry)) (n : ℕ) (lane : Known Entry) → AllByRecursion (λ desk. desk.lock ≡ lock) lanes → n < length lanes → lane ≡ get_or lanes n lane → lane.lock ≡ lock
lock_at lock [] n lane h within is = absurd (omega (arith, within))
lock_at lock (x ∷ lanes) zero lane h within is = ap (λ (p : Known Entry). p.lock) is ∙ h.0
lock_at lock (x ∷ lanes) (suc n) lane h within is = lock_at lock lanes n lane h.1 (omega (arith, within)) is

-- the next desk and the opening one have one lock
pub gathers_lock : (n : ℕ) (before now : List (Known Entry)) (lane noted first : Known Entry) → GathersTo n before now → AreOfOneLock before → 1 ≤ n → n < length now → lane ≡ get_or now n lane
    → first ≡ get_or (slice_set now n noted) 0 first → lane.lock ≡ first.lock
gathers_lock n before now lane noted first so_far one up within at from =
    let lanes = so_far.lanes in
    let all : AllByRecursion (λ (desk : Known Entry). desk.lock ≡ one.lock) (so_far.opening ∷ lanes) = subst (AllByRecursion (λ (desk : Known Entry). desk.lock ≡ one.lock)) so_far.before_is one.each in
    let inside : n - 1 < length lanes = omega (arith, up, within, ap (λ (ds : List (Known Entry)). length ds) so_far.now_is) in
    let found : lane ≡ get_or lanes (n - 1) lane = of_next n so_far.later lanes lane up (at ∙ ap (λ (ds : List (Known Entry)). get_or ds n lane) so_far.now_is) in
    let mine : first ≡ so_far.later = first_stays n so_far.later lanes noted first up (from ∙ ap (λ (ds : List (Known Entry)). get_or (slice_set ds n noted) 0 first) so_far.now_is) in
    lock_at one.lock lanes (n - 1) lane all.1 inside found ∙ sym (ap (λ (p : Known Entry). p.lock) mine ∙ ap (λ (p : Known Entry). p.lock) so_far.gathered.same ∙ all.0)
