-- What the opening desk has seen is handed to one lane after another.
use Rattle.std.proofs.Common.{◌≡◌, refl, ap, sym, ◌∙◌, subst, ℕ, zero, suc, ◌+◌, ◌-◌, ◌<◌, ◌≤◌, List, [], ◌∷◌, length, get_or, arith, Bool, true, false, cond, ltb}
use Rattle.std.specs.Prelude.{slice_set}
use Rattle.std.specs.List.{AllByRecursion}
use Rattle.std.proofs.lemmas.Bool.Decides.{nat_tests}
use mathlib.Core.List.{IsPrefix}
use Rattle.lake_model.specs.Journal.{Entry}
use Rattle.turn_lock.specs.History.{Grows, longer}
use Rattle.turn_lock.specs.Passes.{Known, after_seeing, callers_of}
use Rattle.turn_lock.proofs.Histories.{prefix_whole}
use Rattle.lake.specs.Lawful.{caller_of}
use Rattle.lake_desk.specs.Gathered.{AllBegin, AllMeet, AreHandedOut, AreOfOneLock, IsBehindAll}

-- of a beginning and the whole, the longer one is the whole
pub longer_whole : (xs ys : List Entry) → IsPrefix xs ys → longer xs ys ≡ ys
longer_whole xs ys p = by (ltb (length xs) (length ys)) refl
  where
    by : (b : Bool) → ltb (length xs) (length ys) ≡ b → cond b ys xs ≡ ys
    by true is = refl
    by false is = prefix_whole xs ys p (let le : length ys ≤ length xs = grind (arith, nat_tests) in le)

-- the first n lanes have come to see the list, and the others are unchanged
abbrev pub AreHanded : List Entry → ℕ → List (Known Entry) → List (Known Entry) → Type 0
AreHanded whole zero olds news = olds ≡ news
AreHanded whole (suc n) [] [] = Unit {0}
AreHanded whole (suc n) [] (new ∷ news) = ⊥
AreHanded whole (suc n) (old ∷ olds) [] = ⊥
AreHanded whole (suc n) (old ∷ olds) (new ∷ news) = (new ≡ after_seeing old whole false) × Grows caller_of (callers_of old) old.seen whole × AreHanded whole n olds news

-- the desk that the step leaves at a place
pub record IsHanded (whole : List Entry) (lane new : Known Entry) : Type 0 where
  pub same : new ≡ after_seeing lane whole false
  pub grows : Grows caller_of (callers_of lane) lane.seen whole

handed_next : (whole : List Entry) (n : ℕ) (olds news : List (Known Entry)) (lane new : Known Entry) → AreHanded whole n olds news → n < length news → lane ≡ get_or news n lane → IsHanded whole lane new
    → AreHanded whole (suc n) olds (slice_set news n new)
handed_next whole zero [] news lane new h within at is = absurd (let e : length {A = Known Entry} [] ≡ length news = ap (λ (ls : List (Known Entry)). length ls) h in omega (arith, e, within))
handed_next whole zero (old ∷ olds) [] lane new h within at is = absurd (omega (arith, within))
handed_next whole zero (old ∷ olds) (x ∷ news) lane new h within at is =
    let first : old ≡ x = cc in
    let rest : olds ≡ news = cc in
    let mine : IsHanded whole old new = subst (λ (p : Known Entry). IsHanded whole p new) (at ∙ sym first) is in
    (mine.same, mine.grows, rest)
handed_next whole (suc n) [] [] lane new h within at is = absurd (omega (arith, within))
handed_next whole (suc n) [] (x ∷ news) lane new h within at is = absurd h
handed_next whole (suc n) (old ∷ olds) [] lane new h within at is = absurd h
handed_next whole (suc n) (old ∷ olds) (x ∷ news) lane new h within at is = (h.0, h.1, handed_next whole n olds news lane new h.2 (omega (arith, within)) at is)

pub handed_more : (whole : List Entry) (n : ℕ) (olds news : List (Known Entry)) (lane new : Known Entry) → AreHanded whole n olds news → n < length news → lane ≡ get_or news n lane → IsHanded whole lane new
    → AreHanded whole (n + 1) olds (slice_set news n new)
handed_more whole n olds news lane new h within at is = let e : suc n ≡ n + 1 = omega arith in subst (λ (m : ℕ). AreHanded whole m olds (slice_set news n new)) e (handed_next whole n olds news lane new h within at is)

pub handed_all : (whole : List Entry) (n : ℕ) (olds news : List (Known Entry)) → AreHanded whole n olds news → length olds ≤ n → AllMeet whole olds news
handed_all whole zero [] [] h le = tt
handed_all whole zero [] (x ∷ news) h le = absurd (let e : length {A = Known Entry} [] ≡ length (x ∷ news) = ap (λ (ls : List (Known Entry)). length ls) h in omega (arith, e))
handed_all whole zero (old ∷ olds) news h le = absurd (omega (arith, le))
handed_all whole (suc n) [] [] h le = tt
handed_all whole (suc n) [] (x ∷ news) h le = absurd h
handed_all whole (suc n) (old ∷ olds) [] h le = absurd h
handed_all whole (suc n) (old ∷ olds) (x ∷ news) h le = (h.0, h.1, handed_all whole n olds news h.2 (omega (arith, le)))

-- a fact of all lanes holds of the next lane that is left
pub left_at : (P : Known Entry → Type 0) (whole : List Entry) (n : ℕ) (olds news : List (Known Entry)) (lane : Known Entry) → AreHanded whole n olds news → AllByRecursion P olds → n < length news → lane ≡ get_or news n lane → P lane
left_at P whole zero [] news lane h all within at = absurd (let e : length {A = Known Entry} [] ≡ length news = ap (λ (ls : List (Known Entry)). length ls) h in omega (arith, e, within))
left_at P whole zero (old ∷ olds) [] lane h all within at = absurd (omega (arith, within))
left_at P whole zero (old ∷ olds) (x ∷ news) lane h all within at = let first : old ≡ x = cc in subst P (first ∙ sym at) all.0
left_at P whole (suc n) [] [] lane h all within at = absurd (omega (arith, within))
left_at P whole (suc n) [] (x ∷ news) lane h all within at = absurd h
left_at P whole (suc n) (old ∷ olds) [] lane h all within at = absurd h
left_at P whole (suc n) (old ∷ olds) (x ∷ news) lane h all within at = left_at P whole n olds news lane h.2 all.1 (omega (arith, within)) at

-- ---- the desks as one list, the opening one first

-- how far the list was handed to the others, if the next one is at this place
pub record HandsTo (n : ℕ) (before now : List (Known Entry)) : Type 0 where
  pub opening : Known Entry
  pub lanes : List (Known Entry)
  pub later : List (Known Entry)
  pub before_is : before ≡ opening ∷ lanes
  pub now_is : now ≡ opening ∷ later
  pub begin : AllBegin opening.seen lanes
  pub handed : AreHanded opening.seen (n - 1) lanes later

pub hands_none : (desks : List (Known Entry)) → IsBehindAll desks → HandsTo 1 desks desks
hands_none desks behind = record { opening = behind.opening; lanes = behind.lanes; later = behind.lanes; before_is = behind.are; now_is = behind.are; begin = behind.begin; handed = refl }

-- the opening desk at the first place
pub first_is : (opening : Known Entry) (later now : List (Known Entry)) (first : Known Entry) → now ≡ opening ∷ later → first ≡ get_or now 0 first → first ≡ opening
first_is opening later now first is at = at ∙ ap (λ (ds : List (Known Entry)). get_or ds 0 first) is

-- the next of the others, after a write at the first place
next_is : (n : ℕ) (opening noted : Known Entry) (later now : List (Known Entry)) (lane : Known Entry) → 1 ≤ n → now ≡ opening ∷ later → lane ≡ get_or (slice_set now 0 noted) n lane → lane ≡ get_or later (n - 1) lane
next_is zero opening noted later now lane up is at = absurd (omega (arith, up))
next_is (suc n) opening noted later now lane up is at =
    at ∙ ap (λ (ds : List (Known Entry)). get_or (slice_set ds 0 noted) (suc n) lane) is ∙ ap (λ (k : ℕ). get_or later k lane) (let e : n ≡ suc n - 1 = omega arith in e)

set_next : (n : ℕ) (opening noted : Known Entry) (later now : List (Known Entry)) (new : Known Entry) → 1 ≤ n → now ≡ opening ∷ later → noted ≡ opening
    → slice_set (slice_set now 0 noted) n new ≡ opening ∷ slice_set later (n - 1) new
set_next zero opening noted later now new up is same = absurd (omega (arith, up))
set_next (suc n) opening noted later now new up is same =
    ap (λ (ds : List (Known Entry)). slice_set (slice_set ds 0 noted) (suc n) new) is ∙ ap (λ (p : Known Entry). p ∷ slice_set later n new) same
    ∙ ap (λ (k : ℕ). opening ∷ slice_set later k new) (let e : n ≡ suc n - 1 = omega arith in e)

-- what the next desk has seen is a beginning of the list
pub hands_begin : (n : ℕ) (before now : List (Known Entry)) (noted lane : Known Entry) → (so_far : HandsTo n before now) → 1 ≤ n → n < length now → lane ≡ get_or (slice_set now 0 noted) n lane → IsPrefix lane.seen so_far.opening.seen
hands_begin n before now noted lane so_far up within at =
    let inside : n - 1 < length so_far.later = omega (arith, up, within, ap (λ (ds : List (Known Entry)). length ds) so_far.now_is) in
    left_at (λ (p : Known Entry). IsPrefix p.seen so_far.opening.seen) so_far.opening.seen (n - 1) so_far.lanes so_far.later lane so_far.handed so_far.begin inside (next_is n so_far.opening noted so_far.later now lane up so_far.now_is at)

-- the opening desk and the next one have one lock
pub hands_lock : (n : ℕ) (before now : List (Known Entry)) (first noted lane : Known Entry) → HandsTo n before now → AreOfOneLock before → 1 ≤ n → n < length now → first ≡ get_or now 0 first
    → lane ≡ get_or (slice_set now 0 noted) n lane → first.lock ≡ lane.lock
hands_lock n before now first noted lane so_far one up within from at =
    let all : AllByRecursion (λ (desk : Known Entry). desk.lock ≡ one.lock) (so_far.opening ∷ so_far.lanes) = subst (AllByRecursion (λ (desk : Known Entry). desk.lock ≡ one.lock)) so_far.before_is one.each in
    let inside : n - 1 < length so_far.later = omega (arith, up, within, ap (λ (ds : List (Known Entry)). length ds) so_far.now_is) in
    let own : lane.lock ≡ one.lock =
    left_at (λ (p : Known Entry). p.lock ≡ one.lock) so_far.opening.seen (n - 1) so_far.lanes so_far.later lane so_far.handed all.1 inside (next_is n so_far.opening noted so_far.later now lane up so_far.now_is at) in
    ap (λ (p : Known Entry). p.lock) (first_is so_far.opening so_far.later now first so_far.now_is from) ∙ all.0 ∙ sym own

pub hands_more : (n : ℕ) (before now : List (Known Entry)) (first noted lane new : Known Entry) → HandsTo n before now → 1 ≤ n → n < length now → first ≡ get_or now 0 first → noted ≡ first
    → lane ≡ get_or (slice_set now 0 noted) n lane → new ≡ after_seeing lane (longer lane.seen first.seen) false → Grows caller_of (callers_of lane) lane.seen new.seen
    → HandsTo (n + 1) before (slice_set (slice_set now 0 noted) n new)
hands_more n before now first noted lane new so_far up within from noting at meets grows =
    let whole = so_far.opening.seen in
    let inside : n - 1 < length so_far.later = omega (arith, up, within, ap (λ (ds : List (Known Entry)). length ds) so_far.now_is) in
    let found : lane ≡ get_or so_far.later (n - 1) lane = next_is n so_far.opening noted so_far.later now lane up so_far.now_is at in
    let mine : first ≡ so_far.opening = first_is so_far.opening so_far.later now first so_far.now_is from in
    let same : new ≡ after_seeing lane whole false =
    meets ∙ ap (λ (p : Known Entry). after_seeing lane (longer lane.seen p.seen) false) mine
    ∙ ap (λ (j : List Entry). after_seeing lane j false) (longer_whole lane.seen whole (hands_begin n before now noted lane so_far up within at)) in
    let on : Grows caller_of (callers_of lane) lane.seen whole = subst (λ (j : List Entry). Grows caller_of (callers_of lane) lane.seen j) (ap (λ (p : Known Entry). p.seen) same) grows in
    let next : n - 1 + 1 ≡ n + 1 - 1 = omega (arith, up) in
    record {
      opening = so_far.opening;
      lanes = so_far.lanes;
      later = slice_set so_far.later (n - 1) new;
      before_is = so_far.before_is;
      now_is = set_next n so_far.opening noted so_far.later now new up so_far.now_is (noting ∙ mine);
      begin = so_far.begin;
      handed = subst (λ (k : ℕ). AreHanded whole k so_far.lanes (slice_set so_far.later (n - 1) new)) next
          (handed_more whole (n - 1) so_far.lanes so_far.later lane new so_far.handed inside found (record { same = same; grows = on }));
    }

handed_length : (whole : List Entry) (n : ℕ) (olds news : List (Known Entry)) → AreHanded whole n olds news → length news ≡ length olds
handed_length whole zero olds news h = ap (λ (ds : List (Known Entry)). length ds) (sym h)
handed_length whole (suc n) [] [] h = refl
handed_length whole (suc n) [] (x ∷ news) h = absurd h
handed_length whole (suc n) (old ∷ olds) [] h = absurd h
handed_length whole (suc n) (old ∷ olds) (x ∷ news) h = let rest = handed_length whole n olds news h.2 in omega (arith, rest)

pub hands_all : (n : ℕ) (before now : List (Known Entry)) → HandsTo n before now → length now ≤ n → AreHandedOut before now
hands_all n before now so_far all =
    let size = handed_length so_far.opening.seen (n - 1) so_far.lanes so_far.later so_far.handed in
    let enough : length so_far.lanes ≤ n - 1 = omega (arith, all, size, ap (λ (ds : List (Known Entry)). length ds) so_far.now_is) in
    record {
      opening = so_far.opening;
      lanes = so_far.lanes;
      later = so_far.later;
      before_is = so_far.before_is;
      after_is = so_far.now_is;
      meet = handed_all so_far.opening.seen (n - 1) so_far.lanes so_far.later so_far.handed enough;
    }
