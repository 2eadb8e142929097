-- The touched columns: one more, and none after a clearing.
use Rattle.std.proofs.Common.{◌≡◌, refl, ap, sym, ◌∙◌, subst, inl, inr, ℕ, zero, suc, ◌+◌, ◌^◌, ◌<◌, ◌≤◌, List, [], ◌∷◌, ◌++◌, Bool, true, false, ◌||◌, length, replicate, set, get_or, drop, take, arith, append-nil, length-append, eqb as nat_eq}
use Rattle.std.specs.List.{AllByRecursion, count_by}
use Rattle.std.proofs.Math.ListN.{length-set}
use Rattle.std.proofs.Math.Seq.{drop-cons}
use Rattle.std.proofs.lemmas.Bool.{cases_eq, cases_lt, ne_eqb}
use Rattle.std.proofs.lemmas.Bool.Decides.{nat_tests}
use Rattle.std.proofs.lemmas.List.{drop_all, get_or-replicate, get_or-set_other, get_or-set_same, get_or_past, length-take, take-set, take_more_set, length-replicate, take_all}
use Rattle.std.proofs.lemmas.List.Sums.{count_by-le-length, sum_by-append, sum_by-cons, sum_by-set, sum_by_push}
use Rattle.lake_model.specs.Layout.{is_among}
use Rattle.search_model.proofs.BoundLemmas.{among_counts}
use Rattle.part_columns.specs.declared.tally.Tally.{Tally}
use Rattle.part_columns.specs.Columns.{AreTouched, columns_with, is_touched, IsClean, IsKept, IsListed}
use Rattle.part_columns.specs.Tallies.{no_tally, tally_at}
use Rattle.list_laws.proofs.TestLemmas.{once}

at_most_one : (b : Bool) → once b ≤ 1
at_most_one true = omega arith
at_most_one false = omega arith

is_seen : (t : Tally) → 0 < t.count → is_touched t ≡ true
is_seen t h = grind (arith, nat_tests)

is_unseen : (t : Tally) → t.count ≡ 0 → is_touched t ≡ false
is_unseen t h = grind (arith, nat_tests)

same : (x y : ℕ) → x ≡ y → nat_eq x y ≡ true
same x y e = grind (arith, nat_tests)

-- ---- what a list of columns has

pub counted_among : (x : ℕ) (xs : List ℕ) → 0 < count_by (nat_eq x) xs → is_among xs x ≡ true
counted_among x [] h = absurd (let z : count_by (nat_eq x) [] ≡ 0 = refl in omega arith)
counted_among x (y ∷ ys) h = by (λ k. counted_among x ys k) (nat_eq x y) refl
  where
    by : (0 < count_by (nat_eq x) ys → is_among ys x ≡ true) → (b : Bool) → nat_eq x y ≡ b → (b || is_among ys x) ≡ true
    by later true e = refl
    by later false e = later (omega (arith, h, sum_by-cons (λ z. once (nat_eq x z)) y ys, ap once e))

pub among_counted : (x : ℕ) (xs : List ℕ) → is_among xs x ≡ false → count_by (nat_eq x) xs ≡ 0
among_counted x [] h = refl
among_counted x (y ∷ ys) h = by (λ k. among_counted x ys k) (nat_eq x y) refl h
  where
    by : (is_among ys x ≡ false → count_by (nat_eq x) ys ≡ 0) → (b : Bool) → nat_eq x y ≡ b → (b || is_among ys x) ≡ false → count_by (nat_eq x) (y ∷ ys) ≡ 0
    by later true e f = absurd (let g : true ≡ false = f in cc)
    by later false e f = omega (arith, sum_by-cons (λ z. once (nat_eq x z)) y ys, ap once e, later f)

once_none : (b : Bool) → once b ≡ 0 → b ≡ false
once_none true e = absurd (omega arith)
once_none false e = refl

-- a column that is touched is listed, and one that is not has no count
pub touched_listed : (tallies : List Tally) (touched : List ℕ) (x : ℕ) → IsListed tallies touched → 0 < (tally_at tallies x).count → is_among touched x ≡ true
touched_listed tallies touched x listed some = counted_among x touched (omega (arith, listed x, ap once (is_seen (tally_at tallies x) some)))

pub unlisted_none : (tallies : List Tally) (touched : List ℕ) (x : ℕ) → IsListed tallies touched → is_among touched x ≡ false → (tally_at tallies x).count ≡ 0
unlisted_none tallies touched x listed none =
    let z = once_none (is_touched (tally_at tallies x)) (sym (listed x) ∙ among_counted x touched none) in grind (arith, nat_tests)

pub listed_seen : (tallies : List Tally) (touched : List ℕ) (x : ℕ) → IsListed tallies touched → is_among touched x ≡ true → 0 < (tally_at tallies x).count
listed_seen tallies touched x listed there = by (is_touched (tally_at tallies x)) refl
  where
    by : (b : Bool) → is_touched (tally_at tallies x) ≡ b → 0 < (tally_at tallies x).count
    by true e = grind (arith, nat_tests)
    by false e = absurd (omega (arith, listed x, ap once e, among_counts x touched there))

pub listed_once : (tallies : List Tally) (touched : List ℕ) → IsListed tallies touched → (x : ℕ) → count_by (nat_eq x) touched ≤ 1
listed_once tallies touched listed x = omega (arith, listed x, at_most_one (is_touched (tally_at tallies x)))

-- what occurs once does not occur before
pub apart_before : (done : List ℕ) (x : ℕ) (rest : List ℕ) → count_by (nat_eq x) (done ++ x ∷ rest) ≤ 1 → is_among done x ≡ false
apart_before done x rest few = by (is_among done x) refl
  where
    by : (b : Bool) → is_among done x ≡ b → b ≡ false
    by true e = absurd (omega (arith, few, sum_by-append (λ y. once (nat_eq x y)) done (x ∷ rest), sum_by-cons (λ y. once (nat_eq x y)) x rest, ap once (same x x refl), among_counts x done e))
    by false e = refl

pub all_among : (P : ℕ → Type 0) (xs : List ℕ) → ((x : ℕ) → is_among xs x ≡ true → P x) → AllByRecursion P xs
all_among P [] h = tt
all_among P (x ∷ xs) h = (h x (ap (λ b. b || is_among xs x) (same x x refl)), all_among P xs (λ y e. h y (ap (λ b. nat_eq y x || b) e ∙ or_true (nat_eq y x))))
  where
    or_true : (b : Bool) → (b || true) ≡ true
    or_true true = refl
    or_true false = refl

-- ---- one more

module _ (tallies : List Tally) (touched : List ℕ) (x : ℕ) (tally : Tally) (are : AreTouched tallies touched) (within : x < length tallies) (some : 0 < tally.count) where
  now_at : tally_at (set tallies x tally) x ≡ tally
  now_at = get_or-set_same tallies x tally no_tally within

  other_at : (y : ℕ) → (y ≡ x → ⊥) → tally_at (set tallies x tally) y ≡ tally_at tallies y
  other_at y h = get_or-set_other tallies x y tally no_tally h

  still_unseen : (y : ℕ) → (tally_at (set tallies x tally) y).count ≡ 0 → tally_at (set tallies x tally) y ≡ no_tally
  still_unseen y e = elim (cases_eq y x) [
    | inl at ↦ absurd (let c = ap (λ (z : ℕ). (tally_at (set tallies x tally) z).count) at ∙ ap (λ (t : Tally). t.count) now_at in omega (arith, c, e, some))
    | inr apart ↦ other_at y apart ∙ are.unseen y (sym (ap (λ (t : Tally). t.count) (other_at y apart)) ∙ e)
  ]

  pub touched_again : 0 < (tally_at tallies x).count → AreTouched (set tallies x tally) touched
  touched_again seen = record {
    listed = λ y. elim (cases_eq y x) [
      | inl at ↦
          are.listed y ∙ ap (λ (z : ℕ). once (is_touched (tally_at tallies z))) at ∙ ap once (is_seen (tally_at tallies x) seen)
          ∙ sym (ap (λ (z : ℕ). once (is_touched (tally_at (set tallies x tally) z))) at ∙ ap (λ (t : Tally). once (is_touched t)) now_at ∙ ap once (is_seen tally some))
      | inr apart ↦ are.listed y ∙ sym (ap (λ (t : Tally). once (is_touched t)) (other_at y apart))
    ];
    many = omega (
      arith,
      are.many,
      sum_by-set (λ t. once (is_touched t)) tallies x tally no_tally within,
      ap once (is_seen (tally_at tallies x) seen),
      ap once (is_seen tally some),
    );
    unseen = still_unseen;
  }

  pub touched_first : (tally_at tallies x).count ≡ 0 → AreTouched (set tallies x tally) (touched ++ x ∷ [])
  touched_first none = record {
    listed = λ y. elim (cases_eq y x) [
      | inl at ↦ omega (
        arith,
        sum_by_push (λ z. once (nat_eq y z)) touched x,
        ap once (same y x at),
        are.listed y,
        ap (λ (z : ℕ). once (is_touched (tally_at tallies z))) at,
        ap once (is_unseen (tally_at tallies x) none),
        ap (λ (z : ℕ). once (is_touched (tally_at (set tallies x tally) z))) at,
        ap (λ (t : Tally). once (is_touched t)) now_at,
        ap once (is_seen tally some),
      )
      | inr apart ↦ omega (
        arith,
        sum_by_push (λ z. once (nat_eq y z)) touched x,
        ap once (ne_eqb y x apart),
        are.listed y,
        ap (λ (t : Tally). once (is_touched t)) (other_at y apart),
      )
    ];
    many = omega (
      arith,
      length-append touched (x ∷ []),
      are.many,
      sum_by-set (λ t. once (is_touched t)) tallies x tally no_tally within,
      ap once (is_unseen (tally_at tallies x) none),
      ap once (is_seen tally some),
    );
    unseen = still_unseen;
  }

stands : (xs : List ℕ) (i d : ℕ) → i < length xs → 1 ≤ count_by (nat_eq (get_or xs i d)) xs
stands [] i d h = absurd (omega arith)
stands (y ∷ ys) zero d h = omega (arith, sum_by-cons (λ z. once (nat_eq y z)) y ys, ap once (same y y refl))
stands (y ∷ ys) (suc i) d h = omega (arith, sum_by-cons (λ z. once (nat_eq (get_or ys i d) z)) y ys, stands ys i d (omega arith))

-- a listed column was seen, and is one of the columns
pub item_seen : (tallies : List Tally) (touched : List ℕ) → IsListed tallies touched → (k d : ℕ) → k < length touched → 0 < (tally_at tallies (get_or touched k d)).count
item_seen tallies touched listed k d h = by (is_touched (tally_at tallies (get_or touched k d))) refl
  where
    by : (b : Bool) → is_touched (tally_at tallies (get_or touched k d)) ≡ b → 0 < (tally_at tallies (get_or touched k d)).count
    by true e = grind (arith, nat_tests)
    by false e = absurd (omega (arith, listed (get_or touched k d), ap once e, stands touched k d h))

pub listed_within : (tallies : List Tally) (touched : List ℕ) → IsListed tallies touched → (k d : ℕ) → k < length touched → get_or touched k d < length tallies
listed_within tallies touched listed k d h = elim (cases_lt (get_or touched k d) (length tallies)) [
  | inl b ↦ b
  | inr b ↦ absurd (let z = ap (λ (t : Tally). t.count) (get_or_past tallies (get_or touched k d) no_tally b) in omega (arith, z, item_seen tallies touched listed k d h))
]

-- a list that is lent whole and given back at the same length
pub lent_whole : {X : Type 0} (n : ℕ) (news olds : List X) → length news ≡ n → length olds ≡ n → take n (news ++ drop (length news) olds) ≡ news
lent_whole n news olds e f =
    ap (λ xs. take n (news ++ xs)) (drop_all (length news) olds (omega (arith, e, f))) ∙ ap (take n) (append-nil news) ∙ take_all n news (omega (arith, e))

-- ---- what is kept

module _ (tallies : List Tally) (known : List Bool) (list : List ℕ) (n : ℕ) (kept : IsKept tallies known list n) where
  pub many : n ≡ count_by is_touched tallies
  many = omega (arith, kept.are_touched.many, length-take n list, kept.within)

  -- there is always room for one more
  pub room_there : n < length list
  room_there = omega (arith, many, count_by-le-length is_touched tallies, kept.listed_room)

  module _ (x : ℕ) (tally : Tally) (within : x < length tallies) (some : 0 < tally.count) where
    still_unknown : (y : ℕ) → (tally_at (set tallies x tally) y).count ≡ 0 → get_or known y false ≡ false
    still_unknown y none = elim (cases_eq y x) [
      | inl e ↦ absurd (
          let at : (tally_at (set tallies x tally) y).count ≡ tally.count = ap (λ (z : ℕ). (tally_at (set tallies x tally) z).count) e ∙ ap (λ (t : Tally). t.count) (get_or-set_same tallies x tally no_tally within) in
          omega (arith, at, none, some))
      | inr apart ↦ kept.unknown y (sym (ap (λ (t : Tally). t.count) (get_or-set_other tallies x y tally no_tally apart)) ∙ none)
    ]

    kept_with : (m : ℕ) → m ≤ length list → AreTouched (set tallies x tally) (take m (set list n x)) → IsKept (set tallies x tally) known (set list n x) m
    kept_with m fits are = record {
      are_touched = are;
      within = omega (arith, fits, length-set list n x);
      listed_room = omega (arith, length-set tallies x tally, length-set list n x, kept.listed_room);
      few = omega (arith, length-set tallies x tally, kept.few);
      marks = omega (arith, length-set tallies x tally, kept.marks);
      unknown = still_unknown;
    }

    -- a column that is counted for the first time is listed
    pub kept_first : (m : ℕ) → m ≡ n + 1 → (tally_at tallies x).count ≡ 0 → IsKept (set tallies x tally) known (set list n x) m
    kept_first m is none =
        let listed : take m (set list n x) ≡ take n list ++ x ∷ [] = ap (λ (k : ℕ). take k (set list n x)) is ∙ take_more_set list n x room_there in
        kept_with m (omega (arith, is, room_there)) (subst (AreTouched (set tallies x tally)) (sym listed) (touched_first tallies (take n list) x tally kept.are_touched within some none))

    pub kept_again : (m : ℕ) → m ≡ n → 0 < (tally_at tallies x).count → IsKept (set tallies x tally) known (set list n x) m
    kept_again m is seen =
        let listed : take m (set list n x) ≡ take n list = ap (λ (k : ℕ). take k (set list n x)) is ∙ take-set list n x in
        kept_with m (omega (arith, is, kept.within)) (subst (AreTouched (set tallies x tally)) (sym listed) (touched_again tallies (take n list) x tally kept.are_touched within some seen))

-- ---- none after a clearing

abbrev pub ForgottenFrom : List ℕ → ℕ → List Tally → List Bool → Type 0
ForgottenFrom touched i tallies known = (x : ℕ) → is_among (drop i touched) x ≡ false → (tally_at tallies x ≡ no_tally) × (get_or known x false ≡ false)

pub forgotten_more : (tallies : List Tally) (touched : List ℕ) (known : List Bool) (i d x : ℕ) → ForgottenFrom touched i tallies known → i < length touched → x ≡ get_or touched i d → x < length tallies → x < length known
    → ForgottenFrom touched (i + 1) (set tallies x no_tally) (set known x false)
forgotten_more tallies touched known i d x so_far h at wide marks y none = elim (cases_eq y x) [
  | inl e ↦ (
    ap (λ (z : ℕ). tally_at (set tallies x no_tally) z) e ∙ get_or-set_same tallies x no_tally no_tally wide,
    ap (λ (z : ℕ). get_or (set known x false) z false) e ∙ get_or-set_same known x false false marks,
  )
  | inr apart ↦
      let one : i + 1 ≡ suc i = omega arith in
      let front : drop i touched ≡ x ∷ drop (i + 1) touched = drop-cons touched i d h ∙ (λ j. sym at j ∷ drop (sym one j) touched) in
      let before : is_among (drop i touched) y ≡ false = ap (λ (xs : List ℕ). is_among xs y) front ∙ ap (λ b. b || is_among (drop (i + 1) touched) y) (ne_eqb y x apart) ∙ none in
      let was = so_far y before in
      (get_or-set_other tallies x y no_tally no_tally apart ∙ was.0, get_or-set_other known x y false false apart ∙ was.1)
]

-- a column that is not listed has no tally, and is not known
pub unlisted_there : (tallies : List Tally) (known : List Bool) (list : List ℕ) (n : ℕ) → IsKept tallies known list n → (x : ℕ) → is_among (take n list) x ≡ false → (tally_at tallies x ≡ no_tally) × (get_or known x false ≡ false)
unlisted_there tallies known list n kept x none =
    let unseen = unlisted_none tallies (take n list) x kept.are_touched.listed none in (kept.are_touched.unseen x unseen, kept.unknown x unseen)

none_touched : (tallies : List Tally) → ((x : ℕ) → tally_at tallies x ≡ no_tally) → count_by is_touched tallies ≡ 0
none_touched [] clean = refl
none_touched (t ∷ ts) clean = omega (arith, sum_by-cons (λ u. once (is_touched u)) t ts, ap (λ (u : Tally). once (is_touched u)) (clean 0), none_touched ts (λ x. clean (suc x)))

-- so it is after a clearing, and at the start; the lists may have been lent whole
pub kept_cleared : (tallies lent : List Tally) (known marks : List Bool) (list : List ℕ) → lent ≡ tallies → marks ≡ known → ((x : ℕ) → tally_at tallies x ≡ no_tally) → ((x : ℕ) → get_or known x false ≡ false)
    → length tallies < length list → length tallies < 2 ^ 32 → length known ≡ length tallies → IsKept lent marks list 0
kept_cleared tallies lent known marks list e f clean fresh listed_room few long =
    subst (λ (ts : List Tally). IsKept ts marks list 0) (sym e) (subst (λ (ms : List Bool). IsKept tallies ms list 0) (sym f) (record {
      are_touched = record {
        listed = λ x. sym (ap (λ (t : Tally). once (is_touched t)) (clean x));
        many = sym (none_touched tallies clean);
        unseen = λ x h. clean x;
      };
      within = omega arith;
      listed_room = listed_room;
      few = few;
      marks = long;
      unknown = λ x h. fresh x;
    }))

pub view_cleared : (tallies lent : List Tally) (known marks : List Bool) (touched : List ℕ) → lent ≡ tallies → marks ≡ known → ((x : ℕ) → tally_at tallies x ≡ no_tally) → ((x : ℕ) → get_or known x false ≡ false) → IsClean (columns_with lent marks touched)
view_cleared tallies lent known marks touched e f clean fresh = record {
  clean = λ x. ap (λ (ts : List Tally). tally_at ts x) e ∙ clean x;
  fresh = λ x. ap (λ (ms : List Bool). get_or ms x false) f ∙ fresh x;
}

-- a list of one repeated value has it at each index, and past the end too
pub same_everywhere : {X : Type 0} (d : X) (n x : ℕ) → get_or (replicate n d) x d ≡ d
same_everywhere d n x = elim (cases_lt x n) [
  | inl h ↦ get_or-replicate n x d d h
  | inr past ↦ get_or_past (replicate n d) x d (omega (arith, past, length-replicate n d))
]
