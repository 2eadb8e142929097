-- What is planned of the parts of a layout, by the index of the first part.
use Rattle.std.proofs.Common.{◌≡◌, refl, ap, sym, ◌∙◌, subst, ℕ, zero, suc, ◌+◌, ◌-◌, ◌*◌, ◌<◌, ◌≤◌, Bool, true, false, ◌&&◌, cond, List, [], ◌∷◌, map, length, take, drop, get_or, Option, Some, None, arith}
use Rattle.std.specs.Prelude.{nat_eq, nat_le, find, slice_range}
use Rattle.std.specs.List.{list_all}
use Rattle.std.proofs.lemmas.Bool.{eq-eqb, ne_eqb, eqb-true, and_parts}
use Rattle.std.proofs.lemmas.List.{drop_more, drop_all, take_all, length-drop, length-take}
use Rattle.lake_model.specs.declared.Policy.TheVariants.{Tier, All}
use Rattle.lake_model.specs.Layout.{Part}
use Rattle.lake_model.specs.Plan.{tier, first_run, marks, is_half_marked, at_most_one, or_half_marked, planned_parts}
use Rattle.segment_core.specs.Plans.{plan_run}
use Rattle.segment_core.specs.Versions.{part_at, part_with}
use Rattle.segment_merge.specs.Planned.{plan_parts, begins_run}

no_part : Part
no_part = part_with 0 []

-- ---- the first run

pub first_yes : (parts : List Part) → begins_run parts ≡ true → (4 ≤ length parts) × (first_run parts ≡ Some (take 4 parts))
first_yes [] h = cc
first_yes (part ∷ parts) h =
    let four = eqb-true (length (take 4 (part ∷ parts))) 4 (and_parts (nat_eq (length (take 4 (part ∷ parts))) 4) (list_all (λ other. nat_eq (tier other) (tier part)) (take 4 (part ∷ parts))) h).0 in
    (omega (arith, four, length-take 4 (part ∷ parts)), ap (λ (b : Bool). cond b (Some (take 4 (part ∷ parts))) (first_run parts)) h)

first_no : (part : Part) (parts : List Part) → begins_run (part ∷ parts) ≡ false → first_run (part ∷ parts) ≡ first_run parts
first_no part parts h = ap (λ (b : Bool). cond b (Some (take 4 (part ∷ parts))) (first_run parts)) h

-- one more part that begins no run
pub first_more : (parts : List Part) (i : ℕ) → i < length parts → begins_run (drop i parts) ≡ false → first_run parts ≡ first_run (drop i parts) → first_run parts ≡ first_run (drop (i + 1) parts)
first_more parts i lt h k =
    let more = drop_more parts i (part_with 0 []) lt in
    k ∙ ap first_run more ∙ first_no (part_at parts i) (drop (i + 1) parts) (sym (ap begins_run more) ∙ h)

pub first_none : (parts : List Part) (i : ℕ) → length parts ≤ i → first_run parts ≡ first_run (drop i parts) → first_run parts ≡ None
first_none parts i le k = k ∙ ap first_run (drop_all i parts le)

four_after : (i : ℕ) → (i + 4) - i ≡ 4
four_after i = omega arith

pub first_found : (parts : List Part) (i : ℕ) → begins_run (drop i parts) ≡ true → first_run parts ≡ first_run (drop i parts) → (i + 4 ≤ length parts) × (first_run parts ≡ Some (slice_range parts i (i + 4)))
first_found parts i h k =
    let f = first_yes (drop i parts) h in
    (omega (arith, f.0, length-drop i parts), k ∙ f.1 ∙ ap (λ (n : ℕ). Some (take n (drop i parts))) (sym (four_after i)))

-- a run needs four parts
pub begins_short : (parts : List Part) (i : ℕ) → length parts < i + 4 → begins_run (drop i parts) ≡ false
begins_short parts i h = by (drop i parts) (omega (arith, length-drop i parts))
  where
    by : (rest : List Part) → length rest < 4 → begins_run rest ≡ false
    by [] lt = refl
    by (part ∷ rest) lt = ap (λ (b : Bool). b && list_all (λ other. nat_eq (tier other) (tier part)) (take 4 (part ∷ rest))) (ne_eqb (length (take 4 (part ∷ rest))) 4 (λ e. omega (arith, length-take 4 (part ∷ rest))))

abbrev same_tier : List Part → ℕ → ℕ → Bool
same_tier parts i j = nat_eq (tier (part_at parts j)) (tier (part_at parts i))

four_begin : (a b c d : Part) (rest : List Part) → begins_run (a ∷ b ∷ c ∷ d ∷ rest) ≡ (nat_eq (tier b) (tier a) && (nat_eq (tier c) (tier a) && nat_eq (tier d) (tier a)))
four_begin a b c d rest =
    ap (λ (t : Bool). t && (nat_eq (tier b) (tier a) && (nat_eq (tier c) (tier a) && (nat_eq (tier d) (tier a) && true)))) (eq-eqb (tier a) (tier a) refl)
    ∙ ap (λ (t : Bool). nat_eq (tier b) (tier a) && (nat_eq (tier c) (tier a) && t)) (and_true (nat_eq (tier d) (tier a)))
  where
    and_true : (b : Bool) → (b && true) ≡ b
    and_true true = refl
    and_true false = refl

pub begins_four : (parts : List Part) (i : ℕ) → i + 4 ≤ length parts → begins_run (drop i parts) ≡ (same_tier parts i (i + 1) && (same_tier parts i (i + 2) && same_tier parts i (i + 3)))
begins_four parts i h =
    let d = part_with 0 [] in
    let e1 : i + 1 + 1 ≡ i + 2 = omega arith in
    let e2 : i + 2 + 1 ≡ i + 3 = omega arith in
    let one = drop_more parts i d (omega arith) in
    let two = drop_more parts (i + 1) d (omega arith) ∙ ap (λ (n : ℕ). part_at parts (i + 1) ∷ drop n parts) e1 in
    let three = drop_more parts (i + 2) d (omega arith) ∙ ap (λ (n : ℕ). part_at parts (i + 2) ∷ drop n parts) e2 in
    let four = drop_more parts (i + 3) d (omega arith) in
    let all = one ∙ ap (λ (ps : List Part). part_at parts i ∷ ps) (two ∙ ap (λ (ps : List Part). part_at parts (i + 1) ∷ ps) (three ∙ ap (λ (ps : List Part). part_at parts (i + 2) ∷ ps) four)) in
    ap begins_run all ∙ four_begin (part_at parts i) (part_at parts (i + 1)) (part_at parts (i + 2)) (part_at parts (i + 3)) (drop (i + 3 + 1) parts)

-- ---- the first part that is half marked

find_no : (part : Part) (parts : List Part) → is_half_marked part ≡ false → find is_half_marked (part ∷ parts) ≡ find is_half_marked parts
find_no part parts h = ap (λ (b : Bool). cond b (Some part) (find is_half_marked parts)) h

pub half_more : (parts : List Part) (i : ℕ) → i < length parts → is_half_marked (part_at parts i) ≡ false → find is_half_marked parts ≡ find is_half_marked (drop i parts) → find is_half_marked parts ≡ find is_half_marked (drop (i + 1) parts)
half_more parts i lt h k = k ∙ ap (find is_half_marked) (drop_more parts i (part_with 0 []) lt) ∙ find_no (part_at parts i) (drop (i + 1) parts) h

pub half_found : (parts : List Part) (i : ℕ) → i < length parts → is_half_marked (part_at parts i) ≡ true → find is_half_marked parts ≡ find is_half_marked (drop i parts) → find is_half_marked parts ≡ Some (part_at parts i)
half_found parts i lt h k = k ∙ ap (find is_half_marked) (drop_more parts i (part_with 0 []) lt) ∙ ap (λ (b : Bool). cond b (Some (part_at parts i)) (find is_half_marked (drop (i + 1) parts))) h

pub half_none : (parts : List Part) (i : ℕ) → length parts ≤ i → find is_half_marked parts ≡ find is_half_marked (drop i parts) → find is_half_marked parts ≡ None
half_none parts i le k = k ∙ ap (find is_half_marked) (drop_all i parts le)

-- ---- what is planned

one_after : (i : ℕ) → (i + 1) - i ≡ 1
one_after i = omega arith

pub tier_run : (parts : List Part) (i : ℕ) → first_run parts ≡ Some (slice_range parts i (i + 4)) → planned_parts Tier parts ≡ slice_range parts i (i + 4)
tier_run parts i h = ap (or_half_marked parts) h

pub tier_half : (parts : List Part) (i : ℕ) → i < length parts → first_run parts ≡ None → find is_half_marked parts ≡ Some (part_at parts i) → planned_parts Tier parts ≡ slice_range parts i (i + 1)
tier_half parts i lt h k =
    ap (or_half_marked parts) h ∙ ap at_most_one k
    ∙ sym (ap (λ (n : ℕ). take n (drop i parts)) (one_after i) ∙ ap (take 1) (drop_more parts i (part_with 0 []) lt))

pub tier_none : (parts : List Part) → first_run parts ≡ None → find is_half_marked parts ≡ None → planned_parts Tier parts ≡ []
tier_none parts h k = ap (or_half_marked parts) h ∙ ap at_most_one k

pub whole_empty : (parts : List Part) → length parts ≡ 0 → planned_parts All parts ≡ []
whole_empty [] h = refl
whole_empty (p ∷ ps) h = absurd (omega arith)

pub whole_one : (parts : List Part) → length parts ≡ 1 → marks (part_at parts 0) ≡ 0 → planned_parts All parts ≡ []
whole_one [] h k = refl
whole_one (p ∷ []) h k = ap (λ (b : Bool). cond {A = List Part} b [] (p ∷ [])) (eq-eqb (marks p) 0 k)
whole_one (p ∷ q ∷ ps) h k = absurd (omega arith)

pub whole_all : (parts : List Part) → 0 < length parts → (length parts ≡ 1 → marks (part_at parts 0) ≡ 0 → ⊥) → planned_parts All parts ≡ slice_range parts 0 (0 + length parts)
whole_all parts h k = by parts h k ∙ sym (take_all (0 + length parts - 0) parts (omega arith))
  where
    by : (ps : List Part) → 0 < length ps → (length ps ≡ 1 → marks (part_at ps 0) ≡ 0 → ⊥) → planned_parts All ps ≡ ps
    by [] h k = absurd (omega arith)
    by (p ∷ []) h k = ap (λ (b : Bool). cond {A = List Part} b [] (p ∷ [])) (ne_eqb (marks p) 0 (k (let one : length (p ∷ []) ≡ 1 = omega arith in one)))
    by (p ∷ q ∷ ps) h k = refl

pub plan_some : (at : ℕ) (run : List Part) → 0 < length run → plan_parts at run ≡ Some (plan_run at run)
plan_some at [] h = absurd (omega arith)
plan_some at (part ∷ parts) h = refl

pub length_run : (parts : List Part) (i n : ℕ) → 0 < n → i + n ≤ length parts → 0 < length (slice_range parts i (i + n))
length_run parts i n h k = omega (arith, length-take ((i + n) - i) (drop i parts), length-drop i parts)

-- four parts, by their tiers as they were read
pub begins_by : (parts : List Part) (i t a b c : ℕ) → i + 4 ≤ length parts → t ≡ tier (part_at parts i) → a ≡ tier (part_at parts (i + 1)) → b ≡ tier (part_at parts (i + 2)) → c ≡ tier (part_at parts (i + 3))
    → begins_run (drop i parts) ≡ (nat_eq a t && (nat_eq b t && nat_eq c t))
begins_by parts i t a b c h et ea eb ec = begins_four parts i h ∙ (λ j. nat_eq (sym ea j) (sym et j) && (nat_eq (sym eb j) (sym et j) && nat_eq (sym ec j) (sym et j)))

pub begins_not_second : (parts : List Part) (i t a : ℕ) → i + 4 ≤ length parts → t ≡ tier (part_at parts i) → a ≡ tier (part_at parts (i + 1)) → (a ≡ t → ⊥) → false ≡ begins_run (drop i parts)
begins_not_second parts i t a h et ea differs =
    sym (begins_by parts i t a (tier (part_at parts (i + 2))) (tier (part_at parts (i + 3))) h et ea refl refl ∙ ap (λ (x : Bool). x && (nat_eq (tier (part_at parts (i + 2))) t && nat_eq (tier (part_at parts (i + 3))) t)) (ne_eqb a t differs))

pub begins_not_third : (parts : List Part) (i t a b : ℕ) → i + 4 ≤ length parts → t ≡ tier (part_at parts i) → a ≡ tier (part_at parts (i + 1)) → b ≡ tier (part_at parts (i + 2)) → a ≡ t → (b ≡ t → ⊥) → false ≡ begins_run (drop i parts)
begins_not_third parts i t a b h et ea eb same differs =
    sym (begins_by parts i t a b (tier (part_at parts (i + 3))) h et ea eb refl ∙ ap (λ (x : Bool). x && (nat_eq b t && nat_eq (tier (part_at parts (i + 3))) t)) (eq-eqb a t same) ∙ ap (λ (x : Bool). x && nat_eq (tier (part_at parts (i + 3))) t) (ne_eqb b t differs))

pub begins_fourth : (parts : List Part) (i t a b c : ℕ) → i + 4 ≤ length parts → t ≡ tier (part_at parts i) → a ≡ tier (part_at parts (i + 1)) → b ≡ tier (part_at parts (i + 2)) → c ≡ tier (part_at parts (i + 3)) → a ≡ t → b ≡ t
    → nat_eq c t ≡ begins_run (drop i parts)
begins_fourth parts i t a b c h et ea eb ec same too =
    sym (begins_by parts i t a b c h et ea eb ec ∙ ap (λ (x : Bool). x && (nat_eq b t && nat_eq c t)) (eq-eqb a t same) ∙ ap (λ (x : Bool). x && nat_eq c t) (eq-eqb b t too))
