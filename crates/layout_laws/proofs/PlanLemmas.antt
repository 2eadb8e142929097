-- What is planned is a run of adjacent parts, which may be swapped as long as they are in the layout.
use Rattle.std.proofs.Common.{◌≡◌, refl, ap, sym, ◌∙◌, subst, ℕ, ◌+◌, ◌*◌, ◌<◌, List, [], ◌∷◌, ◌++◌, append-nil, Bool, true, false, not, ◌||◌, ◌&&◌, cond, length, take, drop, Option, Some, None, inl, inr, arith}
use Rattle.std.specs.Prelude.{◌⊎◌, nat_eq, nat_lt, find, count_by}
use Rattle.std.specs.List.{AllByRecursion, filter, list_all}
use Rattle.std.proofs.lemmas.Bool.{eqb-true, eq-eqb, ne_eqb, eqb-false, lt-ltb, leb-true, or_left, or_right, and_parts}
use Rattle.std.proofs.lemmas.List.{take-append-drop, length-map}
use Rattle.std.proofs.lemmas.List.Sums.{sum_by-append, length-filter}
use Rattle.std.proofs.lemmas.List.Filters.{length-filter_both}
use Rattle.lake_model.specs.declared.Policy.{Policy}
use Rattle.lake_model.specs.declared.Policy.TheVariants.{Tier, All}
use Rattle.lake_model.specs.Layout.{Place, Part, is_among, run_of, may_swap, positions_of, unmarked_of}
use Rattle.lake_model.specs.Plan.{tier, first_run, marks, is_half_marked, at_most_one, planned_parts}
use Rattle.list_laws.specs.Distinct.{Lacks, AreDistinct}
use Rattle.layout_laws.specs.Steps.{numbers_of, positions_in}
use Rattle.layout_laws.specs.Weight.{does_merge}
use Rattle.list_laws.proofs.ListLemmas.{all_weaker, all_both, all_map, all_unmap, all_filter, map_filter, distinct_left, distinct_right, filter_agree}
use Rattle.layout_laws.specs.Places.{places_of}
use Rattle.layout_laws.proofs.RunLemmas.{MaySwap, closed, Run, run_is, lacks_among}
use Rattle.layout_laws.proofs.LiveLemmas.{unmarked}
use Rattle.layout_laws.proofs.LaidLemmas.{positions_split}

-- ---- what is planned

-- how many places are marked
abbrev pub marked_in : List Place → ℕ
marked_in places = count_by (λ place. place.marked) places

-- a run of a layout that has two parts or more, or a mark
pub record Planned (parts run : List Part) : Type 0 where
  pub stands : Run parts run
  pub merging : (1 < length run) ⊎ (0 < marked_in (places_of run))

abbrev is_first : Part → List Part → Bool
is_first part parts = let run = take 4 (part ∷ parts) in nat_eq (length run) 4 && list_all (λ other. nat_eq (tier other) (tier part)) run

run_planned : (parts run : List Part) → first_run parts ≡ Some run → Planned parts run
run_planned [] run h = cc
run_planned (part ∷ parts) run h = by (is_first part parts) refl h (run_planned parts run)
  where
    by : (b : Bool) → is_first part parts ≡ b → cond b (Some (take 4 (part ∷ parts))) (first_run parts) ≡ Some run → (first_run parts ≡ Some run → Planned parts run) → Planned (part ∷ parts) run
    by true e h rest =
        let same : take 4 (part ∷ parts) ≡ run = cc in
        let four = eqb-true (length (take 4 (part ∷ parts))) 4 (and_parts (nat_eq (length (take 4 (part ∷ parts))) 4) (list_all (λ other. nat_eq (tier other) (tier part)) (take 4 (part ∷ parts))) e).0 in
        record {
          stands = record { front = []; back = drop 4 (part ∷ parts); whole = sym (take-append-drop 4 (part ∷ parts)) ∙ ap (λ ps. ps ++ drop 4 (part ∷ parts)) same };
          merging = inl (omega (arith, four, ap (λ (ps : List Part). length ps) same));
        }
    by false e h rest =
        let p = rest h in
        record { stands = record { front = part ∷ p.stands.front; back = p.stands.back; whole = ap (λ ps. part ∷ ps) p.stands.whole }; merging = p.merging }

marks_one : (part : Part) → marked_in (places_of (part ∷ [])) ≡ marks part
marks_one part = sum_by-append (λ (p : Place). cond p.marked 1 0) part.places [] ∙ (let z : marks part + 0 ≡ marks part = omega arith in z)

half_planned : (parts : List Part) (part : Part) → AllByRecursion (λ p. 0 < length p.places) parts → find is_half_marked parts ≡ Some part → Planned parts (part ∷ [])
half_planned [] part f h = cc
half_planned (p ∷ parts) part f h = by (is_half_marked p) refl h (half_planned parts part f.1)
  where
    by : (b : Bool) → is_half_marked p ≡ b → cond b (Some p) (find is_half_marked parts) ≡ Some part → (find is_half_marked parts ≡ Some part → Planned parts (part ∷ [])) → Planned (p ∷ parts) (part ∷ [])
    by true e h rest =
        let same : p ≡ part = cc in
        let half = leb-true (length p.places) (2 * marks p) e in
        record {
          stands = record { front = []; back = parts; whole = ap (λ (q : Part). q ∷ parts) same };
          merging = inr (omega (arith, marks_one part, half, f.0, ap marks same));
        }
    by false e h rest =
        let q = rest h in
        record { stands = record { front = p ∷ q.stands.front; back = q.stands.back; whole = ap (λ ps. p ∷ ps) q.stands.whole }; merging = q.merging }

whole_planned : (parts : List Part) → (1 < length parts) ⊎ (0 < marked_in (places_of parts)) → Planned parts parts
whole_planned parts h = record { stands = record { front = []; back = []; whole = sym (append-nil parts) }; merging = h }

abbrev half_or : Option Part → Option (List Part) → List Part
half_or p None = at_most_one p
half_or p (Some run) = run

pub is_planned_run : (policy : Policy) (parts : List Part) (part : Part) (rest : List Part) → AllByRecursion (λ p. 0 < length p.places) parts → planned_parts policy parts ≡ part ∷ rest → Planned parts (part ∷ rest)
is_planned_run Tier parts part rest f h = by (first_run parts) refl (find is_half_marked parts) refl h
  where
    by : (o : Option (List Part)) → first_run parts ≡ o → (p : Option Part) → find is_half_marked parts ≡ p → half_or p o ≡ part ∷ rest → Planned parts (part ∷ rest)
    by (Some run) e p g h = run_planned parts (part ∷ rest) (e ∙ ap (λ (ps : List Part). Some ps) h)
    by None e None g h = cc
    by None e (Some q) g h = subst (Planned parts) h (half_planned parts q f g)
is_planned_run All [] part rest f h = cc
is_planned_run All (p ∷ []) part rest f h = by (nat_eq (marks p) 0) refl h
  where
    by : (b : Bool) → nat_eq (marks p) 0 ≡ b → cond {A = List Part} b [] (p ∷ []) ≡ part ∷ rest → Planned (p ∷ []) (part ∷ rest)
    by true e h = cc
    by false e h = let no = eqb-false (marks p) 0 e in subst (Planned (p ∷ [])) h (whole_planned (p ∷ []) (inr (omega (arith, marks_one p, no))))
is_planned_run All (p ∷ q ∷ parts) part rest f h = subst (Planned (p ∷ q ∷ parts)) h (whole_planned (p ∷ q ∷ parts) (inl (omega arith)))

-- ---- the positions that are kept

abbrev IsKeptAs : List ℕ → Place → Type 0
IsKeptAs kept place = is_among kept place.position ≡ not place.marked

pub kept_as : (places : List Place) → AreDistinct (positions_in places) → AllByRecursion (IsKeptAs (positions_in (unmarked places))) places
kept_as [] h = tt
kept_as (p ∷ ps) h = by p.marked refl (kept_as ps h.1)
  where
    rest : List ℕ
    rest = positions_in (unmarked ps)

    others : AllByRecursion (λ (q : Place). q.position ≡ p.position → ⊥) ps
    others = all_unmap (λ (n : ℕ). n ≡ p.position → ⊥) (λ (q : Place). q.position) ps h.0

    lacks : Lacks rest p.position
    lacks = all_map (λ (n : ℕ). n ≡ p.position → ⊥) (λ (q : Place). q.position) (unmarked ps) (all_filter (λ (q : Place). q.position ≡ p.position → ⊥) (λ q. not q.marked) ps others)

    by : (b : Bool) → p.marked ≡ b → AllByRecursion (IsKeptAs rest) ps → AllByRecursion (IsKeptAs (positions_in (cond (not p.marked) (p ∷ unmarked ps) (unmarked ps)))) (p ∷ ps)
    by true e k = subst (λ (m : Bool). AllByRecursion (IsKeptAs (positions_in (cond (not m) (p ∷ unmarked ps) (unmarked ps)))) (p ∷ ps)) (sym e) (lacks_among rest p.position lacks ∙ ap not (sym e), k)
    by false e k =
        subst (λ (m : Bool). AllByRecursion (IsKeptAs (positions_in (cond (not m) (p ∷ unmarked ps) (unmarked ps)))) (p ∷ ps)) (sym e) (
          ap (λ (b : Bool). b || is_among rest p.position) (eq-eqb p.position p.position refl) ∙ ap not (sym e),
          all_both (λ (q : Place). q.position ≡ p.position → ⊥) (IsKeptAs rest) (IsKeptAs (p.position ∷ rest)) ps (λ q f g. ap (λ (b : Bool). b || is_among rest q.position) (ne_eqb q.position p.position f) ∙ g) others k,
        )

kept_taken : (places : List Place) → AreDistinct (positions_in places) → filter (is_among (positions_in (unmarked places))) (positions_in places) ≡ positions_in (unmarked places)
kept_taken places h =
    let kept = positions_in (unmarked places) in
    sym (map_filter (λ (p : Place). p.position) (is_among kept) places) ∙ ap positions_in (filter_agree (λ (p : Place). is_among kept p.position) (λ p. not p.marked) places (kept_as places h))

either : (b m : Bool) → b ≡ not m → (b || m) ≡ true
either b true h = or_right b true refl
either b false h = or_left b false h

-- ---- a plan may be swapped

module _ (parts run : List Part) (stands : Run parts run) (numbers : AreDistinct (numbers_of parts)) (positions : AreDistinct (positions_of parts)) where
  abbrev kept : List ℕ
  kept = positions_in (unmarked_of run)

  in_run : AreDistinct (positions_of run)
  in_run =
      distinct_left (positions_of run) (positions_of stands.back)
      (distinct_right (positions_of stands.front) (positions_of run ++ positions_of stands.back) (subst AreDistinct (ap positions_of stands.whole ∙ positions_split stands.front run stands.back) positions))

  pub run_is_planned : run_of (numbers_of run) parts ≡ run
  run_is_planned = ap (run_of (numbers_of run)) stands.whole ∙ run_is stands.front run stands.back (subst (λ (ps : List Part). AreDistinct (numbers_of ps)) stands.whole numbers)

  pub run_may_swap : 0 < length run → may_swap parts (numbers_of run) kept ≡ true
  run_may_swap h = closed parts (numbers_of run) kept (subst (λ (ps : List Part). MaySwap ps (numbers_of run) kept) (sym run_is_planned) (record {
    some = ne_eqb (length (numbers_of run)) 0 (λ e. omega (arith, length-map run (λ (p : Part). p.number)));
    numbers = refl;
    taken = kept_taken (places_of run) in_run;
    others = all_weaker (IsKeptAs kept) (λ p. (is_among kept p.position || p.marked) ≡ true) (places_of run) (λ p e. either (is_among kept p.position) p.marked e) (kept_as (places_of run) in_run);
  }))

  unmarked_fewer : length kept + marked_in (places_of run) ≡ length (positions_of run)
  unmarked_fewer =
      let both_kinds = length-filter_both (λ (p : Place). p.marked) (λ p. not p.marked) (λ p. refl) (places_of run) in
      omega (arith, both_kinds, length-filter (λ (p : Place). p.marked) (places_of run), length-map (unmarked (places_of run)) (λ (p : Place). p.position), length-map (places_of run) (λ (p : Place). p.position))

  pub run_does_merge : (1 < length run) ⊎ (0 < marked_in (places_of run)) → does_merge parts (numbers_of run) kept ≡ true
  run_does_merge (inl h) = or_left (nat_lt 1 (length (numbers_of run))) (nat_lt (length kept) (length (positions_of (run_of (numbers_of run) parts)))) (lt-ltb 1 (length (numbers_of run)) (omega (arith, length-map run (λ (p : Part). p.number))))
  run_does_merge (inr h) =
      or_right (nat_lt 1 (length (numbers_of run))) (nat_lt (length kept) (length (positions_of (run_of (numbers_of run) parts))))
      (lt-ltb (length kept) (length (positions_of (run_of (numbers_of run) parts))) (omega (arith, unmarked_fewer, ap (λ (ps : List Part). length (positions_of ps)) run_is_planned)))
