-- No list is read twice and no column is probed twice for the columns that hold a fraction of a query, and a part with
-- too few tokens is not looked at.
use Rattle.std.proofs.Common.{◌≡◌, refl, ap, sym, ◌∙◌, subst, ℕ, ◌+◌, ◌<◌, ◌≤◌, List, [], ◌∷◌, ◌++◌, map, Bool, true, false, ◌&&◌, length, arith, cond, take, drop, get_or, ltb as nat_lt, leb as nat_le}
use Rattle.std.specs.List.{AllByRecursion, enumerate_from, filter, flat_map}
use Rattle.std.proofs.lemmas.List.{map-append, take-append-drop}
use Rattle.list_laws.proofs.ListLemmas.{all_append, all_of, all_weaker, distinct_append, filter_none, rises_left}
use Rattle.list_laws.specs.Distinct.{AreDistinct, Lacks, Rises}
use Rattle.lake_model.specs.Layout.{Part}
use Rattle.lake_model.specs.Texts.{Text}
use Rattle.search_model.proofs.FilterLemmas.{rising}
use Rattle.search_model.specs.Contain.{contain_log, contain_looks, is_probed, is_unmarked, lists_needed, need, of_all_tables, probes_needed, reads_needed, seen_behind}
use Rattle.search_model.specs.declared.Look.TheVariants.{Probe, Read}
use Rattle.search_model.specs.Looks.{hits, searched, Searched}
use Rattle.search_model.specs.Segment.{Titled}
use Rattle.search_laws.specs.Laws.{FewNotSeen, NoneTwice, sight_of}

abbrev Sight : Type 0
Sight = Bool × ℕ × ℕ

rises_take : (i : ℕ) (ns : List ℕ) → Rises ns → Rises (take i ns)
rises_take i ns h = rises_left (take i ns) (drop i ns) (subst Rises (sym (take-append-drop i ns)) h)

-- ---- the looks of a part

module _ (number : ℕ) where
  abbrev reads : List ℕ → List Sight
  reads tokens = map sight_of (map (λ token. Read number token) tokens)

  reads_apart : (tokens : List ℕ) → Rises tokens → AreDistinct (reads tokens)
  reads_apart [] h = tt
  reads_apart (t ∷ ts) h = (behind ts h.0, reads_apart ts h.1)
    where
      behind : (ts : List ℕ) → AllByRecursion (λ later. t < later) ts → Lacks (reads ts) (sight_of (Read number t))
      behind [] k = tt
      behind (u ∷ us) k = ((λ e. let same : u ≡ t = ap (λ (s : Sight). s.2) e in let lt = k.0 in absurd (omega arith)), behind us k.1)

  reads_are : (tokens : List ℕ) → AllByRecursion (λ s. (s.0 ≡ true) × (s.1 ≡ number)) (reads tokens)
  reads_are [] = tt
  reads_are (t ∷ ts) = ((refl, refl), reads_are ts)

  module _ (test : ℕ × Titled → Bool) (after : ℕ × Titled → ℕ) where
    abbrev probes : List (ℕ × Titled) → List Sight
    probes cs = map sight_of (map (λ c. Probe number c.0 (after c)) cs)

    record AreBehind (n : ℕ) (sights : List Sight) : Type 0 where
      from : AllByRecursion (λ s. (n ≤ s.2)) sights
      probed : AllByRecursion (λ s. (s.0 ≡ false) × (s.1 ≡ number)) sights
      apart : AreDistinct sights

    probes_apart : (n : ℕ) (cs : List Titled) → AreBehind n (probes (filter test (enumerate_from n cs)))
    probes_apart n [] = record { from = tt; probed = tt; apart = tt }
    probes_apart n (c ∷ cs) = by (test (n, c)) (probes_apart (n + 1) cs)
      where
        by : (b : Bool) → AreBehind (n + 1) (probes (filter test (enumerate_from (n + 1) cs))) → AreBehind n (probes (cond b ((n, c) ∷ filter test (enumerate_from (n + 1) cs)) (filter test (enumerate_from (n + 1) cs))))
        by true h = record {
          from = (omega arith, all_weaker (λ (s : Sight). n + 1 ≤ s.2) (λ s. n ≤ s.2) _ (λ s l. omega arith) h.from);
          probed = ((refl, refl), h.probed);
          apart = (all_weaker (λ (s : Sight). n + 1 ≤ s.2) (λ s. s ≡ (false, number, n) → ⊥) _ (λ s l e. let same : s.2 ≡ n = ap (λ (t : Sight). t.2) e in absurd (omega arith)) h.from, h.apart);
        }
        by false h = record {
          from = all_weaker (λ (s : Sight). n + 1 ≤ s.2) (λ s. n ≤ s.2) _ (λ s l. omega arith) h.from;
          probed = h.probed;
          apart = h.apart;
        }

abbrev sights : ℕ → Searched → List Sight
sights least part = map sight_of (contain_looks least part)

sights_split : (least : ℕ) (part : Searched) → sights least part ≡ map sight_of (reads_needed least part) ++ map sight_of (probes_needed least part)
sights_split least part = map-append sight_of (reads_needed least part) (probes_needed least part)

module _ (least : ℕ) (part : Searched) where
  abbrev probes_behind : AreBehind part.number (λ c. is_probed least part c.0 c.1) (λ c. (seen_behind least part c.0 c.1).position) 0 (map sight_of (probes_needed least part))
  probes_behind = probes_apart part.number (λ c. is_probed least part c.0 c.1) (λ c. (seen_behind least part c.0 c.1).position) 0 part.segment.columns

  -- each look is at the part
  all_here : AllByRecursion (λ s. s.1 ≡ part.number) (sights least part)
  all_here =
      subst (λ (ss : List Sight). AllByRecursion (λ s. s.1 ≡ part.number) ss) (sym (sights_split least part))
      (all_append (λ (s : Sight). s.1 ≡ part.number) (map sight_of (reads_needed least part)) (map sight_of (probes_needed least part))
      (all_weaker (λ (s : Sight). (s.0 ≡ true) × (s.1 ≡ part.number)) (λ s. s.1 ≡ part.number) _ (λ s h. h.1) (reads_are part.number (take (lists_needed least part) part.query)))
      (all_weaker (λ (s : Sight). (s.0 ≡ false) × (s.1 ≡ part.number)) (λ s. s.1 ≡ part.number) _ (λ s h. h.1) probes_behind.probed))

  part_apart : Rises part.query → AreDistinct (sights least part)
  part_apart up =
      subst (λ (ss : List Sight). AreDistinct ss) (sym (sights_split least part))
      (distinct_append (map sight_of (reads_needed least part)) (map sight_of (probes_needed least part)) (reads_apart part.number (take (lists_needed least part) part.query) (rises_take (lists_needed least part) part.query up)) probes_behind.apart
      (all_weaker (λ (s : Sight). (s.0 ≡ true) × (s.1 ≡ part.number)) (Lacks (map sight_of (probes_needed least part))) _
      (λ r h. all_weaker (λ (s : Sight). (s.0 ≡ false) × (s.1 ≡ part.number)) (λ s. s ≡ r → ⊥) _ (λ s k e. let differ : false ≡ true = sym k.0 ∙ ap (λ (t : Sight). t.0) e ∙ h.0 in absurd (let no : false ≡ true = differ in cc)) probes_behind.probed)
      (reads_are part.number (take (lists_needed least part) part.query))))

-- ---- the looks of the parts in turn

module _ (keys : List Text) (least : ℕ) where
  abbrev looks_at : Part → Searched
  looks_at part = searched (of_all_tables keys) part

  abbrev parts_sights : List Part → List Sight
  parts_sights parts = map sight_of (flat_map (λ part. contain_looks least (looks_at part)) parts)

  sights_cons : (part : Part) (parts : List Part) → parts_sights (part ∷ parts) ≡ sights least (looks_at part) ++ parts_sights parts
  sights_cons part parts = map-append sight_of (contain_looks least (looks_at part)) (flat_map (λ part. contain_looks least (looks_at part)) parts)

  elsewhere : (n : ℕ) (parts : List Part) → Lacks (map (λ part. part.number) parts) n → AllByRecursion (λ s. s.1 ≡ n → ⊥) (parts_sights parts)
  elsewhere n [] h = tt
  elsewhere n (part ∷ parts) h =
      subst (λ (ss : List Sight). AllByRecursion (λ s. s.1 ≡ n → ⊥) ss) (sym (sights_cons part parts))
      (all_append (λ (s : Sight). s.1 ≡ n → ⊥) (sights least (looks_at part)) (parts_sights parts)
      (all_weaker (λ (s : Sight). s.1 ≡ part.number) (λ s. s.1 ≡ n → ⊥) _ (λ s k e. h.0 (sym k ∙ e)) (all_here least (looks_at part)))
      (elsewhere n parts h.1))

  all_apart : (parts : List Part) → AreDistinct (map (λ part. part.number) parts) → AreDistinct (parts_sights parts)
  all_apart [] h = tt
  all_apart (part ∷ parts) h =
      subst (λ (ss : List Sight). AreDistinct ss) (sym (sights_cons part parts))
      (distinct_append (sights least (looks_at part)) (parts_sights parts) (part_apart least (looks_at part) (rising (looks_at part).segment.tokens keys)) (all_apart parts h.1)
      (all_weaker (λ (s : Sight). s.1 ≡ part.number) (Lacks (parts_sights parts)) _
      (λ r k. all_weaker (λ (s : Sight). s.1 ≡ part.number → ⊥) (λ s. s ≡ r → ⊥) _ (λ s no e. no (ap (λ (t : Sight). t.1) e ∙ k)) (elsewhere part.number parts h.0))
      (all_here least (looks_at part))))

pub none_twice : NoneTwice
unfolding contain_log
none_twice keys a b parts apart = all_apart keys (need a b (length keys)) parts apart

-- ---- a part with too few tokens

pub few_not_seen : FewNotSeen
few_not_seen least part few =
    let z : lists_needed least part ≡ 0 = omega arith in
    (λ i. map (λ token. Read part.number token) (take (z i) part.query) ++ probes_needed least part)
    ∙ ap (map (λ (c : ℕ × Titled). Probe part.number c.0 (seen_behind least part c.0 c.1).position))
    (filter_none (λ (c : ℕ × Titled). is_probed least part c.0 c.1) (enumerate_from 0 part.segment.columns) (all_of (λ (c : ℕ × Titled). is_probed least part c.0 c.1 ≡ false) (enumerate_from 0 part.segment.columns) (λ c. unseen z c.0 c.1)))
  where
    blocked : (a b c d : Bool) → b ≡ false → ((a && b && c) && d) ≡ false
    blocked true true c d e = cc
    blocked true false c d e = refl
    blocked false b c d e = refl

    unseen : lists_needed least part ≡ 0 → (x : ℕ) (c : Titled) → is_probed least part x c ≡ false
    unseen z x c =
        let s = seen_behind least part x c in
        let none : nat_lt 0 s.count ≡ false = ap (λ (n : ℕ). nat_lt 0 (length (hits (get_or part.segment.sets x []) (take n part.query)))) z in
        blocked (is_unmarked part c) (nat_lt 0 s.count) (nat_le least s.bound.overlap) (nat_lt s.count s.bound.overlap) none
