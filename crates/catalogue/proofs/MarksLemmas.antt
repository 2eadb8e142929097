-- The marks that a merged part carries over.
use Rattle.std.proofs.Common.{◌≡◌, refl, ap, sym, ◌∙◌, subst, ℕ, suc, ◌+◌, ◌<◌, ◌≤◌, List, [], ◌∷◌, ◌++◌, append_assoc, Bool, true, false, ◌||◌, cond, map, length, get_or, drop, arith, length-append, append-nil}
use Rattle.std.specs.Prelude.{nat_eq}
use Rattle.std.specs.List.{AllByRecursion, filter}
use Rattle.std.proofs.Math.Seq.{drop-cons}
use Rattle.std.proofs.lemmas.Bool.{eqb-true, eq-eqb, ne_eqb}
use Rattle.std.proofs.lemmas.List.{map-append, drop-drop, drop_all}
use Rattle.lake_model.specs.Layout.{Part, Place, is_among, positions_of}
use Rattle.list_laws.specs.Distinct.{AreDistinct}
use Rattle.segment_core.specs.Positions.{loads_of}
use Rattle.segment_core.specs.Versions.{marks_of}
use Rattle.catalogue.specs.Carried.{is_first, marks_along, run_marks}
use Rattle.catalogue.specs.Swaps.{kept_marks}
use Rattle.list_laws.proofs.ListLemmas.{all_weaker, filter_agree}
use Rattle.layout_laws.specs.Places.{places_of}
use Rattle.layout_laws.specs.Steps.{positions_in}
use Rattle.layout_laws.proofs.WeightLemmas.{kept_of}

abbrev pub marks_in : List Place → List Bool
marks_in places = map (λ place. place.marked) places

-- ---- a walk, step by step

along_cons : (kept positions : List ℕ) (marks : List Bool) (i : ℕ) → i < length positions → length marks ≡ length positions
    → marks_along kept (drop i positions) (drop i marks) ≡ cond (is_first (get_or positions i 0) kept) (get_or marks i false ∷ marks_along (drop 1 kept) (drop (i + 1) positions) (drop (i + 1) marks)) (marks_along kept (drop (i + 1) positions) (drop (i + 1) marks))
along_cons kept positions marks i h many =
    let one : i + 1 ≡ suc i = omega arith in
    let within : i < length marks = omega arith in
    (λ j. marks_along kept (drop-cons positions i 0 h j) (drop-cons marks i false within j))
    ∙ ap (λ (n : ℕ). cond (is_first (get_or positions i 0) kept) (get_or marks i false ∷ marks_along (drop 1 kept) (drop n positions) (drop n marks)) (marks_along kept (drop n positions) (drop n marks))) (sym one)

pub along_kept : (kept positions : List ℕ) (marks all new : List Bool) (i : ℕ) (whole : List Bool) → i < length positions → length marks ≡ length positions → is_first (get_or positions i 0) (drop (length all) kept) ≡ true
    → all ++ marks_along (drop (length all) kept) (drop i positions) (drop i marks) ≡ whole → new ≡ all ++ get_or marks i false ∷ []
    → new ++ marks_along (drop (length new) kept) (drop (i + 1) positions) (drop (i + 1) marks) ≡ whole
along_kept kept positions marks all new i whole h many first before more =
    let m = get_or marks i false in
    let rest : List ℕ → List Bool = λ ks. marks_along ks (drop (i + 1) positions) (drop (i + 1) marks) in
    let long : length new ≡ length all + 1 = ap (λ (ms : List Bool). length ms) more ∙ length-append all (m ∷ []) in
    let left : drop (length new) kept ≡ drop 1 (drop (length all) kept) = ap (λ (n : ℕ). drop n kept) long ∙ sym (drop-drop 1 (length all) kept) in
    (λ j. more j ++ rest (left j)) ∙ append_assoc all (m ∷ []) (rest (drop 1 (drop (length all) kept)))
    ∙ ap (λ ms. all ++ ms) (sym (along_cons (drop (length all) kept) positions marks i h many ∙ ap (λ (b : Bool). cond b (m ∷ rest (drop 1 (drop (length all) kept))) (rest (drop (length all) kept))) first)) ∙ before

pub along_left : (kept positions : List ℕ) (marks all new : List Bool) (i : ℕ) (whole : List Bool) → i < length positions → length marks ≡ length positions → is_first (get_or positions i 0) (drop (length all) kept) ≡ false
    → all ++ marks_along (drop (length all) kept) (drop i positions) (drop i marks) ≡ whole → new ≡ all
    → new ++ marks_along (drop (length new) kept) (drop (i + 1) positions) (drop (i + 1) marks) ≡ whole
along_left kept positions marks all new i whole h many first before same =
    let m = get_or marks i false in
    let rest : List ℕ → List Bool = λ ks. marks_along ks (drop (i + 1) positions) (drop (i + 1) marks) in
    ap (λ (ms : List Bool). ms ++ rest (drop (length ms) kept)) same
    ∙ ap (λ ms. all ++ ms) (sym (along_cons (drop (length all) kept) positions marks i h many ∙ ap (λ (b : Bool). cond b (m ∷ rest (drop 1 (drop (length all) kept))) (rest (drop (length all) kept))) first)) ∙ before

-- ---- part by part

abbrev Splits : List ℕ → List ℕ → List Bool → List Bool → List ℕ → Type 0
Splits ns ns' ms ms' ks = marks_along ks (ns ++ ns') (ms ++ ms') ≡ marks_along ks ns ms ++ marks_along (drop (length (marks_along ks ns ms)) ks) ns' ms'

along-append : (kept ns ns' : List ℕ) (ms ms' : List Bool) → length ms ≡ length ns → marks_along kept (ns ++ ns') (ms ++ ms') ≡ marks_along kept ns ms ++ marks_along (drop (length (marks_along kept ns ms)) kept) ns' ms'
along-append kept [] ns' [] ms' h = refl
along-append kept [] ns' (m ∷ ms) ms' h = absurd (omega arith)
along-append kept (n ∷ ns) ns' [] ms' h = absurd (omega arith)
along-append kept (n ∷ ns) ns' (m ∷ ms) ms' h = by (is_first n kept) (along-append (drop 1 kept) ns ns' ms ms' (omega arith)) (along-append kept ns ns' ms ms' (omega arith))
  where
    by : (b : Bool) → Splits ns ns' ms ms' (drop 1 kept) → Splits ns ns' ms ms' kept → cond b (m ∷ marks_along (drop 1 kept) (ns ++ ns') (ms ++ ms')) (marks_along kept (ns ++ ns') (ms ++ ms'))
        ≡ cond b (m ∷ marks_along (drop 1 kept) ns ms) (marks_along kept ns ms) ++ marks_along (drop (length (cond b (m ∷ marks_along (drop 1 kept) ns ms) (marks_along kept ns ms))) kept) ns' ms'
    by true first rest =
        let more : 1 + length (marks_along (drop 1 kept) ns ms) ≡ length (m ∷ marks_along (drop 1 kept) ns ms) = omega arith in
        ap (λ us. m ∷ us) (first ∙ ap (λ (ks : List ℕ). marks_along (drop 1 kept) ns ms ++ marks_along ks ns' ms') (drop-drop (length (marks_along (drop 1 kept) ns ms)) 1 kept ∙ ap (λ (k : ℕ). drop k kept) more))
    by false first rest = rest

run_marks_cons : (kept : List ℕ) (part : Part) (parts : List Part) → length (marks_of part) ≡ length (loads_of part)
    → run_marks kept (part ∷ parts) ≡ marks_along kept (loads_of part) (marks_of part) ++ run_marks (drop (length (marks_along kept (loads_of part) (marks_of part))) kept) parts
run_marks_cons kept part parts h =
    (λ j. marks_along kept (map-append (λ (p : Place). p.position) part.places (places_of parts) j) (map-append (λ (p : Place). p.marked) part.places (places_of parts) j))
    ∙ along-append kept (loads_of part) (positions_of parts) (marks_of part) (marks_in (places_of parts)) h

-- one more part
pub run_more : (kept : List ℕ) (run : List Part) (i : ℕ) (part : Part) (positions : List ℕ) (marks all new whole : List Bool) → i < length run → part ≡ get_or run i part → positions ≡ loads_of part → marks ≡ marks_of part → length marks ≡ length positions
    → all ++ run_marks (drop (length all) kept) (drop i run) ≡ whole → new ≡ all ++ marks_along (drop (length all) kept) positions marks
    → new ++ run_marks (drop (length new) kept) (drop (i + 1) run) ≡ whole
run_more kept run i part positions marks all new whole h at loads marked many before more =
    let one : i + 1 ≡ suc i = omega arith in
    let left = drop (length all) kept in
    let here = marks_along left (loads_of part) (marks_of part) in
    let rest = drop (i + 1) run in
    let equal : length (marks_of part) ≡ length (loads_of part) = ap (λ (ms : List Bool). length ms) (sym marked) ∙ many ∙ ap (λ (ns : List ℕ). length ns) loads in
    let is : new ≡ all ++ here = more ∙ (λ j. all ++ marks_along left (loads j) (marked j)) in
    let long : length new ≡ length all + length here = ap (λ (ms : List Bool). length ms) is ∙ length-append all here in
    let behind : drop (length new) kept ≡ drop (length here) left = ap (λ (n : ℕ). drop n kept) long ∙ sym (drop-drop (length here) (length all) kept) in
    let cons : drop i run ≡ part ∷ rest = drop-cons run i part h ∙ (λ j. sym at j ∷ drop (sym one j) run) in
    (λ j. is j ++ run_marks (behind j) rest) ∙ append_assoc all here (run_marks (drop (length here) left) rest)
    ∙ ap (λ ms. all ++ ms) (sym (ap (run_marks left) cons ∙ run_marks_cons left part rest equal)) ∙ before

-- ---- what the walk gives

others_same : (k : ℕ) (ks : List ℕ) (places : List Place) → AllByRecursion (λ n. n ≡ k → ⊥) (positions_in places) → AllByRecursion (λ (p : Place). is_among (k ∷ ks) p.position ≡ is_among ks p.position) places
others_same k ks [] h = tt
others_same k ks (p ∷ ps) h = (ap (λ (b : Bool). b || is_among ks p.position) (ne_eqb p.position k h.0), others_same k ks ps h.1)

others_among : (k : ℕ) (ks ns : List ℕ) → AllByRecursion (λ n. n ≡ k → ⊥) ns → AllByRecursion (λ (n : ℕ). is_among (k ∷ ks) n ≡ is_among ks n) ns
others_among k ks ns h = all_weaker (λ (n : ℕ). n ≡ k → ⊥) (λ n. is_among (k ∷ ks) n ≡ is_among ks n) ns (λ n f. ap (λ (b : Bool). b || is_among ks n) (ne_eqb n k f)) h

abbrev GivesMarks : List Place → List ℕ → Type 0
GivesMarks ps kept = filter (is_among kept) (positions_in ps) ≡ kept → marks_along kept (positions_in ps) (marks_in ps) ≡ marks_in (kept_of kept ps)

-- If the kept positions are those that pass, in this order, the walk gives the marks of their places.
pub along_is : (kept : List ℕ) (places : List Place) → AreDistinct (positions_in places) → filter (is_among kept) (positions_in places) ≡ kept → marks_along kept (positions_in places) (marks_in places) ≡ marks_in (kept_of kept places)
along_is [] [] h e = refl
along_is (k ∷ ks) [] h e = cc
along_is [] (p ∷ ps) h e = along_is [] ps h.1 e
along_is (k ∷ ks) (p ∷ ps) h e = by (nat_eq p.position k) (is_among ks p.position) refl (along_is ks ps h.1) (along_is (k ∷ ks) ps h.1) e
  where
    by : (b c : Bool) → nat_eq p.position k ≡ b → GivesMarks ps ks → GivesMarks ps (k ∷ ks) → cond (b || c) (p.position ∷ filter (is_among (k ∷ ks)) (positions_in ps)) (filter (is_among (k ∷ ks)) (positions_in ps)) ≡ k ∷ ks
        → cond b (p.marked ∷ marks_along ks (positions_in ps) (marks_in ps)) (marks_along (k ∷ ks) (positions_in ps) (marks_in ps)) ≡ marks_in (cond (b || c) (p ∷ kept_of (k ∷ ks) ps) (kept_of (k ∷ ks) ps))
    by true c g fewer all e =
        let same : p.position ≡ k = eqb-true p.position k g in
        let lacks = subst (λ (n : ℕ). AllByRecursion (λ m. m ≡ n → ⊥) (positions_in ps)) same h.0 in
        let taken : filter (is_among (k ∷ ks)) (positions_in ps) ≡ ks = cc in
        let rest : filter (is_among ks) (positions_in ps) ≡ ks = sym (filter_agree (is_among (k ∷ ks)) (is_among ks) (positions_in ps) (others_among k ks (positions_in ps) lacks)) ∙ taken in
        ap (λ ms. p.marked ∷ ms) (fewer rest ∙ ap marks_in (sym (filter_agree (λ (q : Place). is_among (k ∷ ks) q.position) (λ q. is_among ks q.position) ps (others_same k ks ps lacks))))
    by false true g fewer all e = let same : p.position ≡ k = cc in let no : true ≡ false = sym (eq-eqb p.position k same) ∙ g in cc
    by false false g fewer all e = all e

-- after the last part
pub run_ended : (kept : List ℕ) (run : List Part) (i : ℕ) (marks : List Bool) → length run ≤ i → AreDistinct (positions_of run) → filter (is_among kept) (positions_of run) ≡ kept
    → marks ++ run_marks (drop (length marks) kept) (drop i run) ≡ run_marks kept run → marks ≡ kept_marks kept run
run_ended kept run i marks h distinct taken done =
    let none : drop i run ≡ [] = drop_all i run h in
    sym (ap (λ (ps : List Part). marks ++ run_marks (drop (length marks) kept) ps) none ∙ append-nil marks) ∙ done ∙ along_is kept (places_of run) distinct taken
