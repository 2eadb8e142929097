-- A part while it is searched: the looks so far lead from the start to where the code is.
use Rattle.std.proofs.Common.{◌≡◌, refl, ap, sym, ◌∙◌, subst, ℕ, ◌+◌, ◌<◌, ◌≤◌, List, [], ◌∷◌, ◌++◌, Bool, true, false, not, ◌&&◌, ◌||◌, length, map, take, set, get_or, arith, cond, append_assoc, append-nil, Option, Some, None, eqb as nat_eq, ltb as nat_lt, leb as nat_le}
use Rattle.std.proofs.lemmas.Bool.Decides.{nat_tests}
use Rattle.std.proofs.lemmas.List.{get_or-set_other, get_or-set_same}
use Rattle.std.specs.List.{filter}
use Rattle.lake_model.specs.Answer.{Query, Row, row_cmp}
use Rattle.lake_model.specs.Layout.{is_among}
use Rattle.search_model.proofs.LooksLemmas.{leads_more, run_is}
use Rattle.search_model.specs.declared.Look.{Look}
use Rattle.search_model.specs.declared.Look.TheVariants.{Probe, Read}
use Rattle.search_model.specs.declared.Summary.{Summary}
use Rattle.search_model.specs.Looks.{beats, choice, is_eligible, read_next, known_rows, Leads, left_of, next_look, Progress, run, Searched, start, threshold, unseen_open, worst}
use Rattle.search_model.specs.Segment.{Titled}
use Rattle.search_laws.proofs.PartLemmas.{candidates, row_for}
use Rattle.search_laws.specs.Select.{best}
use Rattle.part_columns.specs.declared.tally.Tally.{Tally}
use Rattle.josie_search.specs.State.{IsAt}
use Rattle.part_columns.specs.Tallies.{AreTallies, no_tally}
use Rattle.josie_search.proofs.PartLemmas.{known_all, known_probed, rows_by}
use Rattle.search_state.specs.State.{column_at, open_at, seen_at}
use Rattle.search_state.proofs.CoverLemmas.{none_open}

pub record Going (says : Summary → Bool) (query : Query) (part : Searched) (before : List Row) (old now : List Look) (read : ℕ) (tallies : List Tally) (known : List Bool) (rows : List Row) : Type 0 where
  pub made : List Look
  pub progress : Progress
  pub at : progress.read ≡ read
  pub leads_here : Leads says query before part start made progress
  pub log : now ≡ old ++ made
  pub tallies_are : AreTallies part.segment.sets (take read part.query) tallies
  pub known_are : (x : ℕ) → get_or known x false ≡ is_among progress.probed x
  pub rows_are : rows ≡ best row_cmp query.k (before ++ rows_by query part (is_among progress.probed))

none_pass : (cs : List (ℕ × Titled)) → filter (λ c. is_among [] c.0) cs ≡ []
none_pass [] = refl
none_pass (c ∷ cs) = none_pass cs

blocked : (a b c d e : Bool) → b ≡ true → (a && not (b || c) && d && e) ≡ false
blocked true true c d e f = refl
blocked false b c d e f = refl
blocked true false c d e f = cc

module _ (says : Summary → Bool) (query : Query) (part : Searched) (before : List Row) (old : List Look) where
  pub begins : (tallies : List Tally) (known : List Bool) (rows : List Row) → ((x : ℕ) → get_or tallies x no_tally ≡ no_tally) → ((x : ℕ) → get_or known x false ≡ false) → rows ≡ best row_cmp query.k before
      → Going says query part before old old 0 tallies known rows
  begins tallies known rows clean fresh e = record {
    made = [];
    progress = start;
    at = refl;
    leads_here = refl;
    log = sym (append-nil old);
    tallies_are = λ x. clean x;
    known_are = fresh;
    rows_are = e ∙ ap (best row_cmp query.k) (sym (ap (λ rows. before ++ rows) (ap (map (row_for query)) (none_pass (candidates query part))) ∙ append-nil before));
  }

  module _ (now : List Look) (read : ℕ) (tallies : List Tally) (known : List Bool) (rows : List Row) (going : Going says query part before old now read tallies known rows) (unread : read < length part.query) where
    pub stands : IsAt part going.progress tallies known
    stands = record {
      unread = (let e = going.at in omega (arith, e, unread));
      tallies_are = subst (λ (n : ℕ). AreTallies part.segment.sets (take n part.query) tallies) (sym going.at) going.tallies_are;
      known_are = going.known_are;
    }

    pub rows_known : rows ≡ best row_cmp query.k (before ++ known_rows query part going.progress)
    rows_known = going.rows_are ∙ ap (λ us. best row_cmp query.k (before ++ us)) (sym (known_probed query part going.progress (let e = going.at in omega (arith, e, unread))))

    pub reads_on : (n t : ℕ) (news : List Look) (tallies' : List Tally) → next_look says query before part going.progress ≡ Some (Read n t) → news ≡ now ++ Read n t ∷ [] → AreTallies part.segment.sets (take (read + 1) part.query) tallies'
        → Going says query part before old news (read + 1) tallies' known rows
    reads_on n t news tallies' next log are = record {
      made = going.made ++ Read n t ∷ [];
      progress = record going.progress { read = going.progress.read + 1 };
      at = ap (λ (m : ℕ). m + 1) going.at;
      leads_here = leads_more says query before part going.made start going.progress (Read n t) going.leads_here next;
      log = log ∙ ap (λ us. us ++ Read n t ∷ []) going.log ∙ append_assoc old going.made (Read n t ∷ []);
      tallies_are = are;
      known_are = going.known_are;
      rows_are = going.rows_are;
    }

    itself : (x : ℕ) → nat_eq x x ≡ true
    itself x = grind (arith, nat_tests)

    apart : (x y : ℕ) → (x ≡ y → ⊥) → nat_eq x y ≡ false
    apart x y h = grind (arith, nat_tests)

    pub probes_on : (n x after : ℕ) (news : List Look) (known' : List Bool) (rows' : List Row) → next_look says query before part going.progress ≡ Some (Probe n x after) → news ≡ now ++ Probe n x after ∷ [] → x < length known → known' ≡ set known x true
        → rows' ≡ best row_cmp query.k (before ++ rows_by query part (is_among (x ∷ going.progress.probed))) → Going says query part before old news read tallies known' rows'
    probes_on n x after news known' rows' next log within marked are = record {
      made = going.made ++ Probe n x after ∷ [];
      progress = record going.progress { probed = x ∷ going.progress.probed };
      at = going.at;
      leads_here = leads_more says query before part going.made start going.progress (Probe n x after) going.leads_here next;
      log = log ∙ ap (λ us. us ++ Probe n x after ∷ []) going.log ∙ append_assoc old going.made (Probe n x after ∷ []);
      tallies_are = going.tallies_are;
      known_are = λ y. ap (λ (ks : List Bool). get_or ks y false) marked ∙ by y (nat_eq y x) refl;
      rows_are = are;
    }
      where
        by : (y : ℕ) (b : Bool) → nat_eq y x ≡ b → get_or (set known x true) y false ≡ (nat_eq y x || is_among going.progress.probed y)
        by y true e =
            let same : y ≡ x = grind (arith, nat_tests) in
            ap (λ (m : ℕ). get_or (set known x true) m false) same ∙ get_or-set_same known x true false within ∙ sym (ap (λ b. b || is_among going.progress.probed y) e)
        by y false e =
            let differ : y ≡ x → ⊥ = λ k. (let t : nat_eq y x ≡ true = ap (λ (m : ℕ). nat_eq y m) (sym k) ∙ itself y in let f : true ≡ false = sym t ∙ e in cc) in
            get_or-set_other known x y true false differ ∙ going.known_are y ∙ sym (ap (λ b. b || is_among going.progress.probed y) e)

  closed_all : (progress : Progress) (last : Option Row) (x : ℕ) → length part.query ≤ progress.read → open_at query part progress last x ≡ false
  closed_all progress last x all =
      let more : nat_le (length part.query) progress.read ≡ true = grind (arith, nat_tests) in
      blocked (is_eligible query part (column_at part x)) (nat_le (length part.query) progress.read) (is_among progress.probed x) (nat_lt 0 (seen_at part progress x).count) (beats last (seen_at part progress x).bound) more

  -- once all lists were read, nothing comes next
  pub nothing_next : (progress : Progress) → length part.query ≤ progress.read → next_look says query before part progress ≡ None
  nothing_next progress all =
      let last = worst query (before ++ known_rows query part progress) in
      let zero_left : left_of part progress ≡ 0 = omega arith in
      ap (choice says part progress last) (none_open query part progress last (λ x h. closed_all progress last x all))
      ∙ ap (λ (n : ℕ). cond (unseen_open n (threshold last)) (Some (read_next part progress)) None) zero_left

  -- if nothing comes next, these are the looks of the part
  pub ended : (now : List Look) (read : ℕ) (tallies : List Tally) (known : List Bool) (rows : List Row) (going : Going says query part before old now read tallies known rows) → next_look says query before part going.progress ≡ None
      → run says query before part start ≡ (going.made, going.progress)
  ended now read tallies known rows going none = run_is says query before part going.made start going.progress record { leads = going.leads_here; done = none }

  pub ended_log : (now : List Look) (read : ℕ) (tallies : List Tally) (known : List Bool) (rows : List Row) (going : Going says query part before old now read tallies known rows) → next_look says query before part going.progress ≡ None
      → now ≡ old ++ (run says query before part start).0
  ended_log now read tallies known rows going none = going.log ∙ ap (λ (r : List Look × Progress). old ++ r.0) (sym (ended now read tallies known rows going none))

  pub ended_rows : (now : List Look) (read : ℕ) (tallies : List Tally) (known : List Bool) (rows : List Row) (going : Going says query part before old now read tallies known rows) → next_look says query before part going.progress ≡ None → read < length part.query
      → rows ≡ best row_cmp query.k (before ++ known_rows query part (run says query before part start).1)
  ended_rows now read tallies known rows going none unread =
      rows_known now read tallies known rows going unread ∙ ap (λ (r : List Look × Progress). best row_cmp query.k (before ++ known_rows query part r.1)) (sym (ended now read tallies known rows going none))

  pub read_rows : (now : List Look) (read : ℕ) (tallies : List Tally) (known : List Bool) (rows : List Row) (going : Going says query part before old now read tallies known rows) → length part.query ≤ read
      → best row_cmp query.k (before ++ rows_by query part (λ x. true)) ≡ best row_cmp query.k (before ++ known_rows query part (run says query before part start).1)
  read_rows now read tallies known rows going all =
      let done : length part.query ≤ going.progress.read = (let e = going.at in omega (arith, e, all)) in
      ap (λ us. best row_cmp query.k (before ++ us)) (sym (known_all query part going.progress done))
      ∙ ap (λ (r : List Look × Progress). best row_cmp query.k (before ++ known_rows query part r.1)) (sym (ended now read tallies known rows going (nothing_next going.progress done)))
