-- What is right passes, and so the verdict decides.
use Rattle.std.proofs.Common.{◌≡◌, refl, ap, sym, ◌∙◌, subst, ℕ, zero, suc, ◌+◌, ◌-◌, ◌≤◌, ◌<◌, List, [], ◌∷◌, ◌++◌, map, flat_map, length, take, drop, Bool, true, false, not, arith}
use Rattle.std.specs.Prelude.{nat_le, ◌==◌, ◌&&◌, ◌||◌, filter}
use Rattle.std.specs.List.{AllByRecursion, list_all, list_any, range_with_len}
use Rattle.std.proofs.lemmas.Bool.{eq-eqb, eqb-true, and_parts}
use Rattle.std.proofs.lemmas.Bool.Decides.{nat_tests}
use Rattle.std.specs.Prelude.{bytes_eq}
use Rattle.list_laws.proofs.ListLemmas.{same_texts, texts_same}
use Rattle.std.proofs.lemmas.List.{take-map, drop-map, length-map}
use Rattle.std.proofs.Math.Seq.{take-append_seam}
use Rattle.record_model.specs.Rules.{Rules}
use Rattle.lake_model.specs.Texts.{Text}
use Rattle.lake_model.specs.Journal.{Entry}
use Rattle.lake_model.specs.Layout.{is_legal}
use Rattle.script_model.specs.Commands.{Command, Batch}
use Rattle.record_model.specs.Replies.{Reply}
use Rattle.record_model.specs.Answered.{Standing, Nowhere, Saw, Added, PlannedAndSaw, PlannedAndAdded, standing}
use Rattle.record_model.specs.Record.{Answered, RunRecord}
use Rattle.record_model.specs.Play.{Done, merger_commands}
use Rattle.script_model.specs.Commands.{updates}
use Rattle.record_model.specs.Right.{Moment, moments, accepted}
use Rattle.record_model.specs.Texts.{text}
use Rattle.trace_laws.specs.Hints.{Hint, Wanting, Stands, hint_of}
use Rattle.trace_laws.specs.Checks.{dones, rises, AreBatchesChecked}
use Rattle.trace_laws.specs.Rebuilt.{Hinted, hinted_with, stands_at, is_at, rebuilt, all_dones, hinted_of}
use Rattle.trace_laws.specs.Verdict.{all_commands, hinted_zip, puts_one, counted, remade_of, hints_of, remade}
use Rattle.trace_laws.specs.Passing.{same_standing, same_hint, tells, moments_of, lane_rises, batches_rise, is_apart, are_apart, is_filled, passes, RightPasses, VerdictDecides, VerdictGroups}
use Rattle.trace_laws.proofs.TotalLemmas.{total, total_same, total_zero, total_both, total_each, once, one_lane, none_above}
use Rattle.trace_laws.proofs.BatchLemmas.{of_lane}
use Rattle.trace_laws.proofs.RecordLemmas.{checks_decide}
use Rattle.trace_laws.proofs.RebuiltLemmas.{HasDone, Known, Tells, batches_tell, hint_at, hints_tell, IsOrdered}
use Rattle.trace_laws.specs.Reading.{groups_of, is_cut}
use Rattle.trace_laws.proofs.LineLemmas.{text_cut, text_grouped}
use Rattle.trace_laws.proofs.NameLemmas.{right_named}
use Rattle.trace_laws.proofs.VerdictLemmas.{reply_hint, zip_hints, all_hinted, sizes, counts_from, hints_decide, hints_found, IsLow}
use Rattle.trace_laws.proofs.PassingLemmas.{begins, lane_moments, RiseFrom, Stood, stood_from, passing_is_right}

-- ---- positions

pub all_in_range : (f : ℕ → Bool) (low size : ℕ) → ((l : ℕ) → l < low + size → f l ≡ true) → list_all f (range_with_len low size) ≡ true
all_in_range f low zero h = refl
all_in_range f low (suc size) h = ap (λ (b : Bool). b && list_all f (range_with_len (low + 1) size)) (h low (omega arith)) ∙ all_in_range f (low + 1) size (λ l below. h l (omega (arith, below)))

rise_checked : (rules : Rules) (lanes : ℕ) (merge : Bool) (next : ℕ) (journal : List Entry) (from : ℕ) (batches : List Batch) (syncs : List ℕ) (answers : List Answered)
    → AreBatchesChecked rules lanes merge next journal from batches syncs answers → RiseFrom lanes merge next from batches answers
rise_checked rules lanes merge next journal from [] [] [] h = refl
rise_checked rules lanes merge next journal from [] [] (answer ∷ answers) h = absurd h
rise_checked rules lanes merge next journal from [] (sync ∷ syncs) answers h = absurd h
rise_checked rules lanes merge next journal from (batch ∷ batches) [] answers h = absurd h
rise_checked rules lanes merge next journal from (batch ∷ batches) (sync ∷ syncs) answers h =
    let commands : List Command = batch ++ merger_commands merge next batch in
    let now : List Answered = take (length commands) answers in
    let done : List Done = dones commands now in
    let hinted : List Hinted = hinted_zip commands (take (length commands) (map reply_hint answers)) in
    let same : hinted_of done ≡ hinted = zip_hints commands now ∙ ap (hinted_zip commands) (sym (take-map reply_hint (length commands) answers)) in
    let many = h.0.many in
    let here : length (accepted rules journal done) ≡ counted (hinted_of done) = sizes rules journal done h.0.again in
    let counts : counted (hinted_of done) ≡ counted hinted = ap counted same in
    let sync_is : sync ≡ from + counted hinted = omega (arith, many, here, counts) in
    let rising = h.0.rising in
    let lane : (l : ℕ) → l < 0 + (lanes + 1) → lane_rises hinted from (from + counted hinted) l ≡ true =
    λ l below. ap (λ (ms : List Moment). rises from ms (from + counted hinted)) (ap (λ (hs : List Hinted). flat_map (λ (h : Hinted). moments_of h.hint) (filter (λ (h : Hinted). h.command.lane == l) hs)) (sym same) ∙ lane_moments l done)
    ∙ ap (rises from (moments (of_lane l done))) (sym sync_is) ∙ rising l (omega (arith, below)) in
    let rest : RiseFrom lanes merge (next + updates batch) sync batches (drop (length commands) answers) = rise_checked rules lanes merge (next + updates batch) journal sync batches syncs (drop (length commands) answers) h.1 in
    ap (λ (b : Bool). b && batches_rise lanes merge (next + updates batch) (from + counted hinted) batches (drop (length commands) (map reply_hint answers))) (all_in_range (lane_rises hinted from (from + counted hinted)) 0 (lanes + 1) lane)
    ∙ ap (λ (n : ℕ). batches_rise lanes merge (next + updates batch) n batches (drop (length commands) (map reply_hint answers))) (sym sync_is)
    ∙ ap (batches_rise lanes merge (next + updates batch) sync batches) (drop-map reply_hint (length commands) answers) ∙ rest

-- ---- each position is filled

any_hinted : (n : ℕ) (done : List Done) → HasDone n done → list_any (λ (h : Hinted). is_at n h.hint) (hinted_of done) ≡ true
any_hinted n [] h = h
any_hinted n (d ∷ done) h = ap (λ (b : Bool). b || list_any (λ (h : Hinted). is_at n h.hint) (hinted_of done)) (hint_at n d.reply) ∙ by (stands_at n (standing d.reply)) h (any_hinted n done)
  where
    by : (b : Bool) → (b || list_any (λ (d : Done). stands_at n (standing d.reply)) done) ≡ true → (HasDone n done → list_any (λ (h : Hinted). is_at n h.hint) (hinted_of done) ≡ true) → (b || list_any (λ (h : Hinted). is_at n h.hint) (hinted_of done)) ≡ true
    by true h rest = refl
    by false h rest = rest h

all_filled : (rules : Rules) (journal : List Entry) (done : List Done) (n : ℕ) → Tells rules journal 0 done → n ≤ length journal → is_filled (hinted_of done) n ≡ true
all_filled rules journal done zero tells le = refl
all_filled rules journal done (suc n) tells le =
    let made = tells.made in
    ap (λ (b : Bool). b && is_filled (hinted_of done) n) (any_hinted (suc n) done (made n (omega arith) (omega (arith, le)))) ∙ all_filled rules journal done n tells (omega (arith, le))

-- ---- no two updates at one position

abbrev pub count_at : ℕ → List Hinted → ℕ
count_at n [] = 0
count_at n (h ∷ hinted) = once 1 (is_at n h.hint) + count_at n hinted

pub shift : (k l : ℕ) → (suc k == suc l) ≡ (k == l)
shift k l = by (k == l) refl
  where
    by : (b : Bool) → (k == l) ≡ b → (suc k == suc l) ≡ b
    by true e = eq-eqb (suc k) (suc l) (ap suc (eqb-true k l e))
    by false e = grind (arith, nat_tests, e)

pub one_position : (at n : ℕ) → total (λ l. once 1 (at == suc l)) n ≤ 1
one_position zero n = let none = total_zero (λ l. once 1 (0 == suc l)) n (λ l. let e : (0 == suc l) ≡ false = grind (arith, nat_tests) in ap (once 1) e) in omega (arith, none)
one_position (suc k) n =
    let same = total_same (λ l. once 1 (suc k == suc l)) (λ l. once 1 (k == l)) n (λ l. ap (once 1) (shift k l)) in
    by (nat_le k n) refl same
  where
    by : (b : Bool) → nat_le k n ≡ b → total (λ l. once 1 (suc k == suc l)) n ≡ total (λ l. once 1 (k == l)) n → total (λ l. once 1 (suc k == suc l)) n ≤ 1
    by true e same = omega (arith, same, one_lane k 1 n (grind (arith, nat_tests, e)))
    by false e same = omega (arith, same, none_above k 1 n (grind (arith, nat_tests, e)))

one_hint : (hint : Hint) (n : ℕ) → total (λ l. once 1 (is_at (suc l) hint)) n ≤ puts_one hint
one_hint Wanting n = let e = total_zero (λ l. 0) n (λ l. refl) in omega (arith, e)
one_hint (Stands Nowhere) n = let e = total_zero (λ l. 0) n (λ l. refl) in omega (arith, e)
one_hint (Stands (Saw at)) n = let e = total_zero (λ l. 0) n (λ l. refl) in omega (arith, e)
one_hint (Stands (Added at)) n = one_position at n
one_hint (Stands (PlannedAndSaw pinned at)) n = let e = total_zero (λ l. 0) n (λ l. refl) in omega (arith, e)
one_hint (Stands (PlannedAndAdded pinned at)) n = one_position at n

total_counted : (hinted : List Hinted) (n : ℕ) → total (λ l. count_at (suc l) hinted) n ≤ counted hinted
total_counted [] n = let e = total_zero (λ l. 0) n (λ l. refl) in omega (arith, e)
total_counted (h ∷ hinted) n =
    let and_parts = total_both (λ l. count_at (suc l) (h ∷ hinted)) (λ l. once 1 (is_at (suc l) h.hint)) (λ l. count_at (suc l) hinted) n (λ l. refl) in
    omega (arith, and_parts, one_hint h.hint n, total_counted hinted n)

pub some_count : (n : ℕ) (hinted : List Hinted) → list_any (λ (h : Hinted). is_at n h.hint) hinted ≡ true → 1 ≤ count_at n hinted
some_count n [] h = cc
some_count n (x ∷ hinted) h = by (is_at n x.hint) h (some_count n hinted)
  where
    by : (b : Bool) → (b || list_any (λ (h : Hinted). is_at n h.hint) hinted) ≡ true → (list_any (λ (h : Hinted). is_at n h.hint) hinted ≡ true → 1 ≤ count_at n hinted) → 1 ≤ once 1 b + count_at n hinted
    by true h rest = omega arith
    by false h rest = let more = rest h in omega (arith, more)

none_count : (n : ℕ) (hinted : List Hinted) → count_at n hinted ≡ 0 → list_any (λ (h : Hinted). is_at n h.hint) hinted ≡ false
none_count n hinted h = by (list_any (λ (h : Hinted). is_at n h.hint) hinted) refl
  where
    by : (b : Bool) → list_any (λ (h : Hinted). is_at n h.hint) hinted ≡ b → b ≡ false
    by true e = let some = some_count n hinted e in absurd (omega (arith, h, some))
    by false e = refl

pub filled_at : (hinted : List Hinted) (n l : ℕ) → is_filled hinted n ≡ true → l < n → list_any (λ (h : Hinted). is_at (suc l) h.hint) hinted ≡ true
filled_at hinted zero l h below = absurd (omega (arith, below))
filled_at hinted (suc n) l h below = by (l == n) refl (filled_at hinted n l k.1)
  where
    k : (list_any (λ (h : Hinted). is_at (suc n) h.hint) hinted ≡ true) × (is_filled hinted n ≡ true)
    k = and_parts (list_any (λ (h : Hinted). is_at (suc n) h.hint) hinted) (is_filled hinted n) h

    by : (b : Bool) → (l == n) ≡ b → (l < n → list_any (λ (h : Hinted). is_at (suc l) h.hint) hinted ≡ true) → list_any (λ (h : Hinted). is_at (suc l) h.hint) hinted ≡ true
    by true e rest = subst (λ (m : ℕ). list_any (λ (h : Hinted). is_at (suc m) h.hint) hinted ≡ true) (sym (eqb-true l n e)) k.0
    by false e rest = rest (grind (arith, nat_tests, e, below))

total_ones : (n : ℕ) → total (λ l. 1) n ≡ suc n
total_ones zero = refl
total_ones (suc n) = omega (arith, total_ones n)

one_each : (hinted : List Hinted) (size : ℕ) → size ≡ counted hinted → is_filled hinted size ≡ true → (p : ℕ) → 1 ≤ p → p ≤ size → count_at p hinted ≤ 1
one_each hinted zero is filled p low high = absurd (omega (arith, low, high))
one_each hinted (suc n) is filled p low high =
    let l : ℕ = p - 1 in
    let e : suc l ≡ p = omega (arith, low) in
    let all = total_each (λ l. 1) (λ l. count_at (suc l) hinted) n (λ l le. some_count (suc l) hinted (filled_at hinted (suc n) l filled (omega (arith, le)))) (omega (arith, is, total_counted hinted n, total_ones n)) l (omega (arith, low, high)) in
    subst (λ (m : ℕ). count_at m hinted ≤ 1) e all

abbrev IsInSize : ℕ → Hinted → Type 0
IsInSize size h = (n : ℕ) → is_at n h.hint ≡ true → (1 ≤ n) × (n ≤ size)

abbrev AreInSize : ℕ → List Hinted → Type 0
AreInSize size hinted = AllByRecursion (IsInSize size) hinted

not_at : (hint : Hint) (at : ℕ) (hinted : List Hinted) → is_at at hint ≡ true → once 1 (is_at at hint) + count_at at hinted ≤ 1 → not (list_any (λ (h : Hinted). is_at at h.hint) hinted) ≡ true
not_at hint at hinted h few = let one : once 1 (is_at at hint) ≡ 1 = ap (once 1) h in ap not (none_count at hinted (omega (arith, few, one)))

apart_by : (size : ℕ) (hint : Hint) (command : Command) (hinted : List Hinted) → IsInSize size (hinted_with command hint) → ((p : ℕ) → 1 ≤ p → p ≤ size → once 1 (is_at p hint) + count_at p hinted ≤ 1) → is_apart hint hinted ≡ true
apart_by size Wanting command hinted within few = refl
apart_by size (Stands Nowhere) command hinted within few = refl
apart_by size (Stands (Saw at)) command hinted within few = refl
apart_by size (Stands (Added at)) command hinted within few =
    let self : (at == at) ≡ true = eq-eqb at at refl in let w = within at self in not_at (Stands (Added at)) at hinted self (few at w.0 w.1)
apart_by size (Stands (PlannedAndSaw pinned at)) command hinted within few = refl
apart_by size (Stands (PlannedAndAdded pinned at)) command hinted within few =
    let self : (at == at) ≡ true = eq-eqb at at refl in let w = within at self in not_at (Stands (PlannedAndAdded pinned at)) at hinted self (few at w.0 w.1)

apart_from : (size : ℕ) (hinted : List Hinted) → AreInSize size hinted → ((p : ℕ) → 1 ≤ p → p ≤ size → count_at p hinted ≤ 1) → are_apart hinted ≡ true
apart_from size [] within few = refl
apart_from size (h ∷ hinted) within few =
    ap (λ (b : Bool). b && are_apart hinted) (apart_by size h.hint h.command hinted within.0 few)
    ∙ apart_from size hinted within.1 (λ p low high. let k = few p low high in omega (arith, k))

in_size_by : (size : ℕ) (s : Standing) → IsOrdered s → IsLow size s → (n : ℕ) → stands_at n s ≡ true → (1 ≤ n) × (n ≤ size)
in_size_by size Nowhere o l n h = cc
in_size_by size (Saw at) o l n h = cc
in_size_by size (Added at) o l n h = let is : at ≡ n = eqb-true at n h in (omega (arith, is, o), omega (arith, is, l))
in_size_by size (PlannedAndSaw pinned at) o l n h = cc
in_size_by size (PlannedAndAdded pinned at) o l n h = let is : at ≡ n = eqb-true at n h in let some : pinned < at = o in (omega (arith, is, some), omega (arith, is, l.1))

all_in_size : (size : ℕ) (done : List Done) → AllByRecursion (Stood size) done → AreInSize size (hinted_of done)
all_in_size size [] h = tt
all_in_size size (d ∷ done) h = ((λ n at. in_size_by size (standing d.reply) h.0.ordered h.0.low n (sym (hint_at n d.reply) ∙ at)), all_in_size size done h.1)

-- ---- each reply has its hint again

same_standing_self : (s : Standing) → same_standing s s ≡ true
same_standing_self Nowhere = refl
same_standing_self (Saw at) = eq-eqb at at refl
same_standing_self (Added at) = eq-eqb at at refl
same_standing_self (PlannedAndSaw pinned at) = ap (λ (b : Bool). b && (at == at)) (eq-eqb pinned pinned refl) ∙ eq-eqb at at refl
same_standing_self (PlannedAndAdded pinned at) = ap (λ (b : Bool). b && (at == at)) (eq-eqb pinned pinned refl) ∙ eq-eqb at at refl

pub same_hint_self : (h : Hint) → same_hint h h ≡ true
same_hint_self Wanting = refl
same_hint_self (Stands s) = same_standing_self s

all_tell : (rules : Rules) (journal : List Entry) (done : List Done) → AllByRecursion (Known rules journal) done → list_all (tells rules journal) (hinted_of done) ≡ true
all_tell rules journal [] h = refl
all_tell rules journal (d ∷ done) h =
    let again = h.0.again in
    ap (λ (b : Bool). b && list_all (tells rules journal) (hinted_of done)) (ap (λ (r : Reply). same_hint (hint_of r) (hint_of d.reply)) (sym again) ∙ same_hint_self (hint_of d.reply))
    ∙ all_tell rules journal done h.1

-- ---- what is right passes

all_six : (a b c d e f : Bool) → a ≡ true → b ≡ true → c ≡ true → d ≡ true → e ≡ true → f ≡ true → (a && (b && (c && (d && (e && f))))) ≡ true
all_six true true true true true f h i j k l m = m
all_six true true true true false f h i j k l m = l
all_six true true true false e f h i j k l m = k
all_six true true false d e f h i j k l m = j
all_six true false c d e f h i j k l m = i
all_six false b c d e f h i j k l m = h

pub right_passes : RightPasses
right_passes rules options batches made of right =
    let commands : List Command = all_commands options.merge 1 batches in
    let hints : List Hint = map reply_hint made.answers in
    let done : List Done = all_dones options.merge 1 batches made.answers in
    let hinted : List Hinted = hinted_zip commands hints in
    let size : ℕ = counted hinted in
    let journal : List Entry = rebuilt rules hinted size in
    let checked = (checks_decide rules options.lanes options.merge batches made of).1 right in
    let counts = counts_from rules options.lanes options.merge 1 made.journal 0 batches made.syncs made.answers checked.each in
    let told = hints_tell rules options.lanes options.merge batches made of right in
    let knows = batches_tell rules options.lanes options.merge 1 made.journal 0 batches made.syncs made.answers of right.callers right.each in
    let zipped : hinted_of done ≡ hinted = all_hinted options.merge 1 batches made.answers in
    let count : counted (hinted_of done) ≡ size = ap counted zipped in
    let long : length made.journal ≡ size = omega (arith, counts.size, count) in
    let journal_is : made.journal ≡ journal = sym told.0 ∙ ap (λ (n : ℕ). rebuilt rules (hinted_of done) n) long ∙ ap (λ (hs : List Hinted). rebuilt rules hs size) zipped in
    let enough : length hints ≡ length commands = length-map made.answers reply_hint ∙ counts.answers_are in
    let rise : RiseFrom options.lanes options.merge 1 0 batches made.answers = rise_checked rules options.lanes options.merge 1 made.journal 0 batches made.syncs made.answers checked.each in
    let stood : AllByRecursion (Stood size) done = stood_from options.lanes options.merge 1 0 size batches made.answers of rise (omega (arith, count)) in
    let filled : is_filled (hinted_of done) size ≡ true = all_filled rules made.journal done size knows (omega (arith, long)) in
    let apart : are_apart (hinted_of done) ≡ true = apart_from size (hinted_of done) (all_in_size size done stood) (one_each (hinted_of done) size (sym count) filled) in
    let tell : list_all (tells rules made.journal) (hinted_of done) ≡ true = all_tell rules made.journal done knows.known in
    all_six (length hints == length commands) (are_apart hinted) (is_filled hinted size) (batches_rise options.lanes options.merge 1 0 batches hints) (list_all (tells rules journal) hinted) (is_legal journal)
    (eq-eqb (length hints) (length commands) enough) (ap are_apart (sym zipped) ∙ apart) (ap (λ (hs : List Hinted). is_filled hs size) (sym zipped) ∙ filled) rise
    (ap (λ (j : List Entry). list_all (tells rules j) hinted) (sym journal_is) ∙ ap (list_all (tells rules made.journal)) (sym zipped) ∙ tell)
    (ap is_legal (sym journal_is) ∙ right.legal)

-- ---- the verdict

pub verdict_decides : VerdictDecides
verdict_decides rules options batches trace of names traced few = (
  (λ h.
      let hints : List Hint = hints_of batches options.merge trace in
      let k = and_parts (passes rules options batches hints) (bytes_eq (text (remade_of rules options batches hints)) trace) h in
      record {
        right = passing_is_right rules options batches hints of k.0;
        options_are = refl;
        ended = refl;
        is = same_texts (text (remade_of rules options batches hints)) trace k.1;
      }),
  (λ made is.
      let hints : List Hint = hints_of batches options.merge trace in
      let named = right_named rules options.lanes options.merge batches made of names is.right in
      let found : hints ≡ map reply_hint made.answers = hints_found rules options batches trace made of traced few named is in
      let best = hints_decide rules options batches trace made of names traced few is in
      let passing : passes rules options batches hints ≡ true = ap (passes rules options batches) found ∙ right_passes rules options batches made of is.right in
      ap (λ (b : Bool). b && bytes_eq (text (remade_of rules options batches hints)) trace) passing
      ∙ ap (λ (t : Text). bytes_eq t trace) best.1.is ∙ texts_same trace trace refl),
)

-- ---- what the code of a checker relies on

pub verdict_groups : VerdictGroups
verdict_groups rules options batches trace of names traced few said =
    let made : RunRecord = remade rules options batches trace in
    let is = (verdict_decides rules options batches trace of names traced few).0 said in
    let named = right_named rules options.lanes options.merge batches made of names is.right in
    (sym (ap is_cut is.is) ∙ text_cut made traced refl named, ap groups_of (sym is.is) ∙ text_grouped made traced refl named)

-- The journal that was rebuilt up to a position is the beginning of the whole.
pub rebuilt_front : (rules : Rules) (hinted : List Hinted) (size n : ℕ) → n ≤ size → length (rebuilt rules hinted n) ≡ n → take n (rebuilt rules hinted size) ≡ rebuilt rules hinted n
rebuilt_front rules hinted size n le long =
    let k : ℕ = size - n in
    let e : size ≡ k + n = omega (arith, le) in
    let rest = begins rules hinted n k in
    ap (λ (m : ℕ). take n (rebuilt rules hinted m)) e ∙ ap (take n) rest.1 ∙ ap (λ (m : ℕ). take m (rebuilt rules hinted n ++ rest.0)) (sym long) ∙ take-append_seam (rebuilt rules hinted n) rest.0
