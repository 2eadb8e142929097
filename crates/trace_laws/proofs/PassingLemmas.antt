-- What passes is right.
use Rattle.std.proofs.Common.{◌≡◌, refl, ap, sym, ◌∙◌, subst, ℕ, zero, suc, ◌+◌, ◌-◌, ◌≤◌, ◌<◌, List, [], ◌∷◌, ◌++◌, append_assoc, map, flat_map, length, length-append, take, drop, Bool, true, false, not, cond, arith}
use Rattle.std.specs.Prelude.{◌==◌, ◌&&◌, ◌||◌, filter, find, slice_get, Option, Some}
use Rattle.std.specs.List.{AllByRecursion, list_all, list_any, range_with_len}
use Rattle.std.proofs.lemmas.List.{append-nil, map-append, take-take, take-map, drop-map, length-map}
use Rattle.std.proofs.lemmas.Bool.{eq-eqb, eqb-true, and_parts}
use Rattle.std.proofs.lemmas.Bool.Decides.{nat_tests}
use Rattle.std.proofs.Math.Seq.{take-append_seam}
use Rattle.lake_model.specs.declared.Who.{Who}
use Rattle.record_model.specs.Rules.{Rules}
use Rattle.lake_model.specs.Journal.{What, Entry, entry_with}
use Rattle.lake_model.specs.Layout.{is_legal}
use Rattle.script_model.specs.Commands.{Command, Batch}
use Rattle.record_model.specs.Replies.{Reply, NoMemory}
use Rattle.record_model.specs.Answered.{adds, change_of, is_accepted, Standing, Nowhere, Saw, Added, PlannedAndSaw, PlannedAndAdded, standing}
use Rattle.record_model.specs.Record.{Answered, RunRecord}
use Rattle.record_model.specs.Play.{Done, who_of, merger_commands}
use Rattle.script_model.specs.Commands.{updates}
use Rattle.script_model.specs.Lanes.{IsOfLanes}
use Rattle.record_model.specs.Right.{Moment, moments, moments_by, answer_by, at_position, entries_by}
use Rattle.list_laws.proofs.ListLemmas.{all_append, all_left, all_right, drop_seam}
use Rattle.trace_laws.specs.Hints.{Hint, Wanting, Stands, hint_of, reply_by}
use Rattle.trace_laws.specs.Checks.{dones, rises, IsMadeAgain, AreEntered, AreBatchesChecked}
use Rattle.trace_laws.specs.Rebuilt.{Hinted, hinted_with, is_at, pinned_of, put_by, rebuilt, all_dones, hinted_of, answer_again}
use Rattle.trace_laws.specs.Verdict.{all_commands, hinted_zip, counted, syncs_from, remade_of}
use Rattle.trace_laws.specs.Passing.{same_standing, same_hint, tells, moments_of, lane_rises, batches_rise, is_apart, are_apart, is_filled, PassingIsRight}
use Rattle.trace_laws.proofs.HintLemmas.{rises_is}
use Rattle.trace_laws.proofs.BatchLemmas.{of_lane}
use Rattle.trace_laws.proofs.RecordLemmas.{checks_decide, AreWithinLanes, all_lanes, batch_within, entered_all, HasEntries}
use Rattle.trace_laws.proofs.RebuiltLemmas.{AddsOne, adds_one, IsOrdered, IsOrderly, all_ordered}
use Rattle.trace_laws.proofs.VerdictLemmas.{reply_hint, zip_hints, all_hinted, sizes, counted_append, hinted_append, IsLow, IsLowReply, all_low}
use Rattle.record_model.proofs.LegalLemmas.{AreCallers, are_callers}

-- ---- hints

standing_is : (s t : Standing) → same_standing s t ≡ true → s ≡ t
standing_is Nowhere Nowhere h = refl
standing_is (Saw a) (Saw b) h = ap Saw (eqb-true a b h)
standing_is (Added a) (Added b) h = ap Added (eqb-true a b h)
standing_is (PlannedAndSaw p a) (PlannedAndSaw q b) h = let k = and_parts (p == q) (a == b) h in ap (λ (n : ℕ). PlannedAndSaw n a) (eqb-true p q k.0) ∙ ap (PlannedAndSaw q) (eqb-true a b k.1)
standing_is (PlannedAndAdded p a) (PlannedAndAdded q b) h = let k = and_parts (p == q) (a == b) h in ap (λ (n : ℕ). PlannedAndAdded n a) (eqb-true p q k.0) ∙ ap (PlannedAndAdded q) (eqb-true a b k.1)
standing_is s t h = cc

pub hint_is : (h k : Hint) → same_hint h k ≡ true → h ≡ k
hint_is Wanting Wanting e = refl
hint_is (Stands s) (Stands t) e = ap Stands (standing_is s t e)
hint_is h k e = cc

-- ---- the answers that are made again

abbrev AreTold : Rules → List Entry → List Hinted → Type 0
AreTold rules journal hinted = list_all (tells rules journal) hinted ≡ true

-- their hints are those from which they were made
told_hints : (rules : Rules) (journal : List Entry) (commands : List Command) (hints : List Hint) → length hints ≡ length commands → AreTold rules journal (hinted_zip commands hints)
    → map reply_hint (map (answer_again rules journal) (hinted_zip commands hints)) ≡ hints
told_hints rules journal [] [] size told = refl
told_hints rules journal [] (h ∷ hints) size told = let none : suc (length hints) ≡ 0 = size in absurd (omega (arith, none))
told_hints rules journal (c ∷ commands) [] size told = refl
told_hints rules journal (c ∷ commands) (h ∷ hints) size told =
    let more : suc (length hints) ≡ suc (length commands) = size in
    let k = and_parts (tells rules journal (hinted_with c h)) (list_all (tells rules journal) (hinted_zip commands hints)) told in
    ap (λ (x : Hint). x ∷ map reply_hint (map (answer_again rules journal) (hinted_zip commands hints))) (hint_is (hint_of (reply_by rules journal c h)) h k.0)
    ∙ ap (λ (xs : List Hint). h ∷ xs) (told_hints rules journal commands hints (omega (arith, more)) k.1)

told_who : (rules : Rules) (journal : List Entry) (commands : List Command) (hints : List Hint) → length hints ≡ length commands
    → map (λ (a : Answered). a.who) (map (answer_again rules journal) (hinted_zip commands hints)) ≡ map who_of commands
told_who rules journal [] [] size = refl
told_who rules journal [] (h ∷ hints) size = refl
told_who rules journal (c ∷ commands) [] size = let none : 0 ≡ suc (length commands) = size in absurd (omega (arith, none))
told_who rules journal (c ∷ commands) (h ∷ hints) size = let more : suc (length hints) ≡ suc (length commands) = size in ap (λ (ws : List Who). who_of c ∷ ws) (told_who rules journal commands hints (omega (arith, more)))

-- ---- all commands with their answers

one_zip : (commands more : List Command) (answers : List Answered) → dones commands (take (length commands) answers) ++ dones more (drop (length commands) answers) ≡ dones (commands ++ more) answers
one_zip [] more answers = refl
one_zip (c ∷ commands) more [] = none more
  where
    none : (more : List Command) → dones more [] ≡ []
    none [] = refl
    none (m ∷ more) = refl
one_zip (c ∷ commands) more (a ∷ answers) = ap (λ (ds : List Done). record { command = c; reply = a.reply } ∷ ds) (one_zip commands more answers)

all_zip : (merge : Bool) (next : ℕ) (batches : List Batch) (answers : List Answered) → all_dones merge next batches answers ≡ dones (all_commands merge next batches) answers
all_zip merge next [] answers = refl
all_zip merge next (batch ∷ batches) answers =
    let commands : List Command = batch ++ merger_commands merge next batch in
    ap (λ (ds : List Done). dones commands (take (length commands) answers) ++ ds) (all_zip merge (next + updates batch) batches (drop (length commands) answers))
    ∙ one_zip commands (all_commands merge (next + updates batch) batches) answers

-- each reply is the same when it is made again
again_zip : (rules : Rules) (journal : List Entry) (commands : List Command) (hints : List Hint) → AreTold rules journal (hinted_zip commands hints)
    → AllByRecursion (IsMadeAgain rules journal) (dones commands (map (answer_again rules journal) (hinted_zip commands hints)))
again_zip rules journal [] hints told = tt
again_zip rules journal (c ∷ commands) [] told = tt
again_zip rules journal (c ∷ commands) (h ∷ hints) told =
    let k = and_parts (tells rules journal (hinted_with c h)) (list_all (tells rules journal) (hinted_zip commands hints)) told in
    (ap (reply_by rules journal c) (sym (hint_is (hint_of (reply_by rules journal c h)) h k.0)), again_zip rules journal commands hints k.1)

-- ---- the journal that is rebuilt

-- what a command with its hint puts into the journal at its position
record Fine (rules : Rules) (journal : List Entry) (h : Hinted) : Type 0 where
  puts : (n : ℕ) → is_at (suc n) h.hint ≡ true → AddsOne (change_of rules h.command.task (take (pinned_of h.hint) journal)) × (pinned_of h.hint ≤ n)

abbrev AreFine : Rules → List Entry → List Hinted → Type 0
AreFine rules journal hinted = AllByRecursion (Fine rules journal) hinted

fine_found : (rules : Rules) (journal : List Entry) (n : ℕ) (hinted : List Hinted) → AreFine rules journal hinted → list_any (λ (h : Hinted). is_at n h.hint) hinted ≡ true
    → (h : Hinted) × (find (λ (h : Hinted). is_at n h.hint) hinted ≡ Some h) × Fine rules journal h × (is_at n h.hint ≡ true)
fine_found rules journal n [] fine has = cc
fine_found rules journal n (h ∷ hinted) fine has = by (is_at n h.hint) refl has (fine_found rules journal n hinted fine.1)
  where
    others : Option Hinted
    others = find (λ (h : Hinted). is_at n h.hint) hinted

    by : (b : Bool) → is_at n h.hint ≡ b → (b || list_any (λ (h : Hinted). is_at n h.hint) hinted) ≡ true
        → (list_any (λ (h : Hinted). is_at n h.hint) hinted ≡ true → (k : Hinted) × (others ≡ Some k) × Fine rules journal k × (is_at n k.hint ≡ true))
        → (k : Hinted) × (cond (is_at n h.hint) (Some h) others ≡ Some k) × Fine rules journal k × (is_at n k.hint ≡ true)
    by true e has rest = (h, ap (λ (b : Bool). cond b (Some h) others) e, fine.0, e)
    by false e has rest = let k = rest has in (k.0, ap (λ (b : Bool). cond b (Some h) others) e ∙ k.1, k.2, k.3)

-- the journal begins with what was rebuilt before
pub begins : (rules : Rules) (hinted : List Hinted) (n k : ℕ) → (rest : List Entry) × (rebuilt rules hinted (k + n) ≡ rebuilt rules hinted n ++ rest)
begins rules hinted n zero = let e : zero + n ≡ n = omega arith in ([], ap (rebuilt rules hinted) e ∙ sym (append-nil (rebuilt rules hinted n)))
begins rules hinted n (suc k) =
    let before = begins rules hinted n k in
    let e : suc k + n ≡ suc (k + n) = omega arith in
    let more : List Entry = put_by rules (rebuilt rules hinted (k + n)) (find (λ (h : Hinted). is_at (suc (k + n)) h.hint) hinted) in
    (before.0 ++ more, ap (rebuilt rules hinted) e ∙ ap (λ (j : List Entry). j ++ more) before.1 ∙ append_assoc (rebuilt rules hinted n) before.0 more)

get_begun : (xs ys : List Entry) (e : Entry) → slice_get (xs ++ e ∷ ys) (length xs) ≡ Some e
get_begun [] ys e = refl
get_begun (x ∷ xs) ys e = get_begun xs ys e

filled_down : (hinted : List Hinted) (n : ℕ) → is_filled hinted (suc n) ≡ true → (list_any (λ (h : Hinted). is_at (suc n) h.hint) hinted ≡ true) × (is_filled hinted n ≡ true)
filled_down hinted n h = and_parts (list_any (λ (h : Hinted). is_at (suc n) h.hint) hinted) (is_filled hinted n) h

-- the entry at position n + 1
next_by : (rules : Rules) (journal : List Entry) (hinted : List Hinted) (n k : ℕ) → journal ≡ rebuilt rules hinted (k + n) → length (rebuilt rules hinted n) ≡ n → (h : Hinted) → find (λ (h : Hinted). is_at (suc n) h.hint) hinted ≡ Some h → Fine rules journal h → is_at (suc n) h.hint ≡ true
    → (what : What) × (change_of rules h.command.task (take (pinned_of h.hint) journal) ≡ what ∷ []) × (rebuilt rules hinted (suc n) ≡ rebuilt rules hinted n ++ entry_with (who_of h.command) what ∷ [])
next_by rules journal hinted n k is size h found fine at =
    let puts = fine.puts n at in
    let rest = begins rules hinted n k in
    let front : take n journal ≡ rebuilt rules hinted n = ap (take n) (is ∙ rest.1) ∙ ap (λ (m : ℕ). take m (rebuilt rules hinted n ++ rest.0)) (sym size) ∙ take-append_seam (rebuilt rules hinted n) rest.0 in
    let pins : take (pinned_of h.hint) (rebuilt rules hinted n) ≡ take (pinned_of h.hint) journal = ap (take (pinned_of h.hint)) (sym front) ∙ take-take (pinned_of h.hint) n journal puts.1 in (
      puts.0.what,
      puts.0.is,
      ap (λ (o : Option Hinted). rebuilt rules hinted n ++ put_by rules (rebuilt rules hinted n) o) found
          ∙ ap (λ (p : List Entry). rebuilt rules hinted n ++ map (entry_with (who_of h.command)) (change_of rules h.command.task p)) pins
          ∙ ap (λ (ws : List What). rebuilt rules hinted n ++ map (entry_with (who_of h.command)) ws) puts.0.is,
    )

sized : (rules : Rules) (journal : List Entry) (hinted : List Hinted) (n k : ℕ) → journal ≡ rebuilt rules hinted (k + n) → AreFine rules journal hinted → is_filled hinted n ≡ true → length (rebuilt rules hinted n) ≡ n
sized rules journal hinted zero k is fine filled = refl
sized rules journal hinted (suc n) k is fine filled =
    let down = filled_down hinted n filled in
    let e : k + suc n ≡ suc k + n = omega arith in
    let here : journal ≡ rebuilt rules hinted (suc k + n) = is ∙ ap (rebuilt rules hinted) e in
    let before : length (rebuilt rules hinted n) ≡ n = sized rules journal hinted n (suc k) here fine down.1 in
    let found = fine_found rules journal (suc n) hinted fine down.0 in
    let next = next_by rules journal hinted n (suc k) here before found.0 found.1 found.2 found.3 in
    let grown : length (rebuilt rules hinted (suc n)) ≡ length (rebuilt rules hinted n) + 1 = ap (λ (j : List Entry). length j) next.2 ∙ length-append (rebuilt rules hinted n) (entry_with (who_of found.0.command) next.0 ∷ []) in
    omega (arith, before, grown)

filled_low : (hinted : List Hinted) (n k : ℕ) → is_filled hinted (k + n) ≡ true → is_filled hinted n ≡ true
filled_low hinted n zero h = let e : zero + n ≡ n = omega arith in subst (λ (m : ℕ). is_filled hinted m ≡ true) e h
filled_low hinted n (suc k) h = let e : suc k + n ≡ suc (k + n) = omega arith in filled_low hinted n k (filled_down hinted (k + n) (subst (λ (m : ℕ). is_filled hinted m ≡ true) e h)).1

-- the entry at the position at which a command is found
entry_found : (rules : Rules) (hinted : List Hinted) (size n : ℕ) → n < size → AreFine rules (rebuilt rules hinted size) hinted → is_filled hinted size ≡ true → (h : Hinted) → find (λ (h : Hinted). is_at (suc n) h.hint) hinted ≡ Some h → Fine rules (rebuilt rules hinted size) h → is_at (suc n) h.hint ≡ true
    → (what : What) × (change_of rules h.command.task (take (pinned_of h.hint) (rebuilt rules hinted size)) ≡ what ∷ []) × (slice_get (rebuilt rules hinted size) n ≡ Some (entry_with (who_of h.command) what))
entry_found rules hinted size n low fine filled h found own at =
    let journal : List Entry = rebuilt rules hinted size in
    let k : ℕ = size - n in
    let j : ℕ = size - suc n in
    let e : size ≡ k + n = omega (arith, low) in
    let f : size ≡ j + suc n = omega (arith, low) in
    let before : length (rebuilt rules hinted n) ≡ n = sized rules journal hinted n k (ap (rebuilt rules hinted) e) fine (filled_low hinted n k (subst (λ (m : ℕ). is_filled hinted m ≡ true) e filled)) in
    let next = next_by rules journal hinted n k (ap (rebuilt rules hinted) e) before h found own at in
    let rest = begins rules hinted (suc n) j in
    let entry : Entry = entry_with (who_of h.command) next.0 in
    let whole : journal ≡ rebuilt rules hinted n ++ entry ∷ rest.0 =
    ap (rebuilt rules hinted) f ∙ rest.1 ∙ ap (λ (es : List Entry). es ++ rest.0) next.2 ∙ append_assoc (rebuilt rules hinted n) (entry ∷ []) rest.0 in
    (next.0, next.1, ap (λ (es : List Entry). slice_get es n) whole ∙ ap (slice_get (rebuilt rules hinted n ++ entry ∷ rest.0)) (sym before) ∙ get_begun (rebuilt rules hinted n) rest.0 entry)

-- ---- no two at one position

abbrev FoundIn : List Hinted → Hinted → Type 0
FoundIn hinted h = (n : ℕ) → is_at n h.hint ≡ true → find (λ (x : Hinted). is_at n x.hint) hinted ≡ Some h

any_from_find : (n : ℕ) (hinted : List Hinted) (h : Hinted) → find (λ (x : Hinted). is_at n x.hint) hinted ≡ Some h → list_any (λ (x : Hinted). is_at n x.hint) hinted ≡ true
any_from_find n [] h e = cc
any_from_find n (x ∷ hinted) h e = by (is_at n x.hint) e (any_from_find n hinted h)
  where
    by : (b : Bool) → cond b (Some x) (find (λ (y : Hinted). is_at n y.hint) hinted) ≡ Some h → (find (λ (y : Hinted). is_at n y.hint) hinted ≡ Some h → list_any (λ (y : Hinted). is_at n y.hint) hinted ≡ true)
        → (b || list_any (λ (y : Hinted). is_at n y.hint) hinted) ≡ true
    by true e rest = refl
    by false e rest = rest e

not_any : (at n : ℕ) (hinted : List Hinted) → not (list_any (λ (x : Hinted). is_at at x.hint) hinted) ≡ true → (at == n) ≡ true → list_any (λ (x : Hinted). is_at n x.hint) hinted ≡ false
not_any at n hinted h e = by (list_any (λ (x : Hinted). is_at n x.hint) hinted) (subst (λ (m : ℕ). not (list_any (λ (x : Hinted). is_at m x.hint) hinted) ≡ true) (eqb-true at n e) h)
  where
    by : (b : Bool) → not b ≡ true → b ≡ false
    by true h = cc
    by false h = refl

apart_none : (n : ℕ) (hint : Hint) (hinted : List Hinted) → is_apart hint hinted ≡ true → is_at n hint ≡ true → list_any (λ (x : Hinted). is_at n x.hint) hinted ≡ false
apart_none n Wanting hinted h at = cc
apart_none n (Stands Nowhere) hinted h at = cc
apart_none n (Stands (Saw p)) hinted h at = cc
apart_none n (Stands (Added p)) hinted h at = not_any p n hinted h at
apart_none n (Stands (PlannedAndSaw q p)) hinted h at = cc
apart_none n (Stands (PlannedAndAdded q p)) hinted h at = not_any p n hinted h at

found_more : (x : Hinted) (hinted some : List Hinted) → is_apart x.hint hinted ≡ true → AllByRecursion (FoundIn hinted) some → AllByRecursion (FoundIn (x ∷ hinted)) some
found_more x hinted [] apart h = tt
found_more x hinted (y ∷ some) apart h = ((λ n at. by n at (is_at n x.hint) refl), found_more x hinted some apart h.1)
  where
    by : (n : ℕ) → is_at n y.hint ≡ true → (b : Bool) → is_at n x.hint ≡ b → find (λ (z : Hinted). is_at n z.hint) (x ∷ hinted) ≡ Some y
    by n at true e = let none = apart_none n x.hint hinted apart e in let has = any_from_find n hinted y (h.0 n at) in cc
    by n at false e = ap (λ (b : Bool). cond b (Some x) (find (λ (z : Hinted). is_at n z.hint) hinted)) e ∙ h.0 n at

apart_found : (hinted : List Hinted) → are_apart hinted ≡ true → AllByRecursion (FoundIn hinted) hinted
apart_found [] h = tt
apart_found (x ∷ hinted) h =
    let k = and_parts (is_apart x.hint hinted) (are_apart hinted) h in
    ((λ n at. ap (λ (b : Bool). cond b (Some x) (find (λ (z : Hinted). is_at n z.hint) hinted)) at), found_more x hinted hinted k.0 (apart_found hinted k.1))

-- ---- positions along lanes

pub in_range : (f : ℕ → Bool) (low size l : ℕ) → list_all f (range_with_len low size) ≡ true → low ≤ l → l < low + size → f l ≡ true
in_range f low zero l h above below = absurd (omega (arith, above, below))
in_range f low (suc size) l h above below = by (low == l) refl (in_range f (low + 1) size l k.1)
  where
    k : (f low ≡ true) × (list_all f (range_with_len (low + 1) size) ≡ true)
    k = and_parts (f low) (list_all f (range_with_len (low + 1) size)) h

    by : (b : Bool) → (low == l) ≡ b → (low + 1 ≤ l → l < low + 1 + size → f l ≡ true) → f l ≡ true
    by true e rest = subst (λ (m : ℕ). f m ≡ true) (eqb-true low l e) k.0
    by false e rest = rest (grind (arith, nat_tests, e, above)) (omega (arith, below))

moments_same : (reply : Reply) → moments_of (hint_of reply) ≡ moments_by (standing reply)
moments_same NoMemory = refl
moments_same reply = refl

pub lane_moments : (lane : ℕ) (done : List Done) → flat_map (λ (h : Hinted). moments_of h.hint) (filter (λ (h : Hinted). h.command.lane == lane) (hinted_of done)) ≡ moments (of_lane lane done)
lane_moments lane [] = refl
lane_moments lane (d ∷ done) = by (d.command.lane == lane) (lane_moments lane done)
  where
    others : List Hinted
    others = filter (λ (h : Hinted). h.command.lane == lane) (hinted_of done)

    by : (b : Bool) → flat_map (λ (h : Hinted). moments_of h.hint) others ≡ moments (of_lane lane done)
        → flat_map (λ (h : Hinted). moments_of h.hint) (cond b (hinted_with d.command (hint_of d.reply) ∷ others) others) ≡ moments (cond b (d ∷ of_lane lane done) (of_lane lane done))
    by true rest = ap (λ (ms : List Moment). ms ++ flat_map (λ (h : Hinted). moments_of h.hint) others) (moments_same d.reply) ∙ ap (λ (ms : List Moment). moments_by (standing d.reply) ++ ms) rest
    by false rest = rest

-- ---- each answer

record Sound (rules : Rules) (journal : List Entry) (size : ℕ) (d : Done) : Type 0 where
  again : IsMadeAgain rules journal d
  ordered : IsOrderly d
  low : IsLowReply size d.reply

fine_by : (rules : Rules) (journal : List Entry) (command : Command) (reply : Reply) (s : Standing) → standing reply ≡ s → reply ≡ answer_by rules journal command s → IsOrdered s → Fine rules journal (hinted_with command (Stands s))
fine_by rules journal command reply Nowhere st again ordered = record { puts = λ n h. cc }
fine_by rules journal command reply (Saw at) st again ordered = record { puts = λ n h. cc }
fine_by rules journal command reply (PlannedAndSaw pinned at) st again ordered = record { puts = λ n h. cc }
fine_by rules journal command reply (Added at) st again ordered = record {
  puts = λ n h. (
    adds_one rules command.task (take (at - 1) journal) (take (at - 1) journal) (ap (λ (r : Reply). is_accepted (standing r)) (sym again) ∙ ap is_accepted st),
    (let is : at ≡ suc n = eqb-true at (suc n) h in omega (arith, is)),
  );
}
fine_by rules journal command reply (PlannedAndAdded pinned at) st again ordered = record {
  puts = λ n h. (
    adds_one rules command.task (take pinned journal) (take (at - 1) journal) (ap (λ (r : Reply). is_accepted (standing r)) (sym again) ∙ ap is_accepted st),
    (let is : at ≡ suc n = eqb-true at (suc n) h in omega (arith, is, ordered)),
  );
}

fine_of : (rules : Rules) (journal : List Entry) (command : Command) (reply : Reply) → reply ≡ reply_by rules journal command (hint_of reply) → IsOrdered (standing reply) → Fine rules journal (hinted_with command (hint_of reply))
fine_of rules journal command NoMemory again ordered = record { puts = λ n h. cc }
fine_of rules journal command reply again ordered = fine_by rules journal command reply (standing reply) refl again ordered

all_fine : (rules : Rules) (journal : List Entry) (size : ℕ) (done : List Done) → AllByRecursion (Sound rules journal size) done → AreFine rules journal (hinted_of done)
all_fine rules journal size [] h = tt
all_fine rules journal size (d ∷ done) h = (fine_of rules journal d.command d.reply h.0.again h.0.ordered, all_fine rules journal size done h.1)

-- the entry that an accepted answer adds
entered_by : (rules : Rules) (hinted : List Hinted) (size : ℕ) (command : Command) (reply : Reply) (s : Standing) → standing reply ≡ s → reply ≡ answer_by rules (rebuilt rules hinted size) command s → IsOrdered s → IsLow size s
    → AreFine rules (rebuilt rules hinted size) hinted → is_filled hinted size ≡ true → FoundIn hinted (hinted_with command (Stands s)) → AreEntered (rebuilt rules hinted size) (entries_by rules (rebuilt rules hinted size) command reply s)
entered_by rules hinted size command reply Nowhere st again ordered low fine filled found = tt
entered_by rules hinted size command reply (Saw at) st again ordered low fine filled found = tt
entered_by rules hinted size command reply (PlannedAndSaw pinned at) st again ordered low fine filled found = tt
entered_by rules hinted size command reply (Added at) st again ordered low fine filled found =
    let journal : List Entry = rebuilt rules hinted size in
    let n : ℕ = at - 1 in
    let is : at ≡ suc n = omega (arith, ordered) in
    let stands : (at == suc n) ≡ true = eq-eqb at (suc n) is in
    let mine : Hinted = hinted_with command (Stands (Added at)) in
    let entry = entry_found rules hinted size n (omega (arith, ordered, low)) fine filled mine (found (suc n) stands) (fine_by rules journal command reply (Added at) st again ordered) stands in
    let all : adds rules command.task (take (at - 1) journal) reply ≡ entry.0 ∷ [] = ap (λ (b : Bool). cond b (change_of rules command.task (take (at - 1) journal)) []) (ap is_accepted st) ∙ entry.1 in
    subst (λ (ws : List What). AreEntered journal (at_position at (map (entry_with (who_of command)) ws))) (sym all) (entry.2, tt)
entered_by rules hinted size command reply (PlannedAndAdded pinned at) st again ordered low fine filled found =
    let journal : List Entry = rebuilt rules hinted size in
    let n : ℕ = at - 1 in
    let is : at ≡ suc n = omega (arith, ordered) in
    let stands : (at == suc n) ≡ true = eq-eqb at (suc n) is in
    let mine : Hinted = hinted_with command (Stands (PlannedAndAdded pinned at)) in
    let entry = entry_found rules hinted size n (omega (arith, ordered, low.1)) fine filled mine (found (suc n) stands) (fine_by rules journal command reply (PlannedAndAdded pinned at) st again ordered) stands in
    let all : adds rules command.task (take pinned journal) reply ≡ entry.0 ∷ [] = ap (λ (b : Bool). cond b (change_of rules command.task (take pinned journal)) []) (ap is_accepted st) ∙ entry.1 in
    subst (λ (ws : List What). AreEntered journal (at_position at (map (entry_with (who_of command)) ws))) (sym all) (entry.2, tt)

entered_of : (rules : Rules) (hinted : List Hinted) (size : ℕ) (command : Command) (reply : Reply) → reply ≡ reply_by rules (rebuilt rules hinted size) command (hint_of reply) → IsOrdered (standing reply) → IsLow size (standing reply)
    → AreFine rules (rebuilt rules hinted size) hinted → is_filled hinted size ≡ true → FoundIn hinted (hinted_with command (hint_of reply)) → AreEntered (rebuilt rules hinted size) (entries_by rules (rebuilt rules hinted size) command reply (standing reply))
entered_of rules hinted size command NoMemory again ordered low fine filled found = tt
entered_of rules hinted size command reply again ordered low fine filled found = entered_by rules hinted size command reply (standing reply) refl again ordered low fine filled found

all_entered : (rules : Rules) (hinted : List Hinted) (size : ℕ) (done : List Done) → AreFine rules (rebuilt rules hinted size) hinted → is_filled hinted size ≡ true → AllByRecursion (Sound rules (rebuilt rules hinted size) size) done
    → AllByRecursion (FoundIn hinted) (hinted_of done) → AllByRecursion (HasEntries rules (rebuilt rules hinted size)) done
all_entered rules hinted size [] fine filled sound found = tt
all_entered rules hinted size (d ∷ done) fine filled sound found =
    (entered_of rules hinted size d.command d.reply sound.0.again sound.0.ordered sound.0.low fine filled found.0, all_entered rules hinted size done fine filled sound.1 found.1)

-- ---- the batches

abbrev pub RiseFrom : ℕ → Bool → ℕ → ℕ → List Batch → List Answered → Type 0
RiseFrom lanes merge next from batches answers = batches_rise lanes merge next from batches (map reply_hint answers) ≡ true

-- one batch's tests, stated of its answers
record BatchRises (lanes from sync : ℕ) (done : List Done) : Type 0 where
  sync_is : sync ≡ from + counted (hinted_of done)
  rising : (lane : ℕ) → lane ≤ lanes → rises from (moments (of_lane lane done)) sync ≡ true

batch_rises : (lanes : ℕ) (merge : Bool) (next from : ℕ) (batch : Batch) (batches : List Batch) (answers : List Answered) → RiseFrom lanes merge next from (batch ∷ batches) answers
    → let commands = batch ++ merger_commands merge next batch in let sync = from + counted (hinted_zip commands (take (length commands) (map reply_hint answers))) in
    BatchRises lanes from sync (dones commands (take (length commands) answers)) × RiseFrom lanes merge (next + updates batch) sync batches (drop (length commands) answers)
batch_rises lanes merge next from batch batches answers h =
    let commands : List Command = batch ++ merger_commands merge next batch in
    let now : List Answered = take (length commands) answers in
    let hinted : List Hinted = hinted_zip commands (take (length commands) (map reply_hint answers)) in
    let sync : ℕ = from + counted hinted in
    let same : hinted_of (dones commands now) ≡ hinted = zip_hints commands now ∙ ap (hinted_zip commands) (sym (take-map reply_hint (length commands) answers)) in
    let k = and_parts (list_all (lane_rises hinted from sync) (range_with_len 0 (lanes + 1))) (batches_rise lanes merge (next + updates batch) sync batches (drop (length commands) (map reply_hint answers))) h in (
      record {
        sync_is = ap (λ (hs : List Hinted). from + counted hs) (sym same);
        rising = λ lane under. ap (λ (ms : List Moment). rises from ms sync) (sym (lane_moments lane (dones commands now)) ∙ ap (λ (hs : List Hinted). flat_map (λ (h : Hinted). moments_of h.hint) (filter (λ (h : Hinted). h.command.lane == lane) hs)) same)
            ∙ in_range (lane_rises hinted from sync) 0 (lanes + 1) lane k.0 (omega arith) (omega (arith, under));
      },
      ap (batches_rise lanes merge (next + updates batch) sync batches) (sym (drop-map reply_hint (length commands) answers)) ∙ k.1,
    )

counted_dones : (ds es : List Done) → counted (hinted_of (ds ++ es)) ≡ counted (hinted_of ds) + counted (hinted_of es)
counted_dones ds es = ap counted (hinted_append ds es) ∙ counted_append (hinted_of ds) (hinted_of es)

pub record Stood (size : ℕ) (d : Done) : Type 0 where
  pub ordered : IsOrderly d
  pub low : IsLowReply size d.reply

both_stood : (size : ℕ) (done : List Done) → AllByRecursion IsOrderly done → AllByRecursion (λ (d : Done). IsLowReply size d.reply) done → AllByRecursion (Stood size) done
both_stood size [] o l = tt
both_stood size (d ∷ done) o l = (record { ordered = o.0; low = l.0 }, both_stood size done o.1 l.1)

pub stood_from : (lanes : ℕ) (merge : Bool) (next from size : ℕ) (batches : List Batch) (answers : List Answered) → AllByRecursion (IsOfLanes lanes) batches → RiseFrom lanes merge next from batches answers
    → size ≡ from + counted (hinted_of (all_dones merge next batches answers)) → AllByRecursion (Stood size) (all_dones merge next batches answers)
stood_from lanes merge next from size [] answers of rise is = tt
stood_from lanes merge next from size (batch ∷ batches) answers of rise is =
    let commands : List Command = batch ++ merger_commands merge next batch in
    let now : List Answered = take (length commands) answers in
    let later : List Answered = drop (length commands) answers in
    let done : List Done = dones commands now in
    let more : List Done = all_dones merge (next + updates batch) batches later in
    let sync : ℕ = from + counted (hinted_zip commands (take (length commands) (map reply_hint answers))) in
    let k = batch_rises lanes merge next from batch batches answers rise in
    let sync_is : sync ≡ from + counted (hinted_of done) = k.0.sync_is in
    let rising = k.0.rising in
    let all = counted_dones done more in
    let rest : size ≡ sync + counted (hinted_of more) = omega (arith, is, all, sync_is) in
    let inside : AreWithinLanes lanes done = batch_within lanes next merge batch now of.0 in
    all_append (Stood size) done more
    (both_stood size done (all_lanes IsOrderly lanes done inside (λ lane under. all_ordered from sync (of_lane lane done) (rises_is from (moments (of_lane lane done)) sync (rising lane under))))
    (all_lanes (λ (d : Done). IsLowReply size d.reply) lanes done inside (λ lane under. all_low from sync size (of_lane lane done) (omega (arith, rest)) (rises_is from (moments (of_lane lane done)) sync (rising lane under)))))
    (stood_from lanes merge (next + updates batch) sync size batches later of.1 k.1 rest)

whos : List Answered → List Who
whos answers = map (λ (a : Answered). a.who) answers

checked_from : (rules : Rules) (lanes : ℕ) (merge : Bool) (next : ℕ) (journal : List Entry) (from : ℕ) (batches : List Batch) (answers : List Answered)
    → map (λ (a : Answered). a.who) answers ≡ map who_of (all_commands merge next batches) → RiseFrom lanes merge next from batches answers
    → AllByRecursion (IsMadeAgain rules journal) (all_dones merge next batches answers) → AllByRecursion (HasEntries rules journal) (all_dones merge next batches answers)
    → length journal ≡ from + counted (hinted_of (all_dones merge next batches answers))
    → AreBatchesChecked rules lanes merge next journal from batches (syncs_from merge next from batches (map reply_hint answers)) answers
checked_from rules lanes merge next journal from [] [] who rise again has size = omega (arith, size)
checked_from rules lanes merge next journal from [] (a ∷ answers) who rise again has size = cc
checked_from rules lanes merge next journal from (batch ∷ batches) answers who rise again has size =
    let commands : List Command = batch ++ merger_commands merge next batch in
    let others : List Command = all_commands merge (next + updates batch) batches in
    let now : List Answered = take (length commands) answers in
    let later : List Answered = drop (length commands) answers in
    let done : List Done = dones commands now in
    let more : List Done = all_dones merge (next + updates batch) batches later in
    let sync : ℕ = from + counted (hinted_zip commands (take (length commands) (map reply_hint answers))) in
    let k = batch_rises lanes merge next from batch batches answers rise in
    let sync_is : sync ≡ from + counted (hinted_of done) = k.0.sync_is in
    let again_now = all_left (IsMadeAgain rules journal) done more again in
    let again_later = all_right (IsMadeAgain rules journal) done more again in
    let has_now = all_left (HasEntries rules journal) done more has in
    let has_later = all_right (HasEntries rules journal) done more has in
    let parts : map (λ (a : Answered). a.who) answers ≡ map who_of commands ++ map who_of others = who ∙ map-append who_of commands others in
    let count : length (map who_of commands) ≡ length commands = length-map commands who_of in
    let mine : map (λ (a : Answered). a.who) now ≡ map who_of commands =
    sym (take-map (λ (a : Answered). a.who) (length commands) answers) ∙ ap (take (length commands)) parts ∙ ap (λ (n : ℕ). take n (map who_of commands ++ map who_of others)) (sym count) ∙ take-append_seam (map who_of commands) (map who_of others) in
    let theirs : map (λ (a : Answered). a.who) later ≡ map who_of others =
    sym (drop-map (λ (a : Answered). a.who) (length commands) answers) ∙ ap (drop (length commands)) parts ∙ ap (λ (n : ℕ). drop n (map who_of commands ++ map who_of others)) (sym count) ∙ drop_seam (map who_of commands) (map who_of others) in
    let counts = sizes rules journal done again_now in
    let all = counted_dones done more in
    let rest = checked_from rules lanes merge (next + updates batch) journal sync batches later theirs k.1 again_later has_later (omega (arith, size, all, sync_is)) in (
      record {
        answered = mine;
        again = again_now;
        entered = entered_all rules journal done has_now;
        many = omega (arith, sync_is, counts);
        rising = k.0.rising;
      },
      subst (λ (hs : List Hint). AreBatchesChecked rules lanes merge (next + updates batch) journal sync batches (syncs_from merge (next + updates batch) sync batches hs) later) (sym (drop-map reply_hint (length commands) answers)) rest,
    )

-- ---- the callers

abbrev AreWithinHinted : ℕ → List Hinted → Type 0
AreWithinHinted lanes hinted = AllByRecursion (λ (h : Hinted). h.command.lane ≤ lanes) hinted

callers_put : (rules : Rules) (lanes n : ℕ) (journal : List Entry) (hinted : List Hinted) → AreWithinHinted lanes hinted → AreCallers lanes (put_by rules journal (find (λ (h : Hinted). is_at n h.hint) hinted))
callers_put rules lanes n journal [] h = tt
callers_put rules lanes n journal (x ∷ hinted) h = by (is_at n x.hint) (callers_put rules lanes n journal hinted h.1)
  where
    by : (b : Bool) → AreCallers lanes (put_by rules journal (find (λ (h : Hinted). is_at n h.hint) hinted)) → AreCallers lanes (put_by rules journal (cond b (Some x) (find (λ (h : Hinted). is_at n h.hint) hinted)))
    by true rest = are_callers lanes x.command (change_of rules x.command.task (take (pinned_of x.hint) journal)) h.0
    by false rest = rest

rebuilt_callers : (rules : Rules) (lanes n : ℕ) (hinted : List Hinted) → AreWithinHinted lanes hinted → AreCallers lanes (rebuilt rules hinted n)
rebuilt_callers rules lanes zero hinted h = tt
rebuilt_callers rules lanes (suc n) hinted h =
    all_append (λ (e : Entry). e.who.caller ≤ lanes) (rebuilt rules hinted n) (put_by rules (rebuilt rules hinted n) (find (λ (x : Hinted). is_at (suc n) x.hint) hinted)) (rebuilt_callers rules lanes n hinted h) (callers_put rules lanes (suc n) (rebuilt rules hinted n) hinted h)

within_hinted : (lanes : ℕ) (done : List Done) → AreWithinLanes lanes done → AreWithinHinted lanes (hinted_of done)
within_hinted lanes [] h = tt
within_hinted lanes (d ∷ done) h = (h.0, within_hinted lanes done h.1)

all_within : (lanes next : ℕ) (merge : Bool) (batches : List Batch) (answers : List Answered) → AllByRecursion (IsOfLanes lanes) batches → AreWithinLanes lanes (all_dones merge next batches answers)
all_within lanes next merge [] answers of = tt
all_within lanes next merge (batch ∷ batches) answers of =
    let commands : List Command = batch ++ merger_commands merge next batch in
    all_append (λ (d : Done). d.command.lane ≤ lanes) (dones commands (take (length commands) answers)) (all_dones merge (next + updates batch) batches (drop (length commands) answers))
    (batch_within lanes next merge batch (take (length commands) answers) of.0) (all_within lanes (next + updates batch) merge batches (drop (length commands) answers) of.1)

all_sound : (rules : Rules) (journal : List Entry) (size : ℕ) (done : List Done) → AllByRecursion (IsMadeAgain rules journal) done → AllByRecursion (Stood size) done → AllByRecursion (Sound rules journal size) done
all_sound rules journal size [] a s = tt
all_sound rules journal size (d ∷ done) a s = (record { again = a.0; ordered = s.0.ordered; low = s.0.low }, all_sound rules journal size done a.1 s.1)

-- ---- what passes is right

pub passing_is_right : PassingIsRight
passing_is_right rules options batches hints of h =
    let commands : List Command = all_commands options.merge 1 batches in
    let hinted : List Hinted = hinted_zip commands hints in
    let size : ℕ = counted hinted in
    let journal : List Entry = rebuilt rules hinted size in
    let answers : List Answered = map (answer_again rules journal) hinted in
    let done : List Done = all_dones options.merge 1 batches answers in
    let made : RunRecord = remade_of rules options batches hints in
    let a = and_parts (length hints == length commands) (are_apart hinted && (is_filled hinted size && (batches_rise options.lanes options.merge 1 0 batches hints && (list_all (tells rules journal) hinted && is_legal journal)))) h in
    let b = and_parts (are_apart hinted) (is_filled hinted size && (batches_rise options.lanes options.merge 1 0 batches hints && (list_all (tells rules journal) hinted && is_legal journal))) a.1 in
    let c = and_parts (is_filled hinted size) (batches_rise options.lanes options.merge 1 0 batches hints && (list_all (tells rules journal) hinted && is_legal journal)) b.1 in
    let d = and_parts (batches_rise options.lanes options.merge 1 0 batches hints) (list_all (tells rules journal) hinted && is_legal journal) c.1 in
    let e = and_parts (list_all (tells rules journal) hinted) (is_legal journal) d.1 in
    let enough : length hints ≡ length commands = eqb-true (length hints) (length commands) a.0 in
    let hints_are : map reply_hint answers ≡ hints = told_hints rules journal commands hints enough e.0 in
    let zipped : hinted_of done ≡ hinted = all_hinted options.merge 1 batches answers ∙ ap (hinted_zip commands) hints_are in
    let again : AllByRecursion (IsMadeAgain rules journal) done = subst (AllByRecursion (IsMadeAgain rules journal)) (sym (all_zip options.merge 1 batches answers)) (again_zip rules journal commands hints e.0) in
    let rise : RiseFrom options.lanes options.merge 1 0 batches answers = ap (batches_rise options.lanes options.merge 1 0 batches) hints_are ∙ d.0 in
    let count : counted (hinted_of done) ≡ size = ap counted zipped in
    let stood : AllByRecursion (Stood size) done = stood_from options.lanes options.merge 1 0 size batches answers of rise (omega (arith, count)) in
    let sound : AllByRecursion (Sound rules journal size) done = all_sound rules journal size done again stood in
    let fine : AreFine rules journal hinted = subst (AreFine rules journal) zipped (all_fine rules journal size done sound) in
    let found : AllByRecursion (FoundIn hinted) (hinted_of done) = subst (AllByRecursion (FoundIn hinted)) (sym zipped) (apart_found hinted b.0) in
    let has : AllByRecursion (HasEntries rules journal) done = all_entered rules hinted size done fine c.0 sound found in
    let long : length journal ≡ size = sized rules journal hinted size 0 (let z : size ≡ 0 + size = omega arith in ap (rebuilt rules hinted) z) fine c.0 in
    let checked = checked_from rules options.lanes options.merge 1 journal 0 batches answers (told_who rules journal commands hints enough) rise again has (omega (arith, long, count)) in
    (checks_decide rules options.lanes options.merge batches made of).0 (record {
      legal = e.1;
      callers = rebuilt_callers rules options.lanes size hinted (subst (AreWithinHinted options.lanes) zipped (within_hinted options.lanes done (all_within options.lanes 1 options.merge batches answers of)));
      each = subst (λ (hs : List Hint). AreBatchesChecked rules options.lanes options.merge 1 journal 0 batches (syncs_from options.merge 1 0 batches hs) answers) hints_are checked;
    })
