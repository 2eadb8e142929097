-- A batch whose answers pass the tests is right.
use Rattle.std.proofs.Common.{◌≡◌, refl, ap, sym, ◌∙◌, subst, ℕ, zero, suc, ◌+◌, ◌-◌, ◌≤◌, ◌<◌, List, [], ◌∷◌, ◌++◌, map, length, take, drop, Bool, true, false, cond, arith}
use Rattle.std.specs.Prelude.{◌==◌, Option, Some, None, slice_get, filter, ⊤}
use Rattle.std.specs.List.{AllByRecursion, enumerate_from}
use Rattle.std.proofs.lemmas.Bool.{eq-eqb, eqb-true}
use Rattle.std.proofs.lemmas.List.FromFn.{length-enumerate_from}
use Rattle.lake_model.specs.Journal.{What, Entry, entry_with}
use Rattle.record_model.specs.Rules.{Rules}
use Rattle.lake_model.specs.Plan.{plan}
use Rattle.script_model.specs.Commands.{Command, Task, Load, LoadFile, DropTable, Replace, Tables, Search, Like, Contain, AsOf, Merge}
use Rattle.record_model.specs.Replies.{Reply}
use Rattle.record_model.specs.Answered.{Standing, Nowhere, Saw, Added, PlannedAndSaw, PlannedAndAdded, standing, change_of, adds, is_accepted, TableRead, IsTable, NoTable, table_read, file_read, loads, replaces, swaps, policy_of}
use Rattle.record_model.specs.Play.{Done, who_of}
use Rattle.record_model.specs.Right.{Moment, moments, moments_by, MomentsRise, entries_by, at_position, accepted, between}
use Rattle.list_laws.proofs.ListLemmas.{all_append, all_left, all_right}
use Rattle.record_model.proofs.RightLemmas.{rises_le}
use Rattle.trace_laws.specs.Checks.{AreEntered}
use Rattle.trace_laws.proofs.OwnLemmas.{Pairs, Picks, Climbs, AreIn, AreOf, owned, picks_are, picks_few, picks_all}
use Rattle.trace_laws.proofs.TotalLemmas.{total, total_each, total_share, total_filter}

-- ---- a command adds at most one entry

abbrev AtMostOne : {X : Type 0} → List X → Type 0
AtMostOne [] = ⊤
AtMostOne (x ∷ []) = ⊤
AtMostOne (x ∷ y ∷ zs) = ⊥

one_load : (read : TableRead) → AtMostOne (loads read)
one_load (IsTable table) = tt
one_load (NoTable fault) = tt

one_replace : (read : TableRead) → AtMostOne (replaces read)
one_replace (IsTable table) = tt
one_replace (NoTable fault) = tt

one_swap : (planned : Option (List ℕ × List ℕ)) → AtMostOne (swaps planned)
one_swap None = tt
one_swap (Some planned) = tt

one_change : (rules : Rules) (task : Task) (pinned : List Entry) → AtMostOne (change_of rules task pinned)
one_change rules (Load name body) pinned = one_load (table_read rules.keys name body)
one_change rules (LoadFile name file) pinned = one_load (file_read rules.keys name file)
one_change rules (DropTable name) pinned = tt
one_change rules (Replace name body) pinned = one_replace (table_read rules.keys name body)
one_change rules Tables pinned = tt
one_change rules (Search k body) pinned = tt
one_change rules (Like k name place) pinned = tt
one_change rules (Contain a b body) pinned = tt
one_change rules (AsOf asked k body) pinned = tt
one_change rules (Merge all) pinned = one_swap (plan (policy_of all) pinned)

one_added : (b : Bool) (whats : List What) → AtMostOne whats → AtMostOne (cond b whats [])
one_added true whats h = h
one_added false whats h = tt

-- ---- accepted answers climb, within the bounds

abbrev IsBetween : ℕ → ℕ → ℕ × Entry → Type 0
IsBetween low high a = (low + 1 ≤ a.0) × (a.0 ≤ high)

record Goes (lane low high : ℕ) (as_they : Pairs) : Type 0 where
  climbs : Climbs (low + 1) as_they
  within : AllByRecursion (IsBetween low high) as_they
  of : AreOf lane as_they

climbs_down : (lower low : ℕ) (ps : Pairs) → lower ≤ low → Climbs low ps → Climbs lower ps
climbs_down lower low [] le h = tt
climbs_down lower low (a ∷ ps) le h = (omega (arith, le, h.0), h.1)

within_down : (lower low high : ℕ) (ps : Pairs) → lower ≤ low → AllByRecursion (IsBetween low high) ps → AllByRecursion (IsBetween lower high) ps
within_down lower low high [] le h = tt
within_down lower low high (a ∷ ps) le h = ((omega (arith, le, h.0.0), h.0.1), within_down lower low high ps le h.1)

goes_down : (lane lower low high : ℕ) (ps : Pairs) → lower ≤ low → Goes lane low high ps → Goes lane lower high ps
goes_down lane lower low high ps le g = record {
  climbs = climbs_down (lower + 1) (low + 1) ps (omega (arith, le)) g.climbs;
  within = within_down lower low high ps le g.within;
  of = g.of;
}

goes_on : (low at high : ℕ) (command : Command) (whats : List What) (rest : Pairs) → AtMostOne whats → low + 1 ≤ at → at ≤ high → Goes command.lane at high rest
    → Goes command.lane low high (at_position at (map (entry_with (who_of command)) whats) ++ rest)
goes_on low at high command [] rest one above below g = goes_down command.lane low at high rest (omega (arith, above)) g
goes_on low at high command (what ∷ []) rest one above below g = record {
  climbs = (above, g.climbs);
  within = ((above, below), within_down low at high rest (omega (arith, above)) g.within);
  of = (eq-eqb command.lane command.lane refl, g.of);
}
goes_on low at high command (what ∷ more ∷ whats) rest one above below g = absurd one

step_goes : (rules : Rules) (low high : ℕ) (journal : List Entry) (command : Command) (reply : Reply) (s : Standing) (ms : List Moment) (rest : Pairs) → MomentsRise low (moments_by s ++ ms) high
    → ((mid : ℕ) → MomentsRise mid ms high → Goes command.lane mid high rest) → Goes command.lane low high (entries_by rules journal command reply s ++ rest)
step_goes rules low high journal command reply Nowhere ms rest rises more = more low rises
step_goes rules low high journal command reply (Saw at) ms rest rises more = goes_down command.lane low at high rest rises.0 (more at rises.1)
step_goes rules low high journal command reply (Added at) ms rest rises more =
    goes_on low at high command (adds rules command.task (take (at - 1) journal) reply) rest
    (one_added (is_accepted (standing reply)) (change_of rules command.task (take (at - 1) journal)) (one_change rules command.task (take (at - 1) journal)))
    (omega (arith, rises.0)) (rises_le at ms high rises.1) (more at rises.1)
step_goes rules low high journal command reply (PlannedAndSaw pinned at) ms rest rises more =
    goes_down command.lane low at high rest (omega (arith, rises.0, rises.1.0)) (more at rises.1.1)
step_goes rules low high journal command reply (PlannedAndAdded pinned at) ms rest rises more =
    goes_on low at high command (adds rules command.task (take pinned journal) reply) rest
    (one_added (is_accepted (standing reply)) (change_of rules command.task (take pinned journal)) (one_change rules command.task (take pinned journal)))
    (omega (arith, rises.0, rises.1.0)) (rises_le at ms high rises.1.1) (more at rises.1.1)

-- all answers belong to the lane
abbrev pub AreLane : ℕ → List Done → Type 0
AreLane lane done = AllByRecursion (λ d. d.command.lane ≡ lane) done

accepted_goes : (rules : Rules) (lane low high : ℕ) (journal : List Entry) (done : List Done) → AreLane lane done → MomentsRise low (moments done) high → Goes lane low high (accepted rules journal done)
accepted_goes rules lane low high journal [] of rises = record { climbs = tt; within = tt; of = tt }
accepted_goes rules lane low high journal (d ∷ done) of rises =
    subst (λ (l : ℕ). Goes l low high (accepted rules journal (d ∷ done))) of.0
    (step_goes rules low high journal d.command d.reply (standing d.reply) (moments done) (accepted rules journal done) rises
    (λ mid rising. subst (λ (l : ℕ). Goes l mid high (accepted rules journal done)) (sym of.0) (accepted_goes rules lane mid high journal done of.1 rising)))

-- ---- entries between two lengths of the journal

pub get_drop : (n i : ℕ) (xs : List Entry) → slice_get (drop n xs) i ≡ slice_get xs (n + i)
get_drop zero i xs = let e : i ≡ 0 + i = omega arith in ap (slice_get xs) e
get_drop (suc n) i [] = refl
get_drop (suc n) i (x ∷ xs) = let e : suc (n + i) ≡ suc n + i = omega arith in get_drop n i xs ∙ ap (slice_get (x ∷ xs)) e

pub get_take : (n i : ℕ) (xs : List Entry) → i < n → slice_get (take n xs) i ≡ slice_get xs i
get_take zero i xs h = absurd (omega (arith, h))
get_take (suc n) i [] h = refl
get_take (suc n) zero (x ∷ xs) h = refl
get_take (suc n) (suc i) (x ∷ xs) h = get_take n i xs (omega (arith, h))

entered_in : (from to : ℕ) (journal : List Entry) (ps : Pairs) → AllByRecursion (IsBetween from to) ps → AreEntered journal ps → AreIn (from + 1) (between from to journal) ps
entered_in from to journal [] within entered = tt
entered_in from to journal (a ∷ ps) within entered =
    let low : from + 1 ≤ a.0 = within.0.0 in
    let high : a.0 ≤ to = within.0.1 in
    let place : from + (a.0 - (from + 1)) ≡ a.0 - 1 = omega (arith, low) in (
      get_take (to - from) (a.0 - (from + 1)) (drop from journal) (omega (arith, low, high)) ∙ get_drop from (a.0 - (from + 1)) journal ∙ ap (slice_get journal) place ∙ entered.0,
      entered_in from to journal ps within.1 entered.1,
    )

-- ---- the filtered answers

abbrev pub of_lane : ℕ → List Done → List Done
of_lane lane done = filter (λ d. d.command.lane == lane) done

pub are_lane : (lane : ℕ) (done : List Done) → AreLane lane (of_lane lane done)
are_lane lane [] = tt
are_lane lane (d ∷ done) = by (d.command.lane == lane) refl (are_lane lane done)
  where
    by : (b : Bool) → (d.command.lane == lane) ≡ b → AreLane lane (of_lane lane done) → AreLane lane (cond b (d ∷ of_lane lane done) (of_lane lane done))
    by true e rest = (eqb-true d.command.lane lane e, rest)
    by false e rest = rest

entered_lane : (rules : Rules) (journal : List Entry) (lane : ℕ) (done : List Done) → AreEntered journal (accepted rules journal done) → AreEntered journal (accepted rules journal (of_lane lane done))
entered_lane rules journal lane [] h = tt
entered_lane rules journal lane (d ∷ done) h =
    let here : Pairs = entries_by rules journal d.command d.reply (standing d.reply) in
    let later : Pairs = accepted rules journal done in
    by (d.command.lane == lane) (entered_lane rules journal lane done (all_right (λ (a : ℕ × Entry). slice_get journal (a.0 - 1) ≡ Some a.1) here later h)) (all_left (λ (a : ℕ × Entry). slice_get journal (a.0 - 1) ≡ Some a.1) here later h)
  where
    by : (b : Bool) → AreEntered journal (accepted rules journal (of_lane lane done)) → AreEntered journal (entries_by rules journal d.command d.reply (standing d.reply))
        → AreEntered journal (accepted rules journal (cond b (d ∷ of_lane lane done) (of_lane lane done)))
    by true rest own = all_append (λ (a : ℕ × Entry). slice_get journal (a.0 - 1) ≡ Some a.1) (entries_by rules journal d.command d.reply (standing d.reply)) (accepted rules journal (of_lane lane done)) own rest
    by false rest own = rest

pub callers_enumerated : (lanes n : ℕ) (es : List Entry) → AllByRecursion (λ e. e.who.caller ≤ lanes) es → AllByRecursion (λ (e : ℕ × Entry). e.1.who.caller ≤ lanes) (enumerate_from n es)
callers_enumerated lanes n [] h = tt
callers_enumerated lanes n (e ∷ es) h = (h.0, callers_enumerated lanes (n + 1) es h.1)

-- If the answers of each lane rise, each accepted one has its entry in the journal, and there are as many of these as entries, then each
-- lane's own entries are those of its accepted answers.
pub own_are : (rules : Rules) (lanes from to : ℕ) (journal : List Entry) (done : List Done) → AllByRecursion (λ d. d.command.lane ≤ lanes) done
    → AllByRecursion (λ e. e.who.caller ≤ lanes) (between from to journal)
    → ((lane : ℕ) → lane ≤ lanes → MomentsRise from (moments (of_lane lane done)) to)
    → AreEntered journal (accepted rules journal done) → length (between from to journal) ≤ length (accepted rules journal done)
    → (lane : ℕ) → lane ≤ lanes → owned lane (from + 1) (between from to journal) ≡ accepted rules journal (of_lane lane done)
own_are rules lanes from to journal done of callers rises entered many lane le =
    let es : List Entry = between from to journal in
    let goes : (l : ℕ) → l ≤ lanes → Goes l from to (accepted rules journal (of_lane l done)) = λ l le. accepted_goes rules l from to journal (of_lane l done) (are_lane l done) (rises l le) in
    let picks : (l : ℕ) → l ≤ lanes → Picks (from + 1) es (accepted rules journal (of_lane l done)) =
    λ l le. picks_are (from + 1) es (accepted rules journal (of_lane l done)) (goes l le).climbs (entered_in from to journal (accepted rules journal (of_lane l done)) (goes l le).within (entered_lane rules journal l done entered)) in
    let few : (l : ℕ) → l ≤ lanes → length (accepted rules journal (of_lane l done)) ≤ length (owned l (from + 1) es) =
    λ l le. picks_few l (from + 1) es (accepted rules journal (of_lane l done)) (goes l le).of (picks l le) in
    let made : total (λ l. length (accepted rules journal (of_lane l done))) lanes ≡ length (accepted rules journal done) =
    total_share (λ (d : Done). d.command.lane) (λ (d : Done). entries_by rules journal d.command d.reply (standing d.reply)) done lanes of in
    let all : total (λ l. length (owned l (from + 1) es)) lanes ≡ length (enumerate_from (from + 1) es) =
    total_filter (λ (e : ℕ × Entry). e.1.who.caller) (enumerate_from (from + 1) es) lanes (callers_enumerated lanes (from + 1) es callers) in
    let size : length (enumerate_from (from + 1) es) ≡ length es = length-enumerate_from (from + 1) es in
    let each = total_each (λ l. length (accepted rules journal (of_lane l done))) (λ l. length (owned l (from + 1) es)) lanes few (omega (arith, made, all, size, many)) in
    picks_all lane (from + 1) es (accepted rules journal (of_lane lane done)) (goes lane le).of (picks lane le) (each lane le)
