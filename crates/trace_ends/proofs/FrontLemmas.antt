-- The journal at each position of a replay, and the replies that are made there.
use Rattle.std.proofs.Common.{◌≡◌, refl, ap, sym, ◌∙◌, subst, ℕ, zero, suc, ◌+◌, ◌-◌, ◌≤◌, ◌<◌, List, [], ◌∷◌, ◌++◌, map, length, length-append, get_or, take, Bool, true, false, cond, Option, Some, None, arith}
use Rattle.std.specs.Prelude.{◌==◌, ◌&&◌, find}
use Rattle.std.specs.List.{list_all}
use Rattle.std.proofs.lemmas.List.{length-map, take-take}
use Rattle.std.proofs.Math.Seq.{take-length}
use Rattle.std.proofs.lemmas.Bool.{and_parts}
use Rattle.lake_model.specs.Journal.{Entry, What, entry_with}
use Rattle.lake_model.specs.Plan.{plan}
use Rattle.script_model.specs.Commands.{AsOf, Command, Contain, DropTable, Like, Load, LoadFile, Merge, Replace, Search, Tables, Task, command_with}
use Rattle.record_model.specs.Rules.{Rules}
use Rattle.record_model.specs.Replies.{Reply}
use Rattle.record_model.specs.Answered.{Added, IsTable, NoTable, Nowhere, PlannedAndAdded, PlannedAndSaw, Saw, Standing, TableRead, answer_to, change_of, file_read, is_accepted, loads, policy_of, replaces, standing, swaps, table_read}
use Rattle.record_model.specs.Play.{who_of}
use Rattle.record_model.specs.Right.{made_by, pinned_by}
use Rattle.trace_laws.specs.Hints.{Hint, Stands, Wanting, hint_of, reply_by}
use Rattle.trace_laws.specs.Passing.{are_apart, batches_rise, is_filled, tells}
use Rattle.trace_laws.specs.Rebuilt.{Hinted, hinted_with, is_at, pinned_of, put_by, rebuilt, stands_at}
use Rattle.trace_laws.specs.Verdict.{all_commands, counted, hinted_zip}
use Rattle.trace_laws.proofs.DecidingLemmas.{rebuilt_front, filled_at}
use Rattle.trace_laws.proofs.PassingLemmas.{hint_is}
use Rattle.trace_laws.proofs.RebuiltLemmas.{AddsOne, adds_one, hint_at}
use Rattle.trace_numbers.specs.Positions.{IsOwner}
use Rattle.trace_numbers.specs.Turns.{made_at}
use Rattle.trace_numbers.proofs.ApartLemmas.{any_index, apart_same, owner_found, told}
use Rattle.trace_numbers.proofs.PassLemmas.{told_zip}
use Rattle.trace_ends.specs.Fronts.{FrontsAreTaken, FrontsAreWhole, NextIsPut, NextIsRebuilt, ReplyIsMade, UnplannedIsNow, reply_at}
use Rattle.trace_ends.specs.Within.{ArePositions, IsWithin}
use Rattle.trace_ends.proofs.EndLemmas.{tested_at, zip_get}
use Rattle.trace_ends.proofs.WithinLemmas.{owner_made, positions_within, unplanned_same}
use Rattle.trace_ends.specs.Ends.{journal_of}

-- ---- each position has at most one entry

loads_few : (read : TableRead) → length (loads read) ≤ 1
loads_few (IsTable table) = omega arith
loads_few (NoTable fault) = omega arith

replaces_few : (read : TableRead) → length (replaces read) ≤ 1
replaces_few (IsTable table) = omega arith
replaces_few (NoTable fault) = omega arith

swaps_few : (planned : Option (List ℕ × List ℕ)) → length (swaps planned) ≤ 1
swaps_few None = omega arith
swaps_few (Some planned) = omega arith

change_few : (rules : Rules) (task : Task) (pinned : List Entry) → length (change_of rules task pinned) ≤ 1
change_few rules (Load name body) pinned = loads_few (table_read rules.keys name body)
change_few rules (LoadFile name file) pinned = loads_few (file_read rules.keys name file)
change_few rules (DropTable name) pinned = omega arith
change_few rules (Replace name body) pinned = replaces_few (table_read rules.keys name body)
change_few rules Tables pinned = omega arith
change_few rules (Search k body) pinned = omega arith
change_few rules (Like k name place) pinned = omega arith
change_few rules (Contain a b body) pinned = omega arith
change_few rules (AsOf asked k body) pinned = omega arith
change_few rules (Merge all) pinned = swaps_few (plan (policy_of all) pinned)

put_few : (rules : Rules) (journal : List Entry) (h : Option Hinted) → length (put_by rules journal h) ≤ 1
put_few rules journal None = omega arith
put_few rules journal (Some h) =
    let whats : List What = change_of rules h.command.task (take (pinned_of h.hint) journal) in
    let size : length (map (entry_with (who_of h.command)) whats) ≡ length whats = length-map whats (entry_with (who_of h.command)) in
    omega (arith, size, change_few rules h.command.task (take (pinned_of h.hint) journal))

rebuilt_few : (rules : Rules) (hinted : List Hinted) (n k : ℕ) → length (rebuilt rules hinted (k + n)) ≤ k + length (rebuilt rules hinted n)
rebuilt_few rules hinted n zero = let e : zero + n ≡ n = omega arith in let same = ap (λ (m : ℕ). length (rebuilt rules hinted m)) e in omega (arith, same)
rebuilt_few rules hinted n (suc k) =
    let e : suc k + n ≡ suc (k + n) = omega arith in
    let more : List Entry = put_by rules (rebuilt rules hinted (k + n)) (find (λ (h : Hinted). is_at (suc (k + n)) h.hint) hinted) in
    let size : length (rebuilt rules hinted (suc k + n)) ≡ length (rebuilt rules hinted (k + n)) + length more = ap (λ (m : ℕ). length (rebuilt rules hinted m)) e ∙ length-append (rebuilt rules hinted (k + n)) more in
    omega (arith, size, put_few rules (rebuilt rules hinted (k + n)) (find (λ (h : Hinted). is_at (suc (k + n)) h.hint) hinted), rebuilt_few rules hinted n k)

pub fronts_are_taken : FrontsAreTaken
fronts_are_taken rules hinted p q size low inside whole =
    let k : ℕ = q - p in
    let e : k + p ≡ q = omega (arith, low) in
    let f : p + 0 ≡ p = omega arith in
    let same = ap (λ (m : ℕ). length (rebuilt rules hinted m)) e in
    let first = ap (λ (m : ℕ). length (rebuilt rules hinted m)) f in
    let long : length (rebuilt rules hinted p) ≡ p = omega (arith, same, first, whole, low, rebuilt_few rules hinted p k, rebuilt_few rules hinted 0 p) in
    (long, rebuilt_front rules hinted size p inside long)

-- ---- the reply that is made now

pub unplanned_now : UnplannedIsNow
unplanned_now now hint none at = ap (λ (n : ℕ). take n now) (unplanned_same hint none ∙ at) ∙ take-length now

reply_front : (rules : Rules) (hinted : List Hinted) (size q : ℕ) (command : Command) (hint : Hint) → IsWithin size hint → made_at hint ≡ q → length (rebuilt rules hinted q) ≡ q
    → reply_by rules (rebuilt rules hinted size) command hint ≡ reply_at rules (rebuilt rules hinted q) command hint
reply_front rules hinted size q command Wanting inside at long = refl
reply_front rules hinted size q command (Stands s) inside at long =
    let journal : List Entry = rebuilt rules hinted size in
    let now : List Entry = rebuilt rules hinted q in
    let front : take q journal ≡ now = rebuilt_front rules hinted size q (omega (arith, at, inside.made)) long in
    let made : take (made_by s) journal ≡ now = ap (λ (n : ℕ). take n journal) at ∙ front in
    let pinned : take (pinned_by s) journal ≡ take (pinned_by s) now = sym (take-take (pinned_by s) q journal (omega (arith, at, inside.pinned))) ∙ ap (take (pinned_by s)) front in
    ap (λ (p : List Entry). answer_to rules command.task p (take (made_by s) journal)) pinned ∙ ap (answer_to rules command.task (take (pinned_by s) now)) made

pub reply_made : ReplyIsMade
reply_made rules commands hints now q i c are is long at =
    let hinted : List Hinted = hinted_zip commands hints in
    let command : Command = get_or commands i c in
    let hint : Hint = get_or hints i Wanting in
    let inside : IsWithin (counted hinted) hint = subst (λ (n : ℕ). IsWithin n hint) (sym are.size) (are.each i) in
    reply_front rules hinted (counted hinted) q command hint inside at (sym (ap (λ (j : List Entry). length j) is) ∙ long) ∙ ap (λ (j : List Entry). reply_at rules j command hint) (sym is)

-- ---- the next entry

stands_accepted : (s : Standing) (n : ℕ) → stands_at n s ≡ true → is_accepted s ≡ true
stands_accepted Nowhere n h = cc
stands_accepted (Saw at) n h = cc
stands_accepted (Added at) n h = refl
stands_accepted (PlannedAndSaw pinned at) n h = cc
stands_accepted (PlannedAndAdded pinned at) n h = refl

-- a reply whose hint has a position of its own is accepted
told_accepted : (reply : Reply) (hint : Hint) (n : ℕ) → hint_of reply ≡ hint → is_at n hint ≡ true → is_accepted (standing reply) ≡ true
told_accepted reply hint n told at = stands_accepted (standing reply) n (sym (hint_at n reply) ∙ ap (is_at n) told ∙ at)

adds_at : (rules : Rules) (now : List Entry) (command : Command) (hint : Hint) (n : ℕ) → is_at n hint ≡ true → is_accepted (standing (reply_at rules now command hint)) ≡ true → AddsOne (change_of rules command.task (take (pinned_of hint) now))
adds_at rules now command Wanting n at accepted = cc
adds_at rules now command (Stands s) n at accepted = adds_one rules command.task (take (pinned_by s) now) now accepted

-- the answer that is found for a position is its owner
owner_is_found : (commands : List Command) (hints : List Hint) (position index : ℕ) (c : Command) → length hints ≡ length commands → index < length commands → IsOwner hints position index
    → find (λ (h : Hinted). is_at position h.hint) (hinted_zip commands hints) ≡ Some (hinted_with (get_or commands index c) (get_or hints index Wanting))
owner_is_found commands hints position index c size inside owner =
    owner_found (hinted_zip commands hints) position index (subst (λ (hs : List Hint). IsOwner hs position index) (sym (told_zip commands hints size)) owner) ∙ zip_get commands hints index c size inside

pub next_rebuilt : NextIsRebuilt
next_rebuilt rules commands hints now q index c size owner is =
    let hinted : List Hinted = hinted_zip commands hints in
    let made = owner_made hints q index owner in
    let found = owner_is_found commands hints (q + 1) index c size (omega (arith, size, made.0)) owner in
    let next : q + 1 ≡ suc q = omega arith in
    ap (rebuilt rules hinted) next
    ∙ ap (λ (j : List Entry). j ++ put_by rules j (find (λ (h : Hinted). is_at (suc q) h.hint) hinted)) (sym is)
    ∙ ap (λ (o : Option Hinted). now ++ put_by rules now o) (ap (λ (n : ℕ). find (λ (h : Hinted). is_at n h.hint) hinted) (sym next) ∙ found)

pub next_put : NextIsPut
next_put rules commands hints now q index c size owner is stands =
    let command : Command = get_or commands index c in
    let hint : Hint = get_or hints index Wanting in
    let whats : List What = change_of rules command.task (take (pinned_of hint) now) in
    let reply : Reply = reply_at rules now command hint in
    let accepted : is_accepted (standing reply) ≡ true = told_accepted reply hint (q + 1) stands owner.stands in
    let added : cond (is_accepted (standing reply)) whats [] ≡ whats = ap (λ (b : Bool). cond b whats []) accepted in
    let adding = adds_at rules now command hint (q + 1) owner.stands accepted in
    let next = next_rebuilt rules commands hints now q index c size owner is in
    record {
      is = next ∙ ap (λ (ws : List What). now ++ map (entry_with (who_of command)) ws) (sym added);
      one = ap (λ (j : List Entry). length j) (next ∙ ap (λ (ws : List What). now ++ map (entry_with (who_of command)) ws) adding.is) ∙ length-append now (entry_with (who_of command) adding.what ∷ []);
    }

-- ---- the whole journal

-- the owner of the entry at a position that is filled
owner_at : (commands : List Command) (hints : List Hint) (size q : ℕ) → length hints ≡ length commands → are_apart (hinted_zip commands hints) ≡ true → is_filled (hinted_zip commands hints) size ≡ true → q < size
    → (index : ℕ) × IsOwner hints (q + 1) index
owner_at commands hints size q one_each apart filled low =
    let hinted : List Hinted = hinted_zip commands hints in
    let e : suc q ≡ q + 1 = omega arith in
    let found = any_index (suc q) hinted (filled_at hinted size q filled low) in
    let stands : is_at (q + 1) (get_or (told hinted) found.0 Wanting) ≡ true = subst (λ (n : ℕ). is_at n (get_or (told hinted) found.0 Wanting) ≡ true) e found.2 in
    let owner : IsOwner (told hinted) (q + 1) found.0 = record { stands = stands; only = λ i at. apart_same hinted (q + 1) i found.0 apart at stands } in
    (found.0, subst (λ (hs : List Hint). IsOwner hs (q + 1) found.0) (told_zip commands hints one_each) owner)

-- each position has one owner, and each reply that is made again over the whole journal has its hint
record Replies (rules : Rules) (commands : List Command) (hints : List Hint) : Type 0 where
  are : ArePositions commands hints
  apart : are_apart (hinted_zip commands hints) ≡ true
  filled : is_filled (hinted_zip commands hints) (counted (hinted_zip commands hints)) ≡ true
  tell : list_all (tells rules (journal_of rules commands hints)) (hinted_zip commands hints) ≡ true

one_longer : (rules : Rules) (commands : List Command) (hints : List Hint) (q : ℕ) → Replies rules commands hints → q < counted (hinted_zip commands hints)
    → length (rebuilt rules (hinted_zip commands hints) q) ≡ q → length (rebuilt rules (hinted_zip commands hints) (suc q)) ≡ suc q
one_longer rules commands hints q replies low long =
    let hinted : List Hinted = hinted_zip commands hints in
    let are = replies.are in
    let c : Command = command_with 0 0 (Merge false) in
    let owner = owner_at commands hints (counted hinted) q are.one_each replies.apart replies.filled low in
    let made = owner_made hints q owner.0 owner.1 in
    let command : Command = get_or commands owner.0 c in
    let hint : Hint = get_or hints owner.0 Wanting in
    let same : reply_by rules (journal_of rules commands hints) command hint ≡ reply_at rules (rebuilt rules hinted q) command hint = reply_made rules commands hints (rebuilt rules hinted q) q owner.0 c are refl long made.2 in
    let again : hint_of (reply_by rules (journal_of rules commands hints) command hint) ≡ hint =
    hint_is (hint_of (reply_by rules (journal_of rules commands hints) command hint)) hint (tested_at (tells rules (journal_of rules commands hints)) commands hints owner.0 c are.one_each (omega (arith, are.one_each, made.0)) replies.tell) in
    let put = next_put rules commands hints (rebuilt rules hinted q) q owner.0 c are.one_each owner.1 refl (sym (ap hint_of same) ∙ again) in
    let e : q + 1 ≡ suc q = omega arith in
    let grown = ap (λ (n : ℕ). length (rebuilt rules hinted n)) e in
    omega (arith, grown, put.one, long)

all_long : (rules : Rules) (commands : List Command) (hints : List Hint) (q : ℕ) → Replies rules commands hints → q ≤ counted (hinted_zip commands hints) → length (rebuilt rules (hinted_zip commands hints) q) ≡ q
all_long rules commands hints zero replies le = refl
all_long rules commands hints (suc q) replies le = one_longer rules commands hints q replies (omega (arith, le)) (all_long rules commands hints q replies (omega (arith, le)))

pub fronts_are_whole : FrontsAreWhole
fronts_are_whole rules lanes merge batches hints of passed told q le =
    let commands : List Command = all_commands merge 1 batches in
    let hinted : List Hinted = hinted_zip commands hints in
    let a = and_parts (length hints == length commands) (are_apart hinted && (is_filled hinted (counted hinted) && batches_rise lanes merge 1 0 batches hints)) passed in
    let b = and_parts (are_apart hinted) (is_filled hinted (counted hinted) && batches_rise lanes merge 1 0 batches hints) a.1 in
    let c = and_parts (is_filled hinted (counted hinted)) (batches_rise lanes merge 1 0 batches hints) b.1 in
    let long : length (rebuilt rules hinted q) ≡ q = all_long rules commands hints q (record { are = positions_within lanes merge batches commands hints of refl passed; apart = b.0; filled = c.0; tell = told }) le in
    (long, rebuilt_front rules hinted (counted hinted) q le long)
