-- A whole order leaves no command undone, and no lane loses one.
use Rattle.std.proofs.Common.{◌≡◌, refl, ap, sym, ◌∙◌, subst, ℕ, zero, suc, ◌+◌, ◌-◌, ◌*◌, ◌<◌, ◌≤◌, List, [], ◌∷◌, ◌++◌, append_assoc, map, Bool, true, false, length, take, cond, arith, get_or, length-append, replicate, ◌⊎◌, inl, inr}
use Rattle.std.specs.Prelude.{◌==◌, Option, Some, None, slice_get, slice_set, filter, zip, nat_lt, nat_le}
use Rattle.std.specs.List.{fold, flat_map, range_with_len, AllByRecursion}
use Rattle.std.proofs.lemmas.List.{append-nil, map-append, length-set}
use Rattle.std.proofs.lemmas.List.Elements.{filter-append}
use Rattle.std.proofs.lemmas.List.Sums.{length-filter, count_by-le-length}
use Rattle.record_model.proofs.StepLemmas.{LanesAre, batch_right}
use Rattle.record_model.proofs.GatherLemmas.{AreLists, gathered_commands, gathered_lane}
use Rattle.std.proofs.lemmas.Bool.Decides.{nat_tests}
use Rattle.std.proofs.lemmas.Grind.{flat_map-append}
use Rattle.record_model.specs.Rules.{Rules}
use Rattle.record_model.specs.Right.{IsRight, done_of}
use Rattle.lake_model.specs.Journal.{Entry}
use Rattle.script_model.specs.Commands.{Command, Batch}
use Rattle.record_model.specs.Replies.{Reply}
use Rattle.record_model.specs.Answered.{answer_to, has_pin}
use Rattle.record_model.specs.Play.{Done, done_with, Lane, lane_with, Play, play_with, reply_or_denied, step_of, lane_step, step_at, step, play, with_denials, whole_order, lane_of, lanes_of, play_batch, gathered, answers_of, who_of}
use Rattle.record_model.specs.Record.{Answered}
use Rattle.record_model.specs.Lanes.{commands_in, lane_commands}

abbrev idle : Lane
idle = lane_with [] None []

abbrev one_if : Option ℕ → ℕ
one_if None = 0
one_if (Some at) = 1

-- no fewer than the steps that a lane has left
abbrev weight : Lane → ℕ
weight lane = 2 * length lane.todo - one_if lane.pin

-- a step of one lane: no command is lost, and fewer steps are left
record Goes (old new : Lane) : Type 0 where
  serves : commands_in new.done ++ new.todo ≡ commands_in old.done ++ old.todo
  falls : weight new ≤ weight old - 1

record Moves (l : ℕ) (old new : List Lane) : Type 0 where
  here : Goes (get_or old l idle) (get_or new l idle)
  others : (m : ℕ) → (l == m) ≡ false → get_or new m idle ≡ get_or old m idle
  size : length new ≡ length old

got : (lanes : List Lane) (l : ℕ) (o : Option Lane) → slice_get lanes l ≡ o → get_or lanes l idle ≡ elim o [ None ↦ idle | Some lane ↦ lane ]
got [] l None e = refl
got [] l (Some lane) e = cc
got (x ∷ lanes) zero None e = cc
got (x ∷ lanes) zero (Some lane) e = cc
got (x ∷ lanes) (suc l) o e = got lanes l o e

set_here : (lanes : List Lane) (l : ℕ) (lane new : Lane) → slice_get lanes l ≡ Some lane → get_or (slice_set lanes l new) l idle ≡ new
set_here [] l lane new e = cc
set_here (x ∷ lanes) zero lane new e = refl
set_here (x ∷ lanes) (suc l) lane new e = set_here lanes l lane new e

set_others : (lanes : List Lane) (l m : ℕ) (new : Lane) → (l == m) ≡ false → get_or (slice_set lanes l new) m idle ≡ get_or lanes m idle
set_others [] l m new e = refl
set_others (x ∷ lanes) zero zero new e = absurd (let f : (0 == 0) ≡ false = e in cc)
set_others (x ∷ lanes) zero (suc m) new e = refl
set_others (x ∷ lanes) (suc l) zero new e = refl
set_others (x ∷ lanes) (suc l) (suc m) new e = set_others lanes l m new (let z : (l == m) ≡ false = grind (arith, nat_tests, e) in z)

-- a lane that has nothing left does not change
still : (lanes : List Lane) (l : ℕ) → weight (get_or lanes l idle) ≡ 0 → Moves l lanes lanes
still lanes l h = record { here = record { serves = refl; falls = omega (arith, h) }; others = λ m e. refl; size = refl }

moved : (lanes : List Lane) (l : ℕ) (lane new : Lane) → slice_get lanes l ≡ Some lane → Goes lane new → Moves l lanes (slice_set lanes l new)
moved lanes l lane new e goes = record {
  here = subst (λ (old : Lane). Goes old (get_or (slice_set lanes l new) l idle)) (sym (got lanes l (Some lane) e)) (subst (λ (x : Lane). Goes lane x) (sym (set_here lanes l lane new e)) goes);
  others = λ m apart. set_others lanes l m new apart;
  size = length-set lanes l new;
}

pin_goes : (lane : Lane) (command : Command) (todo : List Command) (at : ℕ) → lane.todo ≡ command ∷ todo → lane.pin ≡ None → Goes lane (lane_with (command ∷ todo) (Some at) lane.done)
pin_goes lane command todo at first pin =
    let size : length lane.todo ≡ length (command ∷ todo) = ap (λ (cs : List Command). length cs) first in
    let none : one_if lane.pin ≡ 0 = ap one_if pin in
    record { serves = ap (λ cs. commands_in lane.done ++ cs) (sym first); falls = omega (arith, size, none) }

one_le : (pin : Option ℕ) → one_if pin ≤ 1
one_le None = omega arith
one_le (Some at) = omega arith

answer_goes : (lane : Lane) (command : Command) (todo : List Command) (reply : Reply) → lane.todo ≡ command ∷ todo → Goes lane (lane_with todo None (lane.done ++ done_with command reply ∷ []))
answer_goes lane command todo reply first =
    let size : length lane.todo ≡ 1 + length todo = ap (λ (cs : List Command). length cs) first ∙ (let z : length (command ∷ todo) ≡ 1 + length todo = omega arith in z) in
    let commands : commands_in (lane.done ++ done_with command reply ∷ []) ≡ commands_in lane.done ++ command ∷ [] = map-append (λ (d : Done). d.command) lane.done (done_with command reply ∷ []) in
    record {
      serves = ap (λ cs. cs ++ todo) commands ∙ append_assoc (commands_in lane.done) (command ∷ []) todo ∙ ap (λ cs. commands_in lane.done ++ cs) (sym first);
      falls = omega (arith, size, one_le lane.pin);
    }

step_of_moves : (rules : Rules) (denied : Bool) (journal : List Entry) (lanes : List Lane) (l : ℕ) (lane : Lane) (command : Command) (todo : List Command) (b : Bool) (pin : Option ℕ)
    → slice_get lanes l ≡ Some lane → lane.todo ≡ command ∷ todo → lane.pin ≡ pin → Moves l lanes (step_of rules denied journal lanes l lane.done command todo b pin).lanes
step_of_moves rules denied journal lanes l lane command todo true None e first pin = moved lanes l lane _ e (pin_goes lane command todo (length journal) first pin)
step_of_moves rules denied journal lanes l lane command todo true (Some at) e first pin = moved lanes l lane _ e (answer_goes lane command todo (reply_or_denied denied (answer_to rules command.task (take at journal) journal)) first)
step_of_moves rules denied journal lanes l lane command todo false pin e first was = moved lanes l lane _ e (answer_goes lane command todo (reply_or_denied denied (answer_to rules command.task journal journal)) first)

lane_step_moves : (rules : Rules) (denied : Bool) (journal : List Entry) (lanes : List Lane) (l : ℕ) (lane : Lane) (todo : List Command) → slice_get lanes l ≡ Some lane → lane.todo ≡ todo
    → Moves l lanes (lane_step rules denied journal lanes l todo lane).lanes
lane_step_moves rules denied journal lanes l lane [] e first =
    let size : length lane.todo ≡ 0 = ap (λ (cs : List Command). length cs) first in
    let zero_weight : weight lane ≡ 0 = omega (arith, size) in
    still lanes l (ap weight (got lanes l (Some lane) e) ∙ zero_weight)
lane_step_moves rules denied journal lanes l lane (command ∷ todo) e first = step_of_moves rules denied journal lanes l lane command todo (has_pin command.task) lane.pin e first refl

step_at_moves : (rules : Rules) (denied : Bool) (journal : List Entry) (lanes : List Lane) (l : ℕ) (o : Option Lane) → slice_get lanes l ≡ o → Moves l lanes (step_at rules denied journal lanes l o).lanes
step_at_moves rules denied journal lanes l None e = still lanes l (ap weight (got lanes l None e))
step_at_moves rules denied journal lanes l (Some lane) e = lane_step_moves rules denied journal lanes l lane lane.todo e refl

-- how many turns a lane has
abbrev turns_of : ℕ → List (ℕ × Bool) → ℕ
turns_of m [] = 0
turns_of m (turn ∷ turns) = cond (turn.0 == m) 1 0 + turns_of m turns

record Ran (m count : ℕ) (old new : List Lane) : Type 0 where
  serves : commands_in (get_or new m idle).done ++ (get_or new m idle).todo ≡ commands_in (get_or old m idle).done ++ (get_or old m idle).todo
  falls : weight (get_or new m idle) ≤ weight (get_or old m idle) - count

one_ran : (l m : ℕ) (old new : List Lane) (b : Bool) → (l == m) ≡ b → Moves l old new → Ran m (cond b 1 0) old new
one_ran l m old new true e moves =
    let same : l ≡ m = grind (arith, nat_tests, e) in
    subst (λ (k : ℕ). Ran k 1 old new) same (record { serves = moves.here.serves; falls = moves.here.falls })
one_ran l m old new false e moves = record {
  serves = ap (λ (lane : Lane). commands_in lane.done ++ lane.todo) (moves.others m e);
  falls = let z : weight (get_or new m idle) ≡ weight (get_or old m idle) = ap weight (moves.others m e) in omega (arith, z);
}

runs : (rules : Rules) (m : ℕ) (state : Play) (turns : List (ℕ × Bool)) → Ran m (turns_of m turns) state.lanes (fold (step rules) state turns).lanes
runs rules m state [] = record { serves = refl; falls = omega arith }
runs rules m state (turn ∷ turns) =
    let first = one_ran turn.0 m state.lanes (step rules state turn).lanes (turn.0 == m) refl (step_at_moves rules turn.1 state.journal state.lanes turn.0 (slice_get state.lanes turn.0) refl) in
    let rest = runs rules m (step rules state turn) turns in
    record { serves = rest.serves ∙ first.serves; falls = omega (arith, rest.falls, first.falls) }

abbrev occurs : ℕ → List ℕ → ℕ
occurs m [] = 0
occurs m (l ∷ order) = cond (l == m) 1 0 + occurs m order

turns_occur : (m : ℕ) (order : List ℕ) (denials : List Bool) → turns_of m (with_denials order denials) ≡ occurs m order
turns_occur m [] denials = refl
turns_occur m (l ∷ order) [] = ap (λ (n : ℕ). cond (l == m) 1 0 + n) (turns_occur m order [])
turns_occur m (l ∷ order) (denied ∷ denials) = ap (λ (n : ℕ). cond (l == m) 1 0 + n) (turns_occur m order denials)

-- If a lane has as many turns as it has steps, nothing is left of it, and it has answered all its commands.
pub all_done : (rules : Rules) (m : ℕ) (order : List ℕ) (denials : List Bool) (state : Play) → 2 * length (get_or state.lanes m idle).todo ≤ occurs m order → (get_or state.lanes m idle).done ≡ []
    → commands_in (get_or (play rules order denials state).lanes m idle).done ≡ (get_or state.lanes m idle).todo
unfolding play
all_done rules m order denials state enough none =
    let ran = runs rules m state (with_denials order denials) in
    let new : Lane = get_or (fold (step rules) state (with_denials order denials)).lanes m idle in
    let gone : length new.todo ≡ 0 = omega (arith, ran.falls, enough, turns_occur m order denials, one_le new.pin) in
    let empty : new.todo ≡ [] = nothing new.todo gone in
    sym (append-nil (commands_in new.done)) ∙ ap (λ cs. commands_in new.done ++ cs) (sym empty) ∙ ran.serves ∙ ap (λ ds. commands_in ds ++ (get_or state.lanes m idle).todo) none
  where
    nothing : (cs : List Command) → length cs ≡ 0 → cs ≡ []
    nothing [] e = refl
    nothing (c ∷ cs) e = absurd (let f : 1 + length cs ≡ 0 = omega (arith, e) in omega (arith, f))

size_stays : (rules : Rules) (state : Play) (turns : List (ℕ × Bool)) → length (fold (step rules) state turns).lanes ≡ length state.lanes
size_stays rules state [] = refl
size_stays rules state (turn ∷ turns) =
    size_stays rules (step rules state turn) turns ∙ (step_at_moves rules turn.1 state.journal state.lanes turn.0 (slice_get state.lanes turn.0) refl).size

play_size : (rules : Rules) (order : List ℕ) (denials : List Bool) (state : Play) → length (play rules order denials state).lanes ≡ length state.lanes
unfolding play
play_size rules order denials state = size_stays rules state (with_denials order denials)

-- ---- how often a lane occurs in a whole order

occurs-append : (m : ℕ) (xs ys : List ℕ) → occurs m (xs ++ ys) ≡ occurs m xs + occurs m ys
occurs-append m [] ys = omega arith
occurs-append m (x ∷ xs) ys = omega (arith, occurs-append m xs ys)

occurs-same : (m k : ℕ) → occurs m (replicate k m) ≡ k
occurs-same m zero = refl
occurs-same m (suc k) =
    let same : (m == m) ≡ true = grind (arith, nat_tests) in
    ap (λ (b : Bool). cond b 1 0 + occurs m (replicate k m)) same ∙ (let z : 1 + occurs m (replicate k m) ≡ suc k = omega (arith, occurs-same m k) in z)

occurs_range : (m k a count : ℕ) → a ≤ m → m < a + count → k ≤ occurs m (flat_map (λ l. replicate k l) (range_with_len a count))
occurs_range m k a zero low high = absurd (omega (arith, low, high))
occurs_range m k a (suc count) low high = by (a == m) refl (λ l h. occurs_range m k (a + 1) count l h)
  where
    by : (b : Bool) → (a == m) ≡ b → (a + 1 ≤ m → m < a + 1 + count → k ≤ occurs m (flat_map (λ l. replicate k l) (range_with_len (a + 1) count))) → k ≤ occurs m (replicate k a ++ flat_map (λ l. replicate k l) (range_with_len (a + 1) count))
    by true e later =
        let same : a ≡ m = grind (arith, nat_tests, e) in
        let here : occurs m (replicate k a) ≡ k = ap (λ (x : ℕ). occurs m (replicate k x)) same ∙ occurs-same m k in
        omega (arith, occurs-append m (replicate k a) (flat_map (λ l. replicate k l) (range_with_len (a + 1) count)), here)
    by false e later =
        let apart : a < m = grind (arith, nat_tests, e, low) in
        omega (arith, occurs-append m (replicate k a) (flat_map (λ l. replicate k l) (range_with_len (a + 1) count)), later (omega (arith, apart)) (omega (arith, high)))

pub occurs_whole : (m : ℕ) (piece : List ℕ) (n k : ℕ) → m ≤ n → k ≤ occurs m (whole_order piece n k)
occurs_whole zero piece n k h =
    omega (arith, occurs-append 0 piece (flat_map (λ l. replicate k l) (range_with_len 1 n ++ 0 ∷ [])), last)
  where
    last : k ≤ occurs 0 (flat_map (λ l. replicate k l) (range_with_len 1 n ++ 0 ∷ []))
    last =
        let e : flat_map (λ l. replicate k l) (range_with_len 1 n ++ 0 ∷ []) ≡ flat_map (λ l. replicate k l) (range_with_len 1 n) ++ (replicate k 0 ++ []) = flat_map-append (λ l. replicate k l) (range_with_len 1 n) (0 ∷ []) in
        let o : occurs 0 (flat_map (λ l. replicate k l) (range_with_len 1 n ++ 0 ∷ [])) ≡ occurs 0 (flat_map (λ l. replicate k l) (range_with_len 1 n)) + occurs 0 (replicate k 0 ++ []) =
        ap (occurs 0) e ∙ occurs-append 0 (flat_map (λ l. replicate k l) (range_with_len 1 n)) (replicate k 0 ++ []) in
        let z : occurs 0 (replicate k 0 ++ []) ≡ k = ap (occurs 0) (append-nil (replicate k 0)) ∙ occurs-same 0 k in
        omega (arith, o, z)
occurs_whole (suc m) piece n k h =
    let e : flat_map (λ l. replicate k l) (range_with_len 1 n ++ 0 ∷ []) ≡ flat_map (λ l. replicate k l) (range_with_len 1 n) ++ (replicate k 0 ++ []) = flat_map-append (λ l. replicate k l) (range_with_len 1 n) (0 ∷ []) in
    let o : occurs (suc m) (flat_map (λ l. replicate k l) (range_with_len 1 n ++ 0 ∷ [])) ≡ occurs (suc m) (flat_map (λ l. replicate k l) (range_with_len 1 n)) + occurs (suc m) (replicate k 0 ++ []) =
    ap (occurs (suc m)) e ∙ occurs-append (suc m) (flat_map (λ l. replicate k l) (range_with_len 1 n)) (replicate k 0 ++ []) in
    omega (arith, occurs-append (suc m) piece (flat_map (λ l. replicate k l) (range_with_len 1 n ++ 0 ∷ [])), o, occurs_range (suc m) k 1 n (omega arith) (omega (arith, h)))

-- ---- the lanes before a batch

abbrev AreLane : ℕ → List Command → Type 0
AreLane l commands = AllByRecursion (λ c. c.lane ≡ l) commands

abbrev pub AreLanes : ℕ → List Command → Type 0
AreLanes n commands = AllByRecursion (λ c. (0 < c.lane) × (c.lane ≤ n)) commands

none_of : (l n : ℕ) (commands : List Command) → (l ≡ 0) ⊎ (n < l) → AreLanes n commands → lane_commands l commands ≡ []
none_of l n [] out h = refl
none_of l n (c ∷ commands) out h =
    let apart : (c.lane == l) ≡ false = by out in
    ap (λ b. cond b (c ∷ lane_commands l commands) (lane_commands l commands)) apart ∙ none_of l n commands out h.1
  where
    by : (l ≡ 0) ⊎ (n < l) → (c.lane == l) ≡ false
    by (inl e) = grind (arith, nat_tests, e, h.0.0)
    by (inr e) = grind (arith, nat_tests, e, h.0.1)

all_of : (commands : List Command) → AreLane 0 commands → lane_commands 0 commands ≡ commands
all_of [] h = refl
all_of (c ∷ commands) h =
    let same : (c.lane == 0) ≡ true = grind (arith, nat_tests, h.0) in
    ap (λ b. cond b (c ∷ lane_commands 0 commands) (lane_commands 0 commands)) same ∙ ap (λ cs. c ∷ cs) (all_of commands h.1)

none_above : (l : ℕ) (commands : List Command) → 0 < l → AreLane 0 commands → lane_commands l commands ≡ []
none_above l [] h k = refl
none_above l (c ∷ commands) h k =
    let apart : (c.lane == l) ≡ false = grind (arith, nat_tests, h, k.0) in
    ap (λ b. cond b (c ∷ lane_commands l commands) (lane_commands l commands)) apart ∙ none_above l commands h k.1

start_at : (batch : Batch) (l a count : ℕ) → l < count → get_or (map (lane_of batch) (range_with_len a count)) l idle ≡ lane_of batch (a + l)
start_at batch l a zero h = absurd (omega (arith, h))
start_at batch zero a (suc count) h = let e : a ≡ a + 0 = omega arith in ap (lane_of batch) e
start_at batch (suc l) a (suc count) h = let e : a + 1 + l ≡ a + suc l = omega arith in start_at batch l (a + 1) count (omega (arith, h)) ∙ ap (lane_of batch) e

start_past : (batch : Batch) (l a count : ℕ) → count ≤ l → get_or (map (lane_of batch) (range_with_len a count)) l idle ≡ idle
start_past batch l a zero h = refl
start_past batch zero a (suc count) h = absurd (omega (arith, h))
start_past batch (suc l) a (suc count) h = start_past batch l (a + 1) count (omega (arith, h))

start_todo : (n : ℕ) (batch : Batch) (merges : List Command) (l : ℕ) → AreLanes n batch → AreLane 0 merges → (get_or (lanes_of n batch merges) l idle).todo ≡ lane_commands l (batch ++ merges)
start_todo n batch merges zero h k =
    sym (filter-append (λ c. c.lane == 0) batch merges ∙ ap (λ cs. cs ++ lane_commands 0 merges) (none_of 0 n batch (inl refl) h) ∙ all_of merges k)
start_todo n batch merges (suc l) h k = by (nat_lt l n) refl
  where
    split : lane_commands (suc l) (batch ++ merges) ≡ lane_commands (suc l) batch
    split = filter-append (λ c. c.lane == suc l) batch merges ∙ ap (λ cs. lane_commands (suc l) batch ++ cs) (none_above (suc l) merges (omega arith) k) ∙ append-nil (lane_commands (suc l) batch)

    by : (b : Bool) → nat_lt l n ≡ b → (get_or (map (lane_of batch) (range_with_len 1 n)) l idle).todo ≡ lane_commands (suc l) (batch ++ merges)
    by true e =
        let lt : l < n = grind (arith, nat_tests, e) in
        let at : 1 + l ≡ suc l = omega arith in
        ap (λ (x : Lane). x.todo) (start_at batch l 1 n lt ∙ ap (lane_of batch) at) ∙ sym split
    by false e =
        let le : n ≤ l = grind (arith, nat_tests, e) in
        ap (λ (x : Lane). x.todo) (start_past batch l 1 n le) ∙ sym (split ∙ none_of (suc l) n batch (inr (omega (arith, le))) h)

start_done : (n : ℕ) (batch : Batch) (merges : List Command) (l : ℕ) → (get_or (lanes_of n batch merges) l idle).done ≡ []
start_done n batch merges zero = refl
start_done n batch merges (suc l) = by 1 l n
  where
    by : (a l count : ℕ) → (get_or (map (lane_of batch) (range_with_len a count)) l idle).done ≡ []
    by a l zero = refl
    by a zero (suc count) = refl
    by a (suc l) (suc count) = by (a + 1) l count

-- ---- a batch

zip_again : (done : List Done) → map (λ pair. done_with pair.0 pair.1.reply) (zip (commands_in done) (answers_of done)) ≡ done
zip_again [] = refl
zip_again (d ∷ done) = ap (λ ds. d ∷ ds) (zip_again done)

pub whos : (done : List Done) → map (λ (a : Answered). a.who) (answers_of done) ≡ map who_of (commands_in done)
whos [] = refl
whos (d ∷ done) = ap (λ ws. who_of d.command ∷ ws) (whos done)

right_at : (rules : Rules) (before behind : List Entry) (n : ℕ) (lanes : List Lane) (l : ℕ) → l < length lanes → LanesAre rules before behind n lanes → IsRight rules (n + l) before behind (get_or lanes l idle).done
right_at rules before behind n [] l h all = absurd (omega (arith, h))
right_at rules before behind n (x ∷ lanes) zero h all = let e : n ≡ n + 0 = omega arith in subst (λ (m : ℕ). IsRight rules m before behind x.done) e all.0.right
right_at rules before behind n (x ∷ lanes) (suc l) h all =
    let e : n + 1 + l ≡ n + suc l = omega arith in
    subst (λ (m : ℕ). IsRight rules m before behind (get_or lanes l idle).done) e (right_at rules before behind (n + 1) lanes l (omega (arith, h)) all.1)

filter_le : (p : Command → Bool) (cs : List Command) → length (filter p cs) ≤ length cs
filter_le p cs = omega (arith, length-filter p cs, count_by-le-length p cs)

abbrev pub batch_done : Rules → ℕ → Batch → List Command → List ℕ → List Bool → List Entry → List Done
batch_done rules n batch merges piece denials before = gathered (batch ++ merges) (map (λ lane. lane.done) (play_batch rules n batch merges piece denials before).lanes)

done_at : (lanes : List Lane) (l : ℕ) → get_or (map (λ (lane : Lane). lane.done) lanes) l [] ≡ (get_or lanes l idle).done
done_at [] l = refl
done_at (x ∷ lanes) zero = refl
done_at (x ∷ lanes) (suc l) = done_at lanes l

lists_are : (rules : Rules) (n : ℕ) (batch : Batch) (merges : List Command) (piece : List ℕ) (denials : List Bool) (before : List Entry) → AreLanes n batch → AreLane 0 merges
    → AreLists (batch ++ merges) (map (λ lane. lane.done) (play_batch rules n batch merges piece denials before).lanes)
lists_are rules n batch merges piece denials before h k l =
    let state : Play = play_with before (lanes_of n batch merges) in
    let steps : ℕ = 2 * (length batch + length merges) in
    ap commands_in (done_at (play_batch rules n batch merges piece denials before).lanes l)
    ∙ all_done rules l (whole_order piece n steps) denials state (enough (nat_le l n) refl) (start_done n batch merges l)
    ∙ start_todo n batch merges l h k
  where
    todo_size : length (get_or (lanes_of n batch merges) l idle).todo ≤ length batch + length merges
    todo_size =
        let e : length (get_or (lanes_of n batch merges) l idle).todo ≡ length (lane_commands l (batch ++ merges)) = ap (λ (cs : List Command). length cs) (start_todo n batch merges l h k) in
        omega (arith, e, filter_le (λ c. c.lane == l) (batch ++ merges), length-append batch merges)

    past : n < l → length (get_or (lanes_of n batch merges) l idle).todo ≡ 0
    past lt =
        let e : lane_commands l (batch ++ merges) ≡ [] = filter-append (λ c. c.lane == l) batch merges ∙ ap (λ cs. cs ++ lane_commands l merges) (none_of l n batch (inr lt) h) ∙ none_above l merges (omega (arith, lt)) k in
        ap (λ (cs : List Command). length cs) (start_todo n batch merges l h k ∙ e)

    enough : (b : Bool) → nat_le l n ≡ b → 2 * length (get_or (lanes_of n batch merges) l idle).todo ≤ occurs l (whole_order piece n (2 * (length batch + length merges)))
    enough true e =
        let le : l ≤ n = grind (arith, nat_tests, e) in
        omega (arith, todo_size, occurs_whole l piece n (2 * (length batch + length merges)) le)
    enough false e =
        let lt : n < l = grind (arith, nat_tests, e) in
        omega (arith, past lt)

lanes_size : (n : ℕ) (batch : Batch) (merges : List Command) → length (lanes_of n batch merges) ≡ 1 + n
lanes_size n batch merges = let z : length (lanes_of n batch merges) ≡ 1 + length (map (lane_of batch) (range_with_len 1 n)) = omega arith in omega (arith, z, by 1 n)
  where
    by : (a count : ℕ) → length (map (lane_of batch) (range_with_len a count)) ≡ count
    by a zero = refl
    by a (suc count) = let z : length (map (lane_of batch) (range_with_len a (suc count))) ≡ 1 + length (map (lane_of batch) (range_with_len (a + 1) count)) = omega arith in omega (arith, z, by (a + 1) count)

-- A batch played in any order is right, wherever memory runs out.
pub played_batch_right : (rules : Rules) (n : ℕ) (batch : Batch) (merges : List Command) (piece : List ℕ) (denials : List Bool) (before : List Entry) → AreLanes n batch → AreLane 0 merges
    → (behind : List Entry) × ((play_batch rules n batch merges piece denials before).journal ≡ before ++ behind)
    × ((l : ℕ) → l ≤ n → IsRight rules l before behind (done_of l (batch ++ merges) (answers_of (batch_done rules n batch merges piece denials before))))
    × (map (λ (a : Answered). a.who) (answers_of (batch_done rules n batch merges piece denials before)) ≡ map who_of (batch ++ merges))
played_batch_right rules n batch merges piece denials before h k =
    let kept = batch_right rules n batch merges piece denials before k in
    let lists = lists_are rules n batch merges piece denials before h k in
    let same = gathered_commands (batch ++ merges) (map (λ lane. lane.done) (play_batch rules n batch merges piece denials before).lanes) lists in (
      kept.behind,
      kept.journal,
      (λ l le.
          let size : length (play_batch rules n batch merges piece denials before).lanes ≡ length (lanes_of n batch merges) = play_size rules (whole_order piece n (2 * (length batch + length merges))) denials (play_with before (lanes_of n batch merges)) in
          let full : length (lanes_of n batch merges) ≡ 1 + n = lanes_size n batch merges in
          let at : 0 + l ≡ l = omega arith in
          let own : done_of l (batch ++ merges) (answers_of (batch_done rules n batch merges piece denials before)) ≡ (get_or (play_batch rules n batch merges piece denials before).lanes l idle).done =
          ap (λ (cs : List Command). done_of l cs (answers_of (batch_done rules n batch merges piece denials before))) (sym same)
          ∙ ap (filter (λ (d : Done). d.command.lane == l)) (zip_again (batch_done rules n batch merges piece denials before))
          ∙ gathered_lane (batch ++ merges) (map (λ lane. lane.done) (play_batch rules n batch merges piece denials before).lanes) l lists
          ∙ done_at (play_batch rules n batch merges piece denials before).lanes l in
          subst (λ (ds : List Done). IsRight rules l before kept.behind ds) (sym own)
          (subst (λ (m : ℕ). IsRight rules m before kept.behind (get_or (play_batch rules n batch merges piece denials before).lanes l idle).done) at
          (right_at rules before kept.behind 0 (play_batch rules n batch merges piece denials before).lanes l (omega (arith, size, full, le)) kept.lanes))),
      whos (batch_done rules n batch merges piece denials before) ∙ ap (map who_of) same,
    )
