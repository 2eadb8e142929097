-- Each step of a play keeps every lane right.
use Rattle.std.proofs.Common.{◌≡◌, refl, ap, sym, ◌∙◌, subst, ℕ, zero, suc, ◌+◌, ◌<◌, ◌≤◌, List, [], ◌∷◌, ◌++◌, append_assoc, map, Bool, true, false, length, take, cond, arith, length-append}
use Rattle.std.specs.Prelude.{◌==◌, ⊤, Option, Some, None, slice_get, slice_set, filter}
use Rattle.std.specs.List.{AllByRecursion, fold, range_with_len}
use Rattle.std.proofs.lemmas.List.{append-nil, length-take-le}
use Rattle.std.proofs.Math.Seq.{take-append_seam}
use Rattle.std.proofs.lemmas.Bool.Decides.{nat_tests}
use Rattle.record_model.specs.Rules.{Rules}
use Rattle.record_model.proofs.RightLemmas.{AreOthers, right_stays, longer}
use Rattle.record_model.proofs.PlayLemmas.{IsPrefix, reply_fits, right_step}
use Rattle.lake_model.specs.Journal.{What, Entry, entry_with}
use Rattle.script_model.specs.Commands.{Command, Batch}
use Rattle.record_model.specs.Replies.{Reply}
use Rattle.record_model.specs.Answered.{answer_to, adds, has_pin}
use Rattle.record_model.specs.Play.{done_with, Lane, lane_with, Play, play_with, who_of, entries_of, reply_or_denied, answered, step_of, lane_step, step_at, step, play, with_denials, lane_of, lanes_of, play_batch}
use Rattle.record_model.specs.Right.{Moment, moments, MomentsRise, IsRight}

abbrev pub PinIs : ℕ → List Moment → ℕ → Option ℕ → Type 0
PinIs low ms size None = ⊤
PinIs low ms size (Some at) = MomentsRise low ms at × (at ≤ size)

-- a lane in the middle of a batch
pub record LaneIs (rules : Rules) (before behind : List Entry) (l : ℕ) (lane : Lane) : Type 0 where
  pub right : IsRight rules l before behind lane.done
  pub mine : AllByRecursion (λ c. c.lane ≡ l) lane.todo
  pub pinned : PinIs (length before) (moments lane.done) (length (before ++ behind)) lane.pin

abbrev pub LanesAre : Rules → List Entry → List Entry → ℕ → List Lane → Type 0
LanesAre rules before behind n [] = ⊤
LanesAre rules before behind n (lane ∷ lanes) = LaneIs rules before behind n lane × LanesAre rules before behind (n + 1) lanes

pub record PlayIs (rules : Rules) (before : List Entry) (state : Play) : Type 0 where
  pub behind : List Entry
  pub journal : state.journal ≡ before ++ behind
  pub lanes : LanesAre rules before behind 0 state.lanes

lane_at : (rules : Rules) (before behind : List Entry) (n : ℕ) (lanes : List Lane) (l : ℕ) (lane : Lane) → LanesAre rules before behind n lanes → slice_get lanes l ≡ Some lane → LaneIs rules before behind (n + l) lane
lane_at rules before behind n [] l lane h e = cc
lane_at rules before behind n (x ∷ lanes) zero lane h e =
    let same : x ≡ lane = cc in
    let at : n ≡ n + 0 = omega arith in
    subst (λ (m : ℕ). LaneIs rules before behind m lane) at (subst (λ y. LaneIs rules before behind n y) same h.0)
lane_at rules before behind n (x ∷ lanes) (suc l) lane h e =
    let at : n + 1 + l ≡ n + suc l = omega arith in
    subst (λ (m : ℕ). LaneIs rules before behind m lane) at (lane_at rules before behind (n + 1) lanes l lane h.1 e)

lanes_set : (rules : Rules) (before behind : List Entry) (n : ℕ) (lanes : List Lane) (l : ℕ) (lane : Lane) → LanesAre rules before behind n lanes → LaneIs rules before behind (n + l) lane → LanesAre rules before behind n (slice_set lanes l lane)
lanes_set rules before behind n [] l lane h k = h
lanes_set rules before behind n (x ∷ lanes) zero lane h k =
    let at : n + 0 ≡ n = omega arith in
    (subst (λ (m : ℕ). LaneIs rules before behind m lane) at k, h.1)
lanes_set rules before behind n (x ∷ lanes) (suc l) lane h k =
    let at : n + suc l ≡ n + 1 + l = omega arith in
    (h.0, lanes_set rules before behind (n + 1) lanes l lane h.1 (subst (λ (m : ℕ). LaneIs rules before behind m lane) at k))

-- ---- entries of one caller

abbrev AreOf : ℕ → List Entry → Type 0
AreOf caller entries = AllByRecursion (λ e. e.who.caller ≡ caller) entries

others : (caller m : ℕ) (entries : List Entry) → (caller == m) ≡ false → AreOf caller entries → AreOthers m entries
others caller m [] apart h = tt
others caller m (e ∷ entries) apart h = (ap (λ (n : ℕ). n == m) h.0 ∙ apart, others caller m entries apart h.1)

are_of : (command : Command) (whats : List What) → AreOf command.lane (map (entry_with (who_of command)) whats)
are_of command [] = tt
are_of command (what ∷ whats) = (refl, are_of command whats)

pin_up : (low : ℕ) (ms : List Moment) (size bigger : ℕ) (pin : Option ℕ) → size ≤ bigger → PinIs low ms size pin → PinIs low ms bigger pin
pin_up low ms size bigger None le h = tt
pin_up low ms size bigger (Some at) le h = (h.0, omega (arith, le, h.1))

lane_stays : (rules : Rules) (before behind added : List Entry) (caller m : ℕ) (lane : Lane) → (caller == m) ≡ false → AreOf caller added → LaneIs rules before behind m lane → LaneIs rules before (behind ++ added) m lane
lane_stays rules before behind added caller m lane apart of h = record {
  right = right_stays rules m before behind added lane.done (others caller m added apart of) h.right;
  mine = h.mine;
  pinned = pin_up (length before) (moments lane.done) (length (before ++ behind)) (length (before ++ (behind ++ added))) lane.pin (longer before behind added) h.pinned;
}

lanes_stay : (rules : Rules) (before behind added : List Entry) (caller n : ℕ) (lanes : List Lane) → caller < n → AreOf caller added → LanesAre rules before behind n lanes → LanesAre rules before (behind ++ added) n lanes
lanes_stay rules before behind added caller n [] lt of h = tt
lanes_stay rules before behind added caller n (lane ∷ lanes) lt of h =
    let apart : (caller == n) ≡ false = grind (arith, nat_tests, lt) in
    (lane_stays rules before behind added caller n lane apart of h.0, lanes_stay rules before behind added caller (n + 1) lanes (omega (arith, lt)) of h.1)

lanes_go : (rules : Rules) (before behind added : List Entry) (n : ℕ) (lanes : List Lane) (l : ℕ) (lane : Lane) → AreOf (n + l) added → LanesAre rules before behind n lanes
    → LaneIs rules before (behind ++ added) (n + l) lane → LanesAre rules before (behind ++ added) n (slice_set lanes l lane)
lanes_go rules before behind added n [] l lane of h k = tt
lanes_go rules before behind added n (x ∷ lanes) zero lane of h k =
    let at : n + 0 ≡ n = omega arith in
    (subst (λ (m : ℕ). LaneIs rules before (behind ++ added) m lane) at k, lanes_stay rules before behind added (n + 0) (n + 1) lanes (omega arith) of h.1)
lanes_go rules before behind added n (x ∷ lanes) (suc l) lane of h k =
    let at : n + suc l ≡ n + 1 + l = omega arith in
    let apart : (n + suc l == n) ≡ false = grind (arith, nat_tests) in (
      lane_stays rules before behind added (n + suc l) n x apart of h.0,
      lanes_go rules before behind added (n + 1) lanes l lane (subst (λ (m : ℕ). AreOf m added) at of) h.1 (subst (λ (m : ℕ). LaneIs rules before (behind ++ added) m lane) at k),
    )

-- ---- steps

answered_keeps : (rules : Rules) (denied : Bool) (before behind : List Entry) (lanes : List Lane) (l : ℕ) (lane : Lane) (command : Command) (todo : List Command) (pinned : List Entry)
    → LanesAre rules before behind 0 lanes → LaneIs rules before behind l lane → lane.todo ≡ command ∷ todo → IsPrefix pinned (before ++ behind) → MomentsRise (length before) (moments lane.done) (length pinned)
    → (has_pin command.task ≡ false → pinned ≡ before ++ behind) → PlayIs rules before (answered rules denied (before ++ behind) lanes l lane.done command todo pinned)
answered_keeps rules denied before behind lanes l lane command todo pinned all here first prefix rises same =
    let reply : Reply = reply_or_denied denied (answer_to rules command.task pinned (before ++ behind)) in
    let added : List Entry = entries_of rules pinned command reply in
    let mine : AllByRecursion (λ c. c.lane ≡ l) (command ∷ todo) = subst (AllByRecursion (λ c. c.lane ≡ l)) first here.mine in
    let of : AreOf (0 + l) added = subst (λ (m : ℕ). AreOf m added) (let z : command.lane ≡ 0 + l = omega (arith, mine.0) in z) (are_of command (adds rules command.task pinned reply)) in
    let at : l ≡ 0 + l = omega arith in
    let one : LaneIs rules before (behind ++ added) l (lane_with todo None (lane.done ++ done_with command reply ∷ [])) = record {
      right = right_step rules l before behind lane.done command pinned reply mine.0 here.right rises (reply_fits rules denied command pinned (before ++ behind) prefix same);
      mine = mine.1;
      pinned = tt;
    } in
    record {
      behind = behind ++ added;
      journal = append_assoc before behind added;
      lanes = lanes_go rules before behind added 0 lanes l (lane_with todo None (lane.done ++ done_with command reply ∷ [])) of all (subst (λ (m : ℕ). LaneIs rules before (behind ++ added) m (lane_with todo None (lane.done ++ done_with command reply ∷ []))) at one);
    }

self_prefix : (now : List Entry) → IsPrefix now now
self_prefix now = (omega arith, ap (take (length now)) (sym (append-nil now)) ∙ take-append_seam now [])

taken_length : (at : ℕ) (now : List Entry) → at ≤ length now → length (take at now) ≡ at
taken_length at now h = length-take-le at now h

taken_prefix : (at : ℕ) (now : List Entry) → at ≤ length now → IsPrefix (take at now) now
taken_prefix at now h = (omega (arith, taken_length at now h, h), ap (λ (n : ℕ). take n now) (taken_length at now h))

step_of_keeps : (rules : Rules) (denied : Bool) (before behind : List Entry) (lanes : List Lane) (l : ℕ) (lane : Lane) (command : Command) (todo : List Command) (b : Bool) (pin : Option ℕ)
    → LanesAre rules before behind 0 lanes → LaneIs rules before behind l lane → lane.todo ≡ command ∷ todo → has_pin command.task ≡ b → lane.pin ≡ pin
    → PlayIs rules before (step_of rules denied (before ++ behind) lanes l lane.done command todo b pin)
step_of_keeps rules denied before behind lanes l lane command todo true None all here first kind pin =
    let mine : AllByRecursion (λ c. c.lane ≡ l) (command ∷ todo) = subst (AllByRecursion (λ c. c.lane ≡ l)) first here.mine in
    let one : LaneIs rules before behind l (lane_with (command ∷ todo) (Some (length (before ++ behind))) lane.done) = record { right = here.right; mine = mine; pinned = (here.right.positions, omega arith) } in
    let at : l ≡ 0 + l = omega arith in
    record { behind = behind; journal = refl; lanes = lanes_set rules before behind 0 lanes l (lane_with (command ∷ todo) (Some (length (before ++ behind))) lane.done) all (subst (λ (m : ℕ). LaneIs rules before behind m (lane_with (command ∷ todo) (Some (length (before ++ behind))) lane.done)) at one) }
step_of_keeps rules denied before behind lanes l lane command todo true (Some at) all here first kind pin =
    let held : MomentsRise (length before) (moments lane.done) at × (at ≤ length (before ++ behind)) = subst (PinIs (length before) (moments lane.done) (length (before ++ behind))) pin here.pinned in
    answered_keeps rules denied before behind lanes l lane command todo (take at (before ++ behind)) all here first (taken_prefix at (before ++ behind) held.1)
    (subst (λ (n : ℕ). MomentsRise (length before) (moments lane.done) n) (sym (taken_length at (before ++ behind) held.1)) held.0) (λ other. absurd (let f : true ≡ false = sym kind ∙ other in cc))
step_of_keeps rules denied before behind lanes l lane command todo false pin all here first kind was =
    answered_keeps rules denied before behind lanes l lane command todo (before ++ behind) all here first (self_prefix (before ++ behind)) here.right.positions (λ _. refl)

lane_step_keeps : (rules : Rules) (denied : Bool) (before behind : List Entry) (lanes : List Lane) (l : ℕ) (lane : Lane) (todo : List Command)
    → LanesAre rules before behind 0 lanes → LaneIs rules before behind l lane → lane.todo ≡ todo → PlayIs rules before (lane_step rules denied (before ++ behind) lanes l todo lane)
lane_step_keeps rules denied before behind lanes l lane [] all here first = record { behind = behind; journal = refl; lanes = all }
lane_step_keeps rules denied before behind lanes l lane (command ∷ todo) all here first = step_of_keeps rules denied before behind lanes l lane command todo (has_pin command.task) lane.pin all here first refl refl

step_at_keeps : (rules : Rules) (denied : Bool) (before behind : List Entry) (lanes : List Lane) (l : ℕ) (o : Option Lane) → LanesAre rules before behind 0 lanes → slice_get lanes l ≡ o
    → PlayIs rules before (step_at rules denied (before ++ behind) lanes l o)
step_at_keeps rules denied before behind lanes l None all e = record { behind = behind; journal = refl; lanes = all }
step_at_keeps rules denied before behind lanes l (Some lane) all e =
    let at : 0 + l ≡ l = omega arith in
    lane_step_keeps rules denied before behind lanes l lane lane.todo all (subst (λ (m : ℕ). LaneIs rules before behind m lane) at (lane_at rules before behind 0 lanes l lane all e)) refl

pub step_keeps : (rules : Rules) (before : List Entry) (state : Play) (turn : ℕ × Bool) → PlayIs rules before state → PlayIs rules before (step rules state turn)
step_keeps rules before state turn is =
    subst (λ j. PlayIs rules before (step_at rules turn.1 j state.lanes turn.0 (slice_get state.lanes turn.0))) (sym is.journal)
    (step_at_keeps rules turn.1 before is.behind state.lanes turn.0 (slice_get state.lanes turn.0) is.lanes refl)

steps_keep : (rules : Rules) (before : List Entry) (state : Play) (turns : List (ℕ × Bool)) → PlayIs rules before state → PlayIs rules before (fold (step rules) state turns)
steps_keep rules before state [] is = is
steps_keep rules before state (turn ∷ turns) is = steps_keep rules before (step rules state turn) turns (step_keeps rules before state turn is)

-- Whatever the order, and wherever memory runs out, every lane is right after a play.
pub play_keeps : (rules : Rules) (order : List ℕ) (denials : List Bool) (before : List Entry) (state : Play) → PlayIs rules before state → PlayIs rules before (play rules order denials state)
unfolding play
play_keeps rules order denials before state is = steps_keep rules before state (with_denials order denials) is

-- ---- a whole batch

own_lane : (l : ℕ) (batch : Batch) → AllByRecursion (λ c. c.lane ≡ l) (filter (λ command. command.lane == l) batch)
own_lane l [] = tt
own_lane l (command ∷ batch) = by (command.lane == l) refl (own_lane l batch)
  where
    by : (b : Bool) → (command.lane == l) ≡ b → AllByRecursion (λ c. c.lane ≡ l) (filter (λ command. command.lane == l) batch)
        → AllByRecursion (λ c. c.lane ≡ l) (cond b (command ∷ filter (λ command. command.lane == l) batch) (filter (λ command. command.lane == l) batch))
    by true e h = ((let z : command.lane ≡ l = grind (arith, nat_tests, e) in z), h)
    by false e h = h

-- an empty list of answers is right if nothing was added
pub none_done : (rules : Rules) (l : ℕ) (before : List Entry) → IsRight rules l before [] []
none_done rules l before = record { entries = refl; placed = tt; positions = omega (arith, length-append before []); unplaced = tt }

lanes_start : (rules : Rules) (before : List Entry) (batch : Batch) (n count : ℕ) → LanesAre rules before [] n (map (lane_of batch) (range_with_len n count))
lanes_start rules before batch n zero = tt
lanes_start rules before batch n (suc count) = (record { right = none_done rules n before; mine = own_lane n batch; pinned = tt }, lanes_start rules before batch (n + 1) count)

-- After a batch in a stated order each lane's answers, and the merger's, are right between the journal before it and the journal after it.
pub batch_right : (rules : Rules) (lanes : ℕ) (batch : Batch) (merges : List Command) (piece : List ℕ) (denials : List Bool) (before : List Entry)
    → AllByRecursion (λ c. c.lane ≡ 0) merges → PlayIs rules before (play_batch rules lanes batch merges piece denials before)
batch_right rules lanes batch merges piece denials before mine =
    play_keeps rules _ denials before (play_with before (lanes_of lanes batch merges))
    (record { behind = []; journal = sym (append-nil before); lanes = (record { right = none_done rules 0 before; mine = mine; pinned = tt }, lanes_start rules before batch 1 lanes) })
