-- One lane without a stated order is played one command after another.
use Rattle.std.proofs.Common.{◌≡◌, refl, ap, sym, ◌∙◌, ℕ, zero, suc, ◌+◌, ◌*◌, ◌≤◌, List, [], ◌∷◌, ◌++◌, append_assoc, Bool, true, false, length, take, drop, cond, arith, get_or, replicate}
use Rattle.std.specs.Prelude.{◌==◌, Some, None, slice_set, filter}
use Rattle.std.specs.List.{fold}
use Rattle.std.proofs.lemmas.List.{append-nil}
use Rattle.std.proofs.lemmas.Bool.Decides.{nat_tests}
use Rattle.std.proofs.Math.Seq.{take-append_seam}
use Rattle.record_model.specs.Rules.{Rules}
use Rattle.lake_model.specs.Journal.{Entry}
use Rattle.script_model.specs.Commands.{Command, Batch}
use Rattle.record_model.specs.Replies.{Reply}
use Rattle.record_model.specs.Answered.{answer_to, has_pin}
use Rattle.record_model.specs.Record.{RunRecord}
use Rattle.record_model.specs.Play.{Done, done_with, Lane, lane_with, Play, play_with, reply_or_denied, entries_of, answered, step_of, step, with_denials, play, gathered, answers_of, record_after, batch_after}
use Rattle.record_model.specs.InTurn.{after_command, in_turn, with_sync, IsOneLane}

-- One more command is answered after all the others.
pub in_turn_more : (rules : Rules) (commands : List Command) (denials : List Bool) (command : Command) (denied : Bool) (before : RunRecord) → length denials ≡ length commands
    → in_turn rules (commands ++ command ∷ []) (denials ++ denied ∷ []) before ≡ after_command rules (in_turn rules commands denials before) command denied
unfolding in_turn
in_turn_more rules [] [] command denied before same = refl
in_turn_more rules [] (d ∷ denials) command denied before same = absurd (omega (arith, same))
in_turn_more rules (c ∷ commands) [] command denied before same = absurd (omega (arith, same))
in_turn_more rules (c ∷ commands) (d ∷ denials) command denied before same = in_turn_more rules commands denials command denied (after_command rules before c d) (omega (arith, same))

-- ---- lane 1 beside a merger that has nothing to do

abbrev idle : Lane
idle = lane_with [] None []

abbrev alone : List Entry → Lane → Play
alone journal lane = play_with journal (idle ∷ lane ∷ [])

-- a turn of a lane that has nothing to do
idle_turn : (rules : Rules) (journal : List Entry) (done : List Done) (l : ℕ) (denied : Bool) → step rules (alone journal (lane_with [] None done)) (l, denied) ≡ alone journal (lane_with [] None done)
idle_turn rules journal done zero denied = refl
idle_turn rules journal done (suc zero) denied = refl
idle_turn rules journal done (suc (suc l)) denied = refl

idle_turns : (rules : Rules) (journal : List Entry) (done : List Done) (order : List ℕ) → fold (step rules) (alone journal (lane_with [] None done)) (with_denials order []) ≡ alone journal (lane_with [] None done)
idle_turns rules journal done [] = refl
idle_turns rules journal done (l ∷ order) = ap (λ (state : Play). fold (step rules) state (with_denials order [])) (idle_turn rules journal done l false) ∙ idle_turns rules journal done order

-- the turns that lane 1 has left, and then others
abbrev turns_left : ℕ → List ℕ → List ℕ
turns_left n others = replicate n 1 ++ others

abbrev runs : Rules → ℕ → List ℕ → List Bool → Play → Play
runs rules n others turns state = fold (step rules) state (with_denials (turns_left n others) turns)

reply_at : Rules → List Entry → Command → Bool → Reply
reply_at rules journal command denied = reply_or_denied denied (answer_to rules command.task journal journal)

-- a command without a pin is answered in its first turn,
answer_turn : (rules : Rules) (journal : List Entry) (command : Command) (todo : List Command) (done : List Done) (denied : Bool) → has_pin command.task ≡ false
    → step rules (alone journal (lane_with (command ∷ todo) None done)) (1, denied)
    ≡ alone (journal ++ entries_of rules journal command (reply_at rules journal command denied)) (lane_with todo None (done ++ done_with command (reply_at rules journal command denied) ∷ []))
unfolding reply_at
answer_turn rules journal command todo done denied kind = ap (λ b. step_of rules denied journal (idle ∷ lane_with (command ∷ todo) None done ∷ []) 1 done command todo b None) kind

-- and one with a pin in its second, when the journal is still that of the pin
pin_turn : (rules : Rules) (journal : List Entry) (command : Command) (todo : List Command) (done : List Done) → has_pin command.task ≡ true
    → step rules (alone journal (lane_with (command ∷ todo) None done)) (1, false) ≡ alone journal (lane_with (command ∷ todo) (Some (length journal)) done)
pin_turn rules journal command todo done kind = ap (λ b. step_of rules false journal (idle ∷ lane_with (command ∷ todo) None done ∷ []) 1 done command todo b None) kind

pinned_turn : (rules : Rules) (journal : List Entry) (command : Command) (todo : List Command) (done : List Done) (denied : Bool) → has_pin command.task ≡ true
    → step rules (alone journal (lane_with (command ∷ todo) (Some (length journal)) done)) (1, denied)
    ≡ alone (journal ++ entries_of rules journal command (reply_at rules journal command denied)) (lane_with todo None (done ++ done_with command (reply_at rules journal command denied) ∷ []))
unfolding reply_at
pinned_turn rules journal command todo done denied kind =
    let lanes : List Lane = idle ∷ lane_with (command ∷ todo) (Some (length journal)) done ∷ [] in
    let whole : take (length journal) journal ≡ journal = ap (take (length journal)) (sym (append-nil journal)) ∙ take-append_seam journal [] in
    ap (λ b. step_of rules denied journal lanes 1 done command todo b (Some (length journal))) kind
    ∙ ap (λ pinned. answered rules denied journal lanes 1 done command todo pinned) whole

-- ---- all commands

-- what lane 1 played after a record: these turns give it all its answers
record Plays (rules : Rules) (n : ℕ) (others : List ℕ) (commands : List Command) (done : List Done) (before after : RunRecord) : Type 0 where
  turns : List Bool
  more : List Done
  ends : runs rules n others turns (alone before.journal (lane_with commands None done)) ≡ alone after.journal (lane_with [] None (done ++ more))
  size : length more ≡ length commands
  is : after ≡ record before { journal = after.journal; answers = before.answers ++ answers_of more }

-- the rest after one command
after_one : (rules : Rules) (n m : ℕ) (others : List ℕ) (first : List Bool) (command : Command) (commands : List Command) (done : List Done) (before after : RunRecord) (denied : Bool)
    → ((turns : List Bool) → runs rules n others (first ++ turns) (alone before.journal (lane_with (command ∷ commands) None done))
    ≡ runs rules m others turns (alone (after_command rules before command denied).journal (lane_with commands None (done ++ done_with command (reply_at rules before.journal command denied) ∷ []))))
    → Plays rules m others commands (done ++ done_with command (reply_at rules before.journal command denied) ∷ []) (after_command rules before command denied) after
    → Plays rules n others (command ∷ commands) done before after
unfolding reply_at
after_one rules n m others first command commands done before after denied goes rest =
    let d : Done = done_with command (reply_at rules before.journal command denied) in
    record {
      turns = first ++ rest.turns;
      more = d ∷ rest.more;
      ends = goes rest.turns ∙ rest.ends ∙ ap (λ ds. alone after.journal (lane_with [] None ds)) (append_assoc done (d ∷ []) rest.more);
      size = omega (arith, rest.size);
      is = rest.is ∙ ap (λ answers. record before { journal = after.journal; answers = answers }) (append_assoc before.answers (answers_of (d ∷ [])) (answers_of rest.more));
    }

-- one command, and then the rest
first_plays : (rules : Rules) (n : ℕ) (others : List ℕ) (command : Command) (commands : List Command) (done : List Done) (before after : RunRecord) (denied b : Bool) → has_pin command.task ≡ b
    → ((m : ℕ) → 2 * length commands ≤ m → Plays rules m others commands (done ++ done_with command (reply_at rules before.journal command denied) ∷ []) (after_command rules before command denied) after)
    → 2 * length (command ∷ commands) ≤ n → Plays rules n others (command ∷ commands) done before after
unfolding reply_at
first_plays rules zero others command commands done before after denied b kind rest enough = absurd (omega (arith, enough))
first_plays rules (suc n) others command commands done before after denied false kind rest enough =
    after_one rules (suc n) n others (denied ∷ []) command commands done before after denied
    (λ turns. ap (runs rules n others turns) (answer_turn rules before.journal command commands done denied kind)) (rest n (omega (arith, enough)))
first_plays rules (suc zero) others command commands done before after denied true kind rest enough = absurd (omega (arith, enough))
first_plays rules (suc (suc n)) others command commands done before after denied true kind rest enough =
    after_one rules (suc (suc n)) n others (false ∷ denied ∷ []) command commands done before after denied
    (λ turns. ap (λ (state : Play). runs rules n others turns (step rules state (1, denied))) (pin_turn rules before.journal command commands done kind)
    ∙ ap (runs rules n others turns) (pinned_turn rules before.journal command commands done denied kind)) (rest n (omega (arith, enough)))

-- What lane 1 plays if it has enough turns: its commands in turn.
lane_plays : (rules : Rules) (others : List ℕ) (commands : List Command) (denials : List Bool) (n : ℕ) (done : List Done) (before : RunRecord) → 2 * length commands ≤ n
    → Plays rules n others commands done before (in_turn rules commands denials before)
unfolding in_turn
lane_plays rules others [] denials n done before enough = record {
  turns = [];
  more = [];
  ends = idle_turns rules before.journal done (turns_left n others) ∙ ap (λ ds. alone before.journal (lane_with [] None ds)) (sym (append-nil done));
  size = refl;
  is = ap (λ answers. record before { answers = answers }) (sym (append-nil before.answers));
}
lane_plays rules others (command ∷ commands) [] n done before enough =
    first_plays rules n others command commands done before (in_turn rules commands [] (after_command rules before command false)) false (has_pin command.task) refl
    (λ m le. lane_plays rules others commands [] m _ (after_command rules before command false) le) enough
lane_plays rules others (command ∷ commands) (denied ∷ denials) n done before enough =
    first_plays rules n others command commands done before (in_turn rules commands denials (after_command rules before command denied)) denied (has_pin command.task) refl
    (λ m le. lane_plays rules others commands denials m _ (after_command rules before command denied) le) enough

-- ---- a batch

own_commands : (batch : Batch) → IsOneLane batch → filter (λ command. command.lane == 1) batch ≡ batch
own_commands [] one = refl
own_commands (command ∷ batch) one =
    let own : (command.lane == 1) ≡ true = grind (arith, nat_tests, one.0) in
    ap (λ b. cond b (command ∷ filter (λ command. command.lane == 1) batch) (filter (λ command. command.lane == 1) batch)) own ∙ ap (λ commands. command ∷ commands) (own_commands batch one.1)

-- lane 1's answers are the batch's
gathered_one : (batch : Batch) (done : List Done) → IsOneLane batch → length done ≡ length batch → gathered batch ([] ∷ done ∷ []) ≡ done
gathered_one [] [] one same = refl
gathered_one [] (d ∷ done) one same = absurd (omega (arith, same))
gathered_one (command ∷ batch) [] one same = absurd (omega (arith, same))
gathered_one (command ∷ batch) (d ∷ done) one same =
    let lists : List (List Done) = [] ∷ (d ∷ done) ∷ [] in
    ap (λ (l : ℕ). take 1 (get_or lists l []) ++ gathered batch (slice_set lists l (drop 1 (get_or lists l [])))) one.0 ∙ ap (λ ds. d ∷ ds) (gathered_one batch done one.1 (omega (arith, same)))

-- the record after a batch whose play ends with these answers of lane 1
record_of_one : (before after : RunRecord) (batch : Batch) (done : List Done) (state : Play) → IsOneLane batch → state ≡ alone after.journal (lane_with [] None done) → length done ≡ length batch
    → after ≡ record before { journal = after.journal; answers = before.answers ++ answers_of done } → record_after before (batch ++ []) state ≡ with_sync after
record_of_one before after batch done state one ends size is =
    ap (λ s. record_after before (batch ++ []) s) ends
    ∙ ap (λ ds. record before { journal = after.journal; answers = before.answers ++ answers_of ds; syncs = before.syncs ++ length after.journal ∷ [] })
    (ap (λ commands. gathered commands ([] ∷ done ∷ [])) (append-nil batch) ∙ gathered_one batch done one size)
    ∙ sym (ap with_sync is)

-- A batch of one lane is played one command after another.
pub in_turn_played : (rules : Rules) (batch : Batch) (denials : List Bool) (before : RunRecord) → IsOneLane batch
    → (turns : List Bool) × (batch_after rules 1 batch [] [] turns before ≡ with_sync (in_turn rules batch denials before))
unfolding play
in_turn_played rules batch denials before one =
    let n : ℕ = 2 * (length batch + length {A = Command} []) in
    let others : List ℕ = replicate n 0 ++ [] in
    let ran = lane_plays rules others batch denials n [] before (omega arith) in
    let ends = ap (λ todo. runs rules n others ran.turns (alone before.journal (lane_with todo None []))) (own_commands batch one) ∙ ran.ends in
    (ran.turns, record_of_one before (in_turn rules batch denials before) batch ran.more _ one ends ran.size ran.is)
