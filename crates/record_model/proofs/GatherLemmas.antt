-- The answers of a batch, gathered from its lanes.
use Rattle.std.proofs.Common.{◌≡◌, refl, ap, sym, ◌∙◌, subst, ℕ, zero, suc, List, [], ◌∷◌, ◌++◌, Bool, true, false, take, drop, cond, arith, get_or}
use Rattle.std.specs.Prelude.{◌==◌, slice_set, filter}
use Rattle.std.proofs.lemmas.Bool.Decides.{nat_tests}
use Rattle.script_model.specs.Commands.{Command}
use Rattle.record_model.specs.Play.{Done, gathered}
use Rattle.record_model.specs.Lanes.{commands_in, lane_commands}
use Rattle.std.proofs.lemmas.Bool.{eq-eqb}

-- each lane's list has its commands
abbrev pub AreLists : List Command → List (List Done) → Type 0
AreLists commands lists = (l : ℕ) → commands_in (get_or lists l []) ≡ lane_commands l commands

set_same : (lists : List (List Done)) (m : ℕ) (d : Done) (ds new : List Done) → get_or lists m [] ≡ d ∷ ds → get_or (slice_set lists m new) m [] ≡ new
set_same [] m d ds new e = cc
set_same (x ∷ lists) zero d ds new e = refl
set_same (x ∷ lists) (suc m) d ds new e = set_same lists m d ds new e

set_other : (lists : List (List Done)) (m l : ℕ) (new : List Done) → (m == l) ≡ false → get_or (slice_set lists m new) l [] ≡ get_or lists l []
set_other [] m l new e = refl
set_other (x ∷ lists) zero zero new e = absurd (let f : (0 == 0) ≡ false = e in cc)
set_other (x ∷ lists) zero (suc l) new e = refl
set_other (x ∷ lists) (suc m) zero new e = refl
set_other (x ∷ lists) (suc m) (suc l) new e = set_other lists m l new (let z : (m == l) ≡ false = grind (arith, nat_tests, e) in z)

record IsNext (command : Command) (commands : List Command) (lists : List (List Done)) : Type 0 where
  first : Done
  others : List Done
  list : get_or lists command.lane [] ≡ first ∷ others
  is : first.command ≡ command
  rest : commands_in others ≡ lane_commands command.lane commands

next : (command : Command) (commands : List Command) (lists : List (List Done)) → AreLists (command ∷ commands) lists → IsNext command commands lists
next command commands lists h = by (get_or lists command.lane []) refl (h command.lane ∙ ap (λ b. cond b (command ∷ lane_commands command.lane commands) (lane_commands command.lane commands)) (eq-eqb command.lane command.lane refl))
  where
    by : (done : List Done) → get_or lists command.lane [] ≡ done → commands_in done ≡ command ∷ lane_commands command.lane commands → IsNext command commands lists
    by [] e k = absurd (let f : [] ≡ command ∷ lane_commands command.lane commands = k in cc)
    by (d ∷ ds) e k = record { first = d; others = ds; list = e; is = cc; rest = cc }

behind : (command : Command) (commands : List Command) (lists : List (List Done)) → AreLists (command ∷ commands) lists → (n : IsNext command commands lists) → AreLists commands (slice_set lists command.lane n.others)
behind command commands lists h n l = by (command.lane == l) refl
  where
    by : (b : Bool) → (command.lane == l) ≡ b → commands_in (get_or (slice_set lists command.lane n.others) l []) ≡ lane_commands l commands
    by true e =
        let same : command.lane ≡ l = grind (arith, nat_tests, e) in
        subst (λ (m : ℕ). commands_in (get_or (slice_set lists command.lane n.others) m []) ≡ lane_commands m commands) same
        (ap commands_in (set_same lists command.lane n.first n.others n.others n.list) ∙ n.rest)
    by false e =
        ap commands_in (set_other lists command.lane l n.others e)
        ∙ h l ∙ ap (λ b. cond b (command ∷ lane_commands l commands) (lane_commands l commands)) e

step_is : (command : Command) (commands : List Command) (lists : List (List Done)) → (n : IsNext command commands lists) → gathered (command ∷ commands) lists ≡ n.first ∷ gathered commands (slice_set lists command.lane n.others)
step_is command commands lists n = ap (λ (done : List Done). take 1 done ++ gathered commands (slice_set lists command.lane (drop 1 done))) n.list

-- The answers are those of the commands, in their order,
pub gathered_commands : (commands : List Command) (lists : List (List Done)) → AreLists commands lists → commands_in (gathered commands lists) ≡ commands
gathered_commands [] lists h = refl
gathered_commands (command ∷ commands) lists h =
    let n = next command commands lists h in
    ap commands_in (step_is command commands lists n)
    ∙ ap (λ (c : Command). c ∷ commands_in (gathered commands (slice_set lists command.lane n.others))) n.is
    ∙ ap (λ (cs : List Command). command ∷ cs) (gathered_commands commands (slice_set lists command.lane n.others) (behind command commands lists h n))

-- and those of one lane are the lane's.
pub gathered_lane : (commands : List Command) (lists : List (List Done)) (l : ℕ) → AreLists commands lists → filter (λ (d : Done). d.command.lane == l) (gathered commands lists) ≡ get_or lists l []
gathered_lane [] lists l h = by (get_or lists l []) (h l)
  where
    by : (done : List Done) → commands_in done ≡ [] → [] ≡ done
    by [] e = refl
    by (d ∷ ds) e = cc
gathered_lane (command ∷ commands) lists l h =
    let n = next command commands lists h in
    ap (filter (λ (d : Done). d.command.lane == l)) (step_is command commands lists n)
    ∙ by n (command.lane == l) refl (gathered_lane commands (slice_set lists command.lane n.others) l (behind command commands lists h n))
  where
    by : (n : IsNext command commands lists) (b : Bool) → (command.lane == l) ≡ b
        → filter (λ (d : Done). d.command.lane == l) (gathered commands (slice_set lists command.lane n.others)) ≡ get_or (slice_set lists command.lane n.others) l []
        → filter (λ (d : Done). d.command.lane == l) (n.first ∷ gathered commands (slice_set lists command.lane n.others)) ≡ get_or lists l []
    by n true e k =
        let same : command.lane ≡ l = grind (arith, nat_tests, e) in
        let own : (n.first.command.lane == l) ≡ true = ap (λ (c : Command). c.lane == l) n.is ∙ e in
        let rest : List Done = filter (λ (d : Done). d.command.lane == l) (gathered commands (slice_set lists command.lane n.others)) in
        ap (λ b. cond b (n.first ∷ rest) rest) own
        ∙ ap (λ (ds : List Done). n.first ∷ ds) (k ∙ subst (λ (m : ℕ). get_or (slice_set lists command.lane n.others) m [] ≡ n.others) same (set_same lists command.lane n.first n.others n.others n.list))
        ∙ sym n.list ∙ ap (λ (m : ℕ). get_or lists m []) same
    by n false e k =
        let own : (n.first.command.lane == l) ≡ false = ap (λ (c : Command). c.lane == l) n.is ∙ e in
        let rest : List Done = filter (λ (d : Done). d.command.lane == l) (gathered commands (slice_set lists command.lane n.others)) in
        ap (λ b. cond b (n.first ∷ rest) rest) own ∙ k ∙ set_other lists command.lane l n.others e
