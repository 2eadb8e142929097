-- The answers gathered from the seats.
use Rattle.std.proofs.Common.{◌≡◌, refl, ap, sym, ◌∙◌, subst, ℕ, zero, suc, ◌+◌, ◌<◌, ◌≤◌, List, [], ◌∷◌, ◌++◌, append_assoc, append-nil, length, take, drop, map, get_or, Option, arith}
use Rattle.std.specs.Prelude.{slice_set, option_to_list}
use Rattle.std.proofs.lemmas.List.{drop_all, get_or-map, length-map, get_or_default}
use Rattle.batch_work.specs.declared.work.Work.{Work}
use Rattle.script_model.specs.Commands.{Command}
use Rattle.record_model.specs.Record.{Answered}
use Rattle.record_model.specs.Play.{Done, answers_of, gathered}
use Rattle.batch_work.specs.Works.{work_of, works_of}
use Rattle.batch_work.proofs.GatherLemmas.{gathered_next}

-- writing what is already there changes nothing
pub set_same : {X : Type 0} (xs : List X) (n : ℕ) (x : X) → n < length xs → get_or xs n x ≡ x → slice_set xs n x ≡ xs
set_same [] n x within is = refl
set_same (y ∷ xs) zero x within is = ap (λ z. z ∷ xs) (sym is)
set_same (y ∷ xs) (suc n) x within is = ap (λ zs. y ∷ zs) (set_same xs n x (omega (arith, within)) is)

pub set_same_map : {X Y : Type 0} (f : X → Y) (xs : List X) (n : ℕ) (x : X) → n < length xs → slice_set (map f xs) n (f (get_or xs n x)) ≡ map f xs
set_same_map f xs n x within =
    set_same (map f xs) n (f (get_or xs n x)) (omega (arith, within, length-map xs f))
    (get_or-map f xs n (get_or xs n x) (f (get_or xs n x)) within ∙ ap f (get_or_default xs n (get_or xs n x) x within))

-- how far the answers were gathered: those of the first n commands, with room for the rest
pub record Gathers (commands : List Command) (n : ℕ) (lists now : List (List Done)) (room : ℕ) (answers : List Answered) : Type 0 where
  pub rest : answers ++ answers_of (gathered (drop n commands) now) ≡ answers_of (gathered commands lists)
  pub few : length answers ≤ n
  pub within : length commands ≤ room

-- the answer to the next work, if there is one
pub gathers_more : (works : List Work) (n : ℕ) (work : Work) (l : ℕ) (lists now later : List (List Done)) (room roomy : ℕ) (answers after : List Answered) (answer : Option Answered)
    → Gathers (works_of works) n lists now room answers → n < length works → work ≡ get_or works n work → l ≡ (work_of work).lane
    → option_to_list answer ≡ answers_of (take 1 (get_or now l []))
    → later ≡ slice_set now l (drop 1 (get_or now l []))
    → after ≡ answers ++ option_to_list answer → length after ≤ length answers + 1 → room ≡ roomy
    → Gathers (works_of works) (n + 1) lists later roomy after
gathers_more works n work l lists now later room roomy answers after answer so_far within found at given rest makes one same =
    let others : List Answered = answers_of (gathered (drop (n + 1) (works_of works)) later) in
    record {
      rest = ap (λ (xs : List Answered). xs ++ others) makes
          ∙ append_assoc answers (option_to_list answer) others
          ∙ ap (λ (xs : List Answered). answers ++ xs) (sym (gathered_next works n l now later work answer within found at given rest))
          ∙ so_far.rest;
      few = omega (arith, so_far.few, one);
      within = omega (arith, so_far.within, same);
    }

pub gathers_none : (commands : List Command) (lists : List (List Done)) (room : ℕ) (answers : List Answered) → answers ≡ [] → length commands ≤ room → Gathers commands 0 lists lists room answers
gathers_none commands lists room answers none within =
    subst (Gathers commands 0 lists lists room) (sym none) (record { rest = refl; few = omega arith; within = within })

pub gathers_all : (commands : List Command) (n : ℕ) (lists now : List (List Done)) (room : ℕ) (answers : List Answered) → Gathers commands n lists now room answers → length commands ≤ n
    → answers ≡ answers_of (gathered commands lists)
gathers_all commands n lists now room answers so_far all =
    sym (append-nil answers) ∙ sym (ap (λ (cs : List Command). answers ++ answers_of (gathered cs now)) (drop_all n commands all)) ∙ so_far.rest
