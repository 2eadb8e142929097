-- The answers of a batch gathered from its lanes.
use Rattle.std.proofs.Common.{◌≡◌, refl, ap, sym, ◌∙◌, ℕ, ◌+◌, ◌<◌, ◌≤◌, List, [], append_assoc, append-nil, length, take, drop, map, get_or, Option, arith}
use Rattle.std.specs.Prelude.{slice_set, option_to_list}
use Rattle.std.proofs.lemmas.List.{drop_all}
use Rattle.run_record.specs.Rooms.{RecordOf}
use Rattle.script_model.specs.Commands.{Command}
use Rattle.record_model.specs.Record.{Answered, RunRecord}
use Rattle.record_model.specs.Play.{Done, answers_of, gathered}
use Rattle.batch_work.specs.declared.work.Work.{Work}
use Rattle.batch_work.specs.Works.{work_of, works_of}
use Rattle.lake_core.specs.Lanes.{LaneOf, done_in}
use Rattle.batch_work.proofs.GatherLemmas.{gathered_next}
use Rattle.record_model.specs.InTurn.{with_answers}

abbrev pub lists_of : List LaneOf → List (List Done)
lists_of lanes = map done_in lanes

-- how far the answers were gathered: those of the first n commands, with room for the rest
pub record Gathers (commands : List Command) (n : ℕ) (lanes now : List LaneOf) (before out : RecordOf) : Type 0 where
  pub rest : with_answers (answers_of (gathered (drop n commands) (lists_of now))) out.made ≡ with_answers (answers_of (gathered commands (lists_of lanes))) before.made
  pub room : length commands ≤ out.answers_room + n
  pub syncs : out.syncs_room ≡ before.syncs_room

pub with_none : (made : RunRecord) → made ≡ with_answers [] made
with_none made = λ i. record made { answers = sym (append-nil made.answers) i }

-- the answer to the next work, if there is one
pub gathers_work : (works : List Work) (n l : ℕ) (lanes now later : List LaneOf) (before out after : RecordOf) (item : Work) (answer : Option Answered)
    → Gathers (works_of works) n lanes now before out → n < length works → item ≡ get_or works n item → l ≡ (work_of item).lane
    → option_to_list answer ≡ answers_of (take 1 (get_or (lists_of now) l []))
    → lists_of later ≡ slice_set (lists_of now) l (drop 1 (get_or (lists_of now) l []))
    → after.made ≡ with_answers (option_to_list answer) out.made → out.answers_room ≤ after.answers_room + 1 → after.syncs_room ≡ out.syncs_room
    → Gathers (works_of works) (n + 1) lanes later before after
gathers_work works n l lanes now later before out after item answer so_far within is at answers rest makes room syncs =
    let others : List Answered = answers_of (gathered (drop (n + 1) (works_of works)) (lists_of later)) in
    let all = gathered_next works n l (lists_of now) (lists_of later) item answer within is at answers rest in
    record {
      rest = ap (with_answers others) makes
          ∙ ap (λ (xs : List Answered). record out.made { answers = xs }) (append_assoc out.made.answers (option_to_list answer) others)
          ∙ ap (λ (xs : List Answered). with_answers xs out.made) (sym all)
          ∙ so_far.rest;
      room = omega (arith, room, so_far.room);
      syncs = syncs ∙ so_far.syncs;
    }

pub gathers_none : (commands : List Command) (lanes : List LaneOf) (out : RecordOf) → length commands ≤ out.answers_room → Gathers commands 0 lanes lanes out out
gathers_none commands lanes out room = record { rest = refl; room = omega (arith, room); syncs = refl }

pub gathers_all : (commands : List Command) (n : ℕ) (lanes now : List LaneOf) (before out : RecordOf) → Gathers commands n lanes now before out → length commands ≤ n
    → out.made ≡ with_answers (answers_of (gathered commands (lists_of lanes))) before.made
gathers_all commands n lanes now before out so_far all =
    sym (ap (λ (xs : List Answered). record out.made { answers = xs }) (append-nil out.made.answers))
    ∙ sym (ap (λ (cs : List Command). with_answers (answers_of (gathered cs (lists_of now))) out.made) (drop_all n commands all))
    ∙ so_far.rest
