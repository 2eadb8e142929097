-- The answers to work, gathered from lists of what was done, one list for each lane.
use Rattle.std.proofs.Common.{◌≡◌, ap, sym, ◌∙◌, ℕ, suc, ◌+◌, ◌<◌, List, [], ◌∷◌, ◌++◌, length, take, drop, get_or, Option, arith}
use Rattle.std.specs.Prelude.{slice_set, option_to_list}
use Rattle.std.proofs.Math.Seq.{drop-cons}
use Rattle.std.proofs.lemmas.List.{map-append}
use Rattle.script_model.specs.Commands.{Command}
use Rattle.record_model.specs.Record.{Answered}
use Rattle.record_model.specs.Play.{Done, answers_of, gathered}
use Rattle.batch_work.specs.declared.work.Work.{Work}
use Rattle.batch_work.specs.Works.{work_of, works_of}
use Rattle.batch_work.proofs.WorkLemmas.{work_at, works_long}

-- The answers to the work from the n-th on are the next answer of its lane, if there is one, and then those to the work
-- after it.
pub gathered_next : (works : List Work) (n l : ℕ) (now later : List (List Done)) (item : Work) (answer : Option Answered)
    → n < length works → item ≡ get_or works n item → l ≡ (work_of item).lane
    → option_to_list answer ≡ answers_of (take 1 (get_or now l []))
    → later ≡ slice_set now l (drop 1 (get_or now l []))
    → answers_of (gathered (drop n (works_of works)) now) ≡ option_to_list answer ++ answers_of (gathered (drop (n + 1) (works_of works)) later)
gathered_next works n l now later item answer within found at given rest =
    let command = work_of item in
    let commands = works_of works in
    let next : suc n ≡ n + 1 = omega arith in
    let far : n < length commands = omega (arith, within, works_long works) in
    let is : command ≡ get_or commands n command = work_at works n item found within in
    let first : drop n commands ≡ command ∷ drop (n + 1) commands = drop-cons commands n command far ∙ (λ i. sym is i ∷ drop (next i) commands) in
    let own : List Done = take 1 (get_or now command.lane []) in
    let others : List Done = gathered (drop (n + 1) commands) later in
    ap (λ (cs : List Command). answers_of (gathered cs now)) first
    ∙ ap (λ (ls : List (List Done)). answers_of (own ++ gathered (drop (n + 1) commands) ls)) (sym (rest ∙ ap (λ (k : ℕ). slice_set now k (drop 1 (get_or now k []))) at))
    ∙ map-append _ own others
    ∙ ap (λ (xs : List Answered). xs ++ answers_of others) (sym (given ∙ ap (λ (k : ℕ). answers_of (take 1 (get_or now k []))) at))
