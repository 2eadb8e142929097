-- A lane's answers are right along a chain of steps, and between the journals before and after its batch.
use Rattle.std.proofs.Common.{◌≡◌, ap, sym, ◌∙◌, subst, ℕ, List, [], ◌∷◌, ◌++◌, append_assoc, append-nil, inl}
use Rattle.std.specs.List.{AllByRecursion}
use Rattle.std.proofs.lemmas.List.{append_cancel_left}
use Rattle.record_model.specs.Rules.{Rules}
use Rattle.lake_model.specs.Journal.{Entry}
use Rattle.turn_lock.specs.History.{Grows}
use Rattle.turn_lock.specs.Passes.{Known, after_seeing, callers_of}
use Rattle.lake.specs.Lawful.{caller_of}
use Rattle.script_model.specs.Commands.{Command}
use Rattle.record_model.specs.Play.{Done, done_with}
use Rattle.record_model.specs.Record.{Answered}
use Rattle.record_model.specs.Right.{IsRight, done_of}
use Rattle.record_model.proofs.RightLemmas.{right_on, right_stays}
use Rattle.lane_run.specs.Chains.{Chain}
use Rattle.lake_desk.specs.Answering.{IsStep}
use Rattle.lake_desk.proofs.Lanes.{kept_own, not_own}
use Rattle.record_model.proofs.StepLemmas.{none_done}

-- what a chain does to a lane
pub record Comes (rules : Rules) (lane : ℕ) (before : Known Entry) (done : List Done) (after : Known Entry) : Type 0 where
  pub behind : List Entry
  pub sees : after ≡ after_seeing before (before.seen ++ behind) before.holds
  pub right : IsRight rules lane before.seen behind done

seen_self : (pass : Known Entry) → pass ≡ after_seeing pass (pass.seen ++ []) pass.holds
seen_self pass = ap (λ (j : List Entry). after_seeing pass j pass.holds) (sym (append-nil pass.seen))

pub chain_right : (rules : Rules) (lane : ℕ) (before : Known Entry) (done : List Done) (after : Known Entry) → AllByRecursion (λ d. d.command.lane ≡ lane) done → lane ≡ before.caller
    → Chain (IsStep rules) before done after → Comes rules lane before done after
chain_right rules lane before [] after own is same = record {
  behind = [];
  sees = sym same ∙ seen_self before;
  right = none_done rules lane before.seen;
}
chain_right rules lane before (d ∷ done) after own is (between, here, later) =
    let rest = chain_right rules lane between done after own.1 (is ∙ ap (λ (p : Known Entry). p.caller) (sym here.sees)) later in
    let seen : between.seen ≡ before.seen ++ here.behind = ap (λ (p : Known Entry). p.seen) here.sees in
    let first : IsRight rules lane before.seen here.behind (done_with d.command d.reply ∷ []) = subst (λ (l : ℕ). IsRight rules l before.seen here.behind (done_with d.command d.reply ∷ [])) (sym is) (here.right (own.0 ∙ is)) in
    let second : IsRight rules lane (before.seen ++ here.behind) rest.behind done = subst (λ (j : List Entry). IsRight rules lane j rest.behind done) seen rest.right in
    record {
      behind = here.behind ++ rest.behind;
      sees = rest.sees
          ∙ ap (λ (p : Known Entry). after_seeing p (p.seen ++ rest.behind) p.holds) here.sees
          ∙ ap (λ (j : List Entry). after_seeing before j before.holds) (append_assoc before.seen here.behind rest.behind);
      right = right_on rules lane before.seen here.behind rest.behind (done_with d.command d.reply ∷ []) done first second;
    }

-- The answers of a lane are right between the journal before the batch and any journal to which the lane's list has grown.
pub lane_right : (rules : Rules) (lane : ℕ) (journal behind : List Entry) (commands : List Command) (answers : List Answered) (before after : Known Entry) → before.seen ≡ journal → lane ≡ before.caller
    → Chain (IsStep rules) before (done_of lane commands answers) after → Grows caller_of (callers_of after) after.seen (journal ++ behind)
    → IsRight rules lane journal behind (done_of lane commands answers)
lane_right rules lane journal behind commands answers before after seen is chain grows =
    let done = done_of lane commands answers in
    let comes = chain_right rules lane before done after (kept_own lane _) is chain in
    let right : IsRight rules lane journal comes.behind done = subst (λ (j : List Entry). IsRight rules lane j comes.behind done) seen comes.right in
    let mine : after.caller ≡ lane = ap (λ (p : Known Entry). p.caller) comes.sees ∙ sym is in
    let others = not_own lane (callers_of after) grows.rest (inl mine) grows.others in
    let whole : journal ++ (comes.behind ++ grows.rest) ≡ journal ++ behind =
    sym (append_assoc journal comes.behind grows.rest)
    ∙ ap (λ (j : List Entry). j ++ grows.rest) (sym (ap (λ (p : Known Entry). p.seen) comes.sees ∙ ap (λ (j : List Entry). j ++ comes.behind) seen))
    ∙ grows.begins in
    subst (λ (more : List Entry). IsRight rules lane journal more done) (append_cancel_left journal (comes.behind ++ grows.rest) behind whole)
    (right_stays rules lane journal comes.behind grows.rest done others right)
