use Rattle.std.proofs.Common.{ap, sym, ◌∙◌, ◌≡◌, get_or, length, []}
use Rattle.std.proofs.lemmas.Result.{IfOk-weaker}
use Rattle.trace_replay.proofs.ReplayLemmas.{all_told, replay_complete, replay_sound}
use Rattle.trace_replay.proofs.replaying.replay_in.Goals as goal

pub returns-then-not-branch-clause-complete : goal.returns-then-not-branch-clause-complete
returns-then-not-branch-clause-complete c is = sym c.if-not-branch.true ∙ c.in_ok-replay_all.ensures.complete (all_told c.args.trace.now is)

-- the lines of the last group
last : (c : goal.After-has_journal) → c.text.result.now ≡ get_or c.args.trace.now.texts (length c.args.trace.now.commands) []
last c = c.text.ensures ∙ ap (λ n. get_or c.args.trace.now.texts n []) c.last.ensures

pub returns-clause-sound : goal.returns-clause-sound
returns-clause-sound c =
    IfOk-weaker c.has_journal.result _ _
    (λ value sound fine. replay_sound c.args.trace.now c.args.owners.now c.replay_all.new.lake c.positions.ensures c.requires.owners (c.in_ok-replay_all.ensures.at c.if-not-branch.false)
    (c.in_ok-replay_all.ensures.sound c.if-not-branch.false) (sym (last c) ∙ sound fine) c.has_journal.ensures.legal)
    c.has_journal.ensures.sound

pub returns-clause-complete : goal.returns-clause-complete
returns-clause-complete c =
    IfOk-weaker c.has_journal.result _ _
    (λ value complete is. complete (last c ∙ replay_complete c.args.trace.now c.args.owners.now c.replay_all.new.lake c.positions.ensures c.requires.owners (c.in_ok-replay_all.ensures.at c.if-not-branch.false) is))
    c.has_journal.ensures.complete
