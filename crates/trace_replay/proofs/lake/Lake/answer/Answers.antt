use Rattle.std.proofs.Common.{◌≡◌, ap, sym, ◌∙◌, ◌+◌, subst, false}
use Rattle.script_model.specs.Commands.{Merge, command_with}
use Rattle.record_model.specs.Play.{who_of}
use Rattle.run_record.specs.Callers.{who_by}
use Rattle.run_record.specs.Replies.{reply_of}
use Rattle.trace_hints.specs.Told.{hint_as}
use Rattle.std.proofs.lemmas.Result.{IfOk-weaker}
use Rattle.trace_numbers.specs.Turns.{made_at}
use Rattle.trace_replay.specs.Lakes.{IsAt, Keeps, LakeOf, hint_at}
use Rattle.trace_replay.proofs.LakeLemmas.{IsOf, behind_look, behind_owner, told_complete, told_sound}
use Rattle.trace_replay.proofs.lake.Lake.answer.Goals as goal

-- what is compared belongs to the answer with the index
made : (c : goal.After-is_told) → IsOf c.args.trace.now c.args.index c.args.self.now (who_by c.by.result) (hint_as c.hint.result) (reply_of c.in_ok-reply.reply) c.text.result.now
made c = record {
  who_is = c.by.ensures ∙ ap who_of (sym (c.work.ensures (command_with 0 0 (Merge false))));
  hint_is = c.hint.ensures;
  reply_is = c.in_ok-reply.ensures.answered;
  text_is = c.text.ensures;
}

pub returns-clause-sound : goal.returns-clause-sound
returns-clause-sound c =
    IfOk-weaker c.is_told.result _ _
    (λ value sound yes. told_sound c.fronts_law.ensures.reply c.args.trace.now c.args.index c.args.self.now _ _ _ _ c.positions.ensures c.requires.at (made c) (sound yes)) c.is_told.ensures.sound

pub returns-clause-complete : goal.returns-clause-complete
returns-clause-complete c =
    IfOk-weaker c.is_told.result _ _
    (λ value complete told. complete (told_complete c.fronts_law.ensures.reply c.args.trace.now c.args.index c.args.self.now _ _ _ _ c.positions.ensures c.requires.at (made c) told)) c.is_told.ensures.complete

pub returns-clause-looks : goal.returns-clause-looks
returns-clause-looks c =
    let trace = c.args.trace.now in
    IfOk-weaker c.is_told.result _ _
    (λ value sound yes none. subst (IsAt trace (made_at (hint_at trace c.args.index))) (sym c.self.view_is)
    (behind_look trace c.args.index (reply_of c.in_ok-reply.reply) c.args.self.now c.reply_again.new.self c.requires.at c.in_ok-reply.ensures.after ((sound yes).tells ∙ c.hint.ensures) none))
    c.is_told.ensures.sound

pub returns-clause-owns : goal.returns-clause-owns
returns-clause-owns c =
    let trace = c.args.trace.now in
    IfOk-weaker c.is_told.result _ _
    (λ value sound yes owner. subst (IsAt trace (made_at (hint_at trace c.args.index) + 1)) (sym c.self.view_is)
    (behind_owner c.fronts_law.ensures.next trace c.args.index (reply_of c.in_ok-reply.reply) c.args.self.now c.reply_again.new.self c.positions.ensures.one_each c.requires.at c.in_ok-reply.ensures.after c.in_ok-reply.ensures.answered
    ((sound yes).tells ∙ c.hint.ensures) owner))
    c.is_told.ensures.sound

pub returns-clause-others : goal.returns-clause-others
returns-clause-others c =
    IfOk-weaker c.is_told.result _ _ (λ value sound. subst (λ (l : LakeOf). Keeps (λ i. i ≡ c.args.index) c.args.self.now.held l.held) (sym c.self.view_is) c.in_ok-reply.ensures.after.others) c.is_told.ensures.sound
