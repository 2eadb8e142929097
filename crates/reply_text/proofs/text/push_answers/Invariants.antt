use Rattle.std.proofs.Common.{◌≡◌, ◌++◌, take}
use Rattle.record_model.specs.Texts.{answers_text}
use Rattle.reply_text.proofs.text.push_answers.Given as goal

abbrev pub invariant-loop-answer : goal.invariant-loop-answer
invariant-loop-answer l = l.into.items ≡ l.initial.into.items ++ answers_text l.trace (take l.answer-index l.answers)
