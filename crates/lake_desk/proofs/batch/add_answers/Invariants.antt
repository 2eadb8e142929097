use Rattle.std.proofs.Common.{◌≡◌, ◌+◌, length}
use Rattle.lake_desk.proofs.batch.add_answers.Given as goal
use Rattle.record_model.specs.InTurn.{with_answers}

abbrev pub invariant-loop-answer : goal.invariant-loop-answer
invariant-loop-answer l =
    (l.out.made ≡ with_answers l.yielded l.initial.out.made)
    × (l.out.answers_room + length l.yielded ≡ l.initial.out.answers_room)
    × (l.out.entries_room ≡ l.initial.out.entries_room)
    × (l.out.syncs_room ≡ l.initial.out.syncs_room)
    × goal.iterator-loop-answer.can_next l.answer-iterator
    × goal.iterator-loop-answer.is_finite l.answer-iterator
