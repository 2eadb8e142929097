use Rattle.std.proofs.Common.{◌≡◌, ◌+◌, length}
use Rattle.lake_desk.specs.Together.{with_entries}
use Rattle.lake_desk.proofs.batch.add_entries.Given as goal

abbrev pub invariant-loop-entry : goal.invariant-loop-entry
invariant-loop-entry l =
    (l.out.made ≡ with_entries l.yielded l.initial.out.made)
    × (l.out.entries_room + length l.yielded ≡ l.initial.out.entries_room)
    × (l.out.answers_room ≡ l.initial.out.answers_room)
    × (l.out.syncs_room ≡ l.initial.out.syncs_room)
    × goal.iterator-loop-entry.can_next l.entry-iterator
    × goal.iterator-loop-entry.is_finite l.entry-iterator
