use Rattle.std.proofs.Common.{◌+◌, ap, sym, subst, List, length, arith}
use Rattle.std.specs.Prelude.{slice_set}
use Rattle.lake_model.specs.Journal.{Entry}
use Rattle.turn_lock.specs.History.{IsOfGiven}
use Rattle.lake.specs.Lawful.{caller_of, IsLawful}
use Rattle.lake_desk.specs.Gathered.{AllMeet}
use Rattle.lake_desk.proofs.Settles.{apart_free, gathered_long, handed_meet, journal_whole, read_behind, read_given, read_lock, reads}
use Rattle.lake_desk.proofs.batch.settle.Goals as goal

pub gather-requires-clause-free : goal.gather-requires-clause-free
gather-requires-clause-free g c = apart_free c.args.out.now.made.options.lanes c.args.out.now.made.journal c.args.desks.now c.requires

pub journal-requires-2 : goal.journal-requires-2
journal-requires-2 g c =
    let long = gathered_long c.args.out.now.made.options.lanes c.args.out.now.made.journal c.args.desks.now c.gather.new.desks c.index-desks-0.result c.requires c.gather.ensures in
    record { seen = omega (arith, long, ap (λ (j : List Entry). length j) c.journal.ensures) }

pub hand_out-requires-clause-lock : goal.hand_out-requires-clause-lock
hand_out-requires-clause-lock g c =
    let has = reads c.args.out.now.made.options.lanes c.args.out.now.made.journal c.args.desks.now c.gather.new.desks c.index-desks-0.result c.journal-2.new.self c.requires c.gather.ensures c.journal-2.ensures.desk c.journal-2.ensures.grows in
    read_lock c.args.out.now.made.options.lanes c.args.out.now.made.journal c.args.desks.now (slice_set c.gather.new.desks 0 c.journal-2.new.self) c.journal-2.new.self c.requires has

pub hand_out-requires-clause-behind : goal.hand_out-requires-clause-behind
hand_out-requires-clause-behind g c =
    let has = reads c.args.out.now.made.options.lanes c.args.out.now.made.journal c.args.desks.now c.gather.new.desks c.index-desks-0.result c.journal-2.new.self c.requires c.gather.ensures c.journal-2.ensures.desk c.journal-2.ensures.grows in
    read_behind c.args.out.now.made.options.lanes c.args.out.now.made.journal c.args.desks.now (slice_set c.gather.new.desks 0 c.journal-2.new.self) c.journal-2.new.self has

pub returns-clause-meet : goal.returns-clause-meet
returns-clause-meet g c =
    let has = reads c.args.out.now.made.options.lanes c.args.out.now.made.journal c.args.desks.now c.gather.new.desks c.index-desks-0.result c.journal-2.new.self c.requires c.gather.ensures c.journal-2.ensures.desk c.journal-2.ensures.grows in
    subst (λ (j : List Entry). AllMeet j c.args.desks.now c.hand_out.new.desks) (sym (journal_whole c.args.out.now.made c.room.new.self.made c.add_batch.new.out.made c.args.answers.items c.in_ok-entries.entries.items c.journal.result.now c.journal-2.new.self.seen c.add_batch.ensures c.room.ensures.made c.journal.ensures c.in_ok-entries.ensures.entries has.journal_is))
    (handed_meet c.args.out.now.made.options.lanes c.args.out.now.made.journal c.args.desks.now (slice_set c.gather.new.desks 0 c.journal-2.new.self) c.hand_out.new.desks c.journal-2.new.self has c.hand_out.ensures)

pub returns-clause-callers : goal.returns-clause-callers
returns-clause-callers g c =
    let has = reads c.args.out.now.made.options.lanes c.args.out.now.made.journal c.args.desks.now c.gather.new.desks c.index-desks-0.result c.journal-2.new.self c.requires c.gather.ensures c.journal-2.ensures.desk c.journal-2.ensures.grows in
    subst (IsOfGiven caller_of (c.args.out.now.made.options.lanes + 1)) (sym (journal_whole c.args.out.now.made c.room.new.self.made c.add_batch.new.out.made c.args.answers.items c.in_ok-entries.entries.items c.journal.result.now c.journal-2.new.self.seen c.add_batch.ensures c.room.ensures.made c.journal.ensures c.in_ok-entries.ensures.entries has.journal_is))
    (read_given c.args.out.now.made.options.lanes c.args.out.now.made.journal c.args.desks.now (slice_set c.gather.new.desks 0 c.journal-2.new.self) c.journal-2.new.self c.index-desks-0-2.result has c.seen_are_of_given.ensures)

pub returns-clause-lawful : goal.returns-clause-lawful
returns-clause-lawful g c =
    let has = reads c.args.out.now.made.options.lanes c.args.out.now.made.journal c.args.desks.now c.gather.new.desks c.index-desks-0.result c.journal-2.new.self c.requires c.gather.ensures c.journal-2.ensures.desk c.journal-2.ensures.grows in
    subst (IsLawful g.B.Bounds.limits) (sym (journal_whole c.args.out.now.made c.room.new.self.made c.add_batch.new.out.made c.args.answers.items c.in_ok-entries.entries.items c.journal.result.now c.journal-2.new.self.seen c.add_batch.ensures c.room.ensures.made c.journal.ensures c.in_ok-entries.ensures.entries has.journal_is)) c.journal-2.ensures.lawful
