use Rattle.std.proofs.Common.{ap, ◌∙◌, false, length}
use Rattle.script_model.specs.Commands.{Merge, command_with}
use Rattle.trace_replay.specs.Lakes.{LakeOf}
use Rattle.trace_replay.proofs.LakeLemmas.{all_left, begun_for, held_early, left_of, plain_position, taken_from}
use Rattle.trace_replay.proofs.lake.Lake.held_for.Goals as goal

pub take_held-requires : goal.take_held-requires
take_held-requires c =
    held_early c.args.trace.now c.args.self.now c.self.inside.held.items c.args.index _ c.requires.ready (ap (λ (l : LakeOf). l.held) c.self.view_is) c.hint.ensures (c.is_early.ensures.yes c.if-is_early.true)

pub returns-then-is_early-clause-holds : goal.returns-then-is_early-clause-holds
returns-then-is_early-clause-holds c =
    let taken = taken_from c.args.trace.now c.args.self.now c.self.inside.held.items c.args.index c.take_held.result c.requires.at.held (ap (λ (l : LakeOf). l.held) c.self.view_is) c.take_held.ensures.taken in
    taken.holds

pub returns-then-is_early-clause-position : goal.returns-then-is_early-clause-position
returns-then-is_early-clause-position c =
    let taken = taken_from c.args.trace.now c.args.self.now c.self.inside.held.items c.args.index c.take_held.result c.requires.at.held (ap (λ (l : LakeOf). l.held) c.self.view_is) c.take_held.ensures.taken in
    taken.position

pub returns-then-is_early-clause-left : goal.returns-then-is_early-clause-left
returns-then-is_early-clause-left c = left_of c.args.index c.args.self.now _ _ c.self.inside.held.items c.take_held.new.held.items _ c.self.view_is c.take_held.ensures.left c.take_held.ensures.others

pub returns-else-is_early-clause-holds : goal.returns-else-is_early-clause-holds
returns-else-is_early-clause-holds c =
    begun_for c.args.trace.now c.args.index _ c.self.inside.catalogue.journal c.args.self.now.journal c.begin.result (c.work.ensures (command_with 0 0 (Merge false))) (ap (λ (l : LakeOf). l.journal) c.self.view_is)
    c.begin.ensures.held

pub returns-else-is_early-clause-position : goal.returns-else-is_early-clause-position
returns-else-is_early-clause-position c =
    plain_position c.args.trace.now _ c.args.index c.args.self.now _ (c.positions.ensures.each c.args.index) c.requires.at (c.begin.ensures.position ∙ ap (λ (l : LakeOf). length l.journal) c.self.view_is) c.hint.ensures
    (c.is_early.ensures.no c.if-is_early.false)

pub returns-else-is_early-clause-left : goal.returns-else-is_early-clause-left
returns-else-is_early-clause-left c = all_left c.args.index c.args.self.now
