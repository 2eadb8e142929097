use Rattle.std.proofs.Common.{rules, ◌≡◌, inr, refl, subst}
use Rattle.record_model.specs.Rules.{standard_rules}
use Rattle.script_model.specs.Options.{Options}
use Rattle.josie_top.specs.Meets.{EndsWell}
use Rattle.josie_top.specs.World.{World, world_of}
use Rattle.josie_top.proofs.RunFacts.{nothing_done, memory_moves, still, ends_well}
use Rattle.josie_top.proofs.ordered.run_in_order.Goals as goal

pub returns-in_default-clause-table : goal.returns-in_default-clause-table
returns-in_default-clause-table g c = nothing_done (standard_rules c.args.options.keys) _ _ c.args.out.now.made c.requires.empty

pub returns-in_default-clause-moves : goal.returns-in_default-clause-moves
returns-in_default-clause-moves g c = memory_moves (still _)

pub returns-in_default-clause-complete : goal.returns-in_default-clause-complete
returns-in_default-clause-complete g c = λ script told whole quiet still. inr refl

pub returns-in_default-new-clause-table : goal.returns-in_default-new-clause-table
returns-in_default-new-clause-table g c = nothing_done (standard_rules c.args.options.keys) _ _ c.args.out.now.made c.requires.empty

pub returns-in_default-new-clause-moves : goal.returns-in_default-new-clause-moves
returns-in_default-new-clause-moves g c = memory_moves (still _)

pub returns-in_default-new-clause-complete : goal.returns-in_default-new-clause-complete
returns-in_default-new-clause-complete g c = λ script told whole quiet still. inr refl

pub returns-clause-complete : goal.returns-clause-complete
returns-clause-complete g c =
    let same : c.set_options.new.self.made.options ≡ c.args.options = search rules in
    let before : World = world_of (g.S.Source.left c.args.source.now) (g.S.Source.faults c.args.source.now) (g.K.Sink.written c.args.sink.now) (g.K.Sink.faults c.args.sink.now) (g.F.Shelf.files c.args.shelf.now) (g.F.Shelf.faults c.args.shelf.now) in
    let now : World = world_of (g.S.Source.left c.run_batches.new.source) (g.S.Source.faults c.run_batches.new.source) (g.K.Sink.written c.run_batches.new.sink) (g.K.Sink.faults c.run_batches.new.sink) (g.F.Shelf.files c.run_batches.new.shelf) (g.F.Shelf.faults c.run_batches.new.shelf) in
    subst (λ (o : Options). EndsWell o c.run_batches.result before now) same (ends_well _ c.set_options.new.self.made.options c.run_batches.result before now _ c.run_batches.ensures.table c.run_batches.ensures.moves)
