use Rattle.std.proofs.Common.{◌≡◌, ◌∙◌, map, string_bytes, subst, sym}
use Rattle.std.specs.Prelude.{Some}
use Rattle.option_model.specs.Plain as said
use Rattle.command_line.specs.Words.{mode_of}
use Rattle.command_line.proofs.ModeLemmas.{plain_is_read}
use Rattle.josie_top.specs.Meets.{EndsModeWell}
use Rattle.josie_top.specs.World.{World, world_of}
use Rattle.josie_top.proofs.RunFacts.{words_refused, refused_moves, refused_ends_well, moves_said}
use Rattle.josie_top.proofs.run.Goals as goal

pub returns-in-Err-clause-table : goal.returns-in-Err-clause-table
returns-in-Err-clause-table g c = words_refused _ c.in-Err.refused _ c.args.out.now.made c.requires.empty c.in-Err.ensures.refused c.status_of_refused.result c.status_of_refused.ensures

pub returns-in-Err-clause-moves : goal.returns-in-Err-clause-moves
returns-in-Err-clause-moves g c = refused_moves _ c.in-Err.refused _ c.in-Err.ensures.refused c.status_of_refused.result c.status_of_refused.ensures

pub returns-in-Err-clause-complete : goal.returns-in-Err-clause-complete
returns-in-Err-clause-complete g c = λ mode says. refused_ends_well _ c.in-Err.refused _ c.in-Err.ensures.refused c.status_of_refused.result c.status_of_refused.ensures mode says

pub returns-in-Err-clause-plain : goal.returns-in-Err-clause-plain
returns-in-Err-clause-plain g c = λ mode is. plain_is_read (map string_bytes c.args.words.now) mode is

pub returns-in-Ok-clause-moves : goal.returns-in-Ok-clause-moves
returns-in-Ok-clause-moves g c = moves_said c.run_mode.result c.run_mode.ensures.moves

pub returns-in-Ok-clause-complete : goal.returns-in-Ok-clause-complete
returns-in-Ok-clause-complete g c = λ mode is.
    let both : Some (mode_of c.in-Ok.mode) ≡ Some mode = sym c.in-Ok.ensures.read ∙ is in
    let same : mode_of c.in-Ok.mode ≡ mode = cc both in
    let before : World = world_of (g.S.Source.left c.args.source.now) (g.S.Source.faults c.args.source.now) (g.K.Sink.written c.args.sink.now) (g.K.Sink.faults c.args.sink.now) (g.F.Shelf.files c.args.shelf.now) (g.F.Shelf.faults c.args.shelf.now) in
    let now : World = world_of (g.S.Source.left c.run_mode.new.source) (g.S.Source.faults c.run_mode.new.source) (g.K.Sink.written c.run_mode.new.sink) (g.K.Sink.faults c.run_mode.new.sink) (g.F.Shelf.files c.run_mode.new.shelf) (g.F.Shelf.faults c.run_mode.new.shelf) in
    subst (λ (m : said.Mode). EndsModeWell m c.run_mode.result before now) same c.run_mode.ensures.complete
