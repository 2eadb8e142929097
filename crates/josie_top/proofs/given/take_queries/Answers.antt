use Rattle.std.proofs.Common.{◌∙◌, ◌≤◌, List, arith, length, map, refl, string_bytes, subst, sym}
use Rattle.std.specs.Prelude.{Option}
use Rattle.std.proofs.lemmas.List.{length-map, take_all}
use Rattle.josie_top.specs.Given.{AreTaken, IsNotTaken, IsRefusedBy, IsTaken}
use Rattle.josie_top.proofs.GivenFacts.{none_taken, one_taken, paths_more, refused_by}
use Rattle.josie_top.proofs.given.take_queries.Goals as goal

pub loop-index-init : goal.loop-index-init
loop-index-init g c = (none_taken _ _ c.args.k c.args.watches.now c.requires.new, refl, omega arith)

pub returns-in-Err-clause-refused : goal.returns-in-Err-clause-refused
returns-in-Err-clause-refused g c =
    let (taken, files, later) = c.loop-index.invariant in
    let fault : IsNotTaken (g.F.Shelf.files c.args.shelf.now) (g.F.Shelf.faults c.loop-index.shelf) (g.F.Shelf.faults c.take_query.new.shelf) c.as_str.result.now c.in-Err.stop =
    subst (λ (told : Option (List _)). IsNotTaken told (g.F.Shelf.faults c.loop-index.shelf) (g.F.Shelf.faults c.take_query.new.shelf) c.as_str.result.now c.in-Err.stop) files c.in-Err.ensures.stopped in
    let (cut, long) = paths_more c.args.paths.now c.loop-index.index c.index-paths-index.result c.as_str.result.now c.index-paths-index.is c.as_str.ensures.value c.loop-index-test.true in
    subst (IsRefusedBy (g.F.Shelf.files c.args.shelf.now) (g.F.Shelf.faults c.args.shelf.now) (g.F.Shelf.faults c.take_query.new.shelf) (map string_bytes c.args.paths.now)) (sym c.status_of_given.ensures)
    (refused_by _ _ _ _ c.args.k c.loop-index.index _ (map string_bytes c.args.paths.now) c.as_str.result.now c.loop-index.watches c.in-Err.stop taken fault cut long)

pub returns-in-Err-clause-files : goal.returns-in-Err-clause-files
returns-in-Err-clause-files g c = let (taken, files, later) = c.loop-index.invariant in c.take_query.ensures.files ∙ files

pub returns-in-Err-clause-later : goal.returns-in-Err-clause-later
returns-in-Err-clause-later g c = let (taken, files, later) = c.loop-index.invariant in omega (arith, later, c.take_query.ensures.later)

pub loop-index-preserved : goal.loop-index-preserved
loop-index-preserved g c =
    let (taken, files, later) = c.loop-index.invariant in
    let one : IsTaken (g.F.Shelf.files c.args.shelf.now) (g.F.Shelf.faults c.loop-index.shelf) (g.F.Shelf.faults c.take_query.new.shelf) c.args.k c.as_str.result.now c.loop-index.watches c.take_query.new.watches =
    subst (λ (told : Option (List _)). IsTaken told (g.F.Shelf.faults c.loop-index.shelf) (g.F.Shelf.faults c.take_query.new.shelf) c.args.k c.as_str.result.now c.loop-index.watches c.take_query.new.watches) files c.in_default.ensures.taken in
    let (cut, long) = paths_more c.args.paths.now c.loop-index.index c.index-paths-index.result c.as_str.result.now c.index-paths-index.is c.as_str.ensures.value c.loop-index-test.true in (
      subst (λ paths. AreTaken (g.F.Shelf.files c.args.shelf.now) (g.F.Shelf.faults c.args.shelf.now) (g.F.Shelf.faults c.take_query.new.shelf) c.args.k paths c.take_query.new.watches) cut
          (one_taken _ _ _ _ c.args.k _ c.as_str.result.now c.loop-index.watches c.take_query.new.watches taken one),
      c.take_query.ensures.files ∙ files,
      omega (arith, later, c.take_query.ensures.later),
    )

pub returns-clause-taken : goal.returns-clause-taken
returns-clause-taken g c =
    let (taken, files, later) = c.loop-index.invariant in
    let all : length (map string_bytes c.args.paths.now) ≤ c.loop-index.index = omega (arith, length-map c.args.paths.now string_bytes, c.loop-index-test.false) in
    subst (λ paths. AreTaken (g.F.Shelf.files c.args.shelf.now) (g.F.Shelf.faults c.args.shelf.now) (g.F.Shelf.faults c.loop-index.shelf) c.args.k paths c.loop-index.watches) (take_all c.loop-index.index (map string_bytes c.args.paths.now) all) taken

pub returns-clause-files : goal.returns-clause-files
returns-clause-files g c = let (taken, files, later) = c.loop-index.invariant in files

pub returns-clause-later : goal.returns-clause-later
returns-clause-later g c = let (taken, files, later) = c.loop-index.invariant in later
