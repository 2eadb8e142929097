use Rattle.std.proofs.Common.{length}
use Rattle.batch_work.specs.Works.{works_of}
use Rattle.lake_core.proofs.BatchLemmas.{batch_made}
use Rattle.lake_core.proofs.driving.play.Goals as goal

pub returns-clause-played : goal.returns-clause-played
returns-clause-played c =
    batch_made c.args.keys c.args.count (length c.args.works.now) (works_of c.args.works.now) c.args.piece.now c.gather.new.out.made c.add_sync.new.self.made c.args.catalogue.now c.play_piece.new.catalogue c.play_rest.new.catalogue
    c.args.past.now c.play_piece.new.past c.play_rest.new.past
    c.args.lanes.now c.play_piece.new.lanes c.play_rest.new.lanes c.args.out.now c.play_piece.new.out c.play_rest.new.out
    c.play_piece.ensures c.play_rest.ensures c.gather.ensures.made c.add_sync.ensures.made
