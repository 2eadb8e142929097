use Rattle.std.proofs.Common.{◌∙◌, ap, sym, List, length}
use Rattle.std.specs.Prelude.{sum_by}
use Rattle.lake_model.specs.Tables.{Table}
use Rattle.segment_core.proofs.SegmentLemmas.{sets_counted}
use Rattle.segment_core.proofs.segment.Segment.sets.Goals as goal

pub returns : goal.returns
returns c = c.self.invariant.0 ∙ ap (λ (tables : List Table). sum_by (λ t. length t.columns) tables) c.self.view_is ∙ sym (sets_counted c.args.self.now)
