use Rattle.std.proofs.Common.{◌∙◌, ap, map}
use Rattle.segment_core.specs.Versions.{tables_of, LooksOf}
use Rattle.segment_core.proofs.PartLemmas.{index_is}
use Rattle.segment_core.proofs.looks.Looks.index.Goals as goal

pub returns : goal.returns
returns c = c.get.ensures ∙ index_is c.self.inside.indexes.now c.args.self.now.version.parts c.args.part c.index-self-part.result (c.self.invariant.1 ∙ ap (λ (l : LooksOf). map tables_of l.version.parts) c.self.view_is) c.requires
