use Rattle.std.proofs.Common.{◌≡◌, map, take}
use Rattle.search_model.specs.Segment.{tokens_in}
use Rattle.segment_core.specs.Versions.{segment_of}
use Rattle.segment_core.proofs.looks.Looks.tokens_of_parts.Given as goal

abbrev pub invariant-loop-part : goal.invariant-loop-part
invariant-loop-part l = map (λ tokens. tokens.items) l.all.items ≡ map (λ part. tokens_in (segment_of part).tokens l.query) (take l.part l.fn.self.version.parts)
