use Rattle.std.proofs.Common.{◌≡◌, map, take}
use Rattle.segment_core.specs.Versions.{tables_of}
use Rattle.segment_build.proofs.segment.kept_indexes.Given as goal

abbrev pub invariant-loop-part : goal.invariant-loop-part
invariant-loop-part l = l.indexes.items ≡ map tables_of (take l.part l.fn.pin.parts)
