use Rattle.std.proofs.Common.{rules, ◌≡◌, ◌<◌, length, take, refl, [], ◌++◌}
use Rattle.std.proofs.KnownBytes.{Consumes-trans}
use Rattle.std.proofs.lemmas.List.{places}
use Rattle.lake_io.proofs.FileFacts.{given-too-long, given-whole}
use Rattle.lake_io.proofs.adapters.read_file.Goals as goal

pub returns-then-count-eq0-clause-whole : goal.returns-then-count-eq0-clause-whole
returns-then-count-eq0-clause-whole g c =
    let room : 0 < length c.read.new.buf = search (rules, places) in
    let none : take c.in-Ok.count c.read.new.buf ≡ [] = rw c.if-count-eq0.true refl in
    given-whole _ _ _ c.pieces.bytes.items (take c.in-Ok.count c.read.new.buf) c.pieces.invariant.given c.in-Ok.ensures.bytes.0 none
    (c.in-Ok.ensures.bytes.1 c.if-count-eq0.true room)

pub returns-then-count-most-clause-long : goal.returns-then-count-most-clause-long
returns-then-count-most-clause-long g c = λ _.
    given-too-long _ _ _ c.pieces.bytes.items (take c.in-Ok.count c.read.new.buf) c.args.most c.pieces.invariant.given c.in-Ok.ensures.bytes.0 (search (rules, places))

pub pieces-preserved : goal.pieces-preserved
pieces-preserved g c =
    let grown : c.extend_from_slice.new.self.items ≡ c.pieces.bytes.items ++ take c.in-Ok.count c.read.new.buf = search (rules, places) in
    record {
      within = search (rules, places);
      given = rw grown (Consumes-trans _ _ _ c.pieces.bytes.items (take c.in-Ok.count c.read.new.buf) c.pieces.invariant.given c.in-Ok.ensures.bytes.0);
    }
