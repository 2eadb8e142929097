use Rattle.std.proofs.Common.{◌∙◌, Some}
use Rattle.csv.specs.Records.{fields_of}
use Rattle.csv_table.proofs.ReaderLemmas.{error_stops, reads_none, reads_one}
use Rattle.csv_table.proofs.records_left.read_next.Goals as goal

pub returns-clause-more : goal.returns-clause-more
returns-clause-more c = λ yes.
    let reads = c.in-Ok.ensures.reads c.requires.trim c.requires.ready in
    let first = c.in-Ok.ensures.ready c.requires.trim in
    reads_one c.args.reader.now c.read_byte_record.new.self (fields_of c.read_byte_record.new.row) c.requires first c.in-Ok.ensures.flexible (rw yes at reads)

pub returns-clause-end : goal.returns-clause-end
returns-clause-end c = λ no.
    let reads = c.in-Ok.ensures.reads c.requires.trim c.requires.ready in
    reads_none c.args.reader.now c.read_byte_record.new.self (fields_of c.read_byte_record.new.row) c.requires (rw no at reads)

pub returns-in_default-clause-failed : goal.returns-in_default-clause-failed
returns-in_default-clause-failed c =
    let why = c.in_default.ensures.why c.requires.ready in
    c.in_default.ensures.fails ∙ error_stops (λ s. Some s.now) c.args.reader.now c.read_byte_record.new.self _ c.requires.flexible why
