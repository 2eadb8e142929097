use Rattle.josie_search.proofs.next.choose.Goals as goal

pub tally-tally-requires : goal.tally-tally-requires
tally-tally-requires g c = (c.requires.seen c.in-Some.column c.in-Some.is).0
