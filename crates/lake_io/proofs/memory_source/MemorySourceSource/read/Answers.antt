use Rattle.std.proofs.Common.{rules, ◌≡◌, ◌≤◌, length, take, drop, min, ◌-◌}
use Rattle.std.proofs.lemmas.List.{places}
use Rattle.lake_io.proofs.ReadFacts.{copied-front, none-left}
use Rattle.lake_io.proofs.memory_source.MemorySourceSource.read.Goals as goal

pub returns-clause-bytes : goal.returns-clause-bytes
returns-clause-bytes c =
    let xs = c.self.inside.bytes.items in
    let at = c.self.inside.position in
    let count = c.min-count.result in
    let is : count ≡ min (min c.self.inside.piece (length c.args.into.now)) (length xs - at) = search (rules, places) in
    let copied : c.copy_from_slice.new.self ≡ take count (drop at xs) = search (rules, places) in
    let fits : count ≤ length (drop at xs) = search (rules, places) in
    let long : length c.copy_from_slice.new.self ≡ count = search (rules, places) in
    let room : count ≤ length c.args.into.now = search (rules, places) in
    rw (← c.self.view_is) (
      copied-front xs c.args.into.now c.copy_from_slice.new.self at count fits copied,
      none-left xs c.copy_from_slice.new.self c.args.into.now at count c.self.inside.piece c.self.invariant.0 c.self.invariant.1 long room is,
    )
