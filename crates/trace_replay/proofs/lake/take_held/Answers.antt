use Rattle.std.proofs.Common.{◌≡◌, ◌<◌, length, rules}
use Rattle.trace_replay.proofs.LakeLemmas.{others_left}
use Rattle.trace_replay.proofs.lake.take_held.Goals as goal

pub returns-clause-others : goal.returns-clause-others
returns-clause-others c =
    let inside : c.in-Some.place < length c.args.held.now.items = search rules in
    let named : c.swap_remove.result.0 ≡ c.args.index = search rules in
    others_left c.args.held.now.items c.swap_remove.new.self.items c.in-Some.place c.args.index c.swap_remove.result inside c.swap_remove.ensures.value c.swap_remove.ensures.items named
