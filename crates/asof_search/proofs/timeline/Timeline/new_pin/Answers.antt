use Rattle.std.proofs.Common.{◌≤◌, ◌∙◌, ap, arith, length, map, List}
use Rattle.std.specs.List.{filter}
use Rattle.lake_model.specs.Journal.{Entry}
use Rattle.asof_search.specs.Puts.{PutOf, tables_put, was_live}
use Rattle.asof_search.proofs.TimelineLemmas.{pinned_names}
use Rattle.asof_search.proofs.timeline.Timeline.new_pin.Goals as goal

pub new-requires-clause-names : goal.new-requires-clause-names
new-requires-clause-names c =
    let within : c.args.asked ≤ length c.self.inside.journal.items = omega (arith, c.requires, ap (λ (j : List Entry). length j) c.self.view_is) in
    pinned_names c.self.inside.journal.items c.self.inside.puts (map (λ b. b.value) c.self.inside.blocks.items) c.args.asked c.in_ok-parts.parts.items c.self.invariant.0 within
    (c.in_ok-parts.ensures.live ∙ ap (λ (us : List PutOf). tables_put (filter (was_live c.args.asked) us)) c.list.ensures)
