use Rattle.std.proofs.Common.{◌≡◌, ◌∙◌, ◌++◌, ◌∷◌, ◌+◌, [], ap, arith, length, map}
use Rattle.std.specs.Prelude.{option_map}
use Rattle.lake_model.specs.Journal.{Entry}
use Rattle.asof_search.specs.Puts.{puts_after}
use Rattle.asof_search.proofs.TimelineLemmas.{past_more, taken_timeline}
use Rattle.asof_search.proofs.timeline.Timeline.take.Goals as goal

pub invariant_of-self-2 : goal.invariant_of-self-2
invariant_of-self-2 c =
    let journal = c.self.inside.journal.items in
    let many : c.len.result ≡ length c.self.inside.journal.items = omega (arith, ap length c.in_ok-reserve.ensures.items) in
    let put : c.take.new.self ≡ puts_after (c.len.result + 1) c.self.inside.puts c.args.entry.now.what = c.in_ok-take.ensures.ok ∙ ap (λ (e : Entry). puts_after (c.len.result + 1) c.self.inside.puts e.what) c.entry.view_is in
    let more : c.push_reserved.new.self.items ≡ c.self.inside.journal.items ++ c.args.entry.now ∷ [] = c.push_reserved.ensures.items ∙ (λ i. c.in_ok-reserve.ensures.items i ++ c.in_ok-taken.ensures i ∷ []) in
    let last = option_map (λ v. v.value) c.self.inside.last in (
      taken_timeline journal c.args.self.now c.push_reserved.new.self.items c.args.entry.now c.self.inside.puts c.take.new.self (map (λ b. b.value) c.self.inside.blocks.items) c.len.result c.self.invariant.0 c.self.view_is c.requires.legal c.requires.few c.requires.light many put more,
      past_more journal c.push_reserved.new.self.items c.args.entry.now last c.self.invariant.1 more,
    )
