use Rattle.std.proofs.Common.{ap, arith, length}
use Rattle.std.proofs.lemmas.List.{length-map}
use Rattle.text_region.specs.Spans.{IsSpan, text_at}
use Rattle.column_set.proofs.SortedLemmas.{left_all, left_few, left_map}
use Rattle.column_set.proofs.texts.Texts.leave_out.Goals as goal

pub invariant_of-self : goal.invariant_of-self
invariant_of-self c =
    let spans = c.self.inside.spans.items in
    let left = c.keep_unmarked.new.spans.items in
    let marks = c.args.marks.now in
    let few = left_few spans left marks c.args.from c.keep_unmarked.ensures (omega (arith, c.requires, ap length c.self.view_is, length-map spans (text_at c.self.inside.region))) in
    record {
      stand = left_all (IsSpan c.self.inside.region) spans left marks c.args.from c.keep_unmarked.ensures c.self.invariant.stand;
      few = omega (arith, few, c.self.invariant.few);
    }

pub returns : goal.returns
returns c = left_map (text_at c.self.inside.region) c.self.inside.spans.items c.keep_unmarked.new.spans.items c.args.self.now c.args.marks.now c.args.from c.keep_unmarked.ensures c.self.view_is
