use Rattle.std.proofs.Common.{◌≡◌, ◌∙◌, ap, sym, subst, Option, [], ℕ, ◌-◌, ◌<◌, List, length, arith}
use Rattle.std.specs.Prelude.{slice_get, IfSome}
use Rattle.search_model.specs.Looks.{beats, row_with}
use Rattle.search_model.specs.Arrays.{titled_at}
use Rattle.search_model.specs.Ranks.{ranked}
use Rattle.search_model.specs.Segment.{Titled}
use Rattle.segment_core.proofs.SegmentLemmas.{length-sets}
use Rattle.segment_core.specs.Versions.{part_at, segment_at, tables_of}
use Rattle.topk_heap.specs.Ranked.{RankedRows}
use Rattle.josie_search.specs.Firsts.{first_rows, Firsts}
use Rattle.josie_search.proofs.RankLemmas.{rank_within, titled_there, titles_held}
use Rattle.josie_search.proofs.top.FirstColumns.comes_in.Goals as goal

pub bounds-order-lead : goal.bounds-order-lead
bounds-order-lead c =
    let columns = (segment_at c.args.looks.now.version.parts c.args.part).columns in
    let within : c.args.lead.column < length columns = omega (arith, c.requires.column, length-sets (tables_of (part_at c.args.looks.now.version.parts c.args.part))) in
    omega (arith, within, c.requires.ranks.size)

pub comes_in-requires : goal.comes_in-requires
comes_in-requires c =
    let columns = (segment_at c.args.looks.now.version.parts c.args.part).columns in
    let within : c.args.lead.column < length columns = omega (arith, c.requires.column, length-sets (tables_of (part_at c.args.looks.now.version.parts c.args.part))) in
    let same = titles_held (λ (t : List Titled). t ≡ ranked columns c.args.order.by_rank.now) c.self.inside.ranked c.self.inside.rows c.args.self.now c.in-Some.ranked c.self.view_is c.in-Some.is c.requires.titled in
    rank_within columns c.args.order.ranks.now c.args.order.by_rank.now c.requires.ranks c.requires.inverse c.in-Some.ranked.titled same c.args.lead.column within

pub returns-in-Some : goal.returns-in-Some
returns-in-Some c =
    let columns = (segment_at c.args.looks.now.version.parts c.args.part).columns in
    let within : c.args.lead.column < length columns = omega (arith, c.requires.column, length-sets (tables_of (part_at c.args.looks.now.version.parts c.args.part))) in
    let same = titles_held (λ (t : List Titled). t ≡ ranked columns c.args.order.by_rank.now) c.self.inside.ranked c.self.inside.rows c.args.self.now c.in-Some.ranked c.self.view_is c.in-Some.is c.requires.titled in
    let there = titled_there columns c.args.order.ranks.now c.args.order.by_rank.now c.requires.ranks c.requires.inverse c.in-Some.ranked.titled same c.args.lead.column within in
    let k = (subst (λ (o : Option RankedRows). IfSome o (λ r. (r.k ≡ c.self.inside.rows.k) × (c.self.inside.rows.rows ≡ []))) c.in-Some.is c.self.invariant).0 in
    let held = ap (λ (o : Option RankedRows). first_rows o c.self.inside.rows) c.in-Some.is in
    c.comes_in.ensures
    ∙ ap (λ t. beats (slice_get c.in-Some.ranked.rows (c.in-Some.ranked.k - 1)) (row_with c.args.lead.bound t)) there
    ∙ ap (λ (n : ℕ). beats (slice_get c.in-Some.ranked.rows (n - 1)) (row_with c.args.lead.bound (titled_at columns c.args.lead.column))) k
    ∙ ap (λ (f : Firsts). beats (slice_get f.rows (f.k - 1)) (row_with c.args.lead.bound (titled_at columns c.args.lead.column))) (sym held ∙ c.self.view_is)
