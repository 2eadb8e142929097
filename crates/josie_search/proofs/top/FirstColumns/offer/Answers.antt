use Rattle.std.proofs.Common.{◌≡◌, ◌∙◌, ap, sym, subst, Option, [], ℕ, ◌<◌, List, length, take, arith}
use Rattle.std.specs.Prelude.{IfSome}
use Rattle.lake_model.specs.Answer.{row_cmp}
use Rattle.lake_model.specs.Sorting.{put_in_order}
use Rattle.search_model.specs.Looks.{row_with}
use Rattle.search_model.specs.Arrays.{titled_at}
use Rattle.search_model.specs.Ranks.{ranked}
use Rattle.search_model.specs.Segment.{Titled}
use Rattle.segment_core.proofs.SegmentLemmas.{length-sets}
use Rattle.segment_core.specs.Versions.{part_at, segment_at, tables_of}
use Rattle.topk_heap.specs.Ranked.{RankedRows}
use Rattle.josie_search.specs.Firsts.{first_rows, Firsts}
use Rattle.josie_search.proofs.RankLemmas.{rank_within, titled_there, titles_held}
use Rattle.josie_search.proofs.top.FirstColumns.offer.Goals as goal

pub bounds-order-column : goal.bounds-order-column
bounds-order-column c =
    let columns = (segment_at c.args.looks.now.version.parts c.args.part).columns in
    let within : c.args.column < length columns = omega (arith, c.requires.column, length-sets (tables_of (part_at c.args.looks.now.version.parts c.args.part))) in
    omega (arith, within, c.requires.ranks.size)

pub offer-requires : goal.offer-requires
offer-requires c =
    let columns = (segment_at c.args.looks.now.version.parts c.args.part).columns in
    let within : c.args.column < length columns = omega (arith, c.requires.column, length-sets (tables_of (part_at c.args.looks.now.version.parts c.args.part))) in
    let same = titles_held (λ (t : List Titled). t ≡ ranked columns c.args.order.by_rank.now) c.self.inside.ranked c.self.inside.rows c.args.self.now c.in-Some.ranked c.self.view_is c.in-Some.is c.requires.titled in
    rank_within columns c.args.order.ranks.now c.args.order.by_rank.now c.requires.ranks c.requires.inverse c.in-Some.ranked.titled same c.args.column within

pub returns-in-Some-clause-rows : goal.returns-in-Some-clause-rows
returns-in-Some-clause-rows c =
    let columns = (segment_at c.args.looks.now.version.parts c.args.part).columns in
    let within : c.args.column < length columns = omega (arith, c.requires.column, length-sets (tables_of (part_at c.args.looks.now.version.parts c.args.part))) in
    let same = titles_held (λ (t : List Titled). t ≡ ranked columns c.args.order.by_rank.now) c.self.inside.ranked c.self.inside.rows c.args.self.now c.in-Some.ranked c.self.view_is c.in-Some.is c.requires.titled in
    let there = titled_there columns c.args.order.ranks.now c.args.order.by_rank.now c.requires.ranks c.requires.inverse c.in-Some.ranked.titled same c.args.column within in
    let k = (subst (λ (o : Option RankedRows). IfSome o (λ r. (r.k ≡ c.self.inside.rows.k) × (c.self.inside.rows.rows ≡ []))) c.in-Some.is c.self.invariant).0 in
    let held = ap (λ (o : Option RankedRows). first_rows o c.self.inside.rows) c.in-Some.is in
    c.offer.ensures.rows
    ∙ ap (λ t. take c.in-Some.ranked.k (put_in_order row_cmp (row_with c.args.overlap t) c.in-Some.ranked.rows)) there
    ∙ ap (λ (n : ℕ). take n (put_in_order row_cmp (row_with c.args.overlap (titled_at columns c.args.column)) c.in-Some.ranked.rows)) k
    ∙ ap (λ (f : Firsts). take f.k (put_in_order row_cmp (row_with c.args.overlap (titled_at columns c.args.column)) f.rows)) (sym held ∙ c.self.view_is)
