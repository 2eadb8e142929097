use Rattle.std.proofs.Common.{◌≡◌, refl, ◌∙◌, ap, sym, ℕ, ◌+◌, ◌-◌, drop, get_or, take, arith}
use Rattle.lake_model.specs.Answer.{row_cmp}
use Rattle.lake_model.specs.Sorting.{put_in_order}
use Rattle.search_model.specs.Arrays.{titled_at}
use Rattle.search_model.specs.Looks.{row_with}
use Rattle.topk_heap.specs.Ranked.{row_in}
use Rattle.topk_heap.proofs.RankedLemmas.{in_rows, rows_behind, rows_end}
use Rattle.topk_heap.proofs.ranked.offer_all.Goals as goal

pub loop-left-init : goal.loop-left-init
loop-left-init c = record { within = omega arith; k = refl; rows = c.requires.none ∙ sym (rows_end c.args.titles.now c.args.entries.now) }

pub loop-left-preserved : goal.loop-left-preserved
loop-left-preserved c =
    let titled = c.args.titles.now in
    let entries = c.args.entries.now in
    let kept = c.loop-left.invariant in
    let left = c.loop-left.left - 1 in
    let one : left + 1 ≡ c.loop-left.left = omega (arith, c.loop-left-test.true) in
    let row = c.row.ensures.row ∙ (λ i. row_with (c.overlap_of.ensures i) (titled_at titled (c.rank_of.ensures i))) in
    record {
      within = omega (arith, kept.within);
      k = c.offer.ensures.k ∙ kept.k;
      rows = c.offer.ensures.rows
          ∙ (λ i. take (kept.k i) (put_in_order row_cmp (row i) (kept.rows i)))
          ∙ ap (λ (n : ℕ). take c.args.top.now.k (put_in_order row_cmp (row_in titled (get_or entries left 0)) (in_rows titled (drop n entries)))) (sym one)
          ∙ sym (rows_behind titled entries left c.args.top.now.k (omega (arith, kept.within, c.loop-left-test.true)) c.requires.few);
    }
