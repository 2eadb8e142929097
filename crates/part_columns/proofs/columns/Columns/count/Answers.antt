use Rattle.std.proofs.Common.{refl, ◌+◌, ◌<◌, ◌^◌, sym, ap, ◌∙◌, subst, ℕ, List, get_or, length, max, arith}
use Rattle.std.proofs.Math.ListN.{length-set}
use Rattle.search_model.specs.declared.Posting.{Posting}
use Rattle.part_columns.specs.declared.tally.Tally.{Tally}
use Rattle.part_columns.specs.Tallies.{raised, tally_at}
use Rattle.part_columns.proofs.TallyLemmas.{most_set, count_fits, counted_more}
use Rattle.part_columns.proofs.columns.Columns.count.Goals as goal

pub raise-count-requires-clause-small : goal.raise-count-requires-clause-small
raise-count-requires-clause-small c =
    let i = c.loop-posting.posting-index in
    let none : Posting = record { column = 0; rest = 0 } in
    let posting = get_or c.args.list.now i none in
    let so_far = ap (λ (t : Tally). t.count) (c.loop-posting.invariant.tallies posting.column) in
    let few = count_fits c.args.list.now i none posting (tally_at c.args.self.now.tallies posting.column) (2 ^ 32) c.loop-posting-test.true refl (c.requires.small posting.column) in
    subst (λ (n : ℕ). n + 1 < 2 ^ 32) (sym so_far) few

pub loop-posting-preserved : goal.loop-posting-preserved
loop-posting-preserved c =
    let kept = c.loop-posting.invariant in
    let i = c.loop-posting.posting-index in
    let none : Posting = record { column = 0; rest = 0 } in
    let posting = get_or c.args.list.now i none in
    let tallies = c.loop-posting.self.tallies in
    let more = raised (tally_at tallies posting.column) posting in
    let within : posting.column < length tallies = (let w = c.requires.within i none c.loop-posting-test.true in omega (arith, w, kept.wide)) in
    let done = c.raise-count.ensures in
    record {
      wide = ap (λ (ts : List Tally). length ts) done.tallies ∙ length-set tallies posting.column more ∙ kept.wide;
      tallies = λ x. ap (λ (ts : List Tally). tally_at ts x) done.tallies ∙ counted_more tallies c.args.self.now.tallies c.args.list.now i none posting c.loop-posting-test.true refl within kept.tallies x;
      most = λ x. (let m = most_set tallies posting.column more c.loop-posting.greatest (max c.loop-posting.greatest c.raise-count.result) kept.most within (omega (arith, done.count)) (omega arith) x in omega (arith, m, ap (λ (ts : List Tally). (tally_at ts x).count) done.tallies));
      known = done.known ∙ kept.known;
    }
