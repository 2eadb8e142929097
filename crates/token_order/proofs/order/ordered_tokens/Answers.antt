use Rattle.std.proofs.Common.{◌∙◌, ◌<◌, ◌^◌, subst, ap, sym, length, List, map, arith}
use Rattle.std.specs.List.{All}
use Rattle.std.specs.List.Sorted.{IsSorted}
use Rattle.token_order.specs.Counted.{AreNumbers, ArePlaces}
use Rattle.token_order.specs.Runs.{run_cmp}
use Rattle.token_order.specs.declared.runs.Run.{Run}
use Rattle.token_order.proofs.OrderLemmas.{numbered, rank_below, rank_of, sorted_by_number, vocabulary}
use Rattle.std.proofs.lemmas.List.Sorted.{length_permutation}
use Rattle.token_order.proofs.order.ordered_tokens.Goals as goal

pub numbers_by_rank-requires-clause-ranks : goal.numbers_by_rank-requires-clause-ranks
numbers_by_rank-requires-clause-ranks c =
    let runs = c.in_ok-columns.field-0.runs.items in
    let ordered = c.sorted_runs-runs.result.items in
    subst (λ (rs : List Run). AreNumbers (map rank_of rs)) (sym c.deref.ensures.value) (numbered runs ordered c.in_ok-columns.ensures.counted.numbered c.sorted_runs-runs.ensures.same)

pub numbers_by_rank-requires-clause-few : goal.numbers_by_rank-requires-clause-few
numbers_by_rank-requires-clause-few c =
    let runs = c.in_ok-columns.field-0.runs.items in
    omega (
      arith,
      ap (λ (rs : List Run). length rs) c.deref.ensures.value,
      length_permutation runs c.sorted_runs-runs.result.items c.sorted_runs-runs.ensures.same,
      c.in_ok-columns.ensures.counted.few,
    )

pub returns : goal.returns
returns c =
    let tables = c.args.tables.now in
    let columns = c.in_ok-columns.field-0.columns.items in
    let runs = c.in_ok-columns.field-0.runs.items in
    let ordered = c.sorted_runs-runs.result.items in
    let all = numbered runs ordered c.in_ok-columns.ensures.counted.numbered c.sorted_runs-runs.ensures.same in
    let few : length ordered < 2 ^ 32 = omega (arith, length_permutation runs ordered c.sorted_runs-runs.ensures.same, c.in_ok-columns.ensures.counted.few) in
    let ranks_fit : All (λ (r : Run). r.rank < 2 ^ 32) ordered = λ i d b. (let below = rank_below ordered i d all b in omega (arith, below, few)) in
    let up : IsSorted run_cmp ordered = sorted_by_number ordered ranks_fit c.sorted_runs-runs.ensures.rising in
    let are = subst (λ (rs : List Run). ArePlaces (map rank_of rs) c.in_ok-by_key.by_key.items) c.deref.ensures.value c.in_ok-by_key.ensures in
    let made = c.in_ok-tokens.ensures ∙ ap (λ (rs : List Run). map (λ r. r.first) rs) c.deref-2.ensures.value in
    let sized = c.in_ok-frequencies.ensures ∙ ap (λ (rs : List Run). map (λ r. r.frequency) rs) c.deref-3.ensures.value in
    vocabulary tables columns runs ordered c.in_ok-columns.field-0.ranks.items c.in_ok-columns.ensures.counted c.sorted_runs-runs.ensures.same c.in_ok-tokens.tokens.items c.in_ok-frequencies.frequencies.items c.in_ok-by_key.by_key.items c.in_ok-columns.ensures.different up are made sized
