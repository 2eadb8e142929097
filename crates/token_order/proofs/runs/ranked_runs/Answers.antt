use Rattle.std.proofs.Common.{◌≡◌, ◌∙◌, ap, sym, subst, ℕ, ◌++◌, List, length, map, take, drop, get_or, arith}
use Rattle.std.specs.Prelude.{sum_by}
use Rattle.std.specs.List.{All}
use Rattle.std.proofs.Math.Seq.{take-append_seam}
use Rattle.std.proofs.lemmas.List.Sorted.{All-permutation, length_permutation}
use Rattle.token_order.specs.Counted.{AreNumbers}
use Rattle.search_model.specs.Arrays.{token_keys}
use Rattle.token_order.specs.Groups.{group_token}
use Rattle.token_order.specs.Keyed.{IsKeyed}
use Rattle.token_order.specs.Places.{keys_of, IsThere}
use Rattle.token_order.specs.Ranks.{HaveRanks}
use Rattle.token_order.specs.Runs.{runs_of}
use Rattle.token_order.specs.declared.groups.Group.{Group}
use Rattle.token_order.proofs.CountedLemmas.{counted, groups_few, groups_numbered, groups_total}
use Rattle.token_order.proofs.runs.ranked_runs.Goals as goal

pub count_runs-requires-clause-keyed : goal.count_runs-requires-clause-keyed
count_runs-requires-clause-keyed c =
    let IsOne : Group → Type 0 = λ g. IsKeyed c.args.tables.now c.args.columns.now g.keyed in
    subst (All IsOne) (sym c.deref.ensures.value) (All-permutation IsOne c.in_ok-groups.field-0.groups.items c.sorted_groups-groups.result.items c.sorted_groups-groups.ensures.same c.in_ok-groups.ensures.keyed)

pub count_runs-requires-clause-within : goal.count_runs-requires-clause-within
count_runs-requires-clause-within c =
    let IsOne : Group → Type 0 = λ g. IsThere c.args.tables.now c.args.columns.now g.keyed.member in
    subst (All IsOne) (sym c.deref.ensures.value) (All-permutation IsOne c.in_ok-groups.field-0.groups.items c.sorted_groups-groups.result.items c.sorted_groups-groups.ensures.same c.in_ok-groups.ensures.within)

pub count_runs-requires-clause-numbers : goal.count_runs-requires-clause-numbers
count_runs-requires-clause-numbers c =
    let tables = c.args.tables.now in
    subst (λ (gs : List Group). AreNumbers (map (λ g. g.number) gs)) (sym c.deref.ensures.value)
    (groups_numbered tables c.args.columns.now (keys_of tables) c.in_ok-groups.field-0.groups.items c.in_ok-groups.field-0.numbers.items c.in_ok-groups.ensures c.sorted_groups-groups.result.items c.sorted_groups-groups.ensures.same)

pub count_runs-requires-clause-few : goal.count_runs-requires-clause-few
count_runs-requires-clause-few c =
    let tables = c.args.tables.now in
    omega (
      arith,
      ap (sum_by (λ (g : Group). g.frequency)) c.deref.ensures.value,
      groups_total tables c.args.columns.now (keys_of tables) c.in_ok-groups.field-0.groups.items c.in_ok-groups.field-0.numbers.items c.in_ok-groups.ensures c.sorted_groups-groups.result.items c.sorted_groups-groups.ensures.same,
      c.requires.members,
    )

pub count_runs-requires-clause-many : goal.count_runs-requires-clause-many
count_runs-requires-clause-many c =
    let tables = c.args.tables.now in
    omega (
      arith,
      c.deref.ensures.len,
      ap (λ (gs : List Group). length gs) c.deref.ensures.value,
      groups_few tables c.args.columns.now (keys_of tables) c.in_ok-groups.field-0.groups.items c.in_ok-groups.field-0.numbers.items c.in_ok-groups.ensures c.sorted_groups-groups.result.items c.sorted_groups-groups.ensures.same,
      c.requires.members,
    )

pub ranks_of_members-requires : goal.ranks_of_members-requires
ranks_of_members-requires c = λ k d b.
    omega (
      arith,
      c.in_ok-groups.ensures.inside k d b,
      c.deref-2.ensures.len,
      c.in_ok-ranks.ensures.len,
      c.len.ensures,
      length_permutation c.in_ok-groups.field-0.groups.items c.sorted_groups-groups.result.items c.sorted_groups-groups.ensures.same,
    )

pub returns : goal.returns
returns c =
    let tables = c.args.tables.now in
    let columns = c.args.columns.now in
    let sorted = c.sorted_groups-groups.result.items in
    let numbers = c.in_ok-groups.field-0.numbers.items in
    let ranks = c.count_runs.new.ranks in
    let given = c.deref.ensures.value in
    let taken : c.in_ok-ranks.ranks.len ≡ length ranks = omega (arith, c.in_ok-runs.ensures.long, c.deref_mut.ensures.len) in
    let written : c.deref-2.result.now ≡ ranks =
    c.deref-2.ensures.value ∙ ap (λ (n : ℕ). take n (ranks ++ drop (length ranks) c.in_ok-ranks.ranks.items)) taken ∙ take-append_seam ranks (drop (length ranks) c.in_ok-ranks.ranks.items) in
    counted tables columns c.in_ok-groups.field-0.groups.items sorted numbers ranks c.ranks_of_members.result.items c.in_ok-runs.runs.items c.in_ok-groups.ensures c.sorted_groups-groups.ensures.same c.sorted_groups-groups.ensures.sorted
    c.requires.owned c.requires.members
    (c.in_ok-runs.ensures.runs ∙ ap (λ (gs : List Group). runs_of (map (group_token tables columns) gs)) given)
    c.in_ok-runs.ensures.within c.in_ok-runs.ensures.numbered
    (subst (λ (gs : List Group). HaveRanks (token_keys (runs_of (map (group_token tables columns) gs))) tables columns ranks gs) given c.in_ok-runs.ensures.ranked)
    (c.ranks_of_members.ensures ∙ ap (λ (rs : List ℕ). map (λ number. get_or rs number 0) numbers) written)
