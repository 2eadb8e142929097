use Rattle.std.proofs.Common.{◌≡◌, ◌∙◌, ap, sym, subst, ℕ, ◌+◌, ◌<◌, List, length, get_or, map, take, arith}
use Rattle.std.specs.Prelude.{bytes_eq}
use Rattle.std.specs.List.{All}
use Rattle.std.proofs.Math.Seq.{take-length}
use Rattle.std.proofs.lemmas.List.{get_or_default, length-set}
use Rattle.std.proofs.lemmas.List.Elements.{All-push}
use Rattle.std.proofs.lemmas.Slice.Eq.{bytes_eq-Decides}
use Rattle.lake_model.specs.Texts.{Text}
use Rattle.search_model.specs.Arrays.{token_keys, token_with}
use Rattle.token_order.specs.Counting.{IsCounting}
use Rattle.token_order.specs.Grouping.{no_group}
use Rattle.token_order.specs.Groups.{group_token}
use Rattle.token_order.specs.Keyed.{IsKeyed}
use Rattle.token_order.specs.Places.{pointed_by, IsThere}
use Rattle.token_order.specs.Ranks.{HaveRanks, IsRank}
use Rattle.token_order.specs.Runs.{run_token, runs_from, AreRanked}
use Rattle.search_model.specs.declared.TokenAt.{TokenAt}
use Rattle.token_order.specs.declared.groups.Group.{Group}
use Rattle.token_order.specs.declared.keyed.Keyed.{Keyed}
use Rattle.token_order.specs.declared.runs.Run.{Run}
use Rattle.token_order.proofs.CountLemmas.{counting_ends, counting_here, counting_next, counting_ranked, counting_same, counting_short, frequencies_total, number_below, ranks_written, run_longer, run_with}
use Rattle.token_order.proofs.RunLemmas.{run_total}
use Rattle.token_order.proofs.runs.count_from.Goals as goal
use Rattle.token_order.proofs.runs.count_from.Goals.{then-same_key, else-same_key+in_ok-push}

pub overflow_add-run : goal.overflow_add-run
overflow_add-run c =
    let tables = c.args.tables.now in
    let columns = c.args.columns.now in
    let groups = c.args.groups.now in
    let i = c.loop-group.group-index in
    let first = token_with (pointed_by tables columns c.args.first.member) 0 in
    let all = runs_from first (map (group_token tables columns) groups) in
    let g : Group = get_or groups i no_group in
    omega (
      arith,
      counting_short tables all columns groups c.loop-group.runs.items c.loop-group.run i g c.loop-group.invariant.counting c.loop-group-test.true (get_or_default groups i no_group (get_or groups i no_group) c.loop-group-test.true),
      run_total first (map (group_token tables columns) groups),
      frequencies_total tables columns groups,
      c.requires.few,
    )

pub bounds-ranks-group : goal.bounds-ranks-group
bounds-ranks-group c =
    omega (arith, number_below c.args.groups.now c.loop-group.group-index no_group c.requires.numbers c.loop-group-test.true, c.loop-group.invariant.long, c.requires.room)

pub loop-group-preserved : goal.loop-group-preserved
loop-group-preserved c =
    let tables = c.args.tables.now in
    let columns = c.args.columns.now in
    let groups = c.args.groups.now in
    let i = c.loop-group.group-index in
    let run = c.loop-group.run in
    let ended = c.loop-group.runs.items in
    let all = runs_from (token_with (pointed_by tables columns c.args.first.member) 0) (map (group_token tables columns) groups) in
    let names = token_keys all in
    let within : i < length groups = c.loop-group-test.true in
    let g : Group = get_or groups i no_group in
    let m : TokenAt = g.keyed.member in
    let is : g ≡ get_or groups i g = get_or_default groups i no_group (get_or groups i no_group) within in
    let here : IsThere tables columns m = c.requires.within i no_group within in
    let front : IsKeyed tables columns g.keyed = c.requires.keyed i no_group within in
    let test : c.same_key.result ≡ bytes_eq (pointed_by tables columns m) (pointed_by tables columns run.first) =
    c.same_key.ensures ∙ ap (λ (first : TokenAt). bytes_eq (pointed_by tables columns m) (pointed_by tables columns first)) c.loop-group.invariant.begins in
    let step : IsCounting tables all columns groups c.if-same_key.runs.items c.if-same_key.run (i + 1) × (pointed_by tables columns c.if-same_key.run.first ≡ pointed_by tables columns m) × (c.if-same_key.held.member ≡ c.if-same_key.run.first) × IsKeyed tables columns c.if-same_key.held =
    elim c.if-same_key.branch [
      | then-same_key w ↦
          let same = counting_same tables all columns groups ended run i g c.loop-group.invariant.counting within is (sym test ∙ w.if-same_key.true) in
          let key : pointed_by tables columns run.first ≡ pointed_by tables columns m = sym ((bytes_eq-Decides (pointed_by tables columns m) (pointed_by tables columns run.first)).0 (sym test ∙ w.if-same_key.true)) in (
            subst (λ (r : Run). IsCounting tables all columns groups c.if-same_key.runs.items r (i + 1)) (sym w.run-is) (subst (λ (rs : List Run). IsCounting tables all columns groups rs (run_longer run g.frequency) (i + 1)) (sym (ap (λ v. v.items) w.runs-is)) same),
            ap (λ (r : Run). pointed_by tables columns r.first) w.run-is ∙ key,
            ap (λ (k : Keyed). k.member) w.held-is ∙ c.loop-group.invariant.begins ∙ sym (ap (λ (r : Run). r.first) w.run-is),
            subst (IsKeyed tables columns) (sym w.held-is) c.loop-group.invariant.held,
          )
      | else-same_key+in_ok-push w ↦
          let next = counting_next tables all columns groups ended run i g c.loop-group.invariant.counting within is (sym test ∙ w.if-same_key.false) here in (
            subst (λ (r : Run). IsCounting tables all columns groups c.if-same_key.runs.items r (i + 1)) (sym w.run-is) (subst (λ (rs : List Run). IsCounting tables all columns groups rs (run_with g (run.rank + 1)) (i + 1)) (sym (ap (λ v. v.items) w.runs-is ∙ w.in_ok-push.ensures.items)) next),
            ap (λ (r : Run). pointed_by tables columns r.first) w.run-is,
            ap (λ (k : Keyed). k.member) w.held-is ∙ sym (ap (λ (r : Run). r.first) w.run-is),
            subst (IsKeyed tables columns) (sym w.held-is) front,
          )
    ] in
    let rank = c.if-same_key.run.rank in
    let number : IsRank names (pointed_by tables columns m) rank = subst (λ (key : Text). IsRank names key rank) step.1 (counting_here tables all columns groups c.if-same_key.runs.items c.if-same_key.run (i + 1) step.0) in
    let below : g.number < length c.loop-group.ranks = omega (arith, number_below groups i no_group c.requires.numbers within, c.loop-group.invariant.long, c.requires.room) in
    record {
      counting = step.0;
      ranked = ranks_written (λ h r. IsRank names (pointed_by tables columns h.keyed.member) r) groups c.loop-group.ranks i rank c.requires.numbers within below number c.loop-group.invariant.ranked;
      begins = step.2;
      held = step.3;
      long = length-set c.loop-group.ranks g.number rank ∙ c.loop-group.invariant.long;
    }

pub returns-clause-runs : goal.returns-clause-runs
returns-clause-runs c =
    let tables = c.args.tables.now in
    let columns = c.args.columns.now in
    let groups = c.args.groups.now in
    ap (map (run_token tables columns)) c.in_ok-push-2.ensures.items
    ∙ counting_ends tables (runs_from (token_with (pointed_by tables columns c.args.first.member) 0) (map (group_token tables columns) groups)) columns groups c.loop-group.runs.items c.loop-group.run c.loop-group.group-index c.loop-group.invariant.counting (omega arith)

pub returns-clause-within : goal.returns-clause-within
returns-clause-within c =
    let IsIn : Run → Type 0 = λ r. IsThere c.args.tables.now c.args.columns.now r.first in
    subst (All IsIn) (sym c.in_ok-push-2.ensures.items) (All-push IsIn c.loop-group.runs.items c.loop-group.run c.loop-group.invariant.counting.within c.loop-group.invariant.counting.here)

pub returns-clause-numbered : goal.returns-clause-numbered
returns-clause-numbered c =
    let tables = c.args.tables.now in
    let columns = c.args.columns.now in
    let groups = c.args.groups.now in
    subst AreRanked (sym c.in_ok-push-2.ensures.items)
    (counting_ranked tables (runs_from (token_with (pointed_by tables columns c.args.first.member) 0) (map (group_token tables columns) groups)) columns groups c.loop-group.runs.items c.loop-group.run c.loop-group.group-index c.loop-group.invariant.counting)

pub returns-clause-ranked : goal.returns-clause-ranked
returns-clause-ranked c =
    let tables = c.args.tables.now in
    let columns = c.args.columns.now in
    let groups = c.args.groups.now in
    let names = token_keys (runs_from (token_with (pointed_by tables columns c.args.first.member) 0) (map (group_token tables columns) groups)) in
    let end : c.loop-group.group-index ≡ length groups = omega arith in
    subst (HaveRanks names tables columns c.loop-group.ranks) (ap (λ (n : ℕ). take n groups) end ∙ take-length groups) c.loop-group.invariant.ranked
