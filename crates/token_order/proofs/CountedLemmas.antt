-- The runs of groups are those of all members.
use Rattle.std.proofs.Common.{◌≡◌, refl, ap, sym, ◌∙◌, subst, ℕ, ◌+◌, ◌<◌, ◌≤◌, ◌^◌, List, [], ◌∷◌, map, length, get_or, arith}
use Rattle.std.specs.Prelude.{bytes_eq, nat_lt, sum_by}
use Rattle.std.specs.List.{All, AllByRecursion, count_by, range_with_len}
use Rattle.std.specs.List.Sorted.{IsPermutation, IsSorted, IsSortedByKey}
use Rattle.std.specs.Cmp.Lexicographic.{slice_cmp}
use Rattle.std.specs.Ordering.{nat_cmp}
use Rattle.std.proofs.lemmas.List.{ext_get_or, get_or-map, length-map}
use Rattle.std.proofs.lemmas.List.Elements.{recursion_from_All}
use Rattle.std.proofs.lemmas.List.FromFn.{get_or-range_with_len, length-range_with_len}
use Rattle.std.proofs.lemmas.List.Sorted.{All-permutation, IsPermutation-map, IsPermutation-sym, length_permutation, sum_by-IsPermutation}
use Rattle.lake_model.specs.Texts.{Text}
use Rattle.lake_model.specs.Tables.{Table}
use Rattle.search_model.specs.Arrays.{owner_of, token_keys}
use Rattle.search_model.specs.Segment.{Token, columns_of}
use Rattle.token_order.specs.Columns.{owner_there}
use Rattle.token_order.specs.Counted.{run_names, AreCounted, AreNumbers, AreTokensOf}
use Rattle.token_order.specs.Grouping.{no_group}
use Rattle.token_order.specs.Groups.{group_key, group_token, often, AreGroups}
use Rattle.token_order.specs.Places.{keys_of, pointed_by, IsThere}
use Rattle.token_order.specs.Ranks.{HaveRanks, IsRank}
use Rattle.token_order.specs.Runs.{run_token, runs_of, AreRanked}
use Rattle.token_order.specs.declared.columns.ColumnAt.{ColumnAt}
use Rattle.token_order.specs.declared.groups.Group.{Group}
use Rattle.token_order.specs.declared.runs.Run.{Run}
use Rattle.token_order.proofs.CountLemmas.{frequencies_total}
use Rattle.token_order.proofs.GroupLemmas.{long_sum}
use Rattle.token_order.proofs.RunLemmas.{any_counted, any_often, often_alone, runs_differ, runs_few, runs_have, runs_often, runs_rise, runs_total}
use Rattle.token_order.proofs.SortLemmas.{TextsRise, rises, sorted_from_rises, sorted_map}

frequent_as : (count : Text → ℕ) (ts us : List Token) → ((key : Text) → often key ts ≡ count key) → AllByRecursion (λ t. t.frequency ≡ often t.key ts) us → AllByRecursion (λ t. t.frequency ≡ count t.key) us
frequent_as count ts [] same h = tt
frequent_as count ts (u ∷ us) same h = (h.0 ∙ same u.key, frequent_as count ts us same h.1)

module _ (tables : List Table) (columns : List ColumnAt) (keys : List Text) (groups : List Group) (numbers : List ℕ) (are : AreGroups tables columns keys groups numbers) (sorted : List Group) (moved : IsPermutation groups sorted) where
  abbrev token : Group → Token
  token = group_token tables columns

  abbrev key : Group → Text
  key g = pointed_by tables columns g.keyed.member

  -- the groups' numbers are those below the number of groups
  pub groups_numbered : AreNumbers (map (λ g. g.number) sorted)
  groups_numbered =
      let number : Group → ℕ = λ g. g.number in
      let long : length (map number sorted) ≡ length groups = length-map sorted number ∙ length_permutation groups sorted moved in
      let same : range_with_len 0 (length (map number sorted)) ≡ map number groups =
      ext_get_or 0 (range_with_len 0 (length (map number sorted))) (map number groups) (omega (arith, length-range_with_len 0 (length (map number sorted)), length-map groups number, long))
      (λ i b. let inside : i < length groups = omega (arith, b, length-range_with_len 0 (length (map number sorted)), long) in
      let z : 0 + i ≡ i = omega arith in
      get_or-range_with_len 0 (length (map number sorted)) i 0 (omega (arith, inside, long)) ∙ z ∙ sym (get_or-map number groups i no_group 0 inside ∙ are.numbered i no_group inside)) in
      subst (λ (ns : List ℕ). IsPermutation ns (map number sorted)) (sym same) (IsPermutation-map number groups sorted moved)

  -- they have all members
  pub groups_total : sum_by (λ g. g.frequency) sorted ≡ length keys
  groups_total = sum_by-IsPermutation (λ (g : Group). g.frequency) groups sorted moved ∙ are.total

  -- and there are no more groups than members
  pub groups_few : length sorted ≤ length keys
  groups_few = omega (arith, length_permutation groups sorted moved, long_sum (λ (g : Group). g.frequency) groups (recursion_from_All (λ (g : Group). 0 < g.frequency) groups are.some), are.total)

  some_members : (gs : List Group) → AllByRecursion (λ g. 0 < g.frequency) gs → AllByRecursion (λ t. 0 < t.frequency) (map token gs)
  some_members [] h = tt
  some_members (g ∷ gs) h = (h.0, some_members gs h.1)

  keys_are : (gs : List Group) → map key gs ≡ token_keys (map token gs)
  keys_are [] = refl
  keys_are (g ∷ gs) = ap (λ (ks : List Text). key g ∷ ks) (keys_are gs)

  -- the runs of the sorted groups are the tokens of the keys
  pub runs_tokens : IsSortedByKey key (slice_cmp nat_cmp) sorted → AreTokensOf keys (runs_of (map token sorted))
  runs_tokens up =
      let ts = map token sorted in
      let rise : TextsRise (token_keys ts) = rises (token_keys ts) (subst (IsSorted (slice_cmp nat_cmp)) (keys_are sorted) (sorted_map (slice_cmp nat_cmp) key sorted up)) in
      let some : AllByRecursion (λ (t : Token). 0 < t.frequency) ts = some_members sorted (recursion_from_All (λ (g : Group). 0 < g.frequency) sorted (All-permutation (λ (g : Group). 0 < g.frequency) groups sorted moved are.some)) in
      let counted : (q : Text) → often q ts ≡ count_by (bytes_eq q) keys = λ q. sum_by-IsPermutation _ (map token groups) ts (IsPermutation-map token groups sorted moved) ∙ are.counted q in
      let different = runs_differ ts rise in
      record {
        rising = sorted_from_rises (token_keys (runs_of ts)) (runs_rise ts rise);
        different = different;
        have = λ q. any_counted q keys ∙ ap (nat_lt 0) (sym (counted q)) ∙ sym (any_often q ts some) ∙ sym (runs_have q ts);
        frequent = frequent_as (λ q. count_by (bytes_eq q) keys) (runs_of ts) (runs_of ts) (λ q. runs_often q ts ∙ counted q) (often_alone (runs_of ts) different);
        total = runs_total ts ∙ frequencies_total tables columns sorted ∙ groups_total;
      }

  -- the rank of a group is that of its members
  pub member_ranks : (names : List Text) (ranks : List ℕ) → HaveRanks names tables columns ranks sorted → (n : ℕ) → n < length keys → IsRank names (get_or keys n []) (get_or (map (λ number. get_or ranks number 0) numbers) n 0)
  member_ranks names ranks have n b =
      let HasRank : Group → Type 0 = λ g. IsRank names (key g) (get_or ranks g.number 0) in
      let all : All HasRank groups = All-permutation HasRank sorted groups (IsPermutation-sym groups sorted moved) have in
      let at = get_or numbers n 0 in
      let here : n < length numbers = omega (arith, b, are.long) in
      let inside : at < length groups = are.inside n 0 here in
      let g = get_or groups at no_group in
      let same : key g ≡ get_or keys n [] = sym (get_or-map key groups at no_group [] inside) ∙ sym (get_or-map (group_key tables columns groups) numbers n 0 [] here) ∙ ap (λ (ks : List Text). get_or ks n []) are.same in
      let rank : get_or ranks g.number 0 ≡ get_or (map (λ number. get_or ranks number 0) numbers) n 0 =
      ap (λ (m : ℕ). get_or ranks m 0) (are.numbered at no_group inside) ∙ sym (get_or-map (λ (number : ℕ). get_or ranks number 0) numbers n 0 0 here) in
      subst (IsRank names (get_or keys n [])) rank (subst (λ (k : Text). IsRank names k (get_or ranks g.number 0)) same (all at no_group inside))

-- so they are counted
pub counted : (tables : List Table) (columns : List ColumnAt) (groups sorted : List Group) (numbers ranks ranked : List ℕ) (runs : List Run) → AreGroups tables columns (keys_of tables) groups numbers → IsPermutation groups sorted → IsSortedByKey (λ g. pointed_by tables columns g.keyed.member) (slice_cmp nat_cmp) sorted
    → map owner_there columns ≡ map owner_of (columns_of tables) → length (keys_of tables) < 2 ^ 32 → map (run_token tables columns) runs ≡ runs_of (map (group_token tables columns) sorted) → All (λ r. IsThere tables columns r.first) runs → AreRanked runs
    → HaveRanks (token_keys (runs_of (map (group_token tables columns) sorted))) tables columns ranks sorted → ranked ≡ map (λ number. get_or ranks number 0) numbers → AreCounted tables columns runs ranked
counted tables columns groups sorted numbers ranks ranked runs are moved up owned many made within numbered have is =
    let keys = keys_of tables in
    let ts = map (group_token tables columns) sorted in
    record {
      owned = owned;
      tokens = subst (AreTokensOf keys) (sym made) (runs_tokens tables columns keys groups numbers are sorted moved up);
      within = within;
      numbered = numbered;
      few = omega (arith, length-map runs (run_token tables columns), ap (λ (all : List Token). length all) made, runs_few ts, length-map sorted (group_token tables columns), groups_few tables columns keys groups numbers are sorted moved, many);
      long = ap (λ (ns : List ℕ). length ns) is ∙ length-map numbers (λ (number : ℕ). get_or ranks number 0) ∙ are.long;
      ranked = λ n b. subst (λ (ns : List ℕ). IsRank (run_names tables columns runs) (get_or keys n []) (get_or ns n 0)) (sym is)
          (subst (λ (all : List Token). IsRank (token_keys all) (get_or keys n []) (get_or (map (λ number. get_or ranks number 0) numbers) n 0)) (sym made)
          (member_ranks tables columns keys groups numbers are sorted moved (token_keys (runs_of ts)) ranks have n b));
    }
