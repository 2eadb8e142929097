-- The columns of a part by their ranks, while the first rows are held by these.
use Rattle.std.proofs.Common.{◌≡◌, ◌∙◌, ap, sym, subst, ℕ, ◌<◌, List, get_or, length, Option, Some, arith}
use Rattle.std.specs.Prelude.{IfSome}
use Rattle.std.proofs.lemmas.List.{get_or-map, length-map}
use Rattle.search_model.specs.Arrays.{no_titled, titled_at}
use Rattle.search_model.specs.Ranks.{ranked, AreInverse, AreRanks}
use Rattle.search_model.specs.Segment.{Titled}
use Rattle.topk_heap.specs.First.{FirstRows}
use Rattle.topk_heap.specs.Ranked.{RankedRows}
use Rattle.josie_search.specs.Firsts.{first_rows, Firsts}

module _ (columns : List Titled) (ranks by_rank : List ℕ) (are : AreRanks columns ranks) (inverse : AreInverse ranks by_rank) (titled : List Titled) (same : titled ≡ ranked columns by_rank) (x : ℕ) (here : x < length columns) where
  pub rank_within : get_or ranks x 0 < length titled
  rank_within = omega (arith, are.below x here, are.size, inverse.size, length-map by_rank (titled_at columns), ap (λ (ts : List Titled). length ts) same)

  -- at the rank of a column is that column
  pub titled_there : titled_at titled (get_or ranks x 0) ≡ titled_at columns x
  titled_there =
      ap (λ (ts : List Titled). titled_at ts (get_or ranks x 0)) same
      ∙ get_or-map (titled_at columns) by_rank (get_or ranks x 0) 0 no_titled (omega (arith, are.below x here, are.size, inverse.size))
      ∙ ap (titled_at columns) (inverse.back x (omega (arith, here, are.size)))

-- what is asked of the titles holds of those that are held
pub titles_held : (P : List Titled → Type 0) (held : Option RankedRows) (rows : FirstRows) (all : Firsts) (here : RankedRows) → first_rows held rows ≡ all → held ≡ Some here → IfSome all.titled P → P here.titled
titles_held P held rows all here view is told =
    subst (λ (o : Option RankedRows). IfSome (first_rows o rows).titled P) is (subst (λ (f : Firsts). IfSome f.titled P) (sym view) told)
