use Rattle.std.proofs.Common.{◌≡◌, ◌∙◌, ◌+◌, ℕ, List, [], ◌∷◌, ◌++◌, ap, sym, refl, get_or, length, sum_by, take, arith}
use Rattle.std.proofs.lemmas.List.{length-append, length-map}
use Rattle.search_model.specs.Choosers.{read_cost}
use Rattle.segment_core.specs.Versions.{segment_at}
use Rattle.josie_search.specs.Costs.{lengths_of}
use Rattle.josie_search.proofs.CostLemmas.{sums_more}
use Rattle.josie_search.proofs.cost.sum_costs.Goals as goal

pub loop-token-init : goal.loop-token-init
loop-token-init c =
    let one = c.push_reserved.ensures.items ∙ ap (λ (xs : List ℕ). xs ++ 0 ∷ []) c.clear.ensures.items in
    record {
      long = ap length one;
      sums = λ n low. (let e : n ≡ 0 = omega (arith, low) in (λ i. get_or (one i) (e i) 0) ∙ ap (λ (m : ℕ). sum_by read_cost (take m (lengths_of (segment_at c.args.looks.now.version.parts c.args.part) c.args.tokens.now))) (sym e));
      sum = refl;
      small = omega arith;
      room = c.push_reserved.ensures.capacity ∙ c.clear.ensures.capacity;
    }

pub overflow_add-sum : goal.overflow_add-sum
overflow_add-sum c = record { fits = omega (arith, c.loop-token.invariant.small, c.read_cost-sum.ensures.small, c.loop-token-test.true, c.requires.few) }

pub push_reserved-requires-in-loop-token : goal.push_reserved-requires-in-loop-token
push_reserved-requires-in-loop-token c = omega (arith, c.loop-token.invariant.long, c.loop-token.invariant.room, c.loop-token.sums.ok.0, c.requires.room, c.loop-token-test.true)

pub loop-token-preserved : goal.loop-token-preserved
loop-token-preserved c =
    let kept = c.loop-token.invariant in
    let segment = segment_at c.args.looks.now.version.parts c.args.part in
    let more = sums_more segment c.args.tokens.now c.loop-token.sums.items c.loop-token.token-index c.loop-token.sum c.length_of.result c.read_cost-sum.result c.loop-token-test.true kept.long kept.sums kept.sum c.length_of.ensures c.read_cost-sum.ensures.value in
    let items = c.push_reserved-in-loop-token.ensures.items in
    record {
      long = ap length items ∙ length-append c.loop-token.sums.items _ ∙ ap (λ (n : ℕ). n + 1) kept.long;
      sums = λ n low. ap (λ (xs : List ℕ). get_or xs n 0) items ∙ more.1 n low;
      sum = more.0;
      small = omega (arith, kept.small, c.read_cost-sum.ensures.small);
      room = c.push_reserved-in-loop-token.ensures.capacity ∙ kept.room;
    }

pub returns-clause-sums : goal.returns-clause-sums
returns-clause-sums c =
    let kept = c.loop-token.invariant in
    let segment = segment_at c.args.looks.now.version.parts c.args.part in
    let many : length (lengths_of segment c.args.tokens.now) ≡ length c.args.tokens.now = length-map c.args.tokens.now _ in
    let all : c.loop-token.token-index ≡ length c.args.tokens.now = omega (arith, c.loop-token-test.false, c.loop-token.auto.token-index-end) in
    record {
      long = omega (arith, kept.long, all, many);
      sum = λ n low. kept.sums n (omega (arith, low, many, all));
    }
