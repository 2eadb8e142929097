use Rattle.std.proofs.Common.{◌≡◌, sym, subst, ◌+◌, Bool, get_or, not, rules}
use Rattle.std.specs.List.{IsAllAdjacentAnswer}
use Rattle.std.specs.Ordering.{is_eq}
use Rattle.lake_model.specs.Answer.{row_cmp}
use Rattle.std.proofs.lemmas.Bool.{not-true}
use Rattle.std.proofs.lemmas.Fn.{always_returns_same}
use Rattle.title_order.specs.declared.title.Title.{Title}
use Rattle.title_order.proofs.order.neighbours_differ.Goals as goal

pub returns : goal.returns
returns c strict =
    let differ : Title → Title → Bool = λ a b. not (is_eq (row_cmp a.row b.row)) in
    let told = subst (λ (r : Bool). IsAllAdjacentAnswer (λ (a b : Title) (r : Bool). r ≡ differ a b) c.args.titles.now r) strict (c.is_sorted_by.ensures.cases differ (always_returns_same _ _ _ (λ a r f' k. search rules))) in
    λ k d b. not-true (is_eq (row_cmp (get_or c.args.titles.now k d).row (get_or c.args.titles.now (k + 1) d).row)) (sym (told k d b))
