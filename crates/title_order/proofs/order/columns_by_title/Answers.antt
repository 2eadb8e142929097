use Rattle.std.proofs.Common.{◌∙◌, ap, sym, subst, ℕ, List, length, map, rules}
use Rattle.std.specs.List.{AllAdjacentBelow}
use Rattle.std.specs.List.Sorted.{IsSorted}
use Rattle.search_model.specs.Ranks.{number_cmp, ranked, AreRising}
use Rattle.search_model.specs.Segment.{columns_of}
use Rattle.lake_model.proofs.SortingLemmas.{sorted_by_key}
use Rattle.title_order.specs.Titles.{by_title, RowsDiffer}
use Rattle.title_order.specs.declared.title.Title.{Title}
use Rattle.title_order.proofs.TitleLemmas.{all_numbers, by_title_total, number_of, numbers_rise, numbers_sorted}
use Rattle.title_order.proofs.order.columns_by_title.Goals as goal
use Rattle.token_order.specs.Counted.{AreNumbers}

pub returns-clause-sorted : goal.returns-clause-sorted
returns-clause-sorted c =
    let columns = columns_of c.args.tables.now in
    let sorted = c.sort_unstable_by.new.self.items in
    let up : IsSorted by_title sorted = sorted_by_key by_title_total (λ (t : Title). t) sorted c.sort_unstable_by.ensures.sorted (λ a r f' k. search rules) in
    let are = numbers_sorted columns c.in_ok-titles.titles.items c.in_ok-titles.ensures sorted c.sort_unstable_by.ensures.permutation up in
    subst (IsSorted (number_cmp columns)) (sym (c.in_ok-by_rank.ensures ∙ ap (map number_of) c.deref-2.ensures.value)) are

pub returns-clause-all : goal.returns-clause-all
returns-clause-all c =
    let are = all_numbers (columns_of c.args.tables.now) c.in_ok-titles.titles.items c.in_ok-titles.ensures c.sort_unstable_by.new.self.items c.sort_unstable_by.ensures.permutation in
    subst AreNumbers (sym (c.in_ok-by_rank.ensures ∙ ap (map number_of) c.deref-2.ensures.value)) are

pub returns-clause-strict : goal.returns-clause-strict
returns-clause-strict c strict =
    let columns = columns_of c.args.tables.now in
    let sorted = c.sort_unstable_by.new.self.items in
    let up : IsSorted by_title sorted = sorted_by_key by_title_total (λ (t : Title). t) sorted c.sort_unstable_by.ensures.sorted (λ a r f' k. search rules) in
    let differ = subst (λ (ts : List Title). AllAdjacentBelow RowsDiffer ts (length ts)) c.deref.ensures.value (c.neighbours_differ-is_strict.ensures strict) in
    let are = numbers_rise columns c.in_ok-titles.titles.items c.in_ok-titles.ensures sorted c.sort_unstable_by.ensures.permutation up differ in
    subst (λ (ns : List ℕ). AreRising (ranked columns ns)) (sym (c.in_ok-by_rank.ensures ∙ ap (map number_of) c.deref-2.ensures.value)) are
