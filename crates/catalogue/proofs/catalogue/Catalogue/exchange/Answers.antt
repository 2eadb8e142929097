use Rattle.std.proofs.Common.{◌∙◌, sym, ap, subst, List, length}
use Rattle.std.specs.List.{filter}
use Rattle.std.specs.BTreeMap.{get_by_text}
use Rattle.lake_model.specs.Layout.{Part, is_among, layout, merged, positions_of}
use Rattle.layout_laws.proofs.RunLemmas.{opened}
use Rattle.layout_laws.proofs.StayLemmas.{layout_numbers}
use Rattle.list_laws.specs.Distinct.{AreDistinct}
use Rattle.catalogue.specs.Swaps.{kept_tables, numbers_in}
use Rattle.catalogue.proofs.KeptLemmas.{positions_differ}
use Rattle.catalogue.proofs.SwapLemmas.{fits, replaced_is, run_distinct, run_is}
use Rattle.catalogue.proofs.ThereLemmas.{first_is}
use Rattle.catalogue.proofs.catalogue.Catalogue.exchange.Goals as goal

pub run_at-run-requires : goal.run_at-run-requires
run_at-run-requires c =
    let journal = c.args.self.now.journal in
    let from = c.args.from.now in
    let kept = c.args.kept.now in
    let first = first_is (layout journal) from kept c.in-Some.first c.index-from-0.result (layout_numbers journal) c.requires.may c.in-Some.ensures.within c.in-Some.ensures.found in
    (fits (layout journal) from kept c.in-Some.first c.requires.may first).1

pub merged_part-requires-clause-distinct : goal.merged_part-requires-clause-distinct
merged_part-requires-clause-distinct c =
    let s = c.self.inside in
    let distinct = subst (λ k. AreDistinct (positions_of (layout k.journal))) c.self.view_is (positions_differ s.limits s.journal.items s.version.value s.counts (λ q. get_by_text s.positions q) c.self.invariant) in
    subst (λ (run : List Part). AreDistinct (positions_of run)) (sym c.run_at-run.ensures) (run_distinct (layout c.args.self.now.journal) c.in-Some.first (length c.args.from.now) distinct)

pub merged_part-requires-clause-taken : goal.merged_part-requires-clause-taken
merged_part-requires-clause-taken c =
    let journal = c.args.self.now.journal in
    let from = c.args.from.now in
    let kept = c.args.kept.now in
    let first = first_is (layout journal) from kept c.in-Some.first c.index-from-0.result (layout_numbers journal) c.requires.may c.in-Some.ensures.within c.in-Some.ensures.found in
    let run = c.run_at-run.ensures ∙ run_is (layout journal) from c.in-Some.first first in
    ap (λ (ps : List Part). filter (is_among c.args.kept.now) (positions_of ps)) run ∙ (opened (layout journal) (numbers_in from) kept c.requires.may).taken

pub merged_part-requires-clause-tables : goal.merged_part-requires-clause-tables
merged_part-requires-clause-tables c =
    let journal = c.args.self.now.journal in
    let from = c.args.from.now in
    let kept = c.args.kept.now in
    let first = first_is (layout journal) from kept c.in-Some.first c.index-from-0.result (layout_numbers journal) c.requires.may c.in-Some.ensures.within c.in-Some.ensures.found in
    let run = c.run_at-run.ensures ∙ run_is (layout journal) from c.in-Some.first first in
    c.requires.tables ∙ ap (kept_tables c.args.kept.now) (sym run)

pub returns-clause-within : goal.returns-clause-within
returns-clause-within c =
    let journal = c.args.self.now.journal in
    let from = c.args.from.now in
    let kept = c.args.kept.now in
    let first = first_is (layout journal) from kept c.in-Some.first c.index-from-0.result (layout_numbers journal) c.requires.may c.in-Some.ensures.within c.in-Some.ensures.found in
    (fits (layout journal) from kept c.in-Some.first c.requires.may first).1

pub returns-clause-replaced : goal.returns-clause-replaced
returns-clause-replaced c =
    let journal = c.args.self.now.journal in
    let from = c.args.from.now in
    let kept = c.args.kept.now in
    let first = first_is (layout journal) from kept c.in-Some.first c.index-from-0.result (layout_numbers journal) c.requires.may c.in-Some.ensures.within c.in-Some.ensures.found in
    let run = c.run_at-run.ensures ∙ run_is (layout journal) from c.in-Some.first first in
    replaced_is c.args.at (layout journal) from kept c.in-Some.first c.in_ok-merged_part.field-0 (layout_numbers journal) c.requires.may first (c.in_ok-merged_part.ensures ∙ ap (merged c.args.at c.args.kept.now) run)
