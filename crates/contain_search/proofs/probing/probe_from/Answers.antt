use Rattle.std.proofs.Common.{[], ◌+◌, ◌<◌, ◌++◌, ◌∷◌, ◌∙◌, ℕ, ap, sym, subst, refl, drop, get_or, length, arith}
use Rattle.std.specs.List.Sorted.{IsStrictlyIncreasing}
use Rattle.contain_search.proofs.EnoughLemmas.{probed_from}
use Rattle.part_columns.proofs.ProbeLemmas.{position_within, probe_counts, rest_is, rising_drop}
use Rattle.part_columns.proofs.SetLemmas.{query_rises, set_rises}
use Rattle.segment_core.specs.Versions.{part_at, segment_at, tables_of}
use Rattle.contain_search.proofs.probing.probe_from.Goals as goal
use Rattle.search_model.proofs.BoundLemmas.{prefix_filter}
use Rattle.list_laws.proofs.ListLemmas.{rises_strictly}
use Rattle.search_model.specs.declared.Look.TheVariants.{Probe}

pub tail-tail-requires-clause-after : goal.tail-tail-requires-clause-after
tail-tail-requires-clause-after c =
    let set = get_or (segment_at c.args.looks.now.version.parts c.args.part).sets c.args.column [] in
    subst (λ (n : ℕ). n < length set) (sym c.position_of-position.ensures) (position_within set c.args.tokens.now c.args.read c.args.tally c.requires.seen c.requires.tally)

pub shared_from-requires-clause-others : goal.shared_from-requires-clause-others
shared_from-requires-clause-others c =
    let up = query_rises (segment_at c.args.looks.now.version.parts c.args.part).tokens c.args.tokens.now c.requires.tokens in
    subst IsStrictlyIncreasing (sym (rest_is c.args.read c.args.tokens.now)) (rises_strictly (drop c.args.read c.args.tokens.now) (rising_drop c.args.read c.args.tokens.now up))

pub shared_from-requires-clause-tokens : goal.shared_from-requires-clause-tokens
shared_from-requires-clause-tokens c =
    let parts = c.args.looks.now.version.parts in
    let over = set_rises (tables_of (part_at parts c.args.part)) c.args.column c.requires.column in
    subst IsStrictlyIncreasing (sym c.tail-tail.ensures.tail) (rises_strictly _ (rising_drop _ (get_or (segment_at parts c.args.part).sets c.args.column []) over))

pub overflow_add-result : goal.overflow_add-result
overflow_add-result c =
    let parts = c.args.looks.now.version.parts in
    let set = get_or (segment_at parts c.args.part).sets c.args.column [] in
    let up = query_rises (segment_at parts c.args.part).tokens c.args.tokens.now c.requires.tokens in
    let over = set_rises (tables_of (part_at parts c.args.part)) c.args.column c.requires.column in
    let all = probe_counts set c.args.tokens.now c.args.read _ _ _ c.args.tally over up c.requires.seen c.requires.tally (rest_is c.args.read c.args.tokens.now) (c.tail-tail.ensures.tail ∙ ap (λ (n : ℕ). drop (n + 1) set) c.position_of-position.ensures) refl in
    record { fits = omega (arith, all, c.shared_from.ensures.most, prefix_filter set c.args.tokens.now, c.requires.few) }

pub returns-clause-overlap : goal.returns-clause-overlap
returns-clause-overlap c =
    let parts = c.args.looks.now.version.parts in
    let set = get_or (segment_at parts c.args.part).sets c.args.column [] in
    let up = query_rises (segment_at parts c.args.part).tokens c.args.tokens.now c.requires.tokens in
    let over = set_rises (tables_of (part_at parts c.args.part)) c.args.column c.requires.column in
    probed_from set c.args.tokens.now c.args.read c.args.least _ c.shared_from.result _ _ c.args.tally over up c.requires.seen c.requires.tally (rest_is c.args.read c.args.tokens.now) (c.tail-tail.ensures.tail ∙ ap (λ (n : ℕ). drop (n + 1) set) c.position_of-position.ensures) c.saturating_sub-wanted.ensures c.shared_from.ensures.count

pub returns-clause-log : goal.returns-clause-log
returns-clause-log c = c.tail-tail.ensures.log ∙ ap (λ (n : ℕ). c.args.looks.now.log ++ Probe (part_at c.args.looks.now.version.parts c.args.part).number c.args.column n ∷ []) c.position_of-position.ensures
