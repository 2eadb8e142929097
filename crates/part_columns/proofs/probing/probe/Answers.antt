use Rattle.std.proofs.Common.{[], ◌+◌, ◌<◌, ◌++◌, ◌∷◌, ◌∙◌, ℕ, ap, sym, subst, drop, get_or, length, arith}
use Rattle.std.specs.List.Sorted.{IsStrictlyIncreasing}
use Rattle.segment_core.specs.Versions.{part_at, segment_at, tables_of}
use Rattle.std.specs.List.{count_by}
use Rattle.lake_model.specs.Layout.{is_among}
use Rattle.part_columns.proofs.UnreadLemmas.{set_counts, unread_counts}
use Rattle.part_columns.proofs.ProbeLemmas.{position_within, probe_counts, rest_is, rising_drop}
use Rattle.part_columns.proofs.SetLemmas.{query_rises, set_rises}
use Rattle.part_columns.proofs.probing.probe.Goals as goal
use Rattle.search_model.proofs.BoundLemmas.{prefix_filter}
use Rattle.list_laws.proofs.ListLemmas.{rises_strictly}
use Rattle.search_model.specs.declared.Look.TheVariants.{Probe}

pub tail-tail-requires-clause-after : goal.tail-tail-requires-clause-after
tail-tail-requires-clause-after c =
    let set = get_or (segment_at c.args.looks.now.version.parts c.args.part).sets c.args.column [] in
    subst (λ (n : ℕ). n < length set) (sym c.position_of-position.ensures) (position_within set c.args.tokens.now c.args.read c.args.tally c.requires.seen c.requires.tally)

pub count_asked-requires-clause-unread : goal.count_asked-requires-clause-unread
count_asked-requires-clause-unread c =
    let up = query_rises (segment_at c.args.looks.now.version.parts c.args.part).tokens c.args.tokens.now c.requires.tokens in
    subst IsStrictlyIncreasing (sym (rest_is c.args.read c.args.tokens.now)) (rises_strictly (drop c.args.read c.args.tokens.now) (rising_drop c.args.read c.args.tokens.now up))

pub count_asked-requires-clause-tail : goal.count_asked-requires-clause-tail
count_asked-requires-clause-tail c =
    let parts = c.args.looks.now.version.parts in
    let over = set_rises (tables_of (part_at parts c.args.part)) c.args.column c.requires.column in
    subst IsStrictlyIncreasing (sym c.tail-tail.ensures.tail) (rises_strictly _ (rising_drop _ (get_or (segment_at parts c.args.part).sets c.args.column []) over))

pub count_asked-requires-clause-set : goal.count_asked-requires-clause-set
count_asked-requires-clause-set c =
    let parts = c.args.looks.now.version.parts in
    let tokens = c.args.tokens.now in
    let set = get_or (segment_at parts c.args.part).sets c.args.column [] in
    let up = query_rises (segment_at parts c.args.part).tokens tokens c.requires.tokens in
    let over = set_rises (tables_of (part_at parts c.args.part)) c.args.column c.requires.column in
    let same = unread_counts set tokens c.args.read c.args.tally over up c.requires.seen c.requires.tally in
    let tail = c.tail-tail.ensures.tail ∙ ap (λ (n : ℕ). drop (n + 1) set) c.position_of-position.ensures in
    set_counts c.args.set tokens c.tail-tail.result.now _ c.requires.set (ap (count_by (is_among tokens)) tail ∙ same ∙ (λ j. count_by (is_among (sym (rest_is c.args.read tokens) j)) (sym tail j)))

pub overflow_add-result : goal.overflow_add-result
overflow_add-result c =
    let parts = c.args.looks.now.version.parts in
    let set = get_or (segment_at parts c.args.part).sets c.args.column [] in
    let up = query_rises (segment_at parts c.args.part).tokens c.args.tokens.now c.requires.tokens in
    let over = set_rises (tables_of (part_at parts c.args.part)) c.args.column c.requires.column in
    let all = probe_counts set c.args.tokens.now c.args.read c.count_asked.result _ _ c.args.tally over up c.requires.seen c.requires.tally (rest_is c.args.read c.args.tokens.now) (c.tail-tail.ensures.tail ∙ ap (λ (n : ℕ). drop (n + 1) set) c.position_of-position.ensures) c.count_asked.ensures in
    record { fits = omega (arith, all, prefix_filter set c.args.tokens.now, c.requires.few) }

pub returns-clause-overlap : goal.returns-clause-overlap
returns-clause-overlap c =
    let parts = c.args.looks.now.version.parts in
    let set = get_or (segment_at parts c.args.part).sets c.args.column [] in
    let up = query_rises (segment_at parts c.args.part).tokens c.args.tokens.now c.requires.tokens in
    let over = set_rises (tables_of (part_at parts c.args.part)) c.args.column c.requires.column in
    probe_counts set c.args.tokens.now c.args.read c.count_asked.result _ _ c.args.tally over up c.requires.seen c.requires.tally (rest_is c.args.read c.args.tokens.now) (c.tail-tail.ensures.tail ∙ ap (λ (n : ℕ). drop (n + 1) set) c.position_of-position.ensures) c.count_asked.ensures

pub returns-clause-log : goal.returns-clause-log
returns-clause-log c = c.tail-tail.ensures.log ∙ ap (λ (n : ℕ). c.args.looks.now.log ++ Probe (part_at c.args.looks.now.version.parts c.args.part).number c.args.column n ∷ []) c.position_of-position.ensures
