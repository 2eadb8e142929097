-- Merges: what is planned may be swapped and is small enough to be merged, and the reply to its swap is that of the definitions.
use Rattle.std.proofs.Common.{◌≡◌, refl, ap, sym, ◌∙◌, subst, ℕ, ◌+◌, ◌*◌, ◌<◌, ◌≤◌, List, [], ◌∷◌, ◌++◌, Bool, true, false, not, cond, length, take, map, get_or, Option, Some, None, option_map, arith, length-append}
use Rattle.std.specs.Prelude.{find, sum_by, IfOk, Ok, Err}
use Rattle.std.specs.declared.result.Result.{Result}
use Rattle.std.specs.List.{fold}
use Rattle.std.proofs.lemmas.Simd.{map-map}
use Rattle.std.proofs.lemmas.List.{length-map, map-append, take-append-le, take_all, take_more}
use Rattle.std.proofs.lemmas.List.Sums.{sum_by-append, sum_by_push}
use Rattle.std.proofs.lemmas.List.Filters.{sum_by-filter_both}
use Rattle.lake_model.specs.declared.Counts.{Counts}
use Rattle.lake_model.specs.declared.Who.{Who}
use Rattle.lake_model.specs.declared.Policy.{Policy}
use Rattle.lake_model.specs.Tables.{Table, members}
use Rattle.lake_model.specs.Journal.{Entry, What, Loaded, Dropped, Replaced, Swapped, live, live_after, without, loads_of, counts, entry_with, has_name}
use Rattle.lake_model.specs.Layout.{Place, Part, Shown, layout, is_legal, shown, shown_with, shown_layout, unmarked_of}
use Rattle.lake_model.specs.Plan.{plan, plan_of, planned_parts}
use Rattle.layout_laws.specs.Steps.{positions_in}
use Rattle.layout_laws.specs.Places.{places_of}
use Rattle.layout_laws.proofs.RunLemmas.{Run}
use Rattle.layout_laws.proofs.LiveLemmas.{unmarked, places_split, unmarked_three}
use Rattle.layout_laws.proofs.LaidLemmas.{laid_out}
use Rattle.layout_laws.proofs.PlanLemmas.{is_planned_run}
use Rattle.segment_core.specs.Plans.{MergedOf, PlanOf, kept_loads, plan_run}
use Rattle.segment_core.specs.Positions as positions
use Rattle.segment_core.specs.Versions.{VersionOf, live_of, version_with}
use Rattle.segment_merge.specs.Planned.{load_positions, load_tables, plan_at, plan_parts}
use Rattle.catalogue.specs.Kept.{IsWithin}
use Rattle.catalogue.proofs.PlannedLemmas.{run_merges, numbers_named}
use Rattle.catalogue.specs.Swaps.{IsMergeOf, is_there}
use Rattle.record_model.specs.Answered.{swaps}
use Rattle.record_model.specs.Replies.{Merged, merge_gone, merge_planned, merge_reply}
use Rattle.command_replies.specs.declared.merging.Planned.{Planned}
use Rattle.command_replies.specs.Merging.{CanSwap, IsPlanned, merge_of, planned_at, swap_of, swap_reply, unless_gone}

-- ---- what a plan states of the planned parts

positions_kept : (parts : List Part) → load_positions (kept_loads parts) ≡ positions_in (unmarked_of parts)
positions_kept parts = map-map (λ (load : ℕ × Table). load.0) (λ (p : Place). (p.position, p.table)) (unmarked_of parts)

abbrev tables_in : List Place → List Table
tables_in places = map (λ place. place.table) places

tables_kept : (parts : List Part) → load_tables (kept_loads parts) ≡ live_of parts
tables_kept parts = map-map (λ (load : ℕ × Table). load.1) (λ (p : Place). (p.position, p.table)) (unmarked_of parts)

-- ---- what is planned may be swapped

merge_is : (policy : Policy) (journal : List Entry) (part : Part) (rest : List Part) → is_legal journal ≡ true → planned_parts policy (layout journal) ≡ part ∷ rest
    → IsMergeOf (layout journal) (merge_of (plan_run (length journal) (part ∷ rest)))
merge_is policy journal part rest legal h =
    let planned = is_planned_run policy (layout journal) part rest (laid_out journal legal).filled h in
    run_merges journal legal (part ∷ rest) planned.stands (omega arith) planned.merging (merge_of (plan_run (length journal) (part ∷ rest))) refl refl refl

-- what is merged at a journal may be swapped there
pub can_swap : (policy : Policy) (journal : List Entry) (merged : Option MergedOf) → is_legal journal ≡ true → merged ≡ planned_at policy journal → CanSwap journal merged
can_swap policy journal merged legal is = subst (CanSwap journal) (sym is) (by (planned_parts policy (layout journal)) refl)
  where
    by : (parts : List Part) → planned_parts policy (layout journal) ≡ parts → CanSwap journal (option_map merge_of (plan_parts (length journal) parts))
    by [] e = tt
    by (part ∷ rest) e =
        let whole : take (length journal) journal ≡ journal = take_all (length journal) journal (omega arith) in
        (omega arith, subst (λ (j : List Entry). IsMergeOf (layout j) (merge_of (plan_run (length journal) (part ∷ rest)))) (sym whole) (merge_is policy journal part rest legal e))

-- and at each longer one
pub can_swap_later : (journal more : List Entry) (merged : Option MergedOf) → CanSwap journal merged → CanSwap (journal ++ more) merged
can_swap_later journal more None can = can
can_swap_later journal more (Some merged) can = (
  omega (arith, can.0, length-append journal more),
  subst (λ (j : List Entry). IsMergeOf (layout j) merged) (sym (take-append-le merged.at journal more can.0)) can.1,
)

-- ---- what is planned is small enough to be merged

-- how the sum over the live tables grows with an entry
live_sum : (f : Table → ℕ) (tables : List Table) (journal : List Entry) → sum_by f (fold (λ ts (entry : Entry). live_after ts entry.what) tables journal) ≤ sum_by f tables + sum_by f (loads_of journal)
live_sum f tables [] = omega arith
live_sum f tables (entry ∷ entries) = by entry.who entry.what (live_sum f (live_after tables entry.what) entries)
  where
    by : (who : Who) (what : What) → sum_by f (fold (λ ts (entry : Entry). live_after ts entry.what) (live_after tables what) entries) ≤ sum_by f (live_after tables what) + sum_by f (loads_of entries)
        → sum_by f (fold (λ ts (entry : Entry). live_after ts entry.what) (live_after tables what) entries) ≤ sum_by f tables + sum_by f (loads_of (entry_with who what ∷ entries))
    by who (Loaded table) h =
        let more = sum_by_push f tables table in
        let first : sum_by f (loads_of (entry_with who (Loaded table) ∷ entries)) ≡ 0 + f table + sum_by f (loads_of entries) = sum_by-append f (table ∷ []) (loads_of entries) in
        omega (arith, h, more, first)
    by who (Dropped name) h =
        let fewer = sum_by-filter_both (has_name name) (λ table. not (has_name name table)) (λ table. refl) f tables in
        omega (arith, h, fewer)
    by who (Replaced table) h =
        let fewer = sum_by-filter_both (has_name table.name) (λ other. not (has_name table.name other)) (λ other. refl) f tables in
        let more = sum_by_push f (without table.name tables) table in
        let first : sum_by f (loads_of (entry_with who (Replaced table) ∷ entries)) ≡ 0 + f table + sum_by f (loads_of entries) = sum_by-append f (table ∷ []) (loads_of entries) in
        omega (arith, h, fewer, more, first)
    by who (Swapped planned kept) h = h

-- the live tables of a layout, and those of a run of its parts
live_split : (parts run : List Part) (stands : Run parts run) → live_of parts ≡ live_of stands.front ++ (live_of run ++ live_of stands.back)
live_split parts run stands =
    ap live_of stands.whole
    ∙ ap (λ (ps : List Place). tables_in (unmarked ps)) (places_split stands.front run stands.back)
    ∙ ap tables_in (unmarked_three (places_of stands.front) (places_of run) (places_of stands.back))
    ∙ map-append (λ (p : Place). p.table) (unmarked_of stands.front) (unmarked_of run ++ unmarked_of stands.back)
    ∙ ap (λ (ts : List Table). live_of stands.front ++ ts) (map-append (λ (p : Place). p.table) (unmarked_of run) (unmarked_of stands.back))

run_sum : (f : Table → ℕ) (parts run : List Part) → Run parts run → sum_by f (live_of run) ≤ sum_by f (live_of parts)
run_sum f parts run stands =
    let whole : sum_by f (live_of parts) ≡ sum_by f (live_of stands.front ++ (live_of run ++ live_of stands.back)) = ap (sum_by f) (live_split parts run stands) in
    omega (arith, whole, sum_by-append f (live_of stands.front) (live_of run ++ live_of stands.back), sum_by-append f (live_of run) (live_of stands.back))

run_length : (parts run : List Part) → Run parts run → length (live_of run) ≤ length (live_of parts)
run_length parts run stands =
    let whole : length (live_of parts) ≡ length (live_of stands.front ++ (live_of run ++ live_of stands.back)) = ap (λ (ts : List Table). length ts) (live_split parts run stands) in
    omega (arith, whole, length-append (live_of stands.front) (live_of run ++ live_of stands.back), length-append (live_of run) (live_of stands.back))

-- a plan keeps no more tables, and no more members, than are live
pub record IsAmongLive (journal : List Entry) (kept : List (ℕ × Table)) : Type 0 where
  pub few : length kept ≤ length (live journal)
  pub light : sum_by members (load_tables kept) ≤ sum_by members (live journal)

among_live : (policy : Policy) (journal : List Entry) (part : Part) (rest : List Part) → is_legal journal ≡ true → planned_parts policy (layout journal) ≡ part ∷ rest → IsAmongLive journal (kept_loads (part ∷ rest))
among_live policy journal part rest legal h =
    let run = part ∷ rest in
    let parts = layout journal in
    let laid = laid_out journal legal in
    let stands = (is_planned_run policy parts part rest laid.filled h).stands in
    let all : live_of parts ≡ live journal = ap tables_in laid.unmarked ∙ laid.tables in
    let some : length (load_tables (kept_loads run)) ≡ length (kept_loads run) = length-map (kept_loads run) (λ (load : ℕ × Table). load.1) in
    let same = tables_kept run in
    let short : length (load_tables (kept_loads run)) ≡ length (live_of run) = ap (λ (ts : List Table). length ts) same in
    let many : length (live_of parts) ≡ length (live journal) = ap (λ (ts : List Table). length ts) all in
    let sum : sum_by members (load_tables (kept_loads run)) ≡ sum_by members (live_of run) = ap (sum_by members) same in
    let total : sum_by members (live_of parts) ≡ sum_by members (live journal) = ap (sum_by members) all in
    record {
      few = omega (arith, some, short, many, run_length parts run stands);
      light = omega (arith, sum, total, run_sum members parts run stands);
    }

plan_among : (policy : Policy) (journal : List Entry) (plan : PlanOf) → is_legal journal ≡ true → plan_at policy (version_with (length journal) (layout journal)) ≡ Some plan → IsAmongLive journal plan.kept
plan_among policy journal plan legal is = by (planned_parts policy (layout journal)) refl is
  where
    by : (parts : List Part) → planned_parts policy (layout journal) ≡ parts → plan_parts (length journal) parts ≡ Some plan → IsAmongLive journal plan.kept
    by [] e f = cc
    by (part ∷ rest) e f =
        let same : plan_run (length journal) (part ∷ rest) ≡ plan = cc in
        subst (λ (p : PlanOf). IsAmongLive journal p.kept) same (among_live policy journal part rest legal e)

-- if the limits of a lake are at most these, a plan in it keeps no more tables, and no more members, than these limits allow
pub plan_small : (policy : Policy) (most limits : Counts) (journal : List Entry) (plan : PlanOf) → is_legal journal ≡ true → IsWithin most limits → IsWithin limits (counts journal)
    → plan_at policy (version_with (length journal) (layout journal)) ≡ Some plan → (length plan.kept ≤ most.live) × (sum_by members (load_tables plan.kept) ≤ most.members)
plan_small policy most limits journal plan legal shipped within is =
    let among = plan_among policy journal plan legal is in
    let light : sum_by members (live journal) ≤ 0 + sum_by members (loads_of journal) = live_sum members [] journal in
    (omega (arith, among.few, shipped.live, within.live), omega (arith, among.light, light, shipped.members, within.members))

-- ---- the reply to a swap, and what it adds

find_map : {X Y : Type 0} (p : Y → Bool) (f : X → Y) (xs : List X) → find p (map f xs) ≡ option_map f (find (λ x. p (f x)) xs)
find_map p f [] = refl
find_map {X} p f (x ∷ xs) = by (p (f x)) (find_map p f xs)
  where
    by : (b : Bool) → find p (map f xs) ≡ option_map f (find (λ x. p (f x)) xs) → cond b (Some (f x)) (find p (map f xs)) ≡ option_map f (cond b (Some x) (find (λ x. p (f x)) xs))
    by true rest = refl
    by false rest = rest

swap_adds : (at : ℕ) (parts : List Part) → swap_of (option_map merge_of (plan_parts at parts)) ≡ swaps (plan_of parts)
swap_adds at [] = refl
swap_adds at (part ∷ rest) = λ i. Swapped (numbers_named (part ∷ rest) i) (positions_kept (part ∷ rest) i) ∷ []

-- a part, as a plan names it
abbrev as_named : Part → ℕ × List ℕ
as_named part = (part.number, positions.loads_of part)

gone_said : (before journal : List Entry) (at : ℕ) (parts : List Part) (gone : Option Part)
    → unless_gone (shown_layout before) (merge_of (plan_run at parts)) (length journal) (option_map as_named gone) ≡ merge_gone before journal parts gone
gone_said before journal at parts (Some part) = refl
gone_said before journal at parts None =
    λ i. Merged (shown_layout before) (length-map parts as_named i) ((ap (λ (ns : List ℕ). length ns) (positions_kept parts) ∙ length-map (unmarked_of parts) (λ (p : Place). p.position)) i) (length journal + 1)

swap_says : (before journal : List Entry) (at : ℕ) (parts : List Part) → swap_reply (shown_layout before) (option_map merge_of (plan_parts at parts)) journal ≡ merge_planned before journal parts
swap_says before journal at [] = refl
swap_says before journal at (part ∷ rest) =
    let missing : ℕ × List ℕ → Bool = λ planned. not (is_there (layout journal) planned) in
    ap (unless_gone (shown_layout before) (merge_of (plan_run at (part ∷ rest))) (length journal)) (find_map missing as_named (part ∷ rest))
    ∙ gone_said before journal at (part ∷ rest) (find (λ planned. missing (as_named planned)) (part ∷ rest))

-- the reply to the swap of what was planned
pub planned_reply : (policy : Policy) (journal : List Entry) (planned : Planned) → IsPlanned policy journal planned
    → swap_reply planned.layout planned.merged journal ≡ merge_reply policy (take planned.layout.at journal) journal
planned_reply policy journal planned is =
    let pinned : List Entry = take planned.layout.at journal in
    (λ i. swap_reply (is.shows i) (is.plans i) journal) ∙ swap_says pinned journal (length pinned) (planned_parts policy (layout pinned))

pub planned_change : (policy : Policy) (journal : List Entry) (planned : Planned) → IsPlanned policy journal planned → swap_of planned.merged ≡ swaps (plan policy (take planned.layout.at journal))
planned_change policy journal planned is =
    let pinned : List Entry = take planned.layout.at journal in
    ap swap_of is.plans ∙ swap_adds (length pinned) (planned_parts policy (layout pinned))

-- ---- what is held for a merge

pub planned_later : (policy : Policy) (journal more : List Entry) (planned : Planned) → IsPlanned policy journal planned → IsPlanned policy (journal ++ more) planned
planned_later policy journal more planned is =
    let same : take planned.layout.at (journal ++ more) ≡ take planned.layout.at journal = take-append-le planned.layout.at journal more is.before in
    record {
      before = omega (arith, is.before, length-append journal more);
      shows = is.shows ∙ ap shown_layout (sym same);
      plans = is.plans ∙ ap (planned_at policy) (sym same);
      swaps = can_swap_later journal more planned.merged is.swaps;
    }

pub planned_now : (policy : Policy) (journal : List Entry) (version : VersionOf) (planned : Planned) → is_legal journal ≡ true → version ≡ version_with (length journal) (layout journal)
    → planned.layout ≡ shown_with version.at (shown version.parts) → planned.merged ≡ option_map merge_of (plan_at policy version)
    → (IsPlanned policy journal planned) × (planned.layout.at ≡ length journal)
planned_now policy journal version planned legal current shows plans =
    let shown_is : planned.layout ≡ shown_layout journal = shows ∙ ap (λ (v : VersionOf). shown_with v.at (shown v.parts)) current in
    let here : planned.layout.at ≡ length journal = ap (λ (l : Shown). l.at) shown_is in
    let whole : take planned.layout.at journal ≡ journal = ap (λ (n : ℕ). take n journal) here ∙ take_all (length journal) journal (omega arith) in
    let plans_is : planned.merged ≡ planned_at policy journal = plans ∙ ap (λ (v : VersionOf). option_map merge_of (plan_at policy v)) current in (
      record {
        before = omega (arith, here);
        shows = shown_is ∙ ap shown_layout (sym whole);
        plans = plans_is ∙ ap (planned_at policy) (sym whole);
        swaps = can_swap policy journal planned.merged legal plans_is;
      },
      here,
    )

-- the same for what was planned, if it was
pub plans_on_ok : {F : Type 0} (policy : Policy) (journal : List Entry) (version : VersionOf) (made : Result Planned F) → is_legal journal ≡ true → version ≡ version_with (length journal) (layout journal)
    → IfOk made (λ planned. planned.layout ≡ shown_with version.at (shown version.parts)) → IfOk made (λ planned. planned.merged ≡ option_map merge_of (plan_at policy version))
    → IfOk made (λ planned. IsPlanned policy journal planned × (planned.layout.at ≡ length journal))
plans_on_ok policy journal version (Ok planned) legal current shows plans = planned_now policy journal version planned legal current shows plans
plans_on_ok policy journal version (Err e) legal current shows plans = tt

-- ---- the width of tables

abbrev widths : List (ℕ × Table) → ℕ
widths loads = sum_by (λ table. length table.columns) (load_tables loads)

-- one more table, which has at most `most` columns
pub wider : (most n : ℕ) (loads : List (ℕ × Table)) (load : ℕ × Table) → load ≡ get_or loads n load → length load.1.columns ≤ most → n < length loads → widths (take n loads) ≤ most * n
    → widths (take (n + 1) loads) ≤ most * (n + 1)
wider most n loads load is narrow within so_far =
    let next : take (n + 1) loads ≡ take n loads ++ load ∷ [] = take_more loads n load within ∙ ap (λ (x : ℕ × Table). take n loads ++ x ∷ []) (sym is) in
    let sum : widths (take (n + 1) loads) ≡ widths (take n loads) + length load.1.columns =
    ap widths next ∙ ap (sum_by (λ (table : Table). length table.columns)) (map-append (λ (x : ℕ × Table). x.1) (take n loads) (load ∷ []))
    ∙ sum_by_push (λ (table : Table). length table.columns) (load_tables (take n loads)) load.1 in
    let product : most * (n + 1) ≡ most * n + most = grind arith in
    omega (arith, sum, narrow, so_far, product)
