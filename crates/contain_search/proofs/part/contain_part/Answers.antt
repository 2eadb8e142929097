use Rattle.std.proofs.Common.{◌≡◌, ◌∙◌, ap, ◌+◌, ◌-◌, ℕ, length, take, arith}
use Rattle.contain_search.proofs.PartLemmas.{all_seen, few_found, first_within, looks_made, rows_made}
use Rattle.contain_search.specs.Met.{may_columns, met}
use Rattle.search_model.specs.Contain.{lists_needed}
use Rattle.segment_core.proofs.SegmentLemmas.{length-sets}
use Rattle.segment_core.specs.Versions.{part_at, segment_at, tables_of, VersionOf}
use Rattle.contain_search.proofs.part.contain_part.Goals as goal

pub read_lists-requires-clause-lists : goal.read_lists-requires-clause-lists
read_lists-requires-clause-lists c = first_within (part_at c.args.looks.now.version.parts c.args.part) c.requires.tokens.0 c.args.tokens.now c.saturating_sub-read.result c.requires.tokens.1

pub settle_all-requires-clause-seen : goal.settle_all-requires-clause-seen
settle_all-requires-clause-seen c =
    let whole = part_at c.args.looks.now.version.parts c.args.part in
    let part = met whole c.args.tokens.now in
    let read : c.saturating_sub-read.result ≡ lists_needed c.args.least part = omega (arith, c.saturating_sub-read.ensures) in
    let found = c.deref.ensures.value ∙ c.find_columns.ensures.found ∙ ap (λ (v : VersionOf). may_columns c.args.least (met (part_at v.parts c.args.part) c.args.tokens.now)) c.read_lists.ensures.version in
    all_seen c.args.least part (length-sets (tables_of whole)) c.read_lists.new.columns.tallies c.saturating_sub-read.result read c.read_lists.ensures.tallies c.deref.result.now found

pub settle_all-requires-clause-room : goal.settle_all-requires-clause-room
settle_all-requires-clause-room c =
    let whole = part_at c.args.looks.now.version.parts c.args.part in
    let found = c.deref.ensures.value ∙ c.find_columns.ensures.found ∙ ap (λ (v : VersionOf). may_columns c.args.least (met (part_at v.parts c.args.part) c.args.tokens.now)) c.read_lists.ensures.version in
    let read : c.saturating_sub-read.result ≡ length c.args.tokens.now + 1 - c.args.least = omega (arith, c.saturating_sub-read.ensures) in
    omega (arith, c.requires.room, c.read_lists.ensures.spare, ap length found, ap (λ (n : ℕ). length (take n c.args.tokens.now)) read, few_found whole c.requires.tokens.0 c.args.tokens.now c.args.least c.requires.tokens.1)

pub settle_all-requires-clause-rows_room : goal.settle_all-requires-clause-rows_room
settle_all-requires-clause-rows_room c =
    let whole = part_at c.args.looks.now.version.parts c.args.part in
    let found = c.deref.ensures.value ∙ c.find_columns.ensures.found ∙ ap (λ (v : VersionOf). may_columns c.args.least (met (part_at v.parts c.args.part) c.args.tokens.now)) c.read_lists.ensures.version in
    omega (arith, c.requires.rows_room, ap length found, few_found whole c.requires.tokens.0 c.args.tokens.now c.args.least c.requires.tokens.1)

pub returns-clause-log : goal.returns-clause-log
returns-clause-log c =
    let whole = part_at c.args.looks.now.version.parts c.args.part in
    let part = met whole c.args.tokens.now in
    let read : c.saturating_sub-read.result ≡ lists_needed c.args.least part = omega (arith, c.saturating_sub-read.ensures) in
    let found = c.deref.ensures.value ∙ c.find_columns.ensures.found ∙ ap (λ (v : VersionOf). may_columns c.args.least (met (part_at v.parts c.args.part) c.args.tokens.now)) c.read_lists.ensures.version in
    looks_made c.args.least part (length-sets (tables_of whole)) c.read_lists.new.columns.tallies c.saturating_sub-read.result read c.read_lists.ensures.tallies c.deref.result.now found _ _ c.args.looks.now.log c.read_lists.new.looks.log _
    (ap (λ (v : VersionOf). (part_at v.parts c.args.part).number) c.read_lists.ensures.version) (ap (λ (v : VersionOf). (segment_at v.parts c.args.part).sets) c.read_lists.ensures.version) c.read_lists.ensures.log c.settle_all.ensures.log

pub returns-clause-spare : goal.returns-clause-spare
returns-clause-spare c =
    let whole = part_at c.args.looks.now.version.parts c.args.part in
    let found = c.deref.ensures.value ∙ c.find_columns.ensures.found ∙ ap (λ (v : VersionOf). may_columns c.args.least (met (part_at v.parts c.args.part) c.args.tokens.now)) c.read_lists.ensures.version in
    let read : c.saturating_sub-read.result ≡ length c.args.tokens.now + 1 - c.args.least = omega (arith, c.saturating_sub-read.ensures) in
    omega (arith, c.read_lists.ensures.spare, c.settle_all.ensures.spare, ap length found, ap (λ (n : ℕ). length (take n c.args.tokens.now)) read, few_found whole c.requires.tokens.0 c.args.tokens.now c.args.least c.requires.tokens.1)

pub returns-clause-rows : goal.returns-clause-rows
returns-clause-rows c =
    let whole = part_at c.args.looks.now.version.parts c.args.part in
    let found = c.deref.ensures.value ∙ c.find_columns.ensures.found ∙ ap (λ (v : VersionOf). may_columns c.args.least (met (part_at v.parts c.args.part) c.args.tokens.now)) c.read_lists.ensures.version in
    rows_made c.args.least (met whole c.args.tokens.now) _ c.deref.result.now c.args.rows.now.items _ (ap (λ (v : VersionOf). met (part_at v.parts c.args.part) c.args.tokens.now) c.read_lists.ensures.version) found c.settle_all.ensures.rows

pub returns-clause-len : goal.returns-clause-len
returns-clause-len c =
    let whole = part_at c.args.looks.now.version.parts c.args.part in
    let found = c.deref.ensures.value ∙ c.find_columns.ensures.found ∙ ap (λ (v : VersionOf). may_columns c.args.least (met (part_at v.parts c.args.part) c.args.tokens.now)) c.read_lists.ensures.version in
    omega (arith, c.settle_all.ensures.len, ap length found, few_found whole c.requires.tokens.0 c.args.tokens.now c.args.least c.requires.tokens.1)
