use Rattle.std.proofs.Common.{◌≡◌, ◌∙◌, ap, ℕ, List, ◌<◌, length, map, take, arith}
use Rattle.std.proofs.lemmas.List.{get_or-take, length-take}
use Rattle.part_columns.proofs.AskedLemmas.{asked_there, tokens_within}
use Rattle.part_columns.specs.Room.{asked_in, probes_bound}
use Rattle.lake_model.specs.Texts.{Text}
use Rattle.segment_core.specs.Versions.{part_at, VersionOf}
use Rattle.contain_search.proofs.RunLemmas.{looks_so_far, rows_so_far}
use Rattle.contain_search.specs.Met.{first_lists}
use Rattle.contain_search.proofs.contain.ask_parts.Goals as goal

pub most_probes-probes-requires-clause-tokens : goal.most_probes-probes-requires-clause-tokens
most_probes-probes-requires-clause-tokens c = λ k d h.
    let keys = c.args.query.now in
    let version = c.args.looks.now.version in
    let part = c.loop-part.part in
    let kept = c.loop-part.invariant in
    let tokens = c.deref-tokens.result.now in
    let read = c.saturating_sub-read.result in
    let lists = c.in_ok-asked.ensures ∙ ap (λ (ks : List Text). map (asked_in ks) version.parts) c.in_ok-hashed.ensures in
    let asked = asked_there keys version.parts _ part _ _ lists (omega (arith, c.loop-part-test.true, kept.end)) c.index.ensures c.deref-tokens.ensures.value in
    let all : k < length tokens = omega (arith, h, length-take read tokens) in
    let below : k < read = omega (arith, h, length-take read tokens) in
    omega (arith, tokens_within c.loop-part.looks.version version keys part tokens kept.version asked k d all, get_or-take read tokens k d below)

pub loop-part-preserved : goal.loop-part-preserved
loop-part-preserved c =
    let keys = c.args.query.now in
    let parts = c.args.looks.now.version.parts in
    let part = c.loop-part.part in
    let least = c.args.least in
    let kept = c.loop-part.invariant in
    let tokens = c.deref-tokens.result.now in
    let within : part < length parts = omega (arith, c.loop-part-test.true, kept.end) in
    let lists = c.in_ok-asked.ensures ∙ ap (λ (ks : List Text). map (asked_in ks) parts) c.in_ok-hashed.ensures in
    let asked = asked_there keys parts _ part _ tokens lists within c.index.ensures c.deref-tokens.ensures.value in
    let read = c.saturating_sub-read.result in
    let first : take read tokens ≡ first_lists least tokens = ap (λ (n : ℕ). take n tokens) c.saturating_sub-read.ensures in
    let probes : c.most_probes-probes.result ≡ probes_bound (part_at parts part) (first_lists least tokens) =
    c.most_probes-probes.ensures ∙ ap (λ (ts : List ℕ). probes_bound (part_at c.loop-part.looks.version.parts part) ts) first ∙ ap (λ (v : VersionOf). probes_bound (part_at v.parts part) (first_lists least tokens)) kept.version in
    record {
      end = kept.end;
      version = c.reserve_log.ensures.version ∙ kept.version;
      log = c.reserve_log.ensures.log ∙ kept.log;
      looks = looks_so_far keys parts part within tokens asked least c.loop-part.looks.spare c.reserve_log.new.self.spare kept.looks (omega (arith, c.in_ok-reserve_log.ensures.room, probes, ap length first, length-take read tokens));
      rows = rows_so_far keys parts part within tokens asked least c.loop-part.rows _ kept.rows (omega (arith, probes));
      few = omega (arith, kept.few, c.in_ok-reserve_log.ensures.room);
    }
