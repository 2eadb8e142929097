use Rattle.std.proofs.Common.{◌∙◌, ap, ◌<◌, List, length, map, arith}
use Rattle.lake_model.specs.Texts.{Text}
use Rattle.segment_core.specs.Versions.{part_at, VersionOf}
use Rattle.part_columns.specs.Room.{asked_in, looks_bound}
use Rattle.part_columns.proofs.AskedLemmas.{asked_there, tokens_within}
use Rattle.josie_search.proofs.EmptyLemmas.{no_looks, no_tokens, room_more}
use Rattle.josie_search.proofs.search.ask_parts.Goals as goal

pub most_probes-probes-requires-clause-tokens : goal.most_probes-probes-requires-clause-tokens
most_probes-probes-requires-clause-tokens c =
    let keys = c.args.query.now in
    let version = c.args.looks.now.version in
    let kept = c.loop-part.invariant in
    let lists = c.in_ok-asked.ensures ∙ ap (λ (ks : List Text). map (asked_in ks) version.parts) c.in_ok-hashed.ensures in
    let asked = asked_there keys version.parts _ c.loop-part.part _ _ lists (omega (arith, c.loop-part-test.true, kept.end)) c.index.ensures c.deref-tokens.ensures.value in
    tokens_within c.loop-part.looks.version version keys c.loop-part.part _ kept.version asked

-- a part without tokens needs no room
pub loop-part-preserved-then-is_empty : goal.loop-part-preserved-then-is_empty
loop-part-preserved-then-is_empty c =
    let keys = c.args.query.now in
    let parts = c.args.looks.now.version.parts in
    let part = c.loop-part.part in
    let kept = c.loop-part.invariant in
    let tokens = c.deref-tokens.result.now in
    let within : part < length parts = omega (arith, c.loop-part-test.true, kept.end) in
    let lists = c.in_ok-asked.ensures ∙ ap (λ (ks : List Text). map (asked_in ks) parts) c.in_ok-hashed.ensures in
    let asked = asked_there keys parts _ part _ tokens lists within c.index.ensures c.deref-tokens.ensures.value in
    let none = no_looks (part_at parts part) tokens (no_tokens tokens c.is_empty.result c.is_empty.ensures c.if-is_empty.true) in
    record {
      end = kept.end;
      version = kept.version;
      log = kept.log;
      room = room_more keys parts part tokens c.loop-part.looks.spare c.loop-part.looks.spare within asked kept.room (omega (arith, none));
    }

pub loop-part-preserved : goal.loop-part-preserved
loop-part-preserved c =
    let keys = c.args.query.now in
    let parts = c.args.looks.now.version.parts in
    let part = c.loop-part.part in
    let kept = c.loop-part.invariant in
    let tokens = c.deref-tokens.result.now in
    let within : part < length parts = omega (arith, c.loop-part-test.true, kept.end) in
    let lists = c.in_ok-asked.ensures ∙ ap (λ (ks : List Text). map (asked_in ks) parts) c.in_ok-hashed.ensures in
    let asked = asked_there keys parts _ part _ tokens lists within c.index.ensures c.deref-tokens.ensures.value in
    let bound = ap (λ (v : VersionOf). looks_bound (part_at v.parts part) tokens) kept.version in
    record {
      end = kept.end;
      version = c.reserve_log.ensures.version ∙ kept.version;
      log = c.reserve_log.ensures.log ∙ kept.log;
      room = room_more keys parts part tokens c.loop-part.looks.spare c.reserve_log.new.self.spare within asked kept.room (omega (arith, c.in_ok-reserve_log.ensures.room, c.most_probes-probes.ensures, bound));
    }
