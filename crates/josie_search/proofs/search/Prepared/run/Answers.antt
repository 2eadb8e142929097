use Rattle.std.proofs.Common.{◌≡◌, ◌∙◌, sym, ap, subst, ◌-◌, ◌<◌, ◌≤◌, ◌++◌, [], false, length, map, get_or, vec_capacity, arith}
use Rattle.std.specs.Prelude.{bytes_eq, slice_get}
use Rattle.std.specs.List.{IsDistinct}
use Rattle.lake_model.specs.Answer.{row_cmp}
use Rattle.search_laws.proofs.AnswerOfLog.{known_answer}
use Rattle.search_laws.specs.Select.{best}
use Rattle.search_model.specs.Looks.{known_rows, log, run, searched, start, threshold, unseen_open}
use Rattle.segment_core.specs.Versions.{part_at, part_with, VersionOf}
use Rattle.josie_search.specs.Ready.{IsReady}
use Rattle.part_columns.specs.Room.{asked_in, looks_bound}
use Rattle.josie_search.specs.Search.{SearchOf}
use Rattle.josie_search.proofs.EmptyLemmas.{through_few}
use Rattle.josie_search.proofs.PartsLemmas.{rows_kept, through_log, through_more, through_none, through_rows, length-searched, searched_at}
use Rattle.part_columns.proofs.AskedLemmas.{asked_there, few_tokens, room_here, tokens_within}
use Rattle.josie_search.proofs.RoomLemmas.{as_many, ready_again, room_kept, room_there}
use Rattle.josie_search.proofs.search.Prepared.run.Goals as goal

pub loop-part-init : goal.loop-part-init
loop-part-init g c =
    let query = c.args.self.query in
    let parts = c.args.self.version.parts in
    let ready : IsReady parts query c.self.inside.looks.spare (map (λ v. v.items) c.self.inside.tokens.items) c.self.inside.seats.columns c.self.inside.top =
    subst (λ (s : SearchOf). IsReady s.version.parts s.query c.self.inside.looks.spare (map (λ v. v.items) c.self.inside.tokens.items) c.self.inside.seats.columns c.self.inside.top) c.self.view_is c.self.invariant.1 in
    record {
      end = c.parts-part-end.ensures ∙ ap (λ (s : SearchOf). length s.version.parts) c.self.view_is;
      version = ap (λ (s : SearchOf). s.version) c.self.view_is;
      through = through_none (g.C.Chooser.says c.args.chooser.now) query ready.some (map (searched query) parts) c.self.inside.looks.log c.self.inside.top.rows c.self.invariant.0 ready.none;
      k = ready.k;
      wide = ready.wide;
      free = c.self.invariant.2;
      sums = subst (λ (s : SearchOf). length s.query.keys < vec_capacity c.self.inside.sums) c.self.view_is c.self.invariant.3;
      set = c.self.invariant.4;
      room = ready.room;
    }

pub may_hold-requires : goal.may_hold-requires
may_hold-requires g c =
    let kept = c.loop-part.invariant in
    let ready = c.self.invariant.1 in
    let query = c.self.inside.query in
    let parts = c.self.inside.looks.version.parts in
    let same = ap (λ (s : SearchOf). length s.version.parts) c.self.view_is in
    let asked = asked_there query.keys parts c.self.inside.tokens.items c.loop-part.part _ _ ready.asked (omega (arith, c.loop-part-test.true, kept.end, same)) c.index.ensures c.deref-asked.ensures.value in
    omega (arith, few_tokens query (part_at parts c.loop-part.part) _ ready.different asked, ready.few)

pub sum_costs-requires-clause-few : goal.sum_costs-requires-clause-few
sum_costs-requires-clause-few g c =
    let kept = c.loop-part.invariant in
    let ready = c.self.invariant.1 in
    let query = c.self.inside.query in
    let parts = c.self.inside.looks.version.parts in
    let same = ap (λ (s : SearchOf). length s.version.parts) c.self.view_is in
    let asked = asked_there query.keys parts c.self.inside.tokens.items c.loop-part.part _ _ ready.asked (omega (arith, c.loop-part-test.true, kept.end, same)) c.index.ensures c.deref-asked.ensures.value in
    omega (arith, few_tokens query (part_at parts c.loop-part.part) _ ready.different asked, ready.few)

pub sum_costs-requires-clause-tokens : goal.sum_costs-requires-clause-tokens
sum_costs-requires-clause-tokens g c =
    let kept = c.loop-part.invariant in
    let query = c.args.self.query in
    let version = c.args.self.version in
    let lists = subst (λ (s : SearchOf). map (λ v. v.items) c.self.inside.tokens.items ≡ map (asked_in s.query.keys) s.version.parts) c.self.view_is c.self.invariant.1.asked in
    let asked = asked_there query.keys version.parts c.self.inside.tokens.items c.loop-part.part _ _ lists (omega (arith, c.loop-part-test.true, kept.end)) c.index.ensures c.deref-asked.ensures.value in
    tokens_within c.loop-part.looks.version version query.keys c.loop-part.part _ kept.version asked

pub sum_costs-requires-clause-room : goal.sum_costs-requires-clause-room
sum_costs-requires-clause-room g c =
    let kept = c.loop-part.invariant in
    let query = c.args.self.query in
    let parts = c.args.self.version.parts in
    let lists = subst (λ (s : SearchOf). map (λ v. v.items) c.self.inside.tokens.items ≡ map (asked_in s.query.keys) s.version.parts) c.self.view_is c.self.invariant.1.asked in
    let different = subst (λ (s : SearchOf). IsDistinct bytes_eq s.query.keys) c.self.view_is c.self.invariant.1.different in
    let asked = asked_there query.keys parts c.self.inside.tokens.items c.loop-part.part _ _ lists (omega (arith, c.loop-part-test.true, kept.end)) c.index.ensures c.deref-asked.ensures.value in
    omega (arith, few_tokens query (part_at parts c.loop-part.part) _ different asked, kept.sums)

pub fill-requires-clause-room : goal.fill-requires-clause-room
fill-requires-clause-room g c =
    let kept = c.loop-part.invariant in
    let lists = subst (λ (s : SearchOf). map (λ v. v.items) c.self.inside.tokens.items ≡ map (asked_in s.query.keys) s.version.parts) c.self.view_is c.self.invariant.1.asked in
    room_there c.loop-part.set c.self.inside.tokens.items c.loop-part.part _ _ (omega (arith, c.loop-part-test.true, kept.end, as_many _ _ _ lists)) c.index.ensures c.deref-asked.ensures.value kept.set

pub clear-requires-in-loop-part-clause-room : goal.clear-requires-in-loop-part-clause-room
clear-requires-in-loop-part-clause-room g c =
    let kept = c.loop-part.invariant in
    let lists = subst (λ (s : SearchOf). map (λ v. v.items) c.self.inside.tokens.items ≡ map (asked_in s.query.keys) s.version.parts) c.self.view_is c.self.invariant.1.asked in
    room_kept c.loop-part.set c.fill.new.set c.deref-asked.result.now c.fill.ensures.room (room_there c.loop-part.set c.self.inside.tokens.items c.loop-part.part _ _ (omega (arith, c.loop-part-test.true, kept.end, as_many _ _ _ lists)) c.index.ensures c.deref-asked.ensures.value kept.set)

pub search_part-requires-clause-few : goal.search_part-requires-clause-few
search_part-requires-clause-few g c =
    let kept = c.loop-part.invariant in
    let ready = c.self.invariant.1 in
    let query = c.self.inside.query in
    let parts = c.self.inside.looks.version.parts in
    let same = ap (λ (s : SearchOf). length s.version.parts) c.self.view_is in
    let asked = asked_there query.keys parts c.self.inside.tokens.items c.loop-part.part _ _ ready.asked (omega (arith, c.loop-part-test.true, kept.end, same)) c.index.ensures c.deref-asked.ensures.value in
    omega (arith, few_tokens query (part_at parts c.loop-part.part) _ ready.different asked, ready.few)

pub search_part-requires-clause-tokens : goal.search_part-requires-clause-tokens
search_part-requires-clause-tokens g c =
    let kept = c.loop-part.invariant in
    let ready = c.self.invariant.1 in
    let query = c.self.inside.query in
    let parts = c.self.inside.looks.version.parts in
    let same = ap (λ (s : SearchOf). length s.version.parts) c.self.view_is in
    let asked = asked_there query.keys parts c.self.inside.tokens.items c.loop-part.part _ _ ready.asked (omega (arith, c.loop-part-test.true, kept.end, same)) c.index.ensures c.deref-asked.ensures.value in
    let back : c.self.inside.looks.version ≡ c.loop-part.looks.version = ap (λ (s : SearchOf). s.version) c.self.view_is ∙ sym kept.version in
    asked ∙ ap (λ (v : VersionOf). asked_in query.keys (part_at v.parts c.loop-part.part)) back

pub search_part-requires-clause-room : goal.search_part-requires-clause-room
search_part-requires-clause-room g c =
    let kept = c.loop-part.invariant in
    let ready = c.self.invariant.1 in
    let query = c.args.self.query in
    let parts = c.args.self.version.parts in
    let lists = subst (λ (s : SearchOf). map (λ v. v.items) c.self.inside.tokens.items ≡ map (asked_in s.query.keys) s.version.parts) c.self.view_is ready.asked in
    let asked = asked_there query.keys parts c.self.inside.tokens.items c.loop-part.part _ _ lists (omega (arith, c.loop-part-test.true, kept.end)) c.index.ensures c.deref-asked.ensures.value in
    omega (
      arith,
      room_here query.keys parts c.loop-part.part _ c.loop-part.looks.spare (omega (arith, c.loop-part-test.true, kept.end)) asked kept.room,
      ap (λ (v : VersionOf). looks_bound (part_at v.parts c.loop-part.part) c.deref-asked.result.now) kept.version,
    )

pub search_part-requires-clause-rows : goal.search_part-requires-clause-rows
search_part-requires-clause-rows g c =
    let kept = c.loop-part.invariant in
    let query = c.args.self.query in
    let some = subst (λ (s : SearchOf). 0 < s.query.k) c.self.view_is c.self.invariant.1.some in
    c.enter.ensures.rows
    ∙ rows_kept (g.C.Chooser.says c.args.chooser.now) query some (map (searched query) c.args.self.version.parts) c.loop-part.part c.loop-part.looks.log c.loop-part.top.rows kept.through
    ∙ (λ i. best row_cmp (sym c.self.view_is i).query.k (sym c.enter.ensures.rows i))

-- a part with too few tokens is passed over
pub loop-part-preserved-then-not-may_hold : goal.loop-part-preserved-then-not-may_hold
loop-part-preserved-then-not-may_hold g c =
    let says = g.C.Chooser.says c.args.chooser.now in
    let kept = c.loop-part.invariant in
    let query = c.args.self.query in
    let parts = c.args.self.version.parts in
    let part = c.loop-part.part in
    let within : part < length parts = omega (arith, c.loop-part-test.true, kept.end) in
    let some = subst (λ (s : SearchOf). 0 < s.query.k) c.self.view_is c.self.invariant.1.some in
    let different = subst (λ (s : SearchOf). IsDistinct bytes_eq s.query.keys) c.self.view_is c.self.invariant.1.different in
    let lists = subst (λ (s : SearchOf). map (λ v. v.items) c.self.inside.tokens.items ≡ map (asked_in s.query.keys) s.version.parts) c.self.view_is c.self.invariant.1.asked in
    let asked = asked_there query.keys parts c.self.inside.tokens.items part _ _ lists within c.index.ensures c.deref-asked.ensures.value in
    let few : unseen_open (length (asked_in query.keys (part_at parts part))) (threshold (slice_get c.loop-part.top.rows (query.k - 1))) ≡ false =
    (λ i. unseen_open (length (sym asked i)) (threshold (slice_get c.loop-part.top.rows (sym kept.k i - 1)))) ∙ sym c.may_hold.ensures ∙ c.if-not-may_hold.true in
    record {
      end = kept.end;
      version = kept.version;
      through = through_few says query some parts part c.loop-part.looks.log c.loop-part.top.rows within different few kept.through;
      k = kept.k;
      wide = kept.wide;
      free = kept.free;
      sums = kept.sums;
      set = kept.set;
      room = omega (arith, room_here query.keys parts part _ c.loop-part.looks.spare within asked kept.room);
    }

pub loop-part-preserved : goal.loop-part-preserved
loop-part-preserved g c =
    let says = g.C.Chooser.says c.args.chooser.now in
    let kept = c.loop-part.invariant in
    let done = c.search_part.ensures in
    let query = c.args.self.query in
    let parts = c.args.self.version.parts in
    let part = c.loop-part.part in
    let within : part < length parts = omega (arith, c.loop-part-test.true, kept.end) in
    let some = subst (λ (s : SearchOf). 0 < s.query.k) c.self.view_is c.self.invariant.1.some in
    let lists = subst (λ (s : SearchOf). map (λ v. v.items) c.self.inside.tokens.items ≡ map (asked_in s.query.keys) s.version.parts) c.self.view_is c.self.invariant.1.asked in
    let asked = asked_there query.keys parts c.self.inside.tokens.items part _ _ lists within c.index.ensures c.deref-asked.ensures.value in
    let same : c.self.inside.query ≡ query = ap (λ (s : SearchOf). s.query) c.self.view_is in
    let here : searched c.self.inside.query (part_at c.loop-part.looks.version.parts part) ≡ get_or (map (searched query) parts) part (searched query (part_with 0 [])) =
    (λ i. searched (same i) (part_at (kept.version i).parts part)) ∙ sym (searched_at query parts part within) in
    record {
      end = kept.end;
      version = done.version ∙ kept.version;
      through = through_more says query some (map (searched query) parts) part (searched query (part_with 0 [])) c.loop-part.looks.log _ c.loop-part.top.rows _ (omega (arith, within, length-searched query parts)) kept.through
          (done.log ∙ (λ i. c.loop-part.looks.log ++ (run says (same i) (c.enter.ensures.rows i) (here i) start).0))
          (done.rows ∙ (λ i. best row_cmp (same i).k (c.enter.ensures.rows i ++ known_rows (same i) (here i) (run says (same i) (c.enter.ensures.rows i) (here i) start).1)));
      k = done.k ∙ c.enter.ensures.k ∙ kept.k;
      wide = λ i h. (let w = kept.wide i h in omega (arith, w, done.wide, c.clear.ensures.wide));
      free = c.clear.ensures.free;
      sums = omega (arith, kept.sums, c.sum_costs.ensures.room);
      set = ready_again c.loop-part.set c.clear-in-loop-part.new.set _ (c.clear-in-loop-part.ensures.room ∙ c.fill.ensures.room) kept.set c.clear-in-loop-part.ensures.empty;
      room = omega (
        arith,
        done.spare,
        room_here query.keys parts part _ c.loop-part.looks.spare within asked kept.room,
        ap (λ (v : VersionOf). looks_bound (part_at v.parts part) c.deref-asked.result.now) kept.version,
      );
    }

pub returns-clause-rows : goal.returns-clause-rows
returns-clause-rows g c =
    let says = g.C.Chooser.says c.args.chooser.now in
    let kept = c.loop-part.invariant in
    let query = c.args.self.query in
    let parts = c.args.self.version.parts in
    let some = subst (λ (s : SearchOf). 0 < s.query.k) c.self.view_is c.self.invariant.1.some in
    let different = subst (λ (s : SearchOf). IsDistinct bytes_eq s.query.keys) c.self.view_is c.self.invariant.1.different in
    let all : length (map (searched query) parts) ≤ c.loop-part.part = omega (arith, c.loop-part-test.false, kept.end, length-searched query parts) in
    c.into_rows.ensures
    ∙ through_rows says query some (map (searched query) parts) c.loop-part.part c.loop-part.looks.log c.loop-part.top.rows all kept.through
    ∙ known_answer says query parts different some

pub returns-clause-log : goal.returns-clause-log
unfolding log
returns-clause-log g c =
    let kept = c.loop-part.invariant in
    let query = c.args.self.query in
    let parts = c.args.self.version.parts in
    let some = subst (λ (s : SearchOf). 0 < s.query.k) c.self.view_is c.self.invariant.1.some in
    let all : length (map (searched query) parts) ≤ c.loop-part.part = omega (arith, c.loop-part-test.false, kept.end, length-searched query parts) in
    through_log (g.C.Chooser.says c.args.chooser.now) query some (map (searched query) parts) c.loop-part.part c.loop-part.looks.log c.loop-part.top.rows all kept.through
