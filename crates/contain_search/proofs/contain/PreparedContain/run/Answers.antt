use Rattle.std.proofs.Common.{◌≡◌, ◌∙◌, ap, sym, subst, ◌<◌, ◌≤◌, ◌++◌, length, map, vec_capacity, arith}
use Rattle.std.specs.Prelude.{bytes_eq}
use Rattle.std.specs.List.{IsDistinct}
use Rattle.contain_search.proofs.RunLemmas.{all_log, all_rows, log_on, looks_here, rows_here, rows_on}
use Rattle.contain_search.specs.Contained.{ContainOf}
use Rattle.contain_search.specs.Met.{first_lists, met}
use Rattle.part_columns.proofs.AskedLemmas.{asked_there, few_tokens}
use Rattle.part_columns.specs.Room.{asked_in, looks_bound, probes_bound}
use Rattle.search_laws.specs.Found.{found_rows}
use Rattle.search_model.specs.Contain.{contain_looks, need, of_all_tables}
use Rattle.segment_core.specs.Versions.{part_at, VersionOf}
use Rattle.contain_search.proofs.contain.PreparedContain.run.Goals as goal

pub contain_part-requires-clause-few : goal.contain_part-requires-clause-few
contain_part-requires-clause-few c =
    let kept = c.loop-part.invariant in
    let ready = c.self.invariant.1 in
    let keys = c.self.inside.fraction.keys in
    let parts = c.self.inside.looks.version.parts in
    let same = ap (λ (s : ContainOf). length s.version.parts) c.self.view_is in
    let asked = asked_there keys parts c.self.inside.tokens.items c.loop-part.part _ _ ready.tokens (omega (arith, c.loop-part-test.true, kept.end, same)) c.index-asked.ensures c.deref.ensures.value in
    omega (arith, few_tokens (of_all_tables keys) (part_at parts c.loop-part.part) _ ready.different asked, ready.few)

pub contain_part-requires-clause-tokens : goal.contain_part-requires-clause-tokens
contain_part-requires-clause-tokens c =
    let kept = c.loop-part.invariant in
    let ready = c.self.invariant.1 in
    let keys = c.self.inside.fraction.keys in
    let parts = c.self.inside.looks.version.parts in
    let same = ap (λ (s : ContainOf). length s.version.parts) c.self.view_is in
    let asked = asked_there keys parts c.self.inside.tokens.items c.loop-part.part _ _ ready.tokens (omega (arith, c.loop-part-test.true, kept.end, same)) c.index-asked.ensures c.deref.ensures.value in
    let back : c.self.inside.looks.version ≡ c.loop-part.looks.version = ap (λ (s : ContainOf). s.version) c.self.view_is ∙ sym kept.version in
    (keys, asked ∙ ap (λ (v : VersionOf). asked_in keys (part_at v.parts c.loop-part.part)) back)

pub contain_part-requires-clause-room : goal.contain_part-requires-clause-room
contain_part-requires-clause-room c =
    let kept = c.loop-part.invariant in
    let keys = c.args.self.keys in
    let parts = c.args.self.version.parts in
    let within : c.loop-part.part < length parts = omega (arith, c.loop-part-test.true, kept.end) in
    let lists = subst (λ (s : ContainOf). map (λ v. v.items) c.self.inside.tokens.items ≡ map (asked_in s.keys) s.version.parts) c.self.view_is c.self.invariant.1.tokens in
    let asked = asked_there keys parts c.self.inside.tokens.items c.loop-part.part _ _ lists within c.index-asked.ensures c.deref.ensures.value in
    omega (
      arith,
      looks_here keys parts c.loop-part.part within _ asked c.least-least.result c.loop-part.looks.spare kept.looks_room,
      ap (λ (v : VersionOf). looks_bound (part_at v.parts c.loop-part.part) (first_lists c.least-least.result c.deref.result.now)) kept.version,
    )

pub contain_part-requires-clause-rows_room : goal.contain_part-requires-clause-rows_room
contain_part-requires-clause-rows_room c =
    let kept = c.loop-part.invariant in
    let keys = c.args.self.keys in
    let parts = c.args.self.version.parts in
    let within : c.loop-part.part < length parts = omega (arith, c.loop-part-test.true, kept.end) in
    let lists = subst (λ (s : ContainOf). map (λ v. v.items) c.self.inside.tokens.items ≡ map (asked_in s.keys) s.version.parts) c.self.view_is c.self.invariant.1.tokens in
    let asked = asked_there keys parts c.self.inside.tokens.items c.loop-part.part _ _ lists within c.index-asked.ensures c.deref.ensures.value in
    omega (
      arith,
      rows_here keys parts c.loop-part.part within _ asked c.least-least.result _ (vec_capacity c.loop-part.rows) kept.rows_room,
      ap (λ (v : VersionOf). probes_bound (part_at v.parts c.loop-part.part) (first_lists c.least-least.result c.deref.result.now)) kept.version,
    )

pub loop-part-preserved : goal.loop-part-preserved
loop-part-preserved c =
    let kept = c.loop-part.invariant in
    let done = c.contain_part.ensures in
    let keys = c.args.self.keys in
    let parts = c.args.self.version.parts in
    let part = c.loop-part.part in
    let least = c.least-least.result in
    let within : c.loop-part.part < length parts = omega (arith, c.loop-part-test.true, kept.end) in
    let lists = subst (λ (s : ContainOf). map (λ v. v.items) c.self.inside.tokens.items ≡ map (asked_in s.keys) s.version.parts) c.self.view_is c.self.invariant.1.tokens in
    let asked = asked_there keys parts c.self.inside.tokens.items part _ _ lists within c.index-asked.ensures c.deref.ensures.value in
    let tokens = c.deref.result.now in
    let rows_left = rows_here keys parts part within tokens asked least _ (vec_capacity c.loop-part.rows) kept.rows_room in
    let rows_bound = ap (λ (v : VersionOf). probes_bound (part_at v.parts part) (first_lists least tokens)) kept.version in
    record {
      end = kept.end;
      version = done.version ∙ kept.version;
      log = log_on keys parts part within tokens asked least c.loop-part.looks.log c.contain_part.new.looks.log kept.log (done.log ∙ ap (λ (v : VersionOf). c.loop-part.looks.log ++ contain_looks least (met (part_at v.parts part) tokens)) kept.version);
      rows = rows_on keys parts part within tokens asked least c.loop-part.rows.items c.contain_part.new.rows.items kept.rows (done.rows ∙ ap (λ (v : VersionOf). c.loop-part.rows.items ++ found_rows least (met (part_at v.parts part) tokens)) kept.version);
      wide = λ i h. (let w = kept.wide i h in omega (arith, w, done.wide, c.clear.ensures.wide));
      kept = omega (arith, kept.kept, done.wide, done.kept, c.clear.ensures.wide);
      looks_room = omega (
        arith,
        done.spare,
        looks_here keys parts part within tokens asked least c.loop-part.looks.spare kept.looks_room,
        ap (λ (v : VersionOf). looks_bound (part_at v.parts part) (first_lists least tokens)) kept.version,
      );
      rows_room = omega (arith, done.len, done.rows_room, rows_left, rows_bound);
    }

pub returns-clause-rows : goal.returns-clause-rows
returns-clause-rows c =
    let kept = c.loop-part.invariant in
    let keys = c.args.self.keys in
    let parts = c.args.self.version.parts in
    let least = c.least-least.ensures ∙ ap (λ (s : ContainOf). need s.a s.b (length s.keys)) c.self.view_is in
    let different = subst (λ (s : ContainOf). IsDistinct bytes_eq s.keys) c.self.view_is c.self.invariant.1.different in
    let all : length parts ≤ c.loop-part.part = omega (arith, c.loop-part-test.false, kept.end) in
    c.new.ensures ∙ all_rows keys c.args.self.a c.args.self.b parts c.least-least.result c.loop-part.part least all c.loop-part.rows.items c.sort_unstable.new.self.items different kept.rows c.sort_unstable.ensures.permutation c.sort_unstable.ensures.sorted

pub returns-clause-log : goal.returns-clause-log
returns-clause-log c =
    let kept = c.loop-part.invariant in
    let least = c.least-least.ensures ∙ ap (λ (s : ContainOf). need s.a s.b (length s.keys)) c.self.view_is in
    let all : length c.args.self.version.parts ≤ c.loop-part.part = omega (arith, c.loop-part-test.false, kept.end) in
    all_log c.args.self.keys c.args.self.a c.args.self.b c.args.self.version.parts c.least-least.result c.loop-part.part least all c.loop-part.looks.log kept.log
