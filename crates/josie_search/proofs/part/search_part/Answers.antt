use Rattle.std.proofs.Common.{◌≡◌, ◌∙◌, refl, sym, ap, subst, map, ℕ, ◌+◌, ◌-◌, ◌<◌, ◌≤◌, ◌++◌, ◌∷◌, [], List, Bool, true, length, get_or, take, arith, Some}
use Rattle.std.specs.Prelude.{IfSome}
use Rattle.std.specs.List.{filter}
use Rattle.lake_model.specs.Answer.{row_cmp}
use Rattle.search_model.specs.declared.Look.TheVariants.{Probe, Read}
use Rattle.search_model.specs.declared.Posting.{Posting}
use Rattle.search_model.specs.Looks.{is_eligible, searched}
use Rattle.search_model.specs.Segment.{postings_of}
use Rattle.search_state.specs.State.{column_at}
use Rattle.segment_core.proofs.SegmentLemmas.{length-sets}
use Rattle.segment_core.specs.Versions.{part_at, segment_at, tables_of, VersionOf}
use Rattle.lake_model.specs.Sorting.{put_in_order}
use Rattle.std.proofs.lemmas.List.{take_all}
use Rattle.josie_search.specs.Candidates.{all_of, AreHeld}
use Rattle.josie_search.specs.Offers.{offers}
use Rattle.part_columns.specs.Room.{unprobed}
use Rattle.josie_search.specs.Rows.{lead_row, MayLead}
use Rattle.part_columns.specs.declared.tally.Tally.{Tally}
use Rattle.part_columns.specs.Tallies.{AreTallies, of_column, tally_at}
use Rattle.part_columns.proofs.TallyLemmas.{counted_in, tallies_small, columns_within, picked_few, tallies_more}
use Rattle.josie_search.proofs.RestLemmas.{all_offered, counted_within, probed_known}
use Rattle.josie_search.proofs.GoingLemmas.{Going, begins, ended_log, ended_rows, nothing_next, probes_on, read_rows, reads_on}
use Rattle.josie_search.proofs.HeldLemmas.{held_known, held_read, held_unseen, uncounted}
use Rattle.josie_search.proofs.LoopLemmas.{lead_parts, next_now, probed_less}
use Rattle.josie_search.proofs.ProbedLemmas.{probed_row}
use Rattle.part_columns.proofs.RoomLemmas.{few_asked}
use Rattle.part_columns.proofs.SegmentLists.{list_read, token_within}
use Rattle.josie_search.proofs.part.search_part.Goals as goal

pub loop-read-init : goal.loop-read-init
loop-read-init g c = record {
  lists = refl;
  version = refl;
  going = begins (g.C.Chooser.says c.args.chooser.now) c.args.query.now (searched c.args.query.now (part_at c.args.looks.now.version.parts c.args.part)) c.args.top.now.rows c.args.looks.now.log c.args.columns.now.tallies c.args.columns.now.known c.args.top.now.rows c.requires.clean.clean c.requires.clean.fresh c.requires.rows;
  k = refl;
  titled = refl;
  most = λ column. omega (arith, ap (λ (t : Tally). t.count) (c.requires.clean.clean column));
  wide = refl;
  within = omega arith;
  held = held_unseen c.args.query.now (searched c.args.query.now (part_at c.args.looks.now.version.parts c.args.part)) c.args.order.ranks.now c.args.columns.now.tallies c.args.columns.now.known (length c.args.tokens.now - 0) c.clear.new.self.low [] (all_of c.clear.new.self) (λ x out. ap (λ (t : Tally). t.count) (c.requires.clean.clean x));
  witness = tt;
  kept = c.clear.ensures.room;
  room = omega (arith, c.requires.room, few_asked (part_at c.args.looks.now.version.parts c.args.part) c.args.query.now.keys c.args.tokens.now c.args.columns.now.known c.requires.tokens);
  spent = omega (arith, few_asked (part_at c.args.looks.now.version.parts c.args.part) c.args.query.now.keys c.args.tokens.now c.args.columns.now.known c.requires.tokens);
}

pub next_look-requires-clause-seen : goal.next_look-requires-clause-seen
next_look-requires-clause-seen g c = λ x some.
    let whole = part_at c.args.looks.now.version.parts c.args.part in
    let part = searched c.args.query.now whole in
    let kept = c.loop-read.invariant in
    omega (arith, counted_in part.segment.sets (take c.loop-read.read part.query) c.loop-read.columns.tallies kept.going.tallies_are x some, ap (λ (v : VersionOf). length (segment_at v.parts c.args.part).sets) kept.version)

pub next_look-requires-clause-small : goal.next_look-requires-clause-small
next_look-requires-clause-small g c =
    let whole = part_at c.args.looks.now.version.parts c.args.part in
    tallies_small (searched c.args.query.now whole).segment.sets (searched c.args.query.now whole).query c.loop-read.read c.loop-read.columns.tallies c.loop-read.invariant.going.tallies_are

pub returns-in-None-clause-log : goal.returns-in-None-clause-log
returns-in-None-clause-log g c =
    let says = g.C.Chooser.says c.args.chooser.now in
    let query = c.args.query.now in
    let version = c.args.looks.now.version in
    let kept = c.loop-read.invariant in
    let unread : c.loop-read.read < length (searched query (part_at version.parts c.args.part)).query = omega (arith, c.loop-read-test.true, ap (λ (ts : List ℕ). length ts) c.requires.tokens) in
    let next = next_now says query c.args.part c.loop-read.looks.version version c.args.top.now.rows c.args.looks.now.log c.loop-read.looks.log c.loop-read.read c.loop-read.columns.tallies c.loop-read.columns.known c.loop-read.top.rows _ kept.version kept.going unread c.in-None.ensures.next in
    ended_log says query (searched query (part_at version.parts c.args.part)) c.args.top.now.rows c.args.looks.now.log c.loop-read.looks.log c.loop-read.read c.loop-read.columns.tallies c.loop-read.columns.known c.loop-read.top.rows kept.going (sym next)

pub returns-in-None-clause-rows : goal.returns-in-None-clause-rows
returns-in-None-clause-rows g c =
    let says = g.C.Chooser.says c.args.chooser.now in
    let query = c.args.query.now in
    let version = c.args.looks.now.version in
    let kept = c.loop-read.invariant in
    let unread : c.loop-read.read < length (searched query (part_at version.parts c.args.part)).query = omega (arith, c.loop-read-test.true, ap (λ (ts : List ℕ). length ts) c.requires.tokens) in
    let next = next_now says query c.args.part c.loop-read.looks.version version c.args.top.now.rows c.args.looks.now.log c.loop-read.looks.log c.loop-read.read c.loop-read.columns.tallies c.loop-read.columns.known c.loop-read.top.rows _ kept.version kept.going unread c.in-None.ensures.next in
    ended_rows says query (searched query (part_at version.parts c.args.part)) c.args.top.now.rows c.args.looks.now.log c.loop-read.looks.log c.loop-read.read c.loop-read.columns.tallies c.loop-read.columns.known c.loop-read.top.rows kept.going (sym next) unread

pub list-list-requires-clause-token : goal.list-list-requires-clause-token
list-list-requires-clause-token g c =
    let tokens = (segment_at c.args.looks.now.version.parts c.args.part).tokens in
    let within = token_within tokens c.args.query.now.keys c.loop-read.read 0 (omega (arith, c.loop-read-test.true, ap (λ (ts : List ℕ). length ts) c.requires.tokens)) in
    omega (arith, within, ap (λ (ts : List ℕ). get_or ts c.loop-read.read 0) c.requires.tokens, ap (λ (v : VersionOf). length (segment_at v.parts c.args.part).tokens) c.loop-read.invariant.version)

pub count-most-requires-clause-within : goal.count-most-requires-clause-within
count-most-requires-clause-within g c =
    let version = c.args.looks.now.version in
    let token = get_or c.args.tokens.now c.loop-read.read 0 in
    let there : token < length (segment_at version.parts c.args.part).tokens =
    (let within = token_within (segment_at version.parts c.args.part).tokens c.args.query.now.keys c.loop-read.read 0 (omega (arith, c.loop-read-test.true, ap (λ (ts : List ℕ). length ts) c.requires.tokens)) in omega (arith, within, ap (λ (ts : List ℕ). get_or ts c.loop-read.read 0) c.requires.tokens)) in
    let list = list_read c.loop-read.looks.version version c.args.part token c.list-list.result.now c.loop-read.invariant.version there c.list-list.ensures.list in
    columns_within (segment_at version.parts c.args.part).sets token (length c.loop-read.columns.tallies) c.list-list.result.now (omega (arith, c.loop-read.invariant.wide, c.requires.wide)) list

pub count-most-requires-clause-small : goal.count-most-requires-clause-small
count-most-requires-clause-small g c = λ column.
    let version = c.args.looks.now.version in
    let whole = part_at version.parts c.args.part in
    let token = get_or c.args.tokens.now c.loop-read.read 0 in
    let there : token < length (segment_at version.parts c.args.part).tokens =
    (let within = token_within (segment_at version.parts c.args.part).tokens c.args.query.now.keys c.loop-read.read 0 (omega (arith, c.loop-read-test.true, ap (λ (ts : List ℕ). length ts) c.requires.tokens)) in omega (arith, within, ap (λ (ts : List ℕ). get_or ts c.loop-read.read 0) c.requires.tokens)) in
    let list = list_read c.loop-read.looks.version version c.args.part token c.list-list.result.now c.loop-read.invariant.version there c.list-list.ensures.list in
    let few = tallies_small (searched c.args.query.now whole).segment.sets (searched c.args.query.now whole).query c.loop-read.read c.loop-read.columns.tallies c.loop-read.invariant.going.tallies_are column in
    omega (arith, few, c.requires.few, c.loop-read-test.true, ap (λ (ps : List Posting). length (filter (of_column column) ps)) list, picked_few (segment_at version.parts c.args.part).sets token column)

pub follow-requires-clause-within : goal.follow-requires-clause-within
follow-requires-clause-within g c =
    let version = c.args.looks.now.version in
    let token = get_or c.args.tokens.now c.loop-read.read 0 in
    let there : token < length (segment_at version.parts c.args.part).tokens =
    (let within = token_within (segment_at version.parts c.args.part).tokens c.args.query.now.keys c.loop-read.read 0 (omega (arith, c.loop-read-test.true, ap (λ (ts : List ℕ). length ts) c.requires.tokens)) in omega (arith, within, ap (λ (ts : List ℕ). get_or ts c.loop-read.read 0) c.requires.tokens)) in
    let list = list_read c.loop-read.looks.version version c.args.part token c.list-list.result.now c.loop-read.invariant.version there c.list-list.ensures.list in
    columns_within (segment_at version.parts c.args.part).sets token (length c.count-most.new.self.tallies) c.list-list.result.now (omega (arith, c.count-most.ensures.wide, c.loop-read.invariant.wide, c.requires.wide)) list

pub follow-requires-clause-ranked : goal.follow-requires-clause-ranked
follow-requires-clause-ranked g c =
    let version = c.args.looks.now.version in
    let token = get_or c.args.tokens.now c.loop-read.read 0 in
    let there : token < length (segment_at version.parts c.args.part).tokens =
    (let within = token_within (segment_at version.parts c.args.part).tokens c.args.query.now.keys c.loop-read.read 0 (omega (arith, c.loop-read-test.true, ap (λ (ts : List ℕ). length ts) c.requires.tokens)) in omega (arith, within, ap (λ (ts : List ℕ). get_or ts c.loop-read.read 0) c.requires.tokens)) in
    let list = list_read c.loop-read.looks.version version c.args.part token c.list-list.result.now c.loop-read.invariant.version there c.list-list.ensures.list in
    columns_within (segment_at version.parts c.args.part).sets token (length c.args.order.ranks.now) c.list-list.result.now (omega (arith, length-sets (tables_of (part_at version.parts c.args.part)), c.requires.ranks.size)) list

pub follow-requires-clause-small : goal.follow-requires-clause-small
follow-requires-clause-small g c = λ x.
    let query = c.args.query.now in
    let version = c.args.looks.now.version in
    let whole = part_at version.parts c.args.part in
    let part = searched query whole in
    let kept = c.loop-read.invariant in
    let read = c.loop-read.read in
    let token = get_or c.args.tokens.now read 0 in
    let unread : read < length part.query = omega (arith, c.loop-read-test.true, ap (λ (ts : List ℕ). length ts) c.requires.tokens) in
    let there : token < length (segment_at version.parts c.args.part).tokens =
    (let within = token_within (segment_at version.parts c.args.part).tokens query.keys read 0 unread in omega (arith, within, ap (λ (ts : List ℕ). get_or ts read 0) c.requires.tokens)) in
    let list = list_read c.loop-read.looks.version version c.args.part token c.list-list.result.now kept.version there c.list-list.ensures.list in
    let are = tallies_more part.segment.sets part.query read 0 c.loop-read.columns.tallies c.count-most.new.self.tallies c.list-list.result.now unread kept.going.tallies_are (list ∙ (λ i. postings_of part.segment.sets (get_or (c.requires.tokens i) read 0))) c.count-most.ensures.tallies in
    let few = tallies_small part.segment.sets part.query (read + 1) c.count-most.new.self.tallies are x in
    omega (arith, few, c.requires.few, c.loop-read-test.true)

pub loop-read-preserved-in-Some-Read : goal.loop-read-preserved-in-Some-Read
loop-read-preserved-in-Some-Read g c =
    let says = g.C.Chooser.says c.args.chooser.now in
    let query = c.args.query.now in
    let version = c.args.looks.now.version in
    let whole = part_at version.parts c.args.part in
    let part = searched query whole in
    let kept = c.loop-read.invariant in
    let read = c.loop-read.read in
    let token = get_or c.args.tokens.now read 0 in
    let unread : read < length part.query = omega (arith, c.loop-read-test.true, ap (λ (ts : List ℕ). length ts) c.requires.tokens) in
    let there : token < length (segment_at version.parts c.args.part).tokens =
    (let within = token_within (segment_at version.parts c.args.part).tokens query.keys read 0 unread in omega (arith, within, ap (λ (ts : List ℕ). get_or ts read 0) c.requires.tokens)) in
    let list = list_read c.loop-read.looks.version version c.args.part token c.list-list.result.now kept.version there c.list-list.ensures.list in
    let next = next_now says query c.args.part c.loop-read.looks.version version c.args.top.now.rows c.args.looks.now.log c.loop-read.looks.log read c.loop-read.columns.tallies c.loop-read.columns.known c.loop-read.top.rows (Some c.in-Some-Read.field-0) kept.version kept.going unread c.in-Some-Read.ensures.next in
    let is : Some c.in-Some-Read.field-0 ≡ Some (Read c.in-Some-Read.field-0-0 c.in-Some-Read.field-0-1) = ap Some c.in-Some-Read.field-0-is in
    let looked = c.in-Some-Read.ensures.listed c.in-Some-Read.field-0-0 c.in-Some-Read.field-0-1 is in
    let are = tallies_more part.segment.sets part.query read 0 c.loop-read.columns.tallies c.count-most.new.self.tallies c.list-list.result.now unread kept.going.tallies_are (list ∙ (λ i. postings_of part.segment.sets (get_or (c.requires.tokens i) read 0))) c.count-most.ensures.tallies in
    let was = subst (λ (v : VersionOf). AreHeld query (searched query (part_at v.parts c.args.part)) c.args.order.ranks.now c.loop-read.columns.tallies c.loop-read.columns.known (length c.args.tokens.now - read) c.next_look.new.candidates.low (all_of c.next_look.new.candidates)) kept.version c.next_look.ensures.held in
    let known = ap (unprobed (segment_at version.parts c.args.part).sets c.args.tokens.now) c.count-most.ensures.known in
    record {
      lists = refl;
      version = c.list-list.ensures.version ∙ kept.version;
      going = subst (λ (ks : List Bool). Going says query part c.args.top.now.rows c.args.looks.now.log c.list-list.new.self.log (read + 1) c.count-most.new.self.tallies ks c.loop-read.top.rows) (sym c.count-most.ensures.known)
          (reads_on says query part c.args.top.now.rows c.args.looks.now.log c.loop-read.looks.log read c.loop-read.columns.tallies c.loop-read.columns.known c.loop-read.top.rows kept.going unread c.in-Some-Read.field-0-0 c.in-Some-Read.field-0-1 c.list-list.new.self.log c.count-most.new.self.tallies (sym next ∙ is)
          (c.list-list.ensures.log ∙ (λ i. c.loop-read.looks.log ++ Read (sym looked.0 i) (sym looked.1 i) ∷ [])) are);
      k = kept.k;
      titled = kept.titled;
      most = c.count-most.ensures.most;
      wide = c.count-most.ensures.wide ∙ kept.wide;
      within = omega (arith, c.loop-read-test.true);
      held = c.follow.ensures.held query part (held_read query part c.args.order.ranks.now c.loop-read.columns.tallies c.count-most.new.self.tallies c.count-most.new.self.known (length c.args.tokens.now - read) (length c.args.tokens.now - (read + 1)) c.next_look.new.candidates.low (map (λ (p : Posting). p.column) c.list-list.result.now) (all_of c.next_look.new.candidates) (omega arith)
          (λ x out. c.count-most.ensures.tallies x ∙ uncounted x c.list-list.result.now (tally_at c.loop-read.columns.tallies x) out)
          (subst (λ (ks : List Bool). AreHeld query part c.args.order.ranks.now c.loop-read.columns.tallies ks (length c.args.tokens.now - read) c.next_look.new.candidates.low (all_of c.next_look.new.candidates)) (sym c.count-most.ensures.known) was));
      witness = subst (λ (v : VersionOf). IfSome c.next_look.new.witness (MayLead query (searched query (part_at v.parts c.args.part)))) kept.version c.next_look.ensures.witness;
      kept = c.follow.ensures.room ∙ c.next_look.ensures.room ∙ kept.kept;
      room = omega (arith, kept.room, c.list-list.ensures.spare, c.loop-read-test.true, known);
      spent = omega (arith, kept.spent, c.list-list.ensures.spare, c.loop-read-test.true, known);
    }

pub probe_column-requires-clause-column : goal.probe_column-requires-clause-column
probe_column-requires-clause-column g c =
    let is : Some c.in-Some-Probe.field-0 ≡ Some (Probe c.in-Some-Probe.field-0-0 c.in-Some-Probe.column c.in-Some-Probe.field-0-2) = ap Some c.in-Some-Probe.field-0-is in
    (c.in-Some-Probe.ensures.probed _ _ _ is).1

pub probe_column-requires-clause-wide : goal.probe_column-requires-clause-wide
probe_column-requires-clause-wide g c =
    let is : Some c.in-Some-Probe.field-0 ≡ Some (Probe c.in-Some-Probe.field-0-0 c.in-Some-Probe.column c.in-Some-Probe.field-0-2) = ap Some c.in-Some-Probe.field-0-is in
    let looked = c.in-Some-Probe.ensures.probed _ _ _ is in
    omega (arith, looked.1, c.loop-read.invariant.wide, c.requires.wide, ap (λ (v : VersionOf). length (segment_at v.parts c.args.part).sets) c.loop-read.invariant.version)

pub probe_column-requires-clause-seen : goal.probe_column-requires-clause-seen
probe_column-requires-clause-seen g c =
    let is : Some c.in-Some-Probe.field-0 ≡ Some (Probe c.in-Some-Probe.field-0-0 c.in-Some-Probe.column c.in-Some-Probe.field-0-2) = ap Some c.in-Some-Probe.field-0-is in
    let looked = c.in-Some-Probe.ensures.probed _ _ _ is in
    (lead_parts c.args.query.now (searched c.args.query.now (part_at c.loop-read.looks.version.parts c.args.part)) c.loop-read.columns.tallies c.loop-read.columns.known c.in-Some-Probe.column looked.2).2

pub probe_column-requires-clause-tokens : goal.probe_column-requires-clause-tokens
probe_column-requires-clause-tokens g c = (c.args.query.now.keys, c.requires.tokens ∙ ap (λ (v : VersionOf). (searched c.args.query.now (part_at v.parts c.args.part)).query) (sym c.loop-read.invariant.version))

pub offer_rest-requires-clause-small : goal.offer_rest-requires-clause-small
offer_rest-requires-clause-small g c = λ column.
    let whole = part_at c.args.looks.now.version.parts c.args.part in
    let few = tallies_small (searched c.args.query.now whole).segment.sets (searched c.args.query.now whole).query c.loop-read.read c.loop-read.columns.tallies c.loop-read.invariant.going.tallies_are column in
    omega (arith, few, c.requires.few, c.loop-read.invariant.within)

pub offer_rest-requires-clause-seen : goal.offer_rest-requires-clause-seen
offer_rest-requires-clause-seen g c = λ x some.
    let query = c.args.query.now in
    let whole = part_at c.args.looks.now.version.parts c.args.part in
    let part = searched query whole in
    let kept = c.loop-read.invariant in
    let all : length part.query ≤ c.loop-read.read = omega (arith, c.loop-read-test.false, ap (λ (ts : List ℕ). length ts) c.requires.tokens) in
    let are : AreTallies part.segment.sets part.query c.loop-read.columns.tallies = subst (λ (ts : List ℕ). AreTallies part.segment.sets ts c.loop-read.columns.tallies) (take_all c.loop-read.read part.query all) kept.going.tallies_are in
    omega (
      arith,
      counted_within query whole c.requires.distinct c.loop-read.columns.tallies c.loop-read.columns.known kept.going.progress.probed are kept.going.known_are x some,
      length-sets (tables_of whole),
      ap (λ (v : VersionOf). length (segment_at v.parts c.args.part).sets) kept.version,
    )

pub returns-clause-log : goal.returns-clause-log
returns-clause-log g c =
    let says = g.C.Chooser.says c.args.chooser.now in
    let query = c.args.query.now in
    let part = searched query (part_at c.args.looks.now.version.parts c.args.part) in
    let kept = c.loop-read.invariant in
    let all : length part.query ≤ kept.going.progress.read = (let e = kept.going.at in omega (arith, e, c.loop-read-test.false, ap (λ (ts : List ℕ). length ts) c.requires.tokens)) in
    ended_log says query part c.args.top.now.rows c.args.looks.now.log c.loop-read.looks.log c.loop-read.read c.loop-read.columns.tallies c.loop-read.columns.known c.loop-read.top.rows kept.going (nothing_next says query part c.args.top.now.rows c.args.looks.now.log kept.going.progress all)

pub returns-clause-rows : goal.returns-clause-rows
returns-clause-rows g c =
    let says = g.C.Chooser.says c.args.chooser.now in
    let query = c.args.query.now in
    let version = c.args.looks.now.version in
    let whole = part_at version.parts c.args.part in
    let part = searched query whole in
    let kept = c.loop-read.invariant in
    let all : length part.query ≤ c.loop-read.read = omega (arith, c.loop-read-test.false, ap (λ (ts : List ℕ). length ts) c.requires.tokens) in
    let whole_list = take_all c.loop-read.read part.query all in
    let are : AreTallies part.segment.sets part.query c.loop-read.columns.tallies = subst (λ (ts : List ℕ). AreTallies part.segment.sets ts c.loop-read.columns.tallies) whole_list kept.going.tallies_are in
    let k : c.loop-read.top.k ≡ query.k = kept.k ∙ c.requires.k in
    c.offer_rest.ensures.rows
    ∙ (λ i. offers (k i) (lead_row query (searched query (part_at (kept.version i).parts c.args.part)) c.loop-read.columns.tallies c.loop-read.columns.known 0) c.loop-read.top.rows c.loop-read.columns.touched)
    ∙ all_offered query whole c.requires.distinct c.loop-read.columns.tallies c.loop-read.columns.known kept.going.progress.probed are kept.going.known_are c.args.top.now.rows c.loop-read.columns.touched c.loop-read.top.rows c.offer_rest.ensures.listed kept.going.rows_are
    ∙ read_rows says query part c.args.top.now.rows c.args.looks.now.log c.loop-read.looks.log c.loop-read.read c.loop-read.columns.tallies c.loop-read.columns.known c.loop-read.top.rows kept.going all

pub loop-read-smaller : goal.loop-read-smaller
loop-read-smaller g c =
    let is : Some c.in-Some-Probe.field-0 ≡ Some (Probe c.in-Some-Probe.field-0-0 c.in-Some-Probe.column c.in-Some-Probe.field-0-2) = ap Some c.in-Some-Probe.field-0-is in
    let looked = c.in-Some-Probe.ensures.probed _ _ _ is in
    let led = lead_parts c.args.query.now (searched c.args.query.now (part_at c.loop-read.looks.version.parts c.args.part)) c.loop-read.columns.tallies c.loop-read.columns.known c.in-Some-Probe.column looked.2 in
    let within : c.in-Some-Probe.column < length c.loop-read.columns.known = omega (arith, looked.1, c.loop-read.invariant.wide, c.requires.wide, c.probe_column.ensures.marks, ap (λ (v : VersionOf). length (segment_at v.parts c.args.part).sets) c.loop-read.invariant.version) in
    let version = c.args.looks.now.version in
    let sets = (segment_at version.parts c.args.part).sets in
    let columns : c.in-Some-Probe.column < length sets = omega (arith, looked.1, ap (λ (v : VersionOf). length (segment_at v.parts c.args.part).sets) c.loop-read.invariant.version) in
    let less = probed_less sets c.args.tokens.now (searched c.args.query.now (part_at version.parts c.args.part)).query c.loop-read.columns.tallies c.loop-read.columns.known c.in-Some-Probe.column c.loop-read.read c.requires.tokens c.loop-read.invariant.going.tallies_are columns within led.1 led.2 in
    omega (arith, less, ap (unprobed sets c.args.tokens.now) c.probe_column.ensures.known)

pub loop-read-preserved : goal.loop-read-preserved
loop-read-preserved g c =
    let says = g.C.Chooser.says c.args.chooser.now in
    let query = c.args.query.now in
    let version = c.args.looks.now.version in
    let whole = part_at version.parts c.args.part in
    let part = searched query whole in
    let kept = c.loop-read.invariant in
    let read = c.loop-read.read in
    let x = c.in-Some-Probe.column in
    let unread : read < length part.query = omega (arith, c.loop-read-test.true, ap (λ (ts : List ℕ). length ts) c.requires.tokens) in
    let next = next_now says query c.args.part c.loop-read.looks.version version c.args.top.now.rows c.args.looks.now.log c.loop-read.looks.log read c.loop-read.columns.tallies c.loop-read.columns.known c.loop-read.top.rows (Some c.in-Some-Probe.field-0) kept.version kept.going unread c.in-Some-Probe.ensures.next in
    let is : Some c.in-Some-Probe.field-0 ≡ Some (Probe c.in-Some-Probe.field-0-0 x c.in-Some-Probe.field-0-2) = ap Some c.in-Some-Probe.field-0-is in
    let looked = c.in-Some-Probe.ensures.probed _ _ _ is in
    let led = lead_parts query (searched query (part_at c.loop-read.looks.version.parts c.args.part)) c.loop-read.columns.tallies c.loop-read.columns.known x looked.2 in
    let columns : x < length (segment_at version.parts c.args.part).sets = omega (arith, looked.1, ap (λ (v : VersionOf). length (segment_at v.parts c.args.part).sets) kept.version) in
    let within : x < length c.loop-read.columns.known = omega (arith, columns, kept.wide, c.requires.wide, c.probe_column.ensures.marks) in
    let sets = (segment_at version.parts c.args.part).sets in
    let less = probed_less sets c.args.tokens.now part.query c.loop-read.columns.tallies c.loop-read.columns.known x read c.requires.tokens kept.going.tallies_are columns within led.1 led.2 in
    let k : c.loop-read.top.k ≡ query.k = kept.k ∙ c.requires.k in
    let live : is_eligible query part (column_at part x) ≡ true = sym (ap (λ (v : VersionOf). is_eligible query (searched query (part_at v.parts c.args.part)) (column_at (searched query (part_at v.parts c.args.part)) x)) kept.version) ∙ led.0 in
    let was = subst (λ (v : VersionOf). AreHeld query (searched query (part_at v.parts c.args.part)) c.args.order.ranks.now c.loop-read.columns.tallies c.loop-read.columns.known (length c.args.tokens.now - read) c.next_look.new.candidates.low (all_of c.next_look.new.candidates)) kept.version c.next_look.ensures.held in
    let row = probed_row c.loop-read.looks.version version query c.args.part x c.args.tokens.now kept.version c.requires.distinct columns c.requires.tokens in
    let rows = c.probe_column.ensures.rows ∙ (λ i. take (k i) (put_in_order row_cmp (row i) c.loop-read.top.rows)) in
    record {
      lists = refl;
      version = c.probe_column.ensures.version ∙ kept.version;
      going = subst (λ (ts : List Tally). Going says query part c.args.top.now.rows c.args.looks.now.log c.probe_column.new.looks.log read ts c.probe_column.new.columns.known c.probe_column.new.top.rows) (sym c.probe_column.ensures.tallies)
          (probes_on says query part c.args.top.now.rows c.args.looks.now.log c.loop-read.looks.log read c.loop-read.columns.tallies c.loop-read.columns.known c.loop-read.top.rows kept.going unread c.in-Some-Probe.field-0-0 x c.in-Some-Probe.field-0-2 c.probe_column.new.looks.log c.probe_column.new.columns.known c.probe_column.new.top.rows (sym next ∙ is)
          (c.probe_column.ensures.log ∙ (λ i. c.loop-read.looks.log ++ Probe (sym looked.0 i) x (sym looked.3 i) ∷ [])) within c.probe_column.ensures.known
          (probed_known query whole c.requires.distinct c.loop-read.columns.tallies c.loop-read.columns.known kept.going.progress.probed c.args.top.now.rows c.loop-read.top.rows c.probe_column.new.top.rows x read columns live led.1 led.2 kept.going.tallies_are kept.going.known_are kept.going.rows_are rows));
      k = c.probe_column.ensures.k ∙ kept.k;
      titled = c.probe_column.ensures.titled ∙ kept.titled;
      most = λ x. omega (arith, kept.most x, ap (λ (ts : List Tally). (tally_at ts x).count) c.probe_column.ensures.tallies);
      wide = ap (λ (ts : List Tally). length ts) c.probe_column.ensures.tallies ∙ kept.wide;
      within = kept.within;
      held = subst (λ (ts : List Tally). AreHeld query part c.args.order.ranks.now ts c.probe_column.new.columns.known (length c.args.tokens.now - read) c.next_look.new.candidates.low (all_of c.next_look.new.candidates)) (sym c.probe_column.ensures.tallies)
          (subst (λ (ks : List Bool). AreHeld query part c.args.order.ranks.now c.loop-read.columns.tallies ks (length c.args.tokens.now - read) c.next_look.new.candidates.low (all_of c.next_look.new.candidates)) (sym c.probe_column.ensures.known)
          (held_known query part c.args.order.ranks.now c.loop-read.columns.tallies c.loop-read.columns.known (length c.args.tokens.now - read) c.next_look.new.candidates.low x (all_of c.next_look.new.candidates) was));
      witness = subst (λ (v : VersionOf). IfSome c.next_look.new.witness (MayLead query (searched query (part_at v.parts c.args.part)))) kept.version c.next_look.ensures.witness;
      kept = c.next_look.ensures.room ∙ kept.kept;
      room = omega (arith, kept.room, c.probe_column.ensures.spare, less, ap (unprobed sets c.args.tokens.now) c.probe_column.ensures.known);
      spent = omega (arith, kept.spent, c.probe_column.ensures.spare, less, ap (unprobed sets c.args.tokens.now) c.probe_column.ensures.known);
    }

pub next_look-requires-clause-witness : goal.next_look-requires-clause-witness
next_look-requires-clause-witness g c = subst (λ (v : VersionOf). IfSome c.loop-read.witness (MayLead c.args.query.now (searched c.args.query.now (part_at v.parts c.args.part)))) (sym c.loop-read.invariant.version) c.loop-read.invariant.witness
