-- A step of a lane among others, and turns one after another.
use Rattle.std.proofs.Common.{◌≡◌, refl, ap, sym, ◌∙◌, subst, ℕ, zero, suc, ◌+◌, ◌<◌, ◌≤◌, List, [], ◌∷◌, ◌++◌, Bool, true, false, length, map, get_or, Option, Some, None, arith, length-append, replicate}
use Rattle.std.specs.Prelude.{slice_get, slice_set, option_map}
use Rattle.std.specs.List.{fold}
use Rattle.std.proofs.lemmas.List.{map-set, get_or_past}
use Rattle.std.proofs.lemmas.List.Sums.{fold-append, sum_by-set}
use Rattle.std.proofs.lemmas.Option.{slice_get-map, slice_get_read}
use mathlib.Core.List.{IsPrefix}
use Rattle.lake_model.specs.declared.Counts.{Counts}
use Rattle.lake_model.specs.declared.Keys.{Keys}
use Rattle.lake_model.specs.Journal.{Entry}
use Rattle.record_model.specs.Rules.{Rules, rules_with, wide_limits}
use Rattle.script_model.specs.Commands.{Command}
use Rattle.record_model.specs.Record.{RunRecord}
use Rattle.record_model.specs.Answered.{has_pin}
use Rattle.record_model.specs.Play.{Lane, Play, play_with, lane_step, step_of, step_at, step, with_denials, play}
use Rattle.catalogue.specs.Kept.{CatalogueOf, IsWithin}
use Rattle.run_record.specs.Rooms.{RecordOf}
use Rattle.lake_core.specs.Lanes.{LaneOf, lane_from, played, play_of, alone, IsHeld, AreHeld, left_in, left}
use Rattle.lake_core.specs.Plays.{StateOf, state_with, play_at, IsReady, Leads, Goes}
use Rattle.lake_core.proofs.LaneLemmas.{held_grows}

-- ---- a lane among others

first_or : Lane → List Lane → Lane
first_or lane [] = lane
first_or lane (x ∷ xs) = x

-- what happens to a lane alone happens to it among others
carried : (journal after : List Entry) (old new : Lane) (lanes : List Lane) (l : ℕ) → play_with after (new ∷ []) ≡ play_with journal (old ∷ [])
    → play_with after (slice_set lanes l new) ≡ play_with journal (slice_set lanes l old)
unfolding first_or
carried journal after old new lanes l e = ap (λ (p : Play). play_with p.journal (slice_set lanes l (first_or old p.lanes))) e

set_self : (lanes : List Lane) (l : ℕ) (lane : Lane) → slice_get lanes l ≡ Some lane → slice_set lanes l lane ≡ lanes
set_self [] l lane e = refl
set_self (x ∷ lanes) zero lane e = let same : x ≡ lane = cc in ap (λ (y : Lane). y ∷ lanes) (sym same)
set_self (x ∷ lanes) (suc l) lane e = ap (λ (ls : List Lane). x ∷ ls) (set_self lanes l lane e)

of_among : (rules : Rules) (denied : Bool) (journal after : List Entry) (lanes : List Lane) (l : ℕ) (lane new : Lane) (command : Command) (todo : List Command) (b : Bool) (pin : Option ℕ)
    → play_with after (new ∷ []) ≡ step_of rules denied journal (lane ∷ []) 0 lane.done command todo b pin
    → play_with after (slice_set lanes l new) ≡ step_of rules denied journal lanes l lane.done command todo b pin
of_among rules denied journal after lanes l lane new command todo true None e = carried _ after _ new lanes l e
of_among rules denied journal after lanes l lane new command todo true (Some at) e = carried _ after _ new lanes l e
of_among rules denied journal after lanes l lane new command todo false pin e = carried _ after _ new lanes l e

lane_among : (rules : Rules) (denied : Bool) (journal after : List Entry) (lanes : List Lane) (l : ℕ) (lane new : Lane) (todo : List Command) → slice_get lanes l ≡ Some lane
    → play_with after (new ∷ []) ≡ lane_step rules denied journal (lane ∷ []) 0 todo lane
    → play_with after (slice_set lanes l new) ≡ lane_step rules denied journal lanes l todo lane
lane_among rules denied journal after lanes l lane new [] here e = carried journal after lane new lanes l e ∙ ap (play_with journal) (set_self lanes l lane here)
lane_among rules denied journal after lanes l lane new (command ∷ todo) here e = of_among rules denied journal after lanes l lane new command todo (has_pin command.task) lane.pin e

-- a step of a lane alone is a step of it among others
pub among : (rules : Rules) (denied : Bool) (journal after : List Entry) (lanes : List LaneOf) (l : ℕ) (lane new : LaneOf) → l < length lanes → lane ≡ get_or lanes l lane
    → alone after new ≡ step rules (alone journal lane) (0, denied)
    → play_of after (slice_set lanes l new) ≡ step rules (play_of journal lanes) (l, denied)
among rules denied journal after lanes l lane new within is e =
    let here : slice_get (map played lanes) l ≡ Some (played lane) = slice_get-map played lanes l ∙ ap (λ (o : Option LaneOf). option_map played o) (slice_get_read lanes (length lanes) l lane refl within is) in
    ap (play_with after) (map-set played lanes l new)
    ∙ lane_among rules denied journal after (map played lanes) l (played lane) (played new) lane.todo here e
    ∙ sym (ap (step_at rules denied journal (map played lanes) l) here)

-- ---- turns

with_denials-append : (order later : List ℕ) (denials more : List Bool) → length denials ≡ length order → with_denials (order ++ later) (denials ++ more) ≡ with_denials order denials ++ with_denials later more
with_denials-append [] later [] more same = refl
with_denials-append [] later (d ∷ denials) more same = absurd (omega (arith, same))
with_denials-append (l ∷ order) later [] more same = absurd (omega (arith, same))
with_denials-append (l ∷ order) later (d ∷ denials) more same = ap (λ (turns : List (ℕ × Bool)). (l, d) ∷ turns) (with_denials-append order later denials more (omega (arith, same)))

leads_none : (rules : Rules) (state : Play) → Leads rules [] state state
unfolding play
leads_none rules state = ([], refl, refl)

pub leads_one : (rules : Rules) (l : ℕ) (denied : Bool) (before after : Play) → after ≡ step rules before (l, denied) → Leads rules (l ∷ []) before after
unfolding play
leads_one rules l denied before after e = (denied ∷ [], refl, e)

leads_on : (rules : Rules) (order later : List ℕ) (before mid after : Play) → Leads rules order before mid → Leads rules later mid after → Leads rules (order ++ later) before after
unfolding play
leads_on rules order later before mid after (denials, many, is) (more, many', is') =
    let long : length (denials ++ more) ≡ length (order ++ later) = omega (arith, length-append denials more, length-append order later, many, many') in (
      denials ++ more,
      long,
      is' ∙ ap (λ (p : Play). fold (step rules) p (with_denials later more)) is
          ∙ sym (ap (fold (step rules) before) (with_denials-append order later denials more many) ∙ fold-append (step rules) before (with_denials order denials) (with_denials later more)),
    )

-- ---- a lane with nothing left

nothing_left : (rules : Rules) (denied : Bool) (journal : List Entry) (lanes : List Lane) (l : ℕ) (lane : Lane) (todo : List Command) → length todo ≡ 0
    → lane_step rules denied journal lanes l todo lane ≡ play_with journal lanes
nothing_left rules denied journal lanes l lane [] none = refl
nothing_left rules denied journal lanes l lane (command ∷ todo) none = absurd (let f : 1 + length todo ≡ 0 = omega (arith, none) in omega (arith, f))

idle_at : (rules : Rules) (denied : Bool) (journal : List Entry) (all : List Lane) (n : ℕ) (lanes : List LaneOf) (l : ℕ) → length (get_or lanes l (lane_from [] None [])).todo ≡ 0
    → step_at rules denied journal all n (slice_get (map played lanes) l) ≡ play_with journal all
idle_at rules denied journal all n [] l none = refl
idle_at rules denied journal all n (lane ∷ lanes) zero none = nothing_left rules denied journal all n (played lane) lane.todo none
idle_at rules denied journal all n (lane ∷ lanes) (suc l) none = idle_at rules denied journal all n lanes l none

leads_idle : (rules : Rules) (journal : List Entry) (lanes : List LaneOf) (l k : ℕ) → length (get_or lanes l (lane_from [] None [])).todo ≡ 0
    → Leads rules (replicate k l) (play_of journal lanes) (play_of journal lanes)
leads_idle rules journal lanes l zero none = leads_none rules (play_of journal lanes)
leads_idle rules journal lanes l (suc k) none =
    leads_on rules (l ∷ []) (replicate k l) (play_of journal lanes) (play_of journal lanes) (play_of journal lanes)
    (leads_one rules l false (play_of journal lanes) (play_of journal lanes) (sym (idle_at rules false journal (map played lanes) l lanes l none)))
    (leads_idle rules journal lanes l k none)

-- ---- states

pub goes_none : {keys : Keys} (state : StateOf) → IsReady state → Goes keys [] state state
goes_none {keys} state ready = record {
  leads = leads_none (rules_with keys state.catalogue.limits) (play_at state);
  held = ready.held;
  entries = ready.entries;
  made = λ i. record state.out.made { journal = ready.journal i };
  limits = refl;
  within = ready.limits;
  past = ready.past;
  answers_room = refl;
  syncs_room = refl;
}

pub goes_on : {keys : Keys} (order later : List ℕ) (before mid after : StateOf) → Goes keys order before mid → Goes keys later mid after → Goes keys (order ++ later) before after
goes_on {keys} order later before mid after first second = record {
  leads = leads_on (rules_with keys before.catalogue.limits) order later (play_at before) (play_at mid) (play_at after) first.leads
      (subst (λ (limits : Counts). Leads (rules_with keys limits) later (play_at mid) (play_at after)) first.limits second.leads);
  held = second.held;
  entries = second.entries;
  made = second.made ∙ ap (λ (m : RunRecord). record m { journal = after.catalogue.journal }) first.made;
  limits = second.limits ∙ first.limits;
  within = second.within;
  past = second.past;
  answers_room = second.answers_room ∙ first.answers_room;
  syncs_room = second.syncs_room ∙ first.syncs_room;
}

pub ready_after : {keys : Keys} (order : List ℕ) (before after : StateOf) → Goes keys order before after → IsReady after
ready_after {keys} order before after goes = record { journal = ap (λ (m : RunRecord). m.journal) goes.made; held = goes.held; entries = goes.entries; limits = goes.within; past = goes.past }

-- a lane that has nothing left does not change, however many turns it has
pub goes_idle : {keys : Keys} (state : StateOf) (l k : ℕ) → IsReady state → length (get_or state.lanes l (lane_from [] None [])).todo ≡ 0 → Goes keys (replicate k l) state state
goes_idle {keys} state l k ready none = record {
  leads = leads_idle (rules_with keys state.catalogue.limits) state.catalogue.journal state.lanes l k none;
  held = ready.held;
  entries = ready.entries;
  made = λ i. record state.out.made { journal = ready.journal i };
  limits = refl;
  within = ready.limits;
  past = ready.past;
  answers_room = refl;
  syncs_room = refl;
}

-- ---- one step

all_held : (journal more : List Entry) (lanes : List LaneOf) → AreHeld journal lanes → AreHeld (journal ++ more) lanes
all_held journal more [] are = are
all_held journal more (lane ∷ lanes) are = (held_grows journal more lane.todo lane.held are.0, all_held journal more lanes are.1)

held_set : (journal : List Entry) (lanes : List LaneOf) (l : ℕ) (new : LaneOf) → AreHeld journal lanes → IsHeld journal new.todo new.held → AreHeld journal (slice_set lanes l new)
held_set journal [] l new are is = are
held_set journal (lane ∷ lanes) zero new are is = (is, are.1)
held_set journal (lane ∷ lanes) (suc l) new are is = (are.0, held_set journal lanes l new are.1 is)

pub held_here : (journal : List Entry) (lanes : List LaneOf) (l : ℕ) (lane : LaneOf) → AreHeld journal lanes → l < length lanes → lane ≡ get_or lanes l lane → IsHeld journal lane.todo lane.held
held_here journal [] l lane are within is = absurd (omega (arith, within))
held_here journal (x ∷ lanes) zero lane are within is = subst (λ (y : LaneOf). IsHeld journal y.todo y.held) (sym is) are.0
held_here journal (x ∷ lanes) (suc l) lane are within is = held_here journal lanes l lane are.1 (omega (arith, within)) is

-- the result of a step of one lane for all lanes
pub goes_one : {keys : Keys} (catalogue catalogue' : CatalogueOf) (past past' : List Entry) (lanes : List LaneOf) (out out' : RecordOf) (l : ℕ) (lane new : LaneOf) (more : List Entry) (denied : Bool)
    → IsReady (state_with catalogue past lanes out) → IsPrefix past' catalogue'.journal → l < length lanes → lane ≡ get_or lanes l lane
    → alone catalogue'.journal new ≡ step (rules_with keys catalogue.limits) (alone catalogue.journal lane) (0, denied)
    → IsHeld catalogue'.journal new.todo new.held → catalogue'.journal ≡ catalogue.journal ++ more
    → out'.made ≡ record out.made { journal = catalogue'.journal } → catalogue'.limits ≡ catalogue.limits
    → out.entries_room + length new.todo ≤ out'.entries_room + length lane.todo → out'.answers_room ≡ out.answers_room → out'.syncs_room ≡ out.syncs_room
    → Goes keys (l ∷ []) (state_with catalogue past lanes out) (state_with catalogue' past' (slice_set lanes l new) out')
goes_one {keys} catalogue catalogue' past past' lanes out out' l lane new more denied ready taken within is steps held grows made limits entries answers syncs =
    let here : left_in (get_or lanes l lane) ≡ left_in lane = ap left_in (sym is) in
    let sum : left (slice_set lanes l new) + left_in (get_or lanes l lane) ≡ left lanes + left_in new = sum_by-set left_in lanes l new lane within in
    record {
      leads = leads_one (rules_with keys catalogue.limits) l denied (play_of catalogue.journal lanes) (play_of catalogue'.journal (slice_set lanes l new))
          (among (rules_with keys catalogue.limits) denied catalogue.journal catalogue'.journal lanes l lane new within is steps);
      held = held_set catalogue'.journal lanes l new (subst (λ (j : List Entry). AreHeld j lanes) (sym grows) (all_held catalogue.journal more lanes ready.held)) held;
      entries = omega (arith, sum, here, entries, ready.entries);
      made = made;
      limits = limits;
      within = subst (λ (l : Counts). IsWithin wide_limits l) (sym limits) ready.limits;
      past = taken;
      answers_room = answers;
      syncs_room = syncs;
    }

-- turns, and then more turns
pub goes_by : {keys : Keys} (order later whole : List ℕ) (before mid after : StateOf) → order ++ later ≡ whole → Goes keys order before mid → Goes keys later mid after → Goes keys whole before after
goes_by {keys} order later whole before mid after same first second = subst (λ (ls : List ℕ). Goes keys ls before after) same (goes_on order later before mid after first second)

-- a lane that does not exist
pub goes_nowhere : {keys : Keys} (state : StateOf) (l : ℕ) → IsReady state → length state.lanes ≤ l → Goes keys (l ∷ []) state state
goes_nowhere {keys} state l ready past =
    let none : length (get_or state.lanes l (lane_from [] None [])).todo ≡ 0 = ap (λ (lane : LaneOf). length lane.todo) (get_or_past state.lanes l (lane_from [] None []) past) in
    goes_idle state l 1 ready none
