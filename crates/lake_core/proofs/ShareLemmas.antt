-- The commands of a batch shared out to its lanes.
use Rattle.std.proofs.Common.{◌≡◌, refl, ap, sym, ◌∙◌, subst, ℕ, zero, suc, ◌+◌, ◌<◌, ◌≤◌, List, [], ◌∷◌, ◌++◌, append-nil, Bool, true, false, cond, length, take, map, get_or, Some, None, arith, length-append}
use Rattle.std.specs.Prelude.{◌==◌, slice_get, slice_set, filter, option_map}
use Rattle.std.specs.List.{range_with_len}
use Rattle.std.proofs.lemmas.Bool.Decides.{nat_tests}
use Rattle.std.proofs.lemmas.List.{map-append, map-set, length-map, take_more}
use Rattle.std.proofs.lemmas.List.Elements.{filter-append}
use Rattle.std.proofs.lemmas.List.FromFn.{length-map-range_with_len, map-range_with_len_more}
use Rattle.std.proofs.lemmas.List.Sums.{sum_by_push, sum_by-set}
use Rattle.std.proofs.lemmas.Option.{slice_get-map, slice_get_read}
use Rattle.script_model.specs.Commands.{Command}
use Rattle.record_model.specs.Play.{Done, Lane, lane_with, lane_of}
use Rattle.batch_work.specs.Works.{IsWithinLanes}
use Rattle.lake_core.specs.Lanes.{LaneOf, lane_from, pin_of, played, left_in, left, AreNew, AreShared}

-- the lanes from a number on
abbrev lanes_from : ℕ → ℕ → List Command → List Lane
lanes_from a count commands = map (lane_of commands) (range_with_len a count)

mine : (commands : List Command) (command : Command) (l : ℕ) (b : Bool) → (command.lane == l) ≡ b
    → filter (λ (c : Command). c.lane == l) (commands ++ command ∷ []) ≡ filter (λ (c : Command). c.lane == l) commands ++ cond b (command ∷ []) []
mine commands command l b e = filter-append (λ (c : Command). c.lane == l) commands (command ∷ []) ∙ ap (λ (x : Bool). filter (λ (c : Command). c.lane == l) commands ++ cond x (command ∷ []) []) e

-- a command of another lane changes nothing
other : (commands : List Command) (command : Command) (l : ℕ) → (command.lane == l) ≡ false → lane_of commands l ≡ lane_of (commands ++ command ∷ []) l
other commands command l e = ap (λ (cs : List Command). lane_with cs None []) (sym (mine commands command l false e ∙ append-nil (filter (λ (c : Command). c.lane == l) commands)))

own : (commands : List Command) (command : Command) (l : ℕ) → (command.lane == l) ≡ true → lane_with (filter (λ (c : Command). c.lane == l) commands ++ command ∷ []) None [] ≡ lane_of (commands ++ command ∷ []) l
own commands command l e = ap (λ (cs : List Command). lane_with cs None []) (sym (mine commands command l true e))

later : (commands : List Command) (command : Command) (a count : ℕ) → command.lane < a → lanes_from a count commands ≡ lanes_from a count (commands ++ command ∷ [])
later commands command a zero less = refl
later commands command a (suc count) less =
    let apart : (command.lane == a) ≡ false = grind (arith, nat_tests, less) in
    (λ i. other commands command a apart i ∷ later commands command (a + 1) count (omega (arith, less)) i)

-- one more command of a lane
abbrev with_one : Command → Lane → Lane
with_one command lane = lane_with (lane.todo ++ command ∷ []) lane.pin lane.done

among : (commands : List Command) (command : Command) (lane : Lane) (a count k : ℕ) → command.lane ≡ a + k → slice_get (lanes_from a count commands) k ≡ Some lane
    → slice_set (lanes_from a count commands) k (with_one command lane) ≡ lanes_from a count (commands ++ command ∷ [])
among commands command lane a zero k at here = cc
among commands command lane a (suc count) zero at here =
    let same : lane_of commands a ≡ lane = cc in
    let owns : (command.lane == a) ≡ true = grind (arith, nat_tests, at) in
    ap (λ (x : Lane). with_one command x ∷ lanes_from (a + 1) count commands) (sym same)
    ∙ (λ i. own commands command a owns i ∷ later commands command (a + 1) count (omega (arith, at)) i)
among commands command lane a (suc count) (suc k) at here =
    let apart : (command.lane == a) ≡ false = grind (arith, nat_tests, at) in
    (λ i. other commands command a apart i ∷ among commands command lane (a + 1) count k (omega (arith, at)) here i)

-- One more command is added after those of its lane.
pub one_more : (count : ℕ) (commands : List Command) (command : Command) (lane : Lane) (l : ℕ) → l ≡ command.lane → slice_get (lanes_from 0 count commands) l ≡ Some lane
    → slice_set (lanes_from 0 count commands) l (with_one command lane) ≡ lanes_from 0 count (commands ++ command ∷ [])
one_more count commands command lane l is here = among commands command lane 0 count l (let e : command.lane ≡ 0 + l = omega (arith, is) in e) here

-- ---- lanes in the code

all_new : (lanes more : List LaneOf) → AreNew lanes → AreNew more → AreNew (lanes ++ more)
all_new [] more are and = and
all_new (lane ∷ lanes) more are and = (are.0, all_new lanes more are.1 and)

new_set : (lanes : List LaneOf) (l : ℕ) (new : LaneOf) → AreNew lanes → (new.held ≡ None) × (new.done ≡ []) → AreNew (slice_set lanes l new)
new_set [] l new are is = are
new_set (lane ∷ lanes) zero new are is = (is, are.1)
new_set (lane ∷ lanes) (suc l) new are is = (are.0, new_set lanes l new are.1 is)

pub new_here : (lanes : List LaneOf) (l : ℕ) (lane : LaneOf) → AreNew lanes → l < length lanes → lane ≡ get_or lanes l lane → (lane.held ≡ None) × (lane.done ≡ [])
new_here [] l lane are within is = absurd (omega (arith, within))
new_here (x ∷ lanes) zero lane are within is = subst (λ (y : LaneOf). (y.held ≡ None) × (y.done ≡ [])) (sym is) are.0
new_here (x ∷ lanes) (suc l) lane are within is = new_here lanes l lane are.1 (omega (arith, within)) is

pub shared_none : (lanes : List LaneOf) (new : LaneOf) → lanes ≡ new ∷ [] → new ≡ lane_from [] None [] → AreShared 0 [] lanes
shared_none lanes new only is =
    let e : lanes ≡ lane_from [] None [] ∷ [] = only ∙ ap (λ (lane : LaneOf). lane ∷ []) is in
    subst (AreShared 0 []) (sym e) (record { lanes_are = refl; all = refl; fresh = ((refl, refl), tt) })

-- one more idle lane
pub shared_idle : (count : ℕ) (lanes later : List LaneOf) (new : LaneOf) → AreShared count [] lanes → new ≡ lane_from [] None [] → later ≡ lanes ++ new ∷ [] → AreShared (count + 1) [] later
shared_idle count lanes later new so_far is pushed =
    let e : later ≡ lanes ++ lane_from [] None [] ∷ [] = pushed ∙ ap (λ (lane : LaneOf). lanes ++ lane ∷ []) is in
    subst (AreShared (count + 1) []) (sym e) (record {
      lanes_are = map-append played lanes (lane_from [] None [] ∷ [])
          ∙ ap (λ (ls : List Lane). ls ++ lane_with [] None [] ∷ []) so_far.lanes_are
          ∙ sym (map-range_with_len_more (lane_of []) 0 (count + 1) (0 + (count + 1)) refl);
      all = omega (arith, sum_by_push left_in lanes (lane_from [] None []), so_far.all);
      fresh = all_new lanes (lane_from [] None [] ∷ []) so_far.fresh ((refl, refl), tt);
    })

many : (count : ℕ) (commands : List Command) (lanes : List LaneOf) → AreShared count commands lanes → length lanes ≡ count + 1
many count commands lanes are =
    sym (length-map lanes played) ∙ ap (λ (ls : List Lane). length ls) are.lanes_are
    ∙ length-map-range_with_len (lane_of commands) 0 (count + 1)

of_lanes : (count : ℕ) (commands : List Command) (n : ℕ) (d : Command) → IsWithinLanes count commands → n < length commands → (get_or commands n d).lane ≤ count
of_lanes count [] n d are within = absurd (omega (arith, within))
of_lanes count (command ∷ commands) zero d are within = are.0
of_lanes count (command ∷ commands) (suc n) d are within = of_lanes count commands n d are.1 (omega (arith, within))

-- a command's lane exists
pub lane_within : (count : ℕ) (commands : List Command) (n : ℕ) (some : List Command) (lanes : List LaneOf) (command : Command) → IsWithinLanes count commands → n < length commands → command ≡ get_or commands n command
    → AreShared count some lanes → command.lane < length lanes
lane_within count commands n some lanes command are within is shared =
    let high = of_lanes count commands n command are within in
    let same : command.lane ≡ (get_or commands n command).lane = ap (λ (c : Command). c.lane) is in
    omega (arith, high, same, many count some lanes shared)

-- one more command
pub shared_more : (count : ℕ) (commands : List Command) (n : ℕ) (lanes later : List LaneOf) (command : Command) (lane new : LaneOf) (l : ℕ) → n < length commands → command ≡ get_or commands n command
    → AreShared count (take n commands) lanes → l ≡ command.lane → l < length lanes → lane ≡ get_or lanes l lane → new ≡ lane_from (lane.todo ++ command ∷ []) lane.held [] → later ≡ slice_set lanes l new
    → AreShared count (take (n + 1) commands) later
shared_more count commands n lanes later command lane new l within is shared at inside here added set =
    let begun = new_here lanes l lane shared.fresh inside here in
    let first : take (n + 1) commands ≡ take n commands ++ command ∷ [] = take_more commands n command within ∙ ap (λ (c : Command). take n commands ++ c ∷ []) (sym is) in
    let got : slice_get (lanes_from 0 (count + 1) (take n commands)) l ≡ Some (played lane) =
    sym (ap (λ (ls : List Lane). slice_get ls l) shared.lanes_are) ∙ slice_get-map played lanes l ∙ ap (option_map played) (slice_get_read lanes (length lanes) l lane refl inside here) in
    let one : played new ≡ with_one command (played lane) = ap played added ∙ ap (λ (done : List Done). lane_with (lane.todo ++ command ∷ []) (pin_of lane.held) done) (sym begun.1) in
    let kept : left_in (get_or lanes l lane) ≡ left_in lane = ap left_in (sym here) in
    let more : left_in new ≡ left_in lane + 1 = ap left_in added ∙ length-append lane.todo (command ∷ []) in
    let sum : left (slice_set lanes l new) + left_in (get_or lanes l lane) ≡ left lanes + left_in new = sum_by-set left_in lanes l new lane inside in
    let size : left later ≡ left (slice_set lanes l new) = ap left set in
    let long : length (take (n + 1) commands) ≡ length (take n commands) + 1 = ap (λ (cs : List Command). length cs) first ∙ length-append (take n commands) (command ∷ []) in
    record {
      lanes_are = ap (map played) set ∙ map-set played lanes l new
          ∙ (λ i. slice_set (shared.lanes_are i) l (one i))
          ∙ one_more (count + 1) (take n commands) command (played lane) l at got
          ∙ sym (ap (λ (cs : List Command). lanes_from 0 (count + 1) cs) first);
      all = omega (arith, size, sum, kept, more, long, shared.all);
      fresh = subst AreNew (sym set) (new_set lanes l new shared.fresh (ap (λ (x : LaneOf). x.held) added ∙ begun.0, ap (λ (x : LaneOf). x.done) added));
    }
