-- The lanes of the work of a batch: its commands, and then the merger's.
use Rattle.std.proofs.Common.{◌≡◌, refl, ap, sym, ◌∙◌, subst, ℕ, zero, suc, ◌+◌, ◌<◌, ◌≤◌, [], ◌∷◌, ◌++◌, append-nil, Bool, true, false, cond, map, Option, Some, None, arith}
use Rattle.std.specs.Prelude.{◌==◌, filter}
use Rattle.std.specs.List.{AllByRecursion, range_with_len}
use Rattle.std.proofs.lemmas.Bool.Decides.{nat_tests}
use Rattle.std.proofs.lemmas.List.Elements.{filter-append}
use Rattle.list_laws.proofs.ListLemmas.{all_append, all_weaker}
use Rattle.script_model.specs.Commands.{Command, command_with, Batch, Merge, updates}
use Rattle.script_model.specs.Lanes.{IsOfLanes}
use Rattle.record_model.specs.Play.{lane_with, lane_of, lanes_of, merges_of}
use Rattle.batch_work.specs.Works.{IsWithinLanes}

-- ---- the merger's commands

-- every command is the merger's
abbrev pub AreMergers : Batch → Type 0
AreMergers commands = AllByRecursion (λ command. command.lane ≡ 0) commands

mergers_from : (a count : ℕ) → AreMergers (map (λ n. command_with n 0 (Merge false)) (range_with_len a count))
mergers_from a zero = tt
mergers_from a (suc count) = (refl, mergers_from (a + 1) count)

mergers : (merger : Option ℕ) (batch : Batch) → AreMergers (merges_of merger batch)
mergers None batch = tt
mergers (Some first) batch = mergers_from first (updates batch)

-- all work belongs to the merger's lane or to one of lanes 1 to n
pub within_lanes : (n : ℕ) (merger : Option ℕ) (batch works : Batch) → IsOfLanes n batch → works ≡ batch ++ merges_of merger batch → IsWithinLanes n works
within_lanes n merger batch works are is =
    subst (IsWithinLanes n) (sym is) (all_append (λ (c : Command). c.lane ≤ n) batch (merges_of merger batch)
    (all_weaker (λ (c : Command). (0 < c.lane) × (c.lane ≤ n)) (λ c. c.lane ≤ n) batch (λ c h. h.1) are)
    (all_weaker (λ (c : Command). c.lane ≡ 0) (λ c. c.lane ≤ n) (merges_of merger batch) (λ c h. omega (arith, h)) (mergers merger batch)))

-- ---- the lanes

none_of : (l : ℕ) (commands : Batch) → AllByRecursion (λ command. (command.lane == l) ≡ false) commands → filter (λ command. command.lane == l) commands ≡ []
none_of l [] h = refl
none_of l (command ∷ commands) h = ap (λ (b : Bool). cond b (command ∷ filter (λ c. c.lane == l) commands) (filter (λ c. c.lane == l) commands)) h.0 ∙ none_of l commands h.1

all_of : (l : ℕ) (commands : Batch) → AllByRecursion (λ command. (command.lane == l) ≡ true) commands → filter (λ command. command.lane == l) commands ≡ commands
all_of l [] h = refl
all_of l (command ∷ commands) h =
    ap (λ (b : Bool). cond b (command ∷ filter (λ c. c.lane == l) commands) (filter (λ c. c.lane == l) commands)) h.0 ∙ ap (λ (cs : Batch). command ∷ cs) (all_of l commands h.1)

-- the merger's lane has the merges
merger_lane : (n : ℕ) (batch merges : Batch) → IsOfLanes n batch → AreMergers merges → lane_of (batch ++ merges) 0 ≡ lane_with merges None []
merger_lane n batch merges are and =
    ap (λ (cs : Batch). lane_with cs None []) (filter-append (λ (c : Command). c.lane == 0) batch merges
    ∙ ap (λ (cs : Batch). cs ++ filter (λ (c : Command). c.lane == 0) merges) (none_of 0 batch (all_weaker (λ (c : Command). (0 < c.lane) × (c.lane ≤ n)) (λ c. (c.lane == 0) ≡ false) batch (λ c h. let low : 0 < c.lane = h.0 in grind (arith, nat_tests, low)) are))
    ∙ all_of 0 merges (all_weaker (λ (c : Command). c.lane ≡ 0) (λ c. (c.lane == 0) ≡ true) merges (λ c h. grind (arith, nat_tests, h)) and))

-- the others have the commands
other_lane : (l : ℕ) (batch merges : Batch) → 0 < l → AreMergers merges → lane_of (batch ++ merges) l ≡ lane_of batch l
other_lane l batch merges low and =
    ap (λ (cs : Batch). lane_with cs None []) (filter-append (λ (c : Command). c.lane == l) batch merges
    ∙ ap (λ (cs : Batch). filter (λ (c : Command). c.lane == l) batch ++ cs) (none_of l merges (all_weaker (λ (c : Command). c.lane ≡ 0) (λ c. (c.lane == l) ≡ false) merges (λ c h. let same : c.lane ≡ 0 = h in grind (arith, nat_tests, same, low)) and))
    ∙ append-nil (filter (λ (c : Command). c.lane == l) batch))

other_lanes : (a count : ℕ) (batch merges : Batch) → 0 < a → AreMergers merges → map (lane_of (batch ++ merges)) (range_with_len a count) ≡ map (lane_of batch) (range_with_len a count)
other_lanes a zero batch merges low and = refl
other_lanes a (suc count) batch merges low and = λ i. other_lane a batch merges low and i ∷ other_lanes (a + 1) count batch merges (omega (arith, low)) and i

-- the lanes of all work are those of the batch, with the merger's
pub lanes_shared : (n : ℕ) (merger : Option ℕ) (batch works : Batch) → IsOfLanes n batch → works ≡ batch ++ merges_of merger batch
    → map (lane_of works) (range_with_len 0 (n + 1)) ≡ lanes_of n batch (merges_of merger batch)
lanes_shared n merger batch works are is =
    let merges = merges_of merger batch in
    let next : n + 1 ≡ suc n = omega arith in
    (λ i. map (lane_of (is i)) (range_with_len 0 (next i)))
    ∙ (λ i. merger_lane n batch merges are (mergers merger batch) i ∷ other_lanes 1 n batch merges (omega arith) (mergers merger batch) i)
