-- The turns of a batch, and the record that results from them.
use Rattle.std.proofs.Common.{◌≡◌, ap, sym, ◌∙◌, subst, ℕ, zero, suc, ◌+◌, ◌-◌, ◌*◌, ◌≤◌, List, [], ◌∷◌, ◌++◌, append-nil, Bool, length, length-append, map, arith, replicate, Option}
use Rattle.std.specs.List.{flat_map, range_with_len}
use Rattle.std.proofs.lemmas.Simd.{map-map}
use Rattle.std.proofs.lemmas.List.{replicate-append-replicate}
use Rattle.std.proofs.lemmas.Grind.{flat_map-append, replicate_next}
use mathlib.Core.List.{IsPrefix}
use Rattle.lake_model.specs.declared.Keys.{Keys}
use Rattle.lake_model.specs.Journal.{Entry}
use Rattle.record_model.specs.Rules.{Rules, rules_with, wide_limits}
use Rattle.catalogue.specs.Kept.{CatalogueOf, IsWithin}
use Rattle.run_record.specs.Rooms.{RecordOf}
use Rattle.script_model.specs.Commands.{Command, Batch}
use Rattle.script_model.specs.Lanes.{IsOfLanes}
use Rattle.record_model.specs.Record.{RunRecord}
use Rattle.record_model.specs.Play.{Lane, play_with, play, whole_order, lane_of, lanes_of, merges_of, gathered, answers_of, record_after, batch_after}
use Rattle.lake_core.specs.Lanes.{LaneOf, played, play_of, AreHeld, AreNew, AreShared, IsHeld, left}
use Rattle.lake_core.specs.Plays.{state_with, IsReady, Goes}
use Rattle.lake_core.proofs.GatherLemmas.{lists_of}
use Rattle.lake_core.proofs.WorkLemmas.{lanes_shared}
use Rattle.command_replies.specs.declared.answering.Held.{Held}
use Rattle.lake_core.proofs.TurnLemmas.{goes_on}
use Rattle.record_model.specs.InTurn.{with_answers, with_sync}

-- ---- orders

-- two more turns
pub two_more : (n l : ℕ) → replicate (2 * (n + 1)) l ≡ (replicate (2 * n) l ++ l ∷ []) ++ l ∷ []
two_more n l =
    let e : 2 * (n + 1) ≡ 2 * n + 1 + 1 = omega arith in
    ap (λ (k : ℕ). replicate k l) e ∙ replicate_next (2 * n + 1) l ∙ ap (λ (ls : List ℕ). ls ++ l ∷ []) (replicate_next (2 * n) l)

-- all turns, some of which were taken
pub turns_left : (n all l : ℕ) → n ≤ all → replicate (2 * n) l ++ replicate (2 * all - 2 * n) l ≡ replicate (2 * all) l
turns_left n all l h =
    let e : 2 * n + (2 * all - 2 * n) ≡ 2 * all = omega (arith, h) in
    replicate-append-replicate (2 * n) (2 * all - 2 * n) l ∙ ap (λ (k : ℕ). replicate k l) e

range_more : (a n : ℕ) → range_with_len a (suc n) ≡ range_with_len a n ++ (a + n) ∷ []
range_more a zero = let e : a ≡ a + 0 = omega arith in ap (λ (m : ℕ). m ∷ []) e
range_more a (suc n) =
    let e : a + 1 + n ≡ a + suc n = omega arith in
    ap (λ (ms : List ℕ). a ∷ ms) (range_more (a + 1) n) ∙ ap (λ (m : ℕ). a ∷ (range_with_len (a + 1) n ++ m ∷ [])) e

abbrev pub turns_each : ℕ → List ℕ → List ℕ
turns_each steps lanes = flat_map (λ l. replicate steps l) lanes

one_lane : (steps l : ℕ) → turns_each steps (l ∷ []) ≡ replicate steps l
one_lane steps l = append-nil (replicate steps l)

-- the turns of one more lane
pub lane_more : (steps n : ℕ) → turns_each steps (range_with_len 1 (n + 1)) ≡ turns_each steps (range_with_len 1 n) ++ replicate steps (n + 1)
lane_more steps n =
    let e : n + 1 ≡ suc n = omega arith in
    let f : 1 + n ≡ n + 1 = omega arith in
    ap (λ (m : ℕ). turns_each steps (range_with_len 1 m)) e
    ∙ ap (turns_each steps) (range_more 1 n)
    ∙ flat_map-append (λ l. replicate steps l) (range_with_len 1 n) ((1 + n) ∷ [])
    ∙ ap (λ (ls : List ℕ). turns_each steps (range_with_len 1 n) ++ ls) (one_lane steps (1 + n))
    ∙ ap (λ (m : ℕ). turns_each steps (range_with_len 1 n) ++ replicate steps m) f

-- the merger's turns after those of the lanes
pub merger_last : (steps n : ℕ) → turns_each steps (range_with_len 1 n ++ 0 ∷ []) ≡ turns_each steps (range_with_len 1 n) ++ replicate steps 0
merger_last steps n = flat_map-append (λ l. replicate steps l) (range_with_len 1 n) (0 ∷ []) ∙ ap (λ (ls : List ℕ). turns_each steps (range_with_len 1 n) ++ ls) (one_lane steps 0)

-- ---- the start

new_held : (journal : List Entry) (lanes : List LaneOf) → AreNew lanes → AreHeld journal lanes
new_held journal [] are = are
new_held journal (lane ∷ lanes) are = (subst (λ (held : Option Held). IsHeld journal lane.todo held) (sym are.0.0) tt, new_held journal lanes are.1)

-- lanes that have not begun
ready_new : (catalogue : CatalogueOf) (past : List Entry) (lanes : List LaneOf) (out : RecordOf) (before : RunRecord) (commands : ℕ) → before.journal ≡ catalogue.journal → out.made ≡ before → AreNew lanes
    → left lanes ≡ commands → commands ≤ out.entries_room → IsWithin wide_limits catalogue.limits → IsPrefix past catalogue.journal → IsReady (state_with catalogue past lanes out)
ready_new catalogue past lanes out before commands same made are all room within taken = record {
  journal = ap (λ (m : RunRecord). m.journal) made ∙ same;
  held = new_held catalogue.journal lanes are;
  entries = omega (arith, all, room);
  limits = within;
  past = taken;
}

-- lanes to which the work was shared out
pub ready_shared : (catalogue : CatalogueOf) (past : List Entry) (lanes all : List LaneOf) (out : RecordOf) (before : RunRecord) (count many : ℕ) (works : Batch) → before.journal ≡ catalogue.journal → out.made ≡ before → lanes ≡ all
    → AreShared count works all → many ≡ length works → many ≤ out.entries_room → IsWithin wide_limits catalogue.limits → IsPrefix past catalogue.journal → IsReady (state_with catalogue past lanes out)
ready_shared catalogue past lanes all out before count many works same made lent shared full room within taken =
    let here : AreShared count works lanes = subst (AreShared count works) (sym lent) shared in
    ready_new catalogue past lanes out before many same made here.fresh (here.all ∙ sym full) room within taken

-- ---- the end

-- The record of lanes that were played, gathered and synced.
pub batch_made : (keys : Keys) (count many : ℕ) (commands : List Command) (piece : List ℕ) (made final : RunRecord) (catalogue mid after : CatalogueOf) (past past' past'' : List Entry) (lanes some rest : List LaneOf) (out out' out'' : RecordOf)
    → Goes keys piece (state_with catalogue past lanes out) (state_with mid past' some out')
    → Goes keys (turns_each (2 * many) (range_with_len 1 count ++ 0 ∷ [])) (state_with mid past' some out') (state_with after past'' rest out'')
    → made ≡ with_answers (answers_of (gathered commands (lists_of rest))) out''.made → final ≡ with_sync made
    → (denials : List Bool) × (final ≡ record_after out.made commands (play (rules_with keys catalogue.limits) (whole_order piece count (2 * many)) denials (play_of catalogue.journal lanes)))
batch_made keys count many commands piece made final catalogue mid after past past' past'' lanes some rest out out' out'' first second gathers syncs =
    let goes = goes_on piece (turns_each (2 * many) (range_with_len 1 count ++ 0 ∷ [])) (state_with catalogue past lanes out) (state_with mid past' some out') (state_with after past'' rest out'') first second in
    let lists : map (λ (lane : Lane). lane.done) (map played rest) ≡ lists_of rest = map-map (λ (lane : Lane). lane.done) played rest in (
      goes.leads.0,
      syncs
          ∙ ap with_sync (gathers ∙ ap (with_answers (answers_of (gathered commands (lists_of rest)))) goes.made)
          ∙ (λ i. record out.made {
            journal = after.journal;
            answers = out.made.answers ++ answers_of (gathered commands (sym lists i));
            syncs = out.made.syncs ++ length after.journal ∷ [];
          })
          ∙ ap (record_after out.made commands) goes.leads.2,
    )

-- The record of a batch whose work was shared out to its lanes.
pub batch_played : (rules : Rules) (count many : ℕ) (batch works : Batch) (piece : List ℕ) (merger : Option ℕ) (denials : List Bool) (before made final : RunRecord) (journal : List Entry) (lanes all : List LaneOf)
    → IsOfLanes count batch → many ≡ length works → before.journal ≡ journal → made ≡ before → works ≡ batch ++ merges_of merger batch → lanes ≡ all → map played all ≡ map (lane_of works) (range_with_len 0 (count + 1))
    → final ≡ record_after made works (play rules (whole_order piece count (2 * many)) denials (play_of journal lanes))
    → final ≡ batch_after rules count batch (merges_of merger batch) piece denials before
batch_played rules count many batch works piece merger denials before made final journal lanes all are full same room is lent shared played_is =
    let merges = merges_of merger batch in
    let long : many ≡ length batch + length merges = full ∙ ap (λ (cs : Batch). length cs) is ∙ length-append batch merges in
    let start : play_of journal lanes ≡ play_with before.journal (lanes_of count batch merges) = λ i. play_with (sym same i) ((ap (map played) lent ∙ shared ∙ lanes_shared count merger batch works are is) i) in
    played_is ∙ (λ i. record_after (room i) (is i) (play rules (whole_order piece count (2 * long i)) denials (start i)))
