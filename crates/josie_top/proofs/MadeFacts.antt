-- The record of batches that were played one after another.
use Rattle.std.specs.List.{AllByRecursion}
use Rattle.std.proofs.Common.{◌≡◌, refl, ap, sym, ◌∙◌, subst, ℕ, suc, ◌+◌, List, [], ◌∷◌, ◌++◌, Bool, true, false, length, map, take, drop, get_or, sum_by, arith, length-append}
use Rattle.std.specs.Prelude.{if◌then◌else◌, Option}
use Rattle.std.proofs.lemmas.List.{length-map, take-append-drop}
use Rattle.std.proofs.lemmas.List.FromFn.{length-map-range_with_len}
use Rattle.std.proofs.lemmas.List.Sums.{sum_by-cons}
use Rattle.record_model.specs.Rules.{Rules}
use Rattle.lake_model.specs.declared.Who.{Who}
use Rattle.lake_model.specs.Journal.{Entry}
use Rattle.script_model.specs.Commands.{Command, command_with, Merge, Batch, updates}
use Rattle.script_model.specs.Options.{Options}
use Rattle.record_model.specs.Record.{Answered, RunRecord, empty, with_end}
use Rattle.record_model.specs.Play.{batch_after, merger_commands, merges_of, played_from, pieces_of, head_or_empty, played, who_of}
use Rattle.record_model.specs.Right.{AreBatchesRight}
use Rattle.script_model.specs.Lanes.{IsOfLanes}
use Rattle.record_model.specs.Statuses.{IsRecordOf, IsStated, answer_count}
use Rattle.layout_laws.proofs.LawLemmas.{plans_stay}
use Rattle.list_laws.proofs.ListLemmas.{all_append}
use Rattle.record_model.proofs.PlayedLemmas.{batches_go_on}
use Rattle.record_model.proofs.LegalLemmas.{record_right}
use Rattle.josie_top.specs.Progress.{HasOneMore, IsMade, IsPlayedSoFar}

-- ---- what stays

options_played : (rules : Rules) (lanes : ℕ) (merge : Bool) (next : ℕ) (batches : List Batch) (pieces : List (List ℕ)) (denials : List (List Bool)) (before : RunRecord)
    → (played_from rules lanes merge next batches pieces denials before).options ≡ before.options
unfolding played_from
options_played rules lanes merge next [] pieces denials before = refl
options_played rules lanes merge next (batch ∷ batches) pieces denials before =
    options_played rules lanes merge (next + updates batch) batches (drop 1 pieces) (drop 1 denials)
    (batch_after rules lanes batch (merger_commands merge next batch) (head_or_empty pieces) (head_or_empty denials) before)

ended_played : (rules : Rules) (lanes : ℕ) (merge : Bool) (next : ℕ) (batches : List Batch) (pieces : List (List ℕ)) (denials : List (List Bool)) (before : RunRecord)
    → (played_from rules lanes merge next batches pieces denials before).ended ≡ before.ended
unfolding played_from
ended_played rules lanes merge next [] pieces denials before = refl
ended_played rules lanes merge next (batch ∷ batches) pieces denials before =
    ended_played rules lanes merge (next + updates batch) batches (drop 1 pieces) (drop 1 denials)
    (batch_after rules lanes batch (merger_commands merge next batch) (head_or_empty pieces) (head_or_empty denials) before)

same_record : (made : RunRecord) → made.ended ≡ false → with_end false made ≡ made
same_record made not_ended = ap (λ (b : Bool). with_end b made) (sym not_ended)

-- what was played makes a record
made_by_play : (rules : Rules) (options : Options) (batches : List Batch) (made : RunRecord) → AllByRecursion (IsOfLanes options.lanes) batches → IsPlayedSoFar rules options batches made → IsMade rules options batches made
made_by_play rules options batches made lanes is =
    let ended : made.ended ≡ false =
    ap (λ (m : RunRecord). m.ended) is.played ∙ ended_played rules options.lanes options.merge 1 batches (pieces_of options.order) is.denials (empty options) in
    record {
      options_are = ap (λ (m : RunRecord). m.options) is.played ∙ options_played rules options.lanes options.merge 1 batches (pieces_of options.order) is.denials (empty options);
      unended = ended;
      right = record_right plans_stay rules options batches made lanes (is.denials, sym (same_record made ended) ∙ ap (with_end false) is.played ∙ ap (λ (b : Bool). with_end b (played rules options batches is.denials)) (sym ended));
      played = λ stated. is;
      lanes = lanes;
    }

-- ---- one batch after another

pub made_start : (rules : Rules) (options : Options) → IsMade rules options [] (empty options)
unfolding played_from
made_start rules options = made_by_play rules options [] (empty options) tt (record { denials = []; size = refl; played = refl })

-- One batch more was played in the stated order.
pub made_more : (rules : Rules) (options : Options) (batches : List Batch) (before now : RunRecord) (batch : Batch) (merges : List Command) (piece : List ℕ) (turns : List Bool)
    → IsStated options → IsMade rules options batches before → now ≡ batch_after rules options.lanes batch merges piece turns before
    → merges ≡ merger_commands options.merge (1 + sum_by updates batches) batch → piece ≡ get_or (pieces_of options.order) (length batches) []
    → IsOfLanes options.lanes batch → IsMade rules options (batches ++ batch ∷ []) now
made_more rules options batches before now batch merges piece turns stated is after merges_are piece_is lanes =
    let so_far = is.played stated in
    made_by_play rules options (batches ++ batch ∷ []) now (all_append (IsOfLanes options.lanes) batches (batch ∷ []) is.lanes (lanes, tt)) (record {
      denials = so_far.denials ++ turns ∷ [];
      size = omega (arith, so_far.size, length-append so_far.denials (turns ∷ []), length-append batches (batch ∷ []));
      played = after
          ∙ ap (λ (m : List Command). batch_after rules options.lanes batch m piece turns before) merges_are
          ∙ ap (λ (p : List ℕ). batch_after rules options.lanes batch (merger_commands options.merge (1 + sum_by updates batches) batch) p turns before) piece_is
          ∙ ap (batch_after rules options.lanes batch (merger_commands options.merge (1 + sum_by updates batches) batch) (get_or (pieces_of options.order) (length batches) []) turns) so_far.played
          ∙ sym (batches_go_on rules options.lanes options.merge 1 batches batch (pieces_of options.order) so_far.denials turns (empty options) so_far.size);
    })

-- One more batch was played in the stated order, whatever was played before.
pub ordered_more : (rules : Rules) (lanes number : ℕ) (merger : Option ℕ) (batch : Batch) (piece : List ℕ) (before now : RunRecord) → IsStated before.options → IsOfLanes before.options.lanes batch
    → lanes ≡ before.options.lanes → piece ≡ get_or (pieces_of before.options.order) number []
    → (turns : List Bool) × (now ≡ batch_after rules lanes batch (merges_of merger batch) piece turns before) → HasOneMore rules number merger batch before now
ordered_more rules lanes number merger batch piece before now stated of_lanes lanes_are piece_is (turns, after) = λ batches count merges is.
    made_more rules before.options batches before now batch (merges_of merger batch) piece turns stated is
    (after ∙ ap (λ (n : ℕ). batch_after rules n batch (merges_of merger batch) piece turns before) lanes_are)
    merges (piece_is ∙ ap (λ (n : ℕ). get_or (pieces_of before.options.order) n []) (sym count)) of_lanes

-- ---- the record is right

pub made_record : (rules : Rules) (options : Options) (batches : List Batch) (made : RunRecord) (ended : Bool) → IsMade rules options batches made
    → IsRecordOf rules options batches (with_end ended made)
made_record rules options batches made ended is = record {
  options_are = is.options_are;
  right = record { legal = is.right.legal; callers = is.right.callers; each = is.right.each };
  played = λ stated. ((is.played stated).denials, ap (with_end ended) (is.played stated).played);
}

pub made_record_now : (rules : Rules) (options : Options) (batches : List Batch) (made : RunRecord) → IsMade rules options batches made → IsRecordOf rules options batches made
made_record_now rules options batches made is =
    subst (IsRecordOf rules options batches) (same_record made is.unended) (made_record rules options batches made false is)

-- ---- how many answers there are

command_count : (merge : Bool) (next : ℕ) (batch : Batch) → length (batch ++ merger_commands merge next batch) ≡ length batch + (if merge then updates batch else 0)
command_count true next batch = omega (arith, length-append batch (merger_commands true next batch), length-map-range_with_len (λ n. command_with n 0 (Merge false)) next (updates batch))
command_count false next batch = omega (arith, length-append batch (merger_commands false next batch))

right_count : (rules : Rules) (lanes : ℕ) (merge : Bool) (next : ℕ) (journal : List Entry) (from : ℕ) (batches : List Batch) (syncs : List ℕ) (answers : List Answered)
    → AreBatchesRight rules lanes merge next journal from batches syncs answers → length answers ≡ answer_count merge batches
right_count rules lanes merge next journal from [] [] [] h = refl
right_count rules lanes merge next journal from [] [] (answer ∷ answers) h = absurd h
right_count rules lanes merge next journal from [] (sync ∷ syncs) answers h = absurd h
right_count rules lanes merge next journal from (batch ∷ batches) [] answers h = absurd h
right_count rules lanes merge next journal from (batch ∷ batches) (sync ∷ syncs) answers (up, here, others) =
    let commands : List Command = batch ++ merger_commands merge next batch in
    let whos : length (map (λ (a : Answered). a.who) (take (length commands) answers)) ≡ length (map who_of commands) = ap (λ (ws : List Who). length ws) here.answered in
    let whole : length (take (length commands) answers ++ drop (length commands) answers) ≡ length answers = ap (λ (xs : List Answered). length xs) (take-append-drop (length commands) answers) in
    omega (
      arith,
      whos,
      whole,
      length-map (take (length commands) answers) (λ (a : Answered). a.who),
      length-map commands who_of,
      length-append (take (length commands) answers) (drop (length commands) answers),
      command_count merge next batch,
      right_count rules lanes merge (next + updates batch) journal sync batches syncs (drop (length commands) answers) others,
      sum_by-cons (λ (b : Batch). length b + (if merge then updates b else 0)) batch batches,
    )

pub record_count : (rules : Rules) (options : Options) (batches : List Batch) (made : RunRecord) → IsRecordOf rules options batches made → length made.answers ≡ answer_count options.merge batches
record_count rules options batches made is = right_count rules options.lanes options.merge 1 made.journal 0 batches made.syncs made.answers is.right.each

-- ---- how many batches were answered

right_syncs : (rules : Rules) (lanes : ℕ) (merge : Bool) (next : ℕ) (journal : List Entry) (from : ℕ) (batches : List Batch) (syncs : List ℕ) (answers : List Answered)
    → AreBatchesRight rules lanes merge next journal from batches syncs answers → length syncs ≡ length batches
right_syncs rules lanes merge next journal from [] [] [] h = refl
right_syncs rules lanes merge next journal from [] [] (answer ∷ answers) h = absurd h
right_syncs rules lanes merge next journal from [] (sync ∷ syncs) answers h = absurd h
right_syncs rules lanes merge next journal from (batch ∷ batches) [] answers h = absurd h
right_syncs rules lanes merge next journal from (batch ∷ batches) (sync ∷ syncs) answers (up, here, others) =
    let commands : List Command = batch ++ merger_commands merge next batch in
    ap (λ (n : ℕ). suc n) (right_syncs rules lanes merge (next + updates batch) journal sync batches syncs (drop (length commands) answers) others)

pub record_syncs : (rules : Rules) (options : Options) (batches : List Batch) (made : RunRecord) → IsRecordOf rules options batches made → length made.syncs ≡ length batches
record_syncs rules options batches made is = right_syncs rules options.lanes options.merge 1 made.journal 0 batches made.syncs made.answers is.right.each
