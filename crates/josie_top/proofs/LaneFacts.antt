-- The record of batches whose lanes ran at the same time.
use Rattle.std.proofs.Common.{◌≡◌, refl, ap, sym, ◌∙◌, subst, ℕ, zero, suc, ◌+◌, ◌-◌, ◌≤◌, List, [], ◌∷◌, ◌++◌, length, take, drop, arith, Bool, length-append, sum_by}
use Rattle.std.specs.Prelude.{Option}
use Rattle.std.proofs.Math.Seq.{drop-append-le}
use Rattle.std.proofs.lemmas.List.{length-map, take-append-le, take_all, drop_all, length-drop}
use Rattle.std.proofs.lemmas.List.Sums.{sum_by-cons}
use Rattle.record_model.specs.Rules.{Rules}
use Rattle.lake_model.specs.declared.Who.{Who}
use Rattle.lake_model.specs.Journal.{Entry}
use Rattle.script_model.specs.Commands.{Command, Batch, updates}
use Rattle.record_model.specs.Record.{Answered, RunRecord}
use Rattle.record_model.specs.Play.{merger_commands, merges_of, who_of}
use Rattle.record_model.specs.Right.{AreBatchesRight, IsBatchRight, IsRight, between, done_of}
use Rattle.script_model.specs.Lanes.{IsOfLanes}
use Rattle.record_model.specs.Statuses.{IsStated}
use Rattle.list_laws.proofs.ListLemmas.{all_append}
use Rattle.lake_desk.specs.Together.{IsOneBatchMore}
use Rattle.josie_top.specs.Progress.{AddsAnswers, HasOneMore}

-- ---- a right batch stays right when the journal grows

between_stays : (from to : ℕ) (journal behind : List Entry) → from ≤ to → to ≤ length journal → between from to (journal ++ behind) ≡ between from to journal
between_stays from to journal behind up within =
    ap (take (to - from)) (drop-append-le from journal behind (omega (arith, up, within)))
    ∙ take-append-le (to - from) (drop from journal) behind (let e = length-drop from journal in omega (arith, e, up, within))

batch_stays : (rules : Rules) (lanes : ℕ) (journal behind : List Entry) (from to : ℕ) (commands : List Command) (answers : List Answered) → from ≤ to → to ≤ length journal
    → IsBatchRight rules lanes journal from to commands answers → IsBatchRight rules lanes (journal ++ behind) from to commands answers
batch_stays rules lanes journal behind from to commands answers up within right = record {
  answered = right.answered;
  each = λ lane le. subst (λ (j : List Entry). IsRight rules lane j (between from to (journal ++ behind)) (done_of lane commands answers)) (sym (take-append-le from journal behind (omega (arith, up, within))))
      (subst (λ (j : List Entry). IsRight rules lane (take from journal) j (done_of lane commands answers)) (sym (between_stays from to journal behind up within)) (right.each lane le));
}

-- ---- one batch more

synced_within : (rules : Rules) (lanes : ℕ) (merge : Bool) (next : ℕ) (journal : List Entry) (from : ℕ) (batches : List Batch) (syncs : List ℕ) (answers : List Answered)
    → AreBatchesRight rules lanes merge next journal from batches syncs answers → from ≤ length journal
synced_within rules lanes merge next journal from [] [] [] h = omega (arith, h)
synced_within rules lanes merge next journal from [] [] (answer ∷ answers) h = absurd h
synced_within rules lanes merge next journal from [] (sync ∷ syncs) answers h = absurd h
synced_within rules lanes merge next journal from (batch ∷ batches) [] answers h = absurd h
synced_within rules lanes merge next journal from (batch ∷ batches) (sync ∷ syncs) answers (up, here, others) =
    let rest = synced_within rules lanes merge (next + updates batch) journal sync batches syncs (drop (length (batch ++ merger_commands merge next batch)) answers) others in omega (arith, up, rest)

answers_size : (rules : Rules) (lanes : ℕ) (journal : List Entry) (from to : ℕ) (commands : List Command) (answers : List Answered) → IsBatchRight rules lanes journal from to commands answers → length answers ≡ length commands
answers_size rules lanes journal from to commands answers right = sym (length-map answers (λ (a : Answered). a.who)) ∙ ap (λ (ws : List Who). length ws) right.answered ∙ length-map commands who_of

-- there are as many elements as are taken
taken_size : {X : Type 0} (n : ℕ) (xs : List X) → length (take n xs) ≡ n → n ≤ length xs
taken_size zero xs e = omega arith
taken_size (suc n) [] e = absurd (omega (arith, e))
taken_size (suc n) (x ∷ xs) e = let rest = taken_size n xs (omega (arith, e)) in omega (arith, rest)

batches_more : (rules : Rules) (lanes : ℕ) (merge : Bool) (next : ℕ) (journal behind : List Entry) (from : ℕ) (batches : List Batch) (syncs : List ℕ) (answers new : List Answered) (batch : Batch)
    → AreBatchesRight rules lanes merge next journal from batches syncs answers
    → IsBatchRight rules lanes (journal ++ behind) (length journal) (length (journal ++ behind)) (batch ++ merger_commands merge (next + sum_by updates batches) batch) new
    → AreBatchesRight rules lanes merge next (journal ++ behind) from (batches ++ batch ∷ []) (syncs ++ length (journal ++ behind) ∷ []) (answers ++ new)
batches_more rules lanes merge next journal behind from [] [] [] new batch h one =
    let none : next + sum_by updates [] ≡ next = omega arith in
    let commands : List Command = batch ++ merger_commands merge next batch in
    let here : IsBatchRight rules lanes (journal ++ behind) from (length (journal ++ behind)) commands new =
    subst (λ (f : ℕ). IsBatchRight rules lanes (journal ++ behind) f (length (journal ++ behind)) commands new) (sym h)
    (subst (λ (n : ℕ). IsBatchRight rules lanes (journal ++ behind) (length journal) (length (journal ++ behind)) (batch ++ merger_commands merge n batch) new) none one) in
    let size : length new ≡ length commands = answers_size rules lanes (journal ++ behind) from (length (journal ++ behind)) commands new here in (
      omega (arith, h, length-append journal behind),
      subst (λ (a : List Answered). IsBatchRight rules lanes (journal ++ behind) from (length (journal ++ behind)) commands a) (sym (take_all (length commands) new (omega (arith, size)))) here,
      subst (λ (a : List Answered). AreBatchesRight rules lanes merge (next + updates batch) (journal ++ behind) (length (journal ++ behind)) [] [] a) (sym (drop_all (length commands) new (omega (arith, size)))) refl,
    )
batches_more rules lanes merge next journal behind from [] [] (answer ∷ answers) new batch h one = absurd h
batches_more rules lanes merge next journal behind from [] (sync ∷ syncs) answers new batch h one = absurd h
batches_more rules lanes merge next journal behind from (b ∷ batches) [] answers new batch h one = absurd h
batches_more rules lanes merge next journal behind from (b ∷ batches) (sync ∷ syncs) answers new batch (up, here, others) one =
    let commands : List Command = b ++ merger_commands merge next b in
    let within : sync ≤ length journal = synced_within rules lanes merge (next + updates b) journal sync batches syncs (drop (length commands) answers) others in
    let enough : length commands ≤ length answers = taken_size (length commands) answers (answers_size rules lanes journal from sync commands (take (length commands) answers) here) in
    let sum : next + sum_by updates (b ∷ batches) ≡ (next + updates b) + sum_by updates batches = omega (arith, sum_by-cons updates b batches) in (
      up,
      subst (λ (a : List Answered). IsBatchRight rules lanes (journal ++ behind) from sync commands a) (sym (take-append-le (length commands) answers new enough))
          (batch_stays rules lanes journal behind from sync commands (take (length commands) answers) up within here),
      subst (λ (a : List Answered). AreBatchesRight rules lanes merge (next + updates b) (journal ++ behind) sync (batches ++ batch ∷ []) (syncs ++ length (journal ++ behind) ∷ []) a) (sym (drop-append-le (length commands) answers new enough))
          (batches_more rules lanes merge (next + updates b) journal behind sync batches syncs (drop (length commands) answers) new batch others
          (subst (λ (n : ℕ). IsBatchRight rules lanes (journal ++ behind) (length journal) (length (journal ++ behind)) (batch ++ merger_commands merge n batch) new) sum one)),
    )

-- ---- the record

-- The record with one batch more, whose lanes ran at the same time.
pub lanes_more : (rules : Rules) (number : ℕ) (merger : Option ℕ) (batch : Batch) (before now : RunRecord) → (IsStated before.options → ⊥) → IsOfLanes before.options.lanes batch
    → IsOneBatchMore rules before.options.lanes (batch ++ merges_of merger batch) before now → HasOneMore rules number merger batch before now
lanes_more rules number merger batch before now free of_lanes more = λ batches count merges is.
    let lanes : ℕ = before.options.lanes in
    let commands : List Command = batch ++ merger_commands before.options.merge (1 + sum_by updates batches) batch in
    let whole : List Entry = before.journal ++ more.behind in
    let one : IsBatchRight rules lanes whole (length before.journal) (length whole) commands more.answers =
    subst (λ (c : List Command). IsBatchRight rules lanes whole (length before.journal) (length whole) (batch ++ c) more.answers) merges
    (subst (λ (j : List Entry). IsBatchRight rules lanes j (length before.journal) (length j) (batch ++ merges_of merger batch) more.answers) more.journal_is more.right) in
    let all = batches_more rules lanes before.options.merge 1 before.journal more.behind 0 batches before.syncs before.answers more.answers batch is.right.each one in
    let syncs : now.syncs ≡ before.syncs ++ length whole ∷ [] = more.syncs_are ∙ ap (λ (j : List Entry). before.syncs ++ length j ∷ []) more.journal_is in
    record {
      options_are = more.options_are ∙ is.options_are;
      unended = more.ended_is ∙ is.unended;
      right = record {
        legal = more.legal;
        callers = more.callers;
        each = subst (λ (j : List Entry). AreBatchesRight rules lanes before.options.merge 1 j 0 (batches ++ batch ∷ []) now.syncs now.answers) (sym more.journal_is)
            (subst (λ (s : List ℕ). AreBatchesRight rules lanes before.options.merge 1 whole 0 (batches ++ batch ∷ []) s now.answers) (sym syncs)
            (subst (λ (a : List Answered). AreBatchesRight rules lanes before.options.merge 1 whole 0 (batches ++ batch ∷ []) (before.syncs ++ length whole ∷ []) a) (sym more.answers_are) all));
      };
      played = λ stated. absurd (free stated);
      lanes = all_append (IsOfLanes lanes) batches (batch ∷ []) is.lanes (of_lanes, tt);
    }

pub lanes_answers : (rules : Rules) (lanes : ℕ) (commands : List Command) (before now : RunRecord) → IsOneBatchMore rules lanes commands before now → AddsAnswers before now
lanes_answers rules lanes commands before now more = record { new = more.answers; are = more.answers_are }
