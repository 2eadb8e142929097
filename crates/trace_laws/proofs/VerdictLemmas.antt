-- Any right record that has a trace as its text is the one that the hints of the trace determine.
use Rattle.std.proofs.Common.{◌≡◌, refl, ap, sym, ◌∙◌, subst, ℕ, suc, ◌+◌, ◌-◌, ◌≤◌, ◌<◌, ◌^◌, List, [], ◌∷◌, ◌++◌, map, length, length-append, take, drop, Bool, true, cond, arith}
use Rattle.std.specs.Prelude.{⊤}
use Rattle.std.specs.List.{AllByRecursion}
use Rattle.std.proofs.lemmas.List.{map-append, take-append-drop, take-map, drop-map, length-map}
use Rattle.std.proofs.Math.Seq.{take-append_seam}
use Rattle.lake_model.specs.declared.Who.{Who}
use Rattle.record_model.specs.Rules.{Rules}
use Rattle.lake_model.specs.Texts.{Text}
use Rattle.lake_model.specs.Journal.{What, Entry, entry_with}
use Rattle.script_model.specs.Commands.{Command, Batch}
use Rattle.record_model.specs.Replies.{Reply, Loaded, Dropped, Replaced, Listed, Found, Past, Merged, Repeated, Unknown, NoColumn, Full, NothingToMerge, Later, Stale, NoMemory}
use Rattle.record_model.specs.Answered.{adds, change_of, is_accepted, Standing, Nowhere, Saw, Added, PlannedAndSaw, PlannedAndAdded, standing}
use Rattle.script_model.specs.Options.{Options}
use Rattle.record_model.specs.Record.{Answered, RunRecord, made_of}
use Rattle.record_model.specs.Play.{Done, who_of, merger_commands}
use Rattle.script_model.specs.Commands.{updates}
use Rattle.script_model.specs.Lanes.{IsOfLanes}
use Rattle.record_model.specs.Right.{Moment, answer_by, at_position, moments, moments_by, MomentsRise, accepted, entries_by, AreBatchesRight}
use Rattle.record_model.specs.Texts.{answer_lines, journal_lines}
use Rattle.list_laws.proofs.ListLemmas.{all_append}
use Rattle.record_model.proofs.RightLemmas.{rises_le}
use Rattle.trace_laws.specs.Hints.{Hint, Wanting, Stands, hint_of, reply_by}
use Rattle.trace_laws.specs.Checks.{dones, IsMadeAgain, AreBatchesChecked}
use Rattle.trace_laws.specs.Rebuilt.{Hinted, hinted_with, rebuilt, all_dones, hinted_of, answer_again}
use Rattle.trace_laws.specs.Reading.{IsSmall, IsReadable, hint_read, groups_of}
use Rattle.trace_laws.specs.Named.{IsReplyNamed, IsRecordNamed}
use Rattle.trace_laws.specs.Verdict.{HintsDecide, IsTraceOf, all_commands, hinted_zip, puts_one, counted, syncs_from, remade_of, hints_of, remade, OneRecord}
use Rattle.trace_laws.proofs.BatchLemmas.{of_lane}
use Rattle.trace_laws.proofs.RecordLemmas.{checks_decide, lane_says, rises_rest, all_lanes, batch_within, right_le}
use Rattle.trace_laws.proofs.RebuiltLemmas.{hints_tell, adds_one}
use Rattle.trace_laws.proofs.TextLemmas.{hint_of_lines}
use Rattle.trace_laws.proofs.LineLemmas.{text_grouped}
use Rattle.trace_laws.proofs.NameLemmas.{right_named}

-- ---- commands with hints

abbrev pub reply_hint : Answered → Hint
reply_hint a = hint_of a.reply

pub zip_hints : (commands : List Command) (answers : List Answered) → hinted_of (dones commands answers) ≡ hinted_zip commands (map reply_hint answers)
zip_hints [] answers = refl
zip_hints (c ∷ commands) [] = refl
zip_hints (c ∷ commands) (a ∷ answers) = ap (λ (hs : List Hinted). hinted_with c (hint_of a.reply) ∷ hs) (zip_hints commands answers)

pub zip_append : (commands more : List Command) (hints : List Hint) → hinted_zip commands (take (length commands) hints) ++ hinted_zip more (drop (length commands) hints) ≡ hinted_zip (commands ++ more) hints
zip_append [] more hints = refl
zip_append (c ∷ commands) more [] = none more
  where
    none : (more : List Command) → hinted_zip more [] ≡ []
    none [] = refl
    none (m ∷ more) = refl
zip_append (c ∷ commands) more (h ∷ hints) = ap (λ (hs : List Hinted). hinted_with c h ∷ hs) (zip_append commands more hints)

pub hinted_append : (ds es : List Done) → hinted_of (ds ++ es) ≡ hinted_of ds ++ hinted_of es
hinted_append ds es = map-append (λ (d : Done). hinted_with d.command (hint_of d.reply)) ds es

pub all_hinted : (merge : Bool) (next : ℕ) (batches : List Batch) (answers : List Answered) → hinted_of (all_dones merge next batches answers) ≡ hinted_zip (all_commands merge next batches) (map reply_hint answers)
all_hinted merge next [] answers = refl
all_hinted merge next (batch ∷ batches) answers =
    let commands : List Command = batch ++ merger_commands merge next batch in
    let later : List Command = all_commands merge (next + updates batch) batches in
    hinted_append (dones commands (take (length commands) answers)) (all_dones merge (next + updates batch) batches (drop (length commands) answers))
    ∙ ap (λ (hs : List Hinted). hs ++ hinted_of (all_dones merge (next + updates batch) batches (drop (length commands) answers))) (zip_hints commands (take (length commands) answers) ∙ ap (hinted_zip commands) (sym (take-map reply_hint (length commands) answers)))
    ∙ ap (λ (hs : List Hinted). hinted_zip commands (take (length commands) (map reply_hint answers)) ++ hs) (all_hinted merge (next + updates batch) batches (drop (length commands) answers) ∙ ap (hinted_zip later) (sym (drop-map reply_hint (length commands) answers)))
    ∙ zip_append commands later (map reply_hint answers)

-- ---- the number of accepted updates

size_by : (rules : Rules) (journal : List Entry) (command : Command) (reply : Reply) (s : Standing) → standing reply ≡ s → reply ≡ answer_by rules journal command s → length (entries_by rules journal command reply s) ≡ puts_one (Stands s)
size_by rules journal command reply Nowhere st again = refl
size_by rules journal command reply (Saw at) st again = refl
size_by rules journal command reply (PlannedAndSaw pinned at) st again = refl
size_by rules journal command reply (Added at) st again =
    let ok : is_accepted (standing reply) ≡ true = ap is_accepted st in
    let one = adds_one rules command.task (take (at - 1) journal) (take (at - 1) journal) (ap (λ (r : Reply). is_accepted (standing r)) (sym again) ∙ ok) in
    let all : adds rules command.task (take (at - 1) journal) reply ≡ one.what ∷ [] = ap (λ (b : Bool). cond b (change_of rules command.task (take (at - 1) journal)) []) ok ∙ one.is in
    ap (λ (ws : List What). length (at_position at (map (entry_with (who_of command)) ws))) all
size_by rules journal command reply (PlannedAndAdded pinned at) st again =
    let ok : is_accepted (standing reply) ≡ true = ap is_accepted st in
    let one = adds_one rules command.task (take pinned journal) (take (at - 1) journal) (ap (λ (r : Reply). is_accepted (standing r)) (sym again) ∙ ok) in
    let all : adds rules command.task (take pinned journal) reply ≡ one.what ∷ [] = ap (λ (b : Bool). cond b (change_of rules command.task (take pinned journal)) []) ok ∙ one.is in
    ap (λ (ws : List What). length (at_position at (map (entry_with (who_of command)) ws))) all

size_of : (rules : Rules) (journal : List Entry) (command : Command) (reply : Reply) → reply ≡ reply_by rules journal command (hint_of reply) → length (entries_by rules journal command reply (standing reply)) ≡ puts_one (hint_of reply)
size_of rules journal command NoMemory again = refl
size_of rules journal command reply again = size_by rules journal command reply (standing reply) refl again

pub sizes : (rules : Rules) (journal : List Entry) (done : List Done) → AllByRecursion (IsMadeAgain rules journal) done → length (accepted rules journal done) ≡ counted (hinted_of done)
sizes rules journal [] again = refl
sizes rules journal (d ∷ done) again =
    let here = size_of rules journal d.command d.reply again.0 in
    let whole : length (accepted rules journal (d ∷ done)) ≡ length (entries_by rules journal d.command d.reply (standing d.reply)) + length (accepted rules journal done) = length-append (entries_by rules journal d.command d.reply (standing d.reply)) (accepted rules journal done) in
    omega (arith, here, whole, sizes rules journal done again.1)

pub counted_append : (hs is : List Hinted) → counted (hs ++ is) ≡ counted hs + counted is
counted_append [] is = omega arith
counted_append (h ∷ hs) is = omega (arith, counted_append hs is)

-- ---- the syncs, the length of the journal, and the number of answers

pub record Counts_of (merge : Bool) (next : ℕ) (journal : List Entry) (from : ℕ) (batches : List Batch) (syncs : List ℕ) (answers : List Answered) : Type 0 where
  pub syncs_are : syncs ≡ syncs_from merge next from batches (map reply_hint answers)
  pub size : length journal ≡ from + counted (hinted_of (all_dones merge next batches answers))
  pub answers_are : length answers ≡ length (all_commands merge next batches)

pub counts_from : (rules : Rules) (lanes : ℕ) (merge : Bool) (next : ℕ) (journal : List Entry) (from : ℕ) (batches : List Batch) (syncs : List ℕ) (answers : List Answered)
    → AreBatchesChecked rules lanes merge next journal from batches syncs answers → Counts_of merge next journal from batches syncs answers
counts_from rules lanes merge next journal from [] [] [] h = record { syncs_are = refl; size = omega (arith, h); answers_are = refl }
counts_from rules lanes merge next journal from [] [] (answer ∷ answers) h = absurd h
counts_from rules lanes merge next journal from [] (sync ∷ syncs) answers h = absurd h
counts_from rules lanes merge next journal from (batch ∷ batches) [] answers h = absurd h
counts_from rules lanes merge next journal from (batch ∷ batches) (sync ∷ syncs) answers h =
    let commands : List Command = batch ++ merger_commands merge next batch in
    let now : List Answered = take (length commands) answers in
    let later : List Answered = drop (length commands) answers in
    let done : List Done = dones commands now in
    let more : List Done = all_dones merge (next + updates batch) batches later in
    let rest = counts_from rules lanes merge (next + updates batch) journal sync batches syncs later h.1 in
    let many = h.0.many in
    let here : length (accepted rules journal done) ≡ counted (hinted_of done) = sizes rules journal done h.0.again in
    let hints : hinted_of done ≡ hinted_zip commands (take (length commands) (map reply_hint answers)) = zip_hints commands now ∙ ap (hinted_zip commands) (sym (take-map reply_hint (length commands) answers)) in
    let counts : counted (hinted_of done) ≡ counted (hinted_zip commands (take (length commands) (map reply_hint answers))) = ap counted hints in
    let sync_is : sync ≡ from + counted (hinted_zip commands (take (length commands) (map reply_hint answers))) = omega (arith, many, here, counts) in
    let syncs_are : syncs ≡ syncs_from merge (next + updates batch) sync batches (drop (length commands) (map reply_hint answers)) =
    rest.syncs_are ∙ ap (syncs_from merge (next + updates batch) sync batches) (sym (drop-map reply_hint (length commands) answers)) in
    let both : counted (hinted_of (done ++ more)) ≡ counted (hinted_of done) + counted (hinted_of more) = ap counted (hinted_append done more) ∙ counted_append (hinted_of done) (hinted_of more) in
    let who : length now ≡ length commands = sym (length-map now (λ (a : Answered). a.who)) ∙ ap (λ (ws : List Who). length ws) h.0.answered ∙ length-map commands who_of in
    let parts : length now + length later ≡ length answers = sym (length-append now later) ∙ ap (λ (as_all : List Answered). length as_all) (take-append-drop (length commands) answers) in
    let all : length (commands ++ all_commands merge (next + updates batch) batches) ≡ length commands + length (all_commands merge (next + updates batch) batches) = length-append commands (all_commands merge (next + updates batch) batches) in
    record {
      syncs_are = ap (λ (n : ℕ). n ∷ syncs) sync_is ∙ ap (λ (ns : List ℕ). (from + counted (hinted_zip commands (take (length commands) (map reply_hint answers)))) ∷ ns) (syncs_are ∙ ap (λ (n : ℕ). syncs_from merge (next + updates batch) n batches (drop (length commands) (map reply_hint answers))) sync_is);
      size = omega (arith, rest.size, both, many, here);
      answers_are = omega (arith, who, parts, all, rest.answers_are);
    }

-- ---- positions are within the journal

abbrev pub IsLow : ℕ → Standing → Type 0
IsLow n Nowhere = ⊤
IsLow n (Saw at) = at ≤ n
IsLow n (Added at) = at ≤ n
IsLow n (PlannedAndSaw pinned at) = (pinned ≤ n) × (at ≤ n)
IsLow n (PlannedAndAdded pinned at) = (pinned ≤ n) × (at ≤ n)

low_by : (s : Standing) (ms : List Moment) (low high n : ℕ) → high ≤ n → MomentsRise low (moments_by s ++ ms) high → IsLow n s
low_by Nowhere ms low high n le h = tt
low_by (Saw at) ms low high n le h = let k = rises_le at ms high h.1 in omega (arith, le, k)
low_by (Added at) ms low high n le h = let k = rises_le at ms high h.1 in omega (arith, le, k)
low_by (PlannedAndSaw pinned at) ms low high n le h = let k = rises_le at ms high h.1.1 in let p : pinned ≤ at = h.1.0 in (omega (arith, le, k, p), omega (arith, le, k))
low_by (PlannedAndAdded pinned at) ms low high n le h = let k = rises_le at ms high h.1.1 in let p : pinned < at = h.1.0 in (omega (arith, le, k, p), omega (arith, le, k))

abbrev pub IsLowReply : ℕ → Reply → Type 0
IsLowReply n reply = IsLow n (standing reply)

pub all_low : (low high n : ℕ) (done : List Done) → high ≤ n → MomentsRise low (moments done) high → AllByRecursion (λ (d : Done). IsLowReply n d.reply) done
all_low low high n [] le h = tt
all_low low high n (d ∷ done) le h =
    let next = rises_rest (standing d.reply) (moments done) low high h in
    (low_by (standing d.reply) (moments done) low high n le h, all_low next.0 high n done le next.1)

from_dones : (P : Reply → Type 0) (commands : List Command) (answers : List Answered) → length answers ≡ length commands → AllByRecursion (λ (d : Done). P d.reply) (dones commands answers) → AllByRecursion (λ (a : Answered). P a.reply) answers
from_dones P commands [] size h = tt
from_dones P [] (a ∷ answers) size h = let none : suc (length answers) ≡ 0 = size in absurd (omega (arith, none))
from_dones P (c ∷ commands) (a ∷ answers) size h = let more : suc (length answers) ≡ suc (length commands) = size in (h.0, from_dones P commands answers (omega (arith, more)) h.1)

lows_from : (rules : Rules) (lanes : ℕ) (merge : Bool) (next : ℕ) (journal : List Entry) (from : ℕ) (batches : List Batch) (syncs : List ℕ) (answers : List Answered)
    → AllByRecursion (IsOfLanes lanes) batches → AreBatchesRight rules lanes merge next journal from batches syncs answers
    → AllByRecursion (λ (a : Answered). IsLowReply (length journal) a.reply) answers
lows_from rules lanes merge next journal from [] [] [] of h = tt
lows_from rules lanes merge next journal from [] [] (answer ∷ answers) of h = absurd h
lows_from rules lanes merge next journal from [] (sync ∷ syncs) answers of h = absurd h
lows_from rules lanes merge next journal from (batch ∷ batches) [] answers of h = absurd h
lows_from rules lanes merge next journal from (batch ∷ batches) (sync ∷ syncs) answers of h =
    let commands : List Command = batch ++ merger_commands merge next batch in
    let now : List Answered = take (length commands) answers in
    let later : List Answered = drop (length commands) answers in
    let done : List Done = dones commands now in
    let within : sync ≤ length journal = right_le rules lanes merge (next + updates batch) journal sync batches syncs later h.2 in
    let each = h.1.each in
    let who : length now ≡ length commands = sym (length-map now (λ (a : Answered). a.who)) ∙ ap (λ (ws : List Who). length ws) h.1.answered ∙ length-map commands who_of in
    let low : AllByRecursion (λ (d : Done). IsLowReply (length journal) d.reply) done = all_lanes (λ (d : Done). IsLowReply (length journal) d.reply) lanes done (batch_within lanes next merge batch now of.0)
    (λ lane under. all_low from sync (length journal) (of_lane lane done) within (lane_says rules lane from sync journal (of_lane lane done) h.0 within (each lane under)).rising) in
    subst (λ (all : List Answered). AllByRecursion (λ (a : Answered). IsLowReply (length journal) a.reply) all) (take-append-drop (length commands) answers)
    (all_append (λ (a : Answered). IsLowReply (length journal) a.reply) now later (from_dones (IsLowReply (length journal)) commands now who low)
    (lows_from rules lanes merge (next + updates batch) journal sync batches syncs later of.1 h.2))

readable : (n : ℕ) (reply : Reply) → IsSmall n → IsLowReply n reply → IsReplyNamed reply → IsReadable reply
readable n (Loaded name columns members at) small low named = (named, omega (arith, small, low))
readable n (Dropped name at) small low named = (named, omega (arith, small, low))
readable n (Replaced name columns members at) small low named = (named, omega (arith, small, low))
readable n (Listed tables at) small low named = omega (arith, small, low)
readable n (Found query rows reads probes layout) small low named = omega (arith, small, low)
readable n (Past query rows asked at) small low named = omega (arith, small, low)
readable n (Merged layout parts tables at) small low named = (omega (arith, small, low.0), omega (arith, small, low.1))
readable n (Repeated name at) small low named = (named, omega (arith, small, low))
readable n (Unknown name at) small low named = (named, omega (arith, small, low))
readable n (NoColumn name place at) small low named = (named, omega (arith, small, low))
readable n (Full which count more at) small low named = omega (arith, small, low)
readable n (NothingToMerge layout) small low named = omega (arith, small, low)
readable n (Later asked at) small low named = omega (arith, small, low)
readable n (Stale layout gone at) small low named = (omega (arith, small, low.0), omega (arith, small, low.1))
readable n reply small low named = tt

-- ---- the hints of the text

hints_told : (n : ℕ) (answers : List Answered) → IsSmall n → AllByRecursion (λ (a : Answered). IsLowReply n a.reply) answers → AllByRecursion (λ (a : Answered). IsReplyNamed a.reply) answers
    → map hint_read (map (answer_lines true) answers) ≡ map reply_hint answers
hints_told n [] small low named = refl
hints_told n (a ∷ answers) small low named =
    ap (λ (h : Hint). h ∷ map hint_read (map (answer_lines true) answers)) (hint_of_lines a.who a.reply (readable n a.reply small low.0 named.0))
    ∙ ap (λ (hs : List Hint). hint_of a.reply ∷ hs) (hints_told n answers small low.1 named.1)

counted_few : (commands : List Command) (hints : List Hint) → counted (hinted_zip commands hints) ≤ length commands
counted_few [] hints = omega arith
counted_few (c ∷ commands) [] = omega arith
counted_few (c ∷ commands) (h ∷ hints) = omega (arith, counted_few commands hints, one h)
  where
    one : (h : Hint) → puts_one h ≤ 1
    one Wanting = omega arith
    one (Stands Nowhere) = omega arith
    one (Stands (Saw at)) = omega arith
    one (Stands (Added at)) = omega arith
    one (Stands (PlannedAndSaw pinned at)) = omega arith
    one (Stands (PlannedAndAdded pinned at)) = omega arith

-- ---- one record

-- The hints of a trace are those of the answers of any right record that has it as its text.
pub hints_found : (rules : Rules) (options : Options) (batches : List Batch) (trace : Text) (made : RunRecord) → AllByRecursion (IsOfLanes options.lanes) batches
    → options.trace ≡ true → length (all_commands options.merge 1 batches) < 2 ^ 64 → IsRecordNamed made → IsTraceOf rules options batches trace made
    → hints_of batches options.merge trace ≡ map reply_hint made.answers
hints_found rules options batches trace made of traced few named is =
    let right = is.right in
    let hinted : List Hinted = hinted_of (all_dones options.merge 1 batches made.answers) in
    let checked = (checks_decide rules options.lanes options.merge batches made of).1 right in
    let counts = counts_from rules options.lanes options.merge 1 made.journal 0 batches made.syncs made.answers checked.each in
    let zipped : hinted ≡ hinted_zip (all_commands options.merge 1 batches) (map reply_hint made.answers) = all_hinted options.merge 1 batches made.answers in
    let amount : counted hinted ≡ counted (hinted_zip (all_commands options.merge 1 batches) (map reply_hint made.answers)) = ap counted zipped in
    let length_is : length made.journal ≡ counted hinted = omega (arith, counts.size) in
    let small : IsSmall (length made.journal) = omega (arith, few, length_is, amount, counted_few (all_commands options.merge 1 batches) (map reply_hint made.answers)) in
    let lows = lows_from rules options.lanes options.merge 1 made.journal 0 batches made.syncs made.answers of right.each in
    let groups : groups_of trace ≡ map (answer_lines true) made.answers ++ journal_lines made.journal ∷ [] = ap groups_of (sym is.is) ∙ text_grouped made (ap (λ (o : Options). o.trace) is.options_are ∙ traced) is.ended named in
    let read : map hint_read (groups_of trace) ≡ map reply_hint made.answers ++ hint_read (journal_lines made.journal) ∷ [] =
    ap (map hint_read) groups ∙ map-append hint_read (map (answer_lines true) made.answers) (journal_lines made.journal ∷ [])
    ∙ ap (λ (hs : List Hint). hs ++ hint_read (journal_lines made.journal) ∷ []) (hints_told (length made.journal) made.answers small lows named.replies) in
    let enough : length (all_commands options.merge 1 batches) ≡ length (map reply_hint made.answers) = sym (length-map made.answers reply_hint ∙ counts.answers_are) in
    ap (take (length (all_commands options.merge 1 batches))) read ∙ ap (λ (n : ℕ). take n (map reply_hint made.answers ++ hint_read (journal_lines made.journal) ∷ [])) enough
    ∙ take-append_seam (map reply_hint made.answers) (hint_read (journal_lines made.journal) ∷ [])

pub one_record : OneRecord
one_record rules options batches trace made of traced few named is =
    let right = is.right in
    let hinted : List Hinted = hinted_of (all_dones options.merge 1 batches made.answers) in
    let told = hints_tell rules options.lanes options.merge batches made of right in
    let checked = (checks_decide rules options.lanes options.merge batches made of).1 right in
    let counts = counts_from rules options.lanes options.merge 1 made.journal 0 batches made.syncs made.answers checked.each in
    let zipped : hinted ≡ hinted_zip (all_commands options.merge 1 batches) (map reply_hint made.answers) = all_hinted options.merge 1 batches made.answers in
    let length_is : length made.journal ≡ counted hinted = omega (arith, counts.size) in
    let hints : hints_of batches options.merge trace ≡ map reply_hint made.answers = hints_found rules options batches trace made of traced few named is in
    let journal : made.journal ≡ rebuilt rules hinted (counted hinted) = sym told.0 ∙ ap (rebuilt rules hinted) length_is in
    let answers : made.answers ≡ map (answer_again rules (rebuilt rules hinted (counted hinted))) hinted = sym told.1 ∙ ap (λ (j : List Entry). map (answer_again rules j) hinted) journal in
    ap (λ (o : Options). made_of o made.journal made.answers made.syncs made.ended) is.options_are
    ∙ ap (λ (e : Bool). made_of options made.journal made.answers made.syncs e) is.ended
    ∙ ap (λ (ss : List ℕ). made_of options made.journal made.answers ss true) counts.syncs_are
    ∙ ap (λ (as_all : List Answered). made_of options made.journal as_all (syncs_from options.merge 1 0 batches (map reply_hint made.answers)) true) answers
    ∙ ap (λ (j : List Entry). made_of options j (map (answer_again rules (rebuilt rules hinted (counted hinted))) hinted) (syncs_from options.merge 1 0 batches (map reply_hint made.answers)) true) journal
    ∙ ap (λ (hs : List Hinted). made_of options (rebuilt rules hs (counted hs)) (map (answer_again rules (rebuilt rules hs (counted hs))) hs) (syncs_from options.merge 1 0 batches (map reply_hint made.answers)) true) zipped
    ∙ ap (remade_of rules options batches) (sym hints)

pub hints_decide : HintsDecide
hints_decide rules options batches trace made of names traced few is =
    let same : made ≡ remade rules options batches trace = one_record rules options batches trace made of traced few (right_named rules options.lanes options.merge batches made of names is.right) is in
    (same, subst (λ (r : RunRecord). IsTraceOf rules options batches trace r) same is)
