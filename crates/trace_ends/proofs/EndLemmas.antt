-- The facts at the end of a replay, and the verdict.
use Rattle.std.proofs.Common.{◌≡◌, refl, ap, sym, ◌∙◌, ℕ, suc, ◌+◌, ◌^◌, ◌<◌, List, [], ◌∷◌, ◌++◌, append_assoc, map, flat_map, length, length-append, get_or, subst, Bool, true, false, arith}
use Rattle.std.specs.Prelude.{◌==◌, ◌&&◌, bytes_eq, nat_lt, slice_get, zip, Some}
use Rattle.std.specs.List.{AllByRecursion, list_all}
use Rattle.std.proofs.lemmas.Bool.{eqb-true, and_parts}
use Rattle.std.proofs.lemmas.Bool.Decides.{nat_tests}
use Rattle.std.proofs.lemmas.Grind.{flat_map-append}
use Rattle.std.proofs.lemmas.List.{append-nil, ext_get_or, get_or-map, get_or_append_left, length-map}
use Rattle.std.proofs.lemmas.Option.{slice_get-get_or}
use Rattle.std.proofs.lemmas.Slice.Zip.{get_or-zip}
use Rattle.std.proofs.Math.Seq.{get_or-append_seam}
use Rattle.list_laws.proofs.ListLemmas.{all_tested, joined, texts_same, all_at}
use Rattle.lake_model.specs.Texts.{Text}
use Rattle.lake_model.specs.Journal.{Entry}
use Rattle.lake_model.specs.Layout.{is_legal}
use Rattle.script_model.specs.Commands.{Batch, Command, Merge, command_with}
use Rattle.script_model.specs.Lanes.{IsOfLanes}
use Rattle.script_model.specs.Options.{Options}
use Rattle.script_model.specs.Words.{line_text}
use Rattle.record_model.specs.Rules.{Rules}
use Rattle.record_model.specs.Record.{Answered, RunRecord}
use Rattle.record_model.specs.Texts.{answer_lines, journal_lines, text}
use Rattle.trace_laws.specs.Hints.{Hint, Wanting, hint_of, reply_by}
use Rattle.trace_laws.specs.Named.{IsBatchNamed}
use Rattle.trace_laws.specs.Passing.{are_apart, batches_rise, is_filled, passes, same_hint, tells, verdict}
use Rattle.trace_laws.specs.Reading.{groups_of, is_cut}
use Rattle.trace_laws.specs.Rebuilt.{Hinted, answer_again, hinted_with}
use Rattle.trace_laws.specs.Verdict.{all_commands, counted, hinted_zip, hints_of, remade_of}
use Rattle.trace_laws.proofs.DecidingLemmas.{same_hint_self, verdict_decides, verdict_groups}
use Rattle.trace_laws.proofs.LineLemmas.{all_lines_of, text_lines}
use Rattle.trace_laws.proofs.PassingLemmas.{hint_is}
use Rattle.trace_groups.specs.Pieces.{group_text}
use Rattle.trace_numbers.specs.Positions.{PassesNumbers, numbers_pass}
use Rattle.trace_numbers.proofs.PassLemmas.{told_zip}
use Rattle.trace_ends.specs.Ends.{EndsDecide, IsWhole, journal_of}

-- ---- commands with their hints

zip_length : (commands : List Command) (hints : List Hint) → length hints ≡ length commands → length (hinted_zip commands hints) ≡ length commands
zip_length commands hints size = sym (length-map (hinted_zip commands hints) (λ (h : Hinted). h.hint)) ∙ ap (λ (hs : List Hint). length hs) (told_zip commands hints size) ∙ size

zip_at : (commands : List Command) (hints : List Hint) (i : ℕ) (c : Command) (d : Hinted) → length hints ≡ length commands → i < length commands
    → get_or (hinted_zip commands hints) i d ≡ hinted_with (get_or commands i c) (get_or hints i Wanting)
zip_at commands hints i c d size low =
    let pairs : List (Command × Hint) = zip commands hints in
    let pair : Command × Hint = (c, Wanting) in
    let paired : Command × Hint → Hinted = λ pair. hinted_with pair.0 pair.1 in
    let long : length (hinted_zip commands hints) ≡ length pairs = length-map pairs paired in
    let inside : i < length pairs = omega (arith, low, long, zip_length commands hints size) in
    get_or-map paired pairs i pair d inside ∙ ap paired (get_or-zip commands hints i pair low (omega (arith, low, size)))

pub zip_get : (commands : List Command) (hints : List Hint) (i : ℕ) (c : Command) → length hints ≡ length commands → i < length commands
    → slice_get (hinted_zip commands hints) i ≡ Some (hinted_with (get_or commands i c) (get_or hints i Wanting))
zip_get commands hints i c size low =
    let d : Hinted = hinted_with c Wanting in
    slice_get-get_or (hinted_zip commands hints) i d (omega (arith, low, zip_length commands hints size)) ∙ ap Some (zip_at commands hints i c d size low)

-- what holds of all commands with their hints holds of each
pub tested_at : (test : Hinted → Bool) (commands : List Command) (hints : List Hint) (i : ℕ) (c : Command) → length hints ≡ length commands → i < length commands
    → list_all test (hinted_zip commands hints) ≡ true → test (hinted_with (get_or commands i c) (get_or hints i Wanting)) ≡ true
tested_at test commands hints i c size low h =
    let hinted : List Hinted = hinted_zip commands hints in
    let d : Hinted = hinted_with c Wanting in
    sym (ap test (zip_at commands hints i c d size low)) ∙ all_at (λ (h : Hinted). test h ≡ true) hinted i d (all_tested test hinted h) (omega (arith, low, zip_length commands hints size))

-- and conversely
tested_by : (test : Hinted → Bool) (commands : List Command) (hints : List Hint) → length hints ≡ length commands
    → ((i : ℕ) (c : Command) → i < length commands → test (hinted_with (get_or commands i c) (get_or hints i Wanting)) ≡ true) → list_all test (hinted_zip commands hints) ≡ true
tested_by test [] hints size h = refl
tested_by test (x ∷ commands) [] size h = refl
tested_by test (x ∷ commands) (y ∷ hints) size h =
    let more : suc (length hints) ≡ suc (length commands) = size in
    joined (test (hinted_with x y)) (list_all test (hinted_zip commands hints)) (h 0 x (omega arith)) (tested_by test commands hints (omega (arith, more)) (λ i c low. h (suc i) c (omega (arith, low))))

-- ---- the texts of groups

-- the texts of a list, joined
pub joined_texts : {X : Type 0} (text_of : X → Text) (xs : List X) → flat_map (λ text. text) (map text_of xs) ≡ flat_map text_of xs
joined_texts text_of [] = refl
joined_texts text_of (x ∷ xs) = ap (λ (t : Text). text_of x ++ t) (joined_texts text_of xs)

lines_joined : (answers : List Answered) (lines : List Text) → flat_map group_text (map (answer_lines true) answers ++ lines ∷ []) ≡ flat_map line_text (flat_map (answer_lines true) answers ++ lines)
lines_joined [] lines = append-nil (group_text lines)
lines_joined (a ∷ answers) lines =
    ap (λ (t : Text). group_text (answer_lines true a) ++ t) (lines_joined answers lines)
    ∙ sym (flat_map-append line_text (answer_lines true a) (flat_map (answer_lines true) answers ++ lines))
    ∙ ap (flat_map line_text) (sym (append_assoc (answer_lines true a) (flat_map (answer_lines true) answers) lines))

-- the texts of the groups of a record's text
abbrev texts_of : RunRecord → List Text
texts_of made = map group_text (map (answer_lines true) made.answers ++ journal_lines made.journal ∷ [])

text_joined : (made : RunRecord) → made.options.trace ≡ true → made.ended ≡ true → flat_map (λ text. text) (texts_of made) ≡ text made
unfolding all_lines_of
text_joined made traced ended =
    joined_texts group_text (map (answer_lines true) made.answers ++ journal_lines made.journal ∷ [])
    ∙ lines_joined made.answers (journal_lines made.journal) ∙ sym (text_lines made traced ended)

-- ---- the remade record

-- the text of an answer that is made again
abbrev text_again : Rules → List Entry → Hinted → Text
text_again rules journal h = group_text (answer_lines true (answer_again rules journal h))

texts_again : (rules : Rules) (journal : List Entry) (hinted : List Hinted)
    → map group_text (map (answer_lines true) (map (answer_again rules journal) hinted) ++ journal_lines journal ∷ []) ≡ map (text_again rules journal) hinted ++ group_text (journal_lines journal) ∷ []
texts_again rules journal [] = refl
texts_again rules journal (h ∷ hinted) = ap (λ (ts : List Text). text_again rules journal h ∷ ts) (texts_again rules journal hinted)

again_length : (rules : Rules) (journal : List Entry) (commands : List Command) (hints : List Hint) → length hints ≡ length commands → length (map (text_again rules journal) (hinted_zip commands hints)) ≡ length commands
again_length rules journal commands hints size = length-map (hinted_zip commands hints) (text_again rules journal) ∙ zip_length commands hints size

again_at : (rules : Rules) (journal : List Entry) (commands : List Command) (hints : List Hint) (i : ℕ) (c : Command) (last : Text) → length hints ≡ length commands → i < length commands
    → get_or (map (text_again rules journal) (hinted_zip commands hints) ++ last ∷ []) i [] ≡ text_again rules journal (hinted_with (get_or commands i c) (get_or hints i Wanting))
again_at rules journal commands hints i c last size low =
    let hinted : List Hinted = hinted_zip commands hints in
    let d : Hinted = hinted_with c Wanting in
    let long = zip_length commands hints size in
    get_or_append_left (map (text_again rules journal) hinted) (last ∷ []) [] i (omega (arith, low, again_length rules journal commands hints size))
    ∙ get_or-map (text_again rules journal) hinted i d [] (omega (arith, low, long))
    ∙ ap (text_again rules journal) (zip_at commands hints i c d size low)

last_at : (rules : Rules) (journal : List Entry) (commands : List Command) (hints : List Hint) (last : Text) → length hints ≡ length commands
    → get_or (map (text_again rules journal) (hinted_zip commands hints) ++ last ∷ []) (length commands) [] ≡ last
last_at rules journal commands hints last size =
    let texts : List Text = map (text_again rules journal) (hinted_zip commands hints) in
    ap (λ (n : ℕ). get_or (texts ++ last ∷ []) n []) (sym (again_length rules journal commands hints size)) ∙ get_or-append_seam texts last [] []

-- ---- the facts

enough_hints : (lanes : ℕ) (merge : Bool) (batches : List Batch) (hints : List Hint) → numbers_pass lanes merge batches hints ≡ true → length hints ≡ length (all_commands merge 1 batches)
enough_hints lanes merge batches hints passed =
    let hinted : List Hinted = hinted_zip (all_commands merge 1 batches) hints in
    eqb-true (length hints) (length (all_commands merge 1 batches))
    (and_parts (length hints == length (all_commands merge 1 batches)) (are_apart hinted && (is_filled hinted (counted hinted) && batches_rise lanes merge 1 0 batches hints)) passed).0

abbrev Facts : Rules → Options → List Batch → Text → Type 0
Facts rules options batches trace = IsWhole rules options batches trace (all_commands options.merge 1 batches) (hints_of batches options.merge trace) (map group_text (groups_of trace))

facts_of : PassesNumbers → (rules : Rules) (options : Options) (batches : List Batch) (trace : Text) → AllByRecursion (IsOfLanes options.lanes) batches → AllByRecursion IsBatchNamed batches
    → options.trace ≡ true → length (all_commands options.merge 1 batches) < 2 ^ 64 → verdict rules options batches trace ≡ true → (is_cut trace ≡ true) × Facts rules options batches trace
facts_of law rules options batches trace of names traced few said =
    let commands : List Command = all_commands options.merge 1 batches in
    let hints : List Hint = hints_of batches options.merge trace in
    let hinted : List Hinted = hinted_zip commands hints in
    let journal : List Entry = journal_of rules commands hints in
    let made : RunRecord = remade_of rules options batches hints in
    let last : Text = group_text (journal_lines journal) in
    let passed = and_parts (passes rules options batches hints) (bytes_eq (text made) trace) said in
    let numbers = and_parts (numbers_pass options.lanes options.merge batches hints) (list_all (tells rules journal) hinted && is_legal journal) (sym (law rules options batches hints) ∙ passed.0) in
    let replies = and_parts (list_all (tells rules journal) hinted) (is_legal journal) numbers.1 in
    let size : length hints ≡ length commands = enough_hints options.lanes options.merge batches hints numbers.0 in
    let groups = verdict_groups rules options batches trace of names traced few said in
    let is = (verdict_decides rules options batches trace of names traced few).0 said in
    let texts : map group_text (groups_of trace) ≡ map (text_again rules journal) hinted ++ last ∷ [] = ap (map group_text) groups.1 ∙ texts_again rules journal hinted in (
      groups.0,
      record {
        whole = ap (λ (gs : List (List Text)). flat_map (λ text. text) (map group_text gs)) groups.1 ∙ text_joined made traced refl ∙ is.is;
        many = ap (λ (ts : List Text). length ts) texts ∙ length-append (map (text_again rules journal) hinted) (last ∷ []) ∙ ap (λ (n : ℕ). n + 1) (again_length rules journal commands hints size);
        numbers = numbers.0;
        replayed = record {
          answers = λ i c low. record {
            tells = let h : Hinted = hinted_with (get_or commands i c) (get_or hints i Wanting) in hint_is (hint_of (reply_by rules journal h.command h.hint)) h.hint (tested_at (tells rules journal) commands hints i c size low replies.0);
            is = ap (λ (ts : List Text). get_or ts i []) texts ∙ again_at rules journal commands hints i c last size low;
          };
          last = ap (λ (ts : List Text). get_or ts (length commands) []) texts ∙ last_at rules journal commands hints last size;
          legal = replies.1;
        };
      },
    )

-- the texts of the groups are those of the answers that are made again, and of the journal
texts_are : (rules : Rules) (journal : List Entry) (commands : List Command) (hints : List Hint) (texts : List Text) → length hints ≡ length commands → length texts ≡ length commands + 1
    → ((i : ℕ) (c : Command) → i < length commands → get_or texts i [] ≡ text_again rules journal (hinted_with (get_or commands i c) (get_or hints i Wanting)))
    → get_or texts (length commands) [] ≡ group_text (journal_lines journal) → texts ≡ map (text_again rules journal) (hinted_zip commands hints) ++ group_text (journal_lines journal) ∷ []
texts_are rules journal commands hints texts size many each end =
    ext_get_or [] texts (again ++ last ∷ []) (let long = again_length rules journal commands hints size in omega (arith, many, long, length-append again (last ∷ []))) (λ i low. by i low (nat_lt i (length commands)) refl)
  where
    again : List Text
    again = map (text_again rules journal) (hinted_zip commands hints)

    last : Text
    last = group_text (journal_lines journal)

    by : (i : ℕ) → i < length texts → (b : Bool) → nat_lt i (length commands) ≡ b → get_or texts i [] ≡ get_or (again ++ last ∷ []) i []
    by i low true e =
        let c : Command = command_with 0 0 (Merge false) in
        let inside : i < length commands = grind (arith, nat_tests, e) in
        each i c inside ∙ sym (again_at rules journal commands hints i c last size inside)
    by i low false e =
        let here : i ≡ length commands = grind (arith, nat_tests, e, low, many) in
        ap (λ (n : ℕ). get_or texts n []) here ∙ end ∙ sym (ap (λ (n : ℕ). get_or (again ++ last ∷ []) n []) here ∙ last_at rules journal commands hints last size)

verdict_of : PassesNumbers → (rules : Rules) (options : Options) (batches : List Batch) (trace : Text) → options.trace ≡ true → Facts rules options batches trace → verdict rules options batches trace ≡ true
verdict_of law rules options batches trace traced facts =
    let commands : List Command = all_commands options.merge 1 batches in
    let hints : List Hint = hints_of batches options.merge trace in
    let hinted : List Hinted = hinted_zip commands hints in
    let journal : List Entry = journal_of rules commands hints in
    let made : RunRecord = remade_of rules options batches hints in
    let size : length hints ≡ length commands = enough_hints options.lanes options.merge batches hints facts.numbers in
    let told : list_all (tells rules journal) hinted ≡ true = tested_by (tells rules journal) commands hints size (λ i c low. let a = facts.replayed.answers i c low in ap (λ (h : Hint). same_hint h (get_or hints i Wanting)) a.tells ∙ same_hint_self (get_or hints i Wanting)) in
    let passing : passes rules options batches hints ≡ true =
    law rules options batches hints
    ∙ joined (numbers_pass options.lanes options.merge batches hints) (list_all (tells rules journal) hinted && is_legal journal) facts.numbers (joined (list_all (tells rules journal) hinted) (is_legal journal) told facts.replayed.legal) in
    let texts : map group_text (groups_of trace) ≡ map (text_again rules journal) hinted ++ group_text (journal_lines journal) ∷ [] =
    texts_are rules journal commands hints (map group_text (groups_of trace)) size facts.many (λ i c low. let a = facts.replayed.answers i c low in a.is) facts.replayed.last in
    let is : text made ≡ trace = sym (text_joined made traced refl) ∙ ap (λ (ts : List Text). flat_map (λ text. text) ts) (texts_again rules journal hinted ∙ sym texts) ∙ facts.whole in
    joined (passes rules options batches hints) (bytes_eq (text made) trace) passing (texts_same (text made) trace is)

-- the verdict is decided by the facts of these commands, hints and texts
abbrev Decide : Rules → Options → List Batch → Text → List Command → List Hint → List Text → Type 0
Decide rules options batches trace commands hints texts =
    (verdict rules options batches trace ≡ true → (is_cut trace ≡ true) × IsWhole rules options batches trace commands hints texts)
    × (IsWhole rules options batches trace commands hints texts → verdict rules options batches trace ≡ true)

pub ends_decide : PassesNumbers → EndsDecide
ends_decide law rules options batches trace commands hints texts of names traced few commands_are hints_are texts_are =
    let all : List Command = all_commands options.merge 1 batches in
    let read : List Hint = hints_of batches options.merge trace in
    subst (λ (cs : List Command). Decide rules options batches trace cs hints texts) (sym commands_are)
    (subst (λ (hs : List Hint). Decide rules options batches trace all hs texts) (sym hints_are)
    (subst (Decide rules options batches trace all read) (sym texts_are) (facts_of law rules options batches trace of names traced few, verdict_of law rules options batches trace traced)))
