-- A lane's answers stay right when others go on, and two lists of answers in a row are right together.
use Rattle.std.proofs.Common.{◌≡◌, refl, ap, sym, ◌∙◌, subst, ℕ, ◌+◌, ◌-◌, ◌≤◌, List, [], ◌∷◌, ◌++◌, append_assoc, Bool, true, false, length, take, cond, arith, length-append}
use Rattle.std.specs.Prelude.{◌==◌}
use Rattle.std.specs.List.{AllByRecursion, enumerate_from, filter}
use Rattle.std.proofs.lemmas.List.{take-append-le, append-nil}
use Rattle.std.proofs.lemmas.List.Elements.{filter-append}
use Rattle.std.proofs.lemmas.Grind.{flat_map-append}
use Rattle.record_model.specs.Rules.{Rules}
use Rattle.lake_model.specs.Journal.{Entry}
use Rattle.script_model.specs.Commands.{Command}
use Rattle.record_model.specs.Replies.{Reply}
use Rattle.record_model.specs.Answered.{answer_to, Standing, Nowhere, Saw, Added, PlannedAndSaw, PlannedAndAdded, standing}
use Rattle.record_model.specs.Play.{Done, entries_of}
use Rattle.list_laws.proofs.ListLemmas.{all_append}
use Rattle.record_model.specs.Right.{Moment, moments, moments_by, IsBehind, MomentsRise, pinned_by, made_by, answer_by, IsPlaced, IsUnplaced, own_entries, entries_by, at_position, accepted, IsRight}

-- ---- positions

behind_le : (own : Bool) (low at high : ℕ) → IsBehind own low at → at ≤ high → low ≤ high
behind_le true low at high h k = omega (arith, h, k)
behind_le false low at high h k = omega (arith, h, k)

pub rises_le : (low : ℕ) (ms : List Moment) (high : ℕ) → MomentsRise low ms high → low ≤ high
rises_le low [] high h = h
rises_le low (m ∷ ms) high h = behind_le m.own low m.at high h.0 (rises_le m.at ms high h.1)

pub rises_up : (low : ℕ) (ms : List Moment) (high higher : ℕ) → high ≤ higher → MomentsRise low ms high → MomentsRise low ms higher
rises_up low [] high higher up h = omega (arith, up, h)
rises_up low (m ∷ ms) high higher up h = (h.0, rises_up m.at ms high higher up h.1)

behind_down : (own : Bool) (lower low at : ℕ) → lower ≤ low → IsBehind own low at → IsBehind own lower at
behind_down true lower low at down h = omega (arith, down, h)
behind_down false lower low at down h = omega (arith, down, h)

pub rises_down : (lower low : ℕ) (ms : List Moment) (high : ℕ) → lower ≤ low → MomentsRise low ms high → MomentsRise lower ms high
rises_down lower low [] high down h = omega (arith, down, h)
rises_down lower low (m ∷ ms) high down h = (behind_down m.own lower low m.at down h.0, h.1)

pub rises_on : (low : ℕ) (ms : List Moment) (mid : ℕ) (ns : List Moment) (high : ℕ) → MomentsRise low ms mid → MomentsRise mid ns high → MomentsRise low (ms ++ ns) high
rises_on low [] mid ns high h k = rises_down low mid ns high h k
rises_on low (m ∷ ms) mid ns high h k = (h.0, rises_on m.at ms mid ns high h.1 k)

rises_split : (low : ℕ) (ms ns : List Moment) (high : ℕ) → MomentsRise low (ms ++ ns) high → (mid : ℕ) × MomentsRise low ms mid × MomentsRise mid ns high
rises_split low [] ns high h = (low, omega arith, h)
rises_split low (m ∷ ms) ns high h = let rest = rises_split m.at ms ns high h.1 in (rest.0, (h.0, rest.1), rest.2)

-- ---- the journal goes on

-- both positions of a reply are within a journal
pub record IsWithin (size : ℕ) (s : Standing) : Type 0 where
  pub pinned : pinned_by s ≤ size
  pub made : made_by s ≤ size

within : (s : Standing) (low high size : ℕ) → high ≤ size → MomentsRise low (moments_by s) high → IsWithin size s
within Nowhere low high size le h = record { pinned = omega arith; made = omega arith }
within (Saw at) low high size le h = record { pinned = omega (arith, le, h.1); made = omega (arith, le, h.1) }
within (Added at) low high size le h = record { pinned = omega (arith, le, h.1); made = omega (arith, le, h.1) }
within (PlannedAndSaw pinned at) low high size le h = record { pinned = omega (arith, le, h.1.0, h.1.1); made = omega (arith, le, h.1.1) }
within (PlannedAndAdded pinned at) low high size le h = record { pinned = omega (arith, le, h.1.0, h.1.1); made = omega (arith, le, h.1.1) }

pub answer_stays : (rules : Rules) (journal more : List Entry) (command : Command) (s : Standing) → IsWithin (length journal) s
    → answer_by rules (journal ++ more) command s ≡ answer_by rules journal command s
answer_stays rules journal more command s h =
    ap (λ p. answer_to rules command.task p (take (made_by s) (journal ++ more))) (take-append-le (pinned_by s) journal more h.pinned)
    ∙ ap (λ p. answer_to rules command.task (take (pinned_by s) journal) p) (take-append-le (made_by s) journal more h.made)

placed_stays : (rules : Rules) (journal more : List Entry) (command : Command) (reply : Reply) (s : Standing) → IsWithin (length journal) s
    → IsPlaced rules journal command reply s → IsPlaced rules (journal ++ more) command reply s
placed_stays rules journal more command reply Nowhere h k = k
placed_stays rules journal more command reply (Saw at) h k = k ∙ sym (answer_stays rules journal more command (Saw at) h)
placed_stays rules journal more command reply (Added at) h k = k ∙ sym (answer_stays rules journal more command (Added at) h)
placed_stays rules journal more command reply (PlannedAndSaw pinned at) h k = k ∙ sym (answer_stays rules journal more command (PlannedAndSaw pinned at) h)
placed_stays rules journal more command reply (PlannedAndAdded pinned at) h k = k ∙ sym (answer_stays rules journal more command (PlannedAndAdded pinned at) h)

entries_stay : (rules : Rules) (journal more : List Entry) (command : Command) (reply : Reply) (s : Standing) → IsWithin (length journal) s
    → entries_by rules (journal ++ more) command reply s ≡ entries_by rules journal command reply s
entries_stay rules journal more command reply Nowhere h = refl
entries_stay rules journal more command reply (Saw at) h = refl
entries_stay rules journal more command reply (Added at) h = ap (λ p. at_position at (entries_of rules p command reply)) (take-append-le (at - 1) journal more h.made)
entries_stay rules journal more command reply (PlannedAndSaw pinned at) h = refl
entries_stay rules journal more command reply (PlannedAndAdded pinned at) h = ap (λ p. at_position at (entries_of rules p command reply)) (take-append-le pinned journal more h.pinned)

-- what a list of answers states of a journal, it states of one that goes on
pub all_placed_stay : (rules : Rules) (journal more : List Entry) (done : List Done) (low high : ℕ) → high ≤ length journal → MomentsRise low (moments done) high
    → AllByRecursion (λ d. IsPlaced rules journal d.command d.reply (standing d.reply)) done
    → AllByRecursion (λ d. IsPlaced rules (journal ++ more) d.command d.reply (standing d.reply)) done
all_placed_stay rules journal more [] low high le rises h = h
all_placed_stay rules journal more (d ∷ done) low high le rises h =
    let parts = rises_split low (moments_by (standing d.reply)) (moments done) high rises in
    let below : parts.0 ≤ high = rises_le parts.0 (moments done) high parts.2 in
    let inside : IsWithin (length journal) (standing d.reply) = within (standing d.reply) low parts.0 (length journal) (omega (arith, below, le)) parts.1 in
    (placed_stays rules journal more d.command d.reply (standing d.reply) inside h.0, all_placed_stay rules journal more done parts.0 high le parts.2 h.1)

pub accepted_stay : (rules : Rules) (journal more : List Entry) (done : List Done) (low high : ℕ) → high ≤ length journal → MomentsRise low (moments done) high
    → accepted rules (journal ++ more) done ≡ accepted rules journal done
accepted_stay rules journal more [] low high le rises = refl
accepted_stay rules journal more (d ∷ done) low high le rises =
    let parts = rises_split low (moments_by (standing d.reply)) (moments done) high rises in
    let below : parts.0 ≤ high = rises_le parts.0 (moments done) high parts.2 in
    let inside : IsWithin (length journal) (standing d.reply) = within (standing d.reply) low parts.0 (length journal) (omega (arith, below, le)) parts.1 in
    ap (λ es. es ++ accepted rules (journal ++ more) done) (entries_stay rules journal more d.command d.reply (standing d.reply) inside)
    ∙ ap (λ es. entries_by rules journal d.command d.reply (standing d.reply) ++ es) (accepted_stay rules journal more done parts.0 high le parts.2)

-- ---- a lane's own entries

enumerate_from-append : (n : ℕ) (xs ys : List Entry) → enumerate_from n (xs ++ ys) ≡ enumerate_from n xs ++ enumerate_from (n + length xs) ys
enumerate_from-append n [] ys = let e : n ≡ n + length {A = Entry} [] = omega arith in ap (λ (m : ℕ). enumerate_from m ys) e
enumerate_from-append n (x ∷ xs) ys =
    let e : n + 1 + length xs ≡ n + length (x ∷ xs) = omega arith in
    ap (λ es. (n, x) ∷ es) (enumerate_from-append (n + 1) xs ys ∙ ap (λ (m : ℕ). enumerate_from (n + 1) xs ++ enumerate_from m ys) e)

pub own_entries_more : (lane : ℕ) (before behind more : List Entry) → own_entries lane before (behind ++ more) ≡ own_entries lane before behind ++ own_entries lane (before ++ behind) more
own_entries_more lane before behind more =
    let e : length before + 1 + length behind ≡ length (before ++ behind) + 1 = omega (arith, length-append before behind) in
    ap (filter (λ (e : ℕ × Entry). e.1.who.caller == lane)) (enumerate_from-append (length before + 1) behind more ∙ ap (λ (m : ℕ). enumerate_from (length before + 1) behind ++ enumerate_from m more) e)
    ∙ filter-append (λ (e : ℕ × Entry). e.1.who.caller == lane) _ _

abbrev pub AreOthers : ℕ → List Entry → Type 0
AreOthers lane entries = AllByRecursion (λ e. (e.who.caller == lane) ≡ false) entries

none_own : (lane n : ℕ) (more : List Entry) → AreOthers lane more → filter (λ (e : ℕ × Entry). e.1.who.caller == lane) (enumerate_from n more) ≡ []
none_own lane n [] h = refl
none_own lane n (e ∷ more) h = ap (λ b. cond b ((n, e) ∷ filter (λ (e : ℕ × Entry). e.1.who.caller == lane) (enumerate_from (n + 1) more)) (filter (λ (e : ℕ × Entry). e.1.who.caller == lane) (enumerate_from (n + 1) more))) h.0 ∙ none_own lane (n + 1) more h.1

-- ---- the two laws

pub longer : (before behind more : List Entry) → length (before ++ behind) ≤ length (before ++ (behind ++ more))
longer before behind more = omega (arith, length-append before behind, length-append before (behind ++ more), length-append behind more)

-- Answers that are right stay right when entries of others follow.
pub right_stays : (rules : Rules) (lane : ℕ) (before behind more : List Entry) (done : List Done) → AreOthers lane more
    → IsRight rules lane before behind done → IsRight rules lane before (behind ++ more) done
right_stays rules lane before behind more done others right =
    let same : (before ++ behind) ++ more ≡ before ++ (behind ++ more) = append_assoc before behind more in
    let none : own_entries lane (before ++ behind) more ≡ [] = none_own lane (length (before ++ behind) + 1) more others in
    let first : own_entries lane before (behind ++ more) ≡ own_entries lane before behind =
    own_entries_more lane before behind more ∙ ap (λ es. own_entries lane before behind ++ es) none ∙ append-nil (own_entries lane before behind) in
    let stay : accepted rules ((before ++ behind) ++ more) done ≡ accepted rules (before ++ behind) done =
    accepted_stay rules (before ++ behind) more done (length before) (length (before ++ behind)) (omega arith) right.positions in
    record {
      entries = first ∙ right.entries ∙ sym stay ∙ ap (λ j. accepted rules j done) same;
      placed = subst (λ j. AllByRecursion (λ d. IsPlaced rules j d.command d.reply (standing d.reply)) done) same (all_placed_stay rules (before ++ behind) more done (length before) (length (before ++ behind)) (omega arith) right.positions right.placed);
      positions = rises_up (length before) (moments done) (length (before ++ behind)) (length (before ++ (behind ++ more))) (longer before behind more) right.positions;
      unplaced = right.unplaced;
    }

-- Answers that are right up to a journal, and answers that are right from there on, are right together.
pub right_on : (rules : Rules) (lane : ℕ) (before behind more : List Entry) (done later : List Done)
    → IsRight rules lane before behind done → IsRight rules lane (before ++ behind) more later → IsRight rules lane before (behind ++ more) (done ++ later)
right_on rules lane before behind more done later first second =
    let same : (before ++ behind) ++ more ≡ before ++ (behind ++ more) = append_assoc before behind more in
    let stay : accepted rules ((before ++ behind) ++ more) done ≡ accepted rules (before ++ behind) done =
    accepted_stay rules (before ++ behind) more done (length before) (length (before ++ behind)) (omega arith) first.positions in
    record {
      entries = own_entries_more lane before behind more ∙ ap (λ es. es ++ own_entries lane (before ++ behind) more) (first.entries ∙ sym stay)
          ∙ ap (λ es. accepted rules ((before ++ behind) ++ more) done ++ es) second.entries
          ∙ sym (flat_map-append (λ (d : Done). entries_by rules ((before ++ behind) ++ more) d.command d.reply (standing d.reply)) done later)
          ∙ ap (λ j. accepted rules j (done ++ later)) same;
      placed = subst (λ j. AllByRecursion (λ d. IsPlaced rules j d.command d.reply (standing d.reply)) (done ++ later)) same
          (all_append (λ (d : Done). IsPlaced rules ((before ++ behind) ++ more) d.command d.reply (standing d.reply)) done later
          (all_placed_stay rules (before ++ behind) more done (length before) (length (before ++ behind)) (omega arith) first.positions first.placed) second.placed);
      positions = subst (λ (ms : List Moment). MomentsRise (length before) ms (length (before ++ (behind ++ more)))) (sym (flat_map-append (λ (d : Done). moments_by (standing d.reply)) done later))
          (rises_on (length before) (moments done) (length (before ++ behind)) (moments later) (length (before ++ (behind ++ more))) first.positions
          (subst (λ (j : List Entry). MomentsRise (length (before ++ behind)) (moments later) (length j)) same second.positions));
      unplaced = all_append (λ (d : Done). IsUnplaced rules d.command d.reply (standing d.reply)) done later first.unplaced second.unplaced;
    }
