-- Whole lines at the beginning of an input: their result, and what follows them.
use Rattle.std.proofs.Common.{◌≡◌, refl, ap, sym, ◌∙◌, subst, ℕ, ◌+◌, ◌≤◌, ◌⊎◌, inl, inr, List, [], ◌∷◌, ◌++◌, append_assoc, length, arith, length-append, flat_map}
use Rattle.std.specs.List.{AllByRecursion}
use Rattle.lake_model.specs.Texts.{Text, Lines, lines_with, lines_of}
use Rattle.script_model.specs.declared.Reason.{Reason}
use Rattle.script_model.specs.Commands.{Batch}
use Rattle.script_model.specs.Words.{NoFeed, line_text}
use Rattle.script_model.specs.Reading.{Grammar, Reading, Reached, Stands, AtFault, LinesRead, read_with, Turn, Goes, Gives, Fails, turned, turn_of, read}
use Rattle.script_model.specs.Script.{commands_from}
use Rattle.script_model.proofs.ScriptLemmas.{lines_first, behind_batches, read_behind, read_fault, turn_uses, UsesUpTo, after_turn, commands_line, with_batches}

-- ---- the lines of whole lines

line_front : (line front rest : Text) → ((line ++ 0x0A ∷ []) ++ front) ++ rest ≡ line ++ 0x0A ∷ (front ++ rest)
line_front line front rest = append_assoc (line ++ 0x0A ∷ []) front rest ∙ append_assoc line (0x0A ∷ []) (front ++ rest)

-- The lines of an input that begins with whole lines.
pub lines_whole : (lines : List Text) (rest : Text) → AllByRecursion NoFeed lines → lines_of (flat_map line_text lines ++ rest) ≡ lines_with (lines ++ (lines_of rest).ended) (lines_of rest).rest
lines_whole [] rest whole = refl
lines_whole (line ∷ lines) rest whole =
    ap lines_of (line_front line (flat_map line_text lines) rest) ∙ lines_first line (flat_map line_text lines ++ rest) whole.0
    ∙ ap (λ (ls : Lines). lines_with (line ∷ ls.ended) ls.rest) (lines_whole lines rest whole.1)

-- ---- one line, and then the others

-- the result of lines that have no fault
abbrev pub Gave : Grammar → Reading → List Text → List Batch → Reading → Type 0
Gave grammar reading lines made after = read grammar (read_with [] (Stands reading)) lines ≡ read_with made (Stands after)

pub record WentOn (grammar : Grammar) (reading : Reading) (line : Text) (lines : List Text) (made : List Batch) (after : Reading) : Type 0 where
  pub next : Reading
  pub turn : turn_of grammar line reading ≡ Goes next
  pub others : Gave grammar next lines made after

pub record GaveBatch (grammar : Grammar) (reading : Reading) (line : Text) (lines : List Text) (made : List Batch) (after : Reading) : Type 0 where
  pub batch : Batch
  pub next : Reading
  pub later : List Batch
  pub turn : turn_of grammar line reading ≡ Gives batch next
  pub front : made ≡ batch ∷ later
  pub others : Gave grammar next lines later after

no_fault : (batches made : List Batch) (line : ℕ) (why : Reason) (asked : List Text) (after : Reading) → read_with batches (AtFault line why asked) ≡ read_with made (Stands after) → ⊥
no_fault batches made line why asked after same = let e : AtFault line why asked ≡ Stands after = ap (λ (m : LinesRead). m.reached) same in cc

by_turn : (grammar : Grammar) (reading : Reading) (line : Text) (lines : List Text) (made : List Batch) (after : Reading) (turn : Turn) → turn_of grammar line reading ≡ turn
    → read grammar (turned [] (reading.lines + 1) turn) lines ≡ read_with made (Stands after)
    → WentOn grammar reading line lines made after ⊎ GaveBatch grammar reading line lines made after
by_turn grammar reading line lines made after (Goes next) is all = inl (record { next = next; turn = is; others = all })
by_turn grammar reading line lines made after (Gives batch next) is all =
    let others : LinesRead = read grammar (read_with [] (Stands next)) lines in
    let same : behind_batches (batch ∷ []) others ≡ read_with made (Stands after) = sym (read_behind grammar (batch ∷ []) (read_with [] (Stands next)) lines) ∙ all in
    inr (record {
      batch = batch;
      next = next;
      later = others.batches;
      turn = is;
      front = sym (ap (λ (m : LinesRead). m.batches) same);
      others = ap (λ (r : Reached). read_with others.batches r) (ap (λ (m : LinesRead). m.reached) same);
    })
by_turn grammar reading line lines made after (Fails why asked) is all =
    absurd (no_fault [] made (reading.lines + 1) why asked after (sym (read_fault grammar [] (reading.lines + 1) why asked lines) ∙ all))

pub first_turn : (grammar : Grammar) (reading : Reading) (line : Text) (lines : List Text) (made : List Batch) (after : Reading) → Gave grammar reading (line ∷ lines) made after
    → WentOn grammar reading line lines made after ⊎ GaveBatch grammar reading line lines made after
unfolding read
first_turn grammar reading line lines made after all = by_turn grammar reading line lines made after (turn_of grammar line reading) refl all

abbrev reading_in : Reading → Reached → Reading
reading_in other (Stands reading) = reading
reading_in other (AtFault line why asked) = other

pub no_lines : (grammar : Grammar) (reading : Reading) (made : List Batch) (after : Reading) → Gave grammar reading [] made after → (made ≡ []) × (after ≡ reading)
unfolding read
no_lines grammar reading made after all = (sym (ap (λ (m : LinesRead). m.batches) all), sym (ap (λ (m : LinesRead). reading_in reading m.reached) all))

-- ---- the bytes used

used_by : (n : ℕ) (turn : Turn) (next : Reading) → UsesUpTo n turn → turn ≡ Goes next → next.used ≡ n
used_by n turn next uses is = subst (UsesUpTo n) is uses

used_giving : (n : ℕ) (turn : Turn) (batch : Batch) (next : Reading) → UsesUpTo n turn → turn ≡ Gives batch next → next.used ≡ n
used_giving n turn batch next uses is = subst (UsesUpTo n) is uses

-- Lines use their bytes.
pub lines_use : (grammar : Grammar) (lines : List Text) (reading : Reading) (made : List Batch) (after : Reading) → Gave grammar reading lines made after → after.used ≡ reading.used + length (flat_map line_text lines)
lines_use grammar [] reading made after all =
    let none = (no_lines grammar reading made after all).1 in
    let same : after.used ≡ reading.used = ap (λ (r : Reading). r.used) none in
    omega (arith, same)
lines_use grammar (line ∷ lines) reading made after all =
    let size : length (flat_map line_text (line ∷ lines)) ≡ length line + 1 + length (flat_map line_text lines) =
    omega (arith, length-append (line ++ 0x0A ∷ []) (flat_map line_text lines), length-append line (0x0A ∷ [])) in
    elim (first_turn grammar reading line lines made after all) [
      | inl went ↦
          let here = used_by (reading.used + (length line + 1)) (turn_of grammar line reading) went.next (turn_uses grammar line reading) went.turn in
          omega (arith, size, here, lines_use grammar lines went.next made after went.others)
      | inr gave ↦
          let here = used_giving (reading.used + (length line + 1)) (turn_of grammar line reading) gave.batch gave.next (turn_uses grammar line reading) gave.turn in
          omega (arith, size, here, lines_use grammar lines gave.next gave.later after gave.others)
    ]

-- ---- what follows

-- An input that begins with whole lines gives their result, and then that of what follows them.
pub commands_lines : (grammar : Grammar) (lines : List Text) (reading : Reading) (made : List Batch) (after : Reading) (more : Text) → AllByRecursion NoFeed lines
    → Gave grammar reading lines made after → after.used ≤ grammar.input
    → commands_from grammar reading (flat_map line_text lines ++ more) ≡ with_batches made (commands_from grammar after more)
commands_lines grammar [] reading made after more whole all within =
    let none = no_lines grammar reading made after all in
    sym (ap (λ (batches : List Batch). with_batches batches (commands_from grammar after more)) none.0 ∙ ap (λ (r : Reading). commands_from grammar r more) none.1)
commands_lines grammar (line ∷ lines) reading made after more whole all within =
    let size : length (flat_map line_text (line ∷ lines)) ≡ length line + 1 + length (flat_map line_text lines) =
    omega (arith, length-append (line ++ 0x0A ∷ []) (flat_map line_text lines), length-append line (0x0A ∷ [])) in
    let fits : reading.used + (length line + 1) ≤ grammar.input = omega (arith, size, within, lines_use grammar (line ∷ lines) reading made after all) in
    let behind : Text = flat_map line_text lines ++ more in
    let start : commands_from grammar reading (flat_map line_text (line ∷ lines) ++ more) ≡ after_turn grammar (reading.lines + 1) (turn_of grammar line reading) behind =
    ap (commands_from grammar reading) (line_front line (flat_map line_text lines) more) ∙ commands_line grammar reading line behind whole.0 fits in
    elim (first_turn grammar reading line lines made after all) [
      | inl went ↦ start ∙ ap (λ (t : Turn). after_turn grammar (reading.lines + 1) t behind) went.turn ∙ commands_lines grammar lines went.next made after more whole.1 went.others within
      | inr gave ↦
          start ∙ ap (λ (t : Turn). after_turn grammar (reading.lines + 1) t behind) gave.turn
          ∙ ap (with_batches (gave.batch ∷ [])) (commands_lines grammar lines gave.next gave.later after more whole.1 gave.others within)
          ∙ ap (λ (batches : List Batch). with_batches batches (commands_from grammar after more)) (sym gave.front)
    ]
