-- Runs of whole lines, none of which begins with a dot: where a text has one, and what they do in a block.
use Rattle.std.proofs.Common.{◌≡◌, refl, ap, sym, ◌∙◌, subst, ℕ, zero, suc, ◌+◌, ◌-◌, ◌<◌, ◌≤◌, List, [], ◌∷◌, ◌++◌, Bool, true, false, cond, length, take, drop, get_or, arith, append_assoc, append-nil, length-append, inl, inr}
use Rattle.std.specs.Prelude.{◌==◌, ◌&&◌, bytes_eq, codes, count_by, OnOk, Option, Some, None, Result, Ok, Err}
use Rattle.std.specs.List.{AllByRecursion}
use Rattle.std.proofs.lemmas.Bool.{and_parts, cases_Bool, cond-false, eqb-true, false_from_ne_true, le-ltb}
use Rattle.std.proofs.lemmas.List.{get_or-take, length-take, take-append-drop, take-take}
use Rattle.std.proofs.lemmas.List.Sums.{sum_by-cons}
use Rattle.memchr.specs.Find.{OccursAt}
use Rattle.lake_model.specs.Texts.{Text, Lines, lines_of, onto_lines}
use Rattle.script_model.specs.declared.Reason.{Reason}
use Rattle.script_model.specs.declared.ScriptLimits.{ScriptLimits}
use Rattle.script_model.specs.Commands.{File}
use Rattle.script_model.specs.Reading.{Grammar, Open, Reading, Stands, Turn, Goes, body_after, body_fault, counted, is_end, line_in, read, read_with, turn_of, turned, unless_fault, with_body}
use Rattle.script_model.specs.Script.{grammar_of}
use Rattle.script_model.specs.Words.{line_text, NoFeed}
use Rattle.script_model.proofs.LinesLemmas.{lines_whole}
use Rattle.script_text.specs.Gathering.{lines_text, reading_at}
use Rattle.script_text.specs.Runs.{EndsInFeed, IsPlain, IsRun, Leads, LeadsOn, NoDotBehind}
use Rattle.script_text.proofs.FeedLemmas.{no_feed_join}

-- ---- how many lines a text has

counted_on : (byte : ℕ) (feed : Bool) (lines : List Text) (rest : Text) → (byte == 0x0A) ≡ feed → cond feed 1 0 + length lines ≡ length (onto_lines byte (record { ended = lines; rest = rest })).ended
counted_on byte true lines rest e = rw e (omega arith)
counted_on byte false [] rest e = rw e refl
counted_on byte false (line ∷ lines) rest e = rw e (omega arith)

-- A text has as many lines that a line feed ends as it has line feeds.
pub lines_counted : (text : Text) → count_by (λ byte. byte == 0x0A) text ≡ length (lines_of text).ended
unfolding lines_of
lines_counted [] = refl
lines_counted (byte ∷ text) =
    sum_by-cons (λ b. cond (b == 0x0A) 1 0) byte text ∙ ap (λ (n : ℕ). cond (byte == 0x0A) 1 0 + n) (lines_counted text)
    ∙ counted_on byte (byte == 0x0A) (lines_of text).ended (lines_of text).rest refl

-- A count with nothing left to count.
pub all_counted : (text rest : Text) (count : ℕ) → count + count_by (λ byte. byte == 0x0A) rest ≡ count_by (λ byte. byte == 0x0A) text → (length rest == 0) ≡ true → count ≡ length (lines_of text).ended
all_counted text [] count e none =
    let all : count ≡ count + 0 = omega arith in
    all ∙ e ∙ lines_counted text
all_counted text (byte ∷ rest) count e none = let empty : length (byte ∷ rest) ≡ 0 = eqb-true (length (byte ∷ rest)) 0 none in absurd (omega (arith, empty))

-- ---- where a text has a run

-- A dot after a line feed is found.
pub dot_found : (text : Text) (k : ℕ) → k + 1 < length text → get_or text k 0 ≡ 0x0A → get_or text (k + 1) 0 ≡ 0x2E → OccursAt text (0x0A ∷ 0x2E ∷ []) k
dot_found text k lt feed dot = record {
  fits = omega (arith, lt);
  reads = λ j below. reads j below;
}
  where
    reads : (j : ℕ) → j < 2 → get_or text (k + j) 0 ≡ get_or (0x0A ∷ 0x2E ∷ []) j 0
    reads zero below = let e : k + 0 ≡ k = omega arith in ap (λ (n : ℕ). get_or text n 0) e ∙ feed
    reads (suc zero) below = dot
    reads (suc (suc j)) below = absurd (omega (arith, below))

-- The first bytes of a text have no such dot if the text has none.
pub no_dot_before : (text : Text) (n : ℕ) → ((k : ℕ) → k + 1 < n → k + 1 < length text → get_or text k 0 ≡ 0x0A → get_or text (k + 1) 0 ≡ 0x2E → ⊥) → NoDotBehind (take n text)
no_dot_before text n none k lt feed dot =
    let few : k + 1 < n = shorter text n (k + 1) lt in
    let within : k + 1 < length text = within_text text n (k + 1) lt in
    let before : k < n = omega (arith, few) in
    none k few within (sym (get_or-take n text k 0 before) ∙ feed) (sym (get_or-take n text (k + 1) 0 few) ∙ dot)
  where
    shorter : (text : Text) (n k : ℕ) → k < length (take n text) → k < n
    shorter text zero k lt = absurd (omega (arith, lt))
    shorter [] (suc n) k lt = absurd (omega (arith, lt))
    shorter (byte ∷ text) (suc n) zero lt = omega arith
    shorter (byte ∷ text) (suc n) (suc k) lt = let h = shorter text n k (omega (arith, lt)) in omega (arith, h)

    within_text : (text : Text) (n k : ℕ) → k < length (take n text) → k < length text
    within_text text zero k lt = absurd (omega (arith, lt))
    within_text [] (suc n) k lt = absurd (omega (arith, lt))
    within_text (byte ∷ text) (suc n) zero lt = omega arith
    within_text (byte ∷ text) (suc n) (suc k) lt = let h = within_text text n k (omega (arith, lt)) in omega (arith, h)

pub no_dot_first : (text : Text) (n : ℕ) → (get_or text 0 0 == 0x2E) ≡ false → (get_or (take n text) 0 0 == 0x2E) ≡ false
no_dot_first text zero e = refl
no_dot_first [] (suc n) e = refl
no_dot_first (byte ∷ text) (suc n) e = e

-- a text that continues from the start of a line, or from within one, and ends with a whole line; no line that starts
-- in it begins with a dot
abbrev RunsOn : Bool → Text → Type 0
RunsOn at_start [] = at_start ≡ true
RunsOn at_start (byte ∷ text) = ((at_start && byte == 0x2E) ≡ false) × RunsOn (byte == 0x0A) text

some_byte : (text : Text) → get_or text 0 0 ≡ 0x2E → 0 < length text
some_byte [] e = absurd (omega (arith, e))
some_byte (byte ∷ text) e = omega arith

ends_tail : (byte : ℕ) (text : Text) → EndsInFeed (byte ∷ text) → EndsInFeed text
ends_tail byte [] ends lt = absurd (omega (arith, lt))
ends_tail byte (other ∷ text) ends lt =
    let here : length (other ∷ text) - 1 ≡ length text = omega arith in
    let all : length (byte ∷ other ∷ text) - 1 ≡ suc (length text) = omega arith in
    ap (λ (n : ℕ). get_or (other ∷ text) n 0) here ∙ sym (ap (λ (n : ℕ). get_or (byte ∷ other ∷ text) n 0) all) ∙ ends (omega arith)

none_behind : (byte : ℕ) (text : Text) → NoDotBehind (byte ∷ text) → NoDotBehind text
none_behind byte text none k lt feed dot =
    let next : suc k + 1 ≡ suc (k + 1) = omega arith in
    none (suc k) (omega (arith, lt)) feed (ap (λ (n : ℕ). get_or (byte ∷ text) n 0) next ∙ dot)

ends_here : (byte : ℕ) (text : Text) → EndsInFeed (byte ∷ text) → length text ≡ 0 → (byte == 0x0A) ≡ true
ends_here byte [] ends none = ap (λ (b : ℕ). b == 0x0A) (ends (omega arith))
ends_here byte (other ∷ text) ends none = absurd (omega (arith, none))

runs_on : (text : Text) (at_start : Bool) → ((at_start && (get_or text 0 0 == 0x2E)) ≡ false) → NoDotBehind text → EndsInFeed text → (length text ≡ 0 → at_start ≡ true) → RunsOn at_start text
runs_on [] at_start first none ends empty = empty refl
runs_on (byte ∷ text) at_start first none ends empty =
    let next : (byte == 0x0A && (get_or text 0 0 == 0x2E)) ≡ false =
    false_from_ne_true (byte == 0x0A && (get_or text 0 0 == 0x2E)) (λ both.
    (let parts = and_parts (byte == 0x0A) (get_or text 0 0 == 0x2E) both in
    let dot : get_or text 0 0 ≡ 0x2E = eqb-true (get_or text 0 0) 0x2E parts.1 in
    none 0 (omega (arith, some_byte text dot)) (eqb-true byte 0x0A parts.0) dot)) in
    (first, runs_on text (byte == 0x0A) next (none_behind byte text none) (ends_tail byte text ends) (ends_here byte text ends))

abbrev at_start_of : Text → Bool
at_start_of [] = true
at_start_of (byte ∷ bytes) = false

plain_push : (front : Text) (byte : ℕ) → IsPlain front → (byte == 0x0A) ≡ false → (at_start_of front && byte == 0x2E) ≡ false → IsPlain (front ++ byte ∷ [])
plain_push [] byte plain feed dot = ((feed, tt), dot)
plain_push (first ∷ front) byte plain feed dot = (no_feed_join (first ∷ front) (byte ∷ []) plain.0 (feed, tt), plain.1)

within_line : (front : Text) (byte : ℕ) → false ≡ at_start_of (front ++ byte ∷ [])
within_line [] byte = refl
within_line (first ∷ front) byte = refl

line_then : (front : Text) (byte : ℕ) (text : Text) → (byte == 0x0A) ≡ true → IsPlain front → IsRun text → IsRun (front ++ byte ∷ text)
line_then front byte text feed plain run = record {
  lines = front ∷ run.lines;
  plain = (plain, run.plain);
  cut = ap (λ (b : ℕ). front ++ b ∷ text) (eqb-true byte 0x0A feed) ∙ ap (λ (more : Text). front ++ 0x0A ∷ more) run.cut ∙ sym (append_assoc front (0x0A ∷ []) (lines_text run.lines));
}

run_lines : (text front : Text) → IsPlain front → RunsOn (at_start_of front) text → IsRun (front ++ text)
run_lines [] [] plain on = record { lines = []; plain = tt; cut = refl }
run_lines [] (first ∷ front) plain on = cc on
run_lines (byte ∷ text) front plain on =
    elim (cases_Bool (byte == 0x0A)) [
      | inl feed ↦ line_then front byte text feed plain (run_lines text [] (tt, refl) (subst (λ (b : Bool). RunsOn b text) feed on.1))
      | inr none ↦
          subst IsRun (append_assoc front (byte ∷ []) text)
          (run_lines text (front ++ byte ∷ []) (plain_push front byte plain none on.0) (subst (λ (b : Bool). RunsOn b text) (none ∙ within_line front byte) on.1))
    ]

-- A text is a run if it does not begin with a dot, has no dot after a line feed, and ends in a line feed.
pub is_run : (text : Text) → (get_or text 0 0 == 0x2E) ≡ false → NoDotBehind text → EndsInFeed text → IsRun text
is_run text first none ends = run_lines text [] (tt, refl) (runs_on text true first none ends (λ empty. refl))

-- ---- what a run does in a block

no_end_either : (b : Bool) (one other : Text) → bytes_eq one (codes ".") ≡ false → bytes_eq other (codes ".") ≡ false → bytes_eq (cond b one other) (codes ".") ≡ false
no_end_either true one other e f = e
no_end_either false one other e f = f

no_end_in : (line : Text) → (get_or line 0 0 == 0x2E) ≡ false → bytes_eq line (codes ".") ≡ false
no_end_in [] e = refl
no_end_in (byte ∷ line) e = ap (λ (b : Bool). b && bytes_eq line []) e

pub no_end : (line : Text) → (get_or line 0 0 == 0x2E) ≡ false → is_end line ≡ false
no_end line e =
    no_end_either (get_or line (length line - 1) 0 == 0x0D) (take (length line - 1) line) line (no_end_in (take (length line - 1) line) (no_dot_first line (length line - 1) e)) (no_end_in line e)

abbrev reading_parts : Reading → ℕ → ℕ → Option Open → Reading
reading_parts before lines used block = record before { lines = lines; used = used; block = block }

abbrev grown : Open → List ℕ → Open
grown block bytes = record block { body = block.body ++ bytes }

-- this many more lines, of these bytes, in the block
abbrev pub with_run : Open → ℕ → List ℕ → Reading → Reading
with_run block count bytes before = reading_parts before (before.lines + count) (before.used + length bytes) (Some (grown block bytes))

same_parts : (before : Reading) (lines lines_other used used_other : ℕ) (block block_other : Option Open) → lines ≡ lines_other → used ≡ used_other → block ≡ block_other
    → reading_parts before lines used block ≡ reading_parts before lines_other used_other block_other
same_parts before lines lines_other used used_other block block_other e f g =
    ap (λ (n : ℕ). reading_parts before n used block) e ∙ ap (λ (n : ℕ). reading_parts before lines_other n block) f ∙ ap (reading_parts before lines_other used_other) g

fits_body : (limits : ScriptLimits) (lanes bytes : ℕ) (body : List ℕ) → length body ≤ limits.block → bytes + length body ≤ limits.bytes → body_fault (grammar_of limits lanes) bytes body ≡ None
fits_body limits lanes bytes body h k = cond-false _ _ _ (le-ltb limits.block (length body) h) ∙ cond-false _ _ _ (le-ltb limits.bytes (bytes + length body) k)

module _ (limits : ScriptLimits) (lanes : ℕ) where
  abbrev by : Grammar
  by = grammar_of limits lanes

  body_is : (block : Open) (line : Text) → (get_or line 0 0 == 0x2E) ≡ false → body_after block line ++ 0x0A ∷ [] ≡ block.body ++ line_text line
  body_is block line e =
      ap (λ (text : Text). (block.body ++ text) ++ 0x0A ∷ []) (cond-false _ _ _ e) ∙ append_assoc block.body line (0x0A ∷ [])

  -- A line that does not begin with a dot and that fits is added to the body of the block.
  plain_turn : (line : Text) (before : Reading) (block : Open) (paths : List Text) (later : List File) → before.block ≡ Some block → IsPlain line
      → length (block.body ++ line_text line) ≤ limits.block → before.bytes + length (block.body ++ line_text line) ≤ limits.bytes
      → turn_of by line (reading_at before paths later) ≡ Goes (reading_at (with_run block 1 (line_text line) before) paths later)
  plain_turn line before block paths later opened plain h k =
      let reading : Reading = counted (length line + 1) (reading_at before paths later) in
      let body : List ℕ = block.body ++ line_text line in
      let size : length line + 1 ≡ length (line_text line) = omega (arith, length-append line (0x0A ∷ [])) in
      ap (λ (b : Option Open). line_in by b line (counted (length line + 1) (reading_at before paths later))) opened
      ∙ cond-false (is_end line) _ _ (no_end line plain.1)
      ∙ ap (λ (bytes : List ℕ). unless_fault (body_fault by before.bytes bytes) reading (Goes (with_body block bytes reading))) (body_is block line plain.1)
      ∙ ap (λ (f : Option Reason). unless_fault f reading (Goes (with_body block body reading))) (fits_body limits lanes before.bytes body h k)
      ∙ ap (λ (n : ℕ). Goes (reading_at (reading_parts before (before.lines + 1) (before.used + n) (Some (grown block (line_text line)))) paths later)) size

  -- Lines that fit, none of which begins with a dot, are added to the body of the block all at once.
  pub run_leads : (lines : List Text) (before : Reading) (block : Open) → before.block ≡ Some block → AllByRecursion IsPlain lines
      → length block.body + length (lines_text lines) ≤ limits.block → before.bytes + (length block.body + length (lines_text lines)) ≤ limits.bytes
      → Leads by before lines (with_run block (length lines) (lines_text lines) before)
  unfolding read
  run_leads [] before block opened plain h k paths later =
      let lines : before.lines ≡ before.lines + 0 = omega arith in
      let used : before.used ≡ before.used + 0 = omega arith in
      ap (λ (r : Reading). read_with [] (Stands (reading_at r paths later)))
      (same_parts before before.lines (before.lines + 0) before.used (before.used + 0) before.block (Some (grown block [])) lines used (opened ∙ ap (λ (body : List ℕ). Some (record block { body = body })) (sym (append-nil block.body))))
  run_leads (line ∷ lines) before block opened plain h k paths later =
      let next : Reading = with_run block 1 (line_text line) before in
      let size : length (lines_text (line ∷ lines)) ≡ length (line_text line) + length (lines_text lines) = length-append (line_text line) (lines_text lines) in
      let body : length (block.body ++ line_text line) ≡ length block.body + length (line_text line) = length-append block.body (line_text line) in
      let first : turn_of by line (reading_at before paths later) ≡ Goes (reading_at next paths later) =
      plain_turn line before block paths later opened plain.0 (omega (arith, h, size, body)) (omega (arith, k, size, body)) in
      let count : before.lines + 1 + length lines ≡ before.lines + length (line ∷ lines) = omega arith in
      let used : before.used + length (line_text line) + length (lines_text lines) ≡ before.used + length (lines_text (line ∷ lines)) = omega (arith, size) in
      ap (λ (t : Turn). read by (turned [] (before.lines + 1) t) lines) first
      ∙ run_leads lines next (grown block (line_text line)) refl plain.1 (omega (arith, h, size, body)) (omega (arith, k, size, body)) paths later
      ∙ ap (λ (r : Reading). read_with [] (Stands (reading_at r paths later)))
      (same_parts before (before.lines + 1 + length lines) (before.lines + length (line ∷ lines)) (before.used + length (line_text line) + length (lines_text lines)) (before.used + length (lines_text (line ∷ lines)))
      (Some (grown (grown block (line_text line)) (lines_text lines))) (Some (grown block (lines_text (line ∷ lines)))) count used
      (ap (λ (bytes : List ℕ). Some (record block { body = bytes })) (append_assoc block.body (line_text line) (lines_text lines))))

-- ---- a run as the lines of its bytes

whole_of : (lines : List Text) → AllByRecursion IsPlain lines → AllByRecursion NoFeed lines
whole_of [] plain = tt
whole_of (line ∷ lines) plain = (plain.0.0, whole_of lines plain.1)

run_ended : (bytes : List ℕ) (run : IsRun bytes) → (lines_of bytes).ended ≡ run.lines
unfolding lines_of
run_ended bytes run =
    ap (λ (text : Text). (lines_of text).ended) (run.cut ∙ sym (append-nil (lines_text run.lines)))
    ∙ ap (λ (lines : Lines). lines.ended) (lines_whole run.lines [] (whole_of run.lines run.plain)) ∙ append-nil run.lines

-- The lines of a run that fits lead to the reading with its bytes in the body of the block.
pub run_pushed : (limits : ScriptLimits) (lanes : ℕ) (bytes : List ℕ) (before after : Reading) (block : Open) → before.block ≡ Some block → IsRun bytes
    → length block.body + length bytes ≤ limits.block → before.bytes + (length block.body + length bytes) ≤ limits.bytes → after ≡ with_run block (length (lines_of bytes).ended) bytes before
    → Leads (grammar_of limits lanes) before (lines_of bytes).ended after
run_pushed limits lanes bytes before after block opened run h k same =
    let ended = run_ended bytes run in
    let size : length bytes ≡ length (lines_text run.lines) = ap length run.cut in
    let after_is : after ≡ with_run block (length run.lines) (lines_text run.lines) before =
    same ∙ ap (λ (lines : List Text). with_run block (length lines) bytes before) ended ∙ ap (λ (xs : List ℕ). with_run block (length run.lines) xs before) run.cut in
    subst (λ (lines : List Text). Leads (grammar_of limits lanes) before lines after) (sym ended)
    (subst (λ (r : Reading). Leads (grammar_of limits lanes) before run.lines r) (sym after_is) (run_leads limits lanes run.lines before block opened run.plain (omega (arith, h, size)) (omega (arith, k, size))))

pub none_lead : (from : Grammar) (before : Reading) (held : List ℕ) → LeadsOn from before before held held
unfolding read
none_lead from before held = record { lines = []; whole = tt; cut = refl; leads = λ paths later. refl }

-- A run at the beginning of the bytes at hand leads on.
pub run_leads_on : (from : Grammar) (before after : Reading) (held run : List ℕ) (most : ℕ) → IsRun run → run ≡ take (length run) (take most held) → Leads from before (lines_of run).ended after → LeadsOn from before after held (drop (length run) held)
run_leads_on from before after held run most is first leads =
    let size : length run ≡ length (take (length run) (take most held)) = ap length first in
    let few : length run ≤ most = omega (arith, size, length-take (length run) (take most held), length-take most held) in
    let front : take (length run) held ≡ lines_text is.lines = sym (take-take (length run) most held few) ∙ sym first ∙ is.cut in
    record {
      lines = is.lines;
      whole = whole_of is.lines is.plain;
      cut = sym (take-append-drop (length run) held) ∙ ap (λ (xs : List ℕ). xs ++ drop (length run) held) front;
      leads = subst (λ (lines : List Text). Leads from before lines after) (run_ended run is) leads;
    }

pub on_ok : {T E : Type 0} (P Q : Type 0) (result : Result T E) → OnOk result P → (P → Q) → OnOk result Q
on_ok P Q (Ok x) p f = f p
on_ok P Q (Err e) p f = tt
