-- The end of a script, and faults by size alone.
use Rattle.std.proofs.Common.{◌≡◌, refl, ap, sym, ◌∙◌, ℕ, ◌+◌, ◌-◌, ◌<◌, ◌≤◌, List, [], ◌∷◌, ◌++◌, Bool, true, false, cond, length, take, get_or, arith, length-append, inl, inr}
use Rattle.std.specs.Prelude.{◌==◌, nat_lt, codes, Option, Some, None, IfSome, unwrap_or}
use Rattle.std.proofs.lemmas.Bool.{cases_Bool, false_from_ne_true, le-ltb, lt-ltb}
use Rattle.std.proofs.lemmas.List.{length-drop, length-take, take_all}
use Rattle.std.proofs.lemmas.Slice.Eq.{bytes_eq-Decides}
use Rattle.std.proofs.Math.Seq.{take-append-add}
use Rattle.script_model.specs.declared.Reason.{Reason}
use Rattle.script_model.specs.declared.Reason.TheVariants as reason
use Rattle.script_model.specs.declared.ScriptLimits.{ScriptLimits}
use Rattle.lake_model.specs.Texts.{Lines, Text, lines_of, lines_with, onto_lines}
use Rattle.script_model.specs.Reading.{Fails, Goes, Grammar, LinesRead, Open, Reading, Stands, AtFault, Turn, block_ended, body_after, body_fault, counted, does, is_end, line_fault, line_in, read, read_with, turn_of, turned, undotted, unless_fault, with_body}
use Rattle.script_model.specs.Script.{Commands, FaultAt, begun_fault, commands_from, commands_with, end_turned, ended, grammar_of, last_turn, unless_begun_fault, within}
use Rattle.script_model.specs.Words.{NoFeed, without_return}
use Rattle.script_model.proofs.LimitLemmas.{commands_past, given_by}
use Rattle.script_model.proofs.ScriptLemmas.{lines_none}
use Rattle.script_model.specs.Commands.{File}
use Rattle.script_text.specs.Gathering.{reading_at}
use Rattle.script_text.specs.Readings.{too_long}

-- what lines give, if they are these
abbrev by_lines : Grammar → Reading → Bool → Lines → Commands
by_lines grammar reading over lines = ended grammar over lines.rest (read grammar (read_with [] (Stands reading)) lines.ended).batches (read grammar (read_with [] (Stands reading)) lines.ended).reached

no_lines : (grammar : Grammar) (reading : Reading) (over : Bool) (rest : Text) → by_lines grammar reading over (lines_with [] rest) ≡ ended grammar over rest [] (Stands reading)
unfolding read
no_lines grammar reading over rest = refl

-- An input within the limit that has no line feed.
pub commands_end : (grammar : Grammar) (reading : Reading) (held : Text) → NoFeed held → reading.used + length held ≤ grammar.input
    → commands_from grammar reading held ≡ ended grammar false held [] (Stands reading)
commands_end grammar reading held whole h =
    let room : ℕ = grammar.input - reading.used in
    let short : nat_lt (grammar.input - reading.used) (length held) ≡ false = le-ltb (grammar.input - reading.used) (length held) (omega (arith, h)) in
    let all : take (grammar.input - reading.used) held ≡ held = take_all (grammar.input - reading.used) held (omega (arith, h)) in
    ap (given_by grammar reading (within grammar reading held)) short
    ∙ ap (λ (beginning : Text). given_by grammar reading beginning false) all
    ∙ ap (by_lines grammar reading false) (lines_none held whole)
    ∙ no_lines grammar reading false held

-- An input that passes the limit, and has no line feed up to there.
pub commands_over : (grammar : Grammar) (reading : Reading) (held more : Text) → NoFeed (take (grammar.input - reading.used) held) → grammar.input - reading.used < length held
    → commands_from grammar reading (held ++ more) ≡ ended grammar true (take (grammar.input - reading.used) held) [] (Stands reading)
commands_over grammar reading held more whole past =
    commands_past grammar reading held more past
    ∙ ap (given_by grammar reading (within grammar reading held)) (lt-ltb (grammar.input - reading.used) (length held) past)
    ∙ ap (by_lines grammar reading true) (lines_none (take (grammar.input - reading.used) held) whole)
    ∙ no_lines grammar reading true (take (grammar.input - reading.used) held)

-- Its fault is one by size, or that the input is too long.
pub over_fault : (grammar : Grammar) (part : Text) (reading : Reading) (fault : Option Reason) → fault ≡ begun_fault grammar reading.block reading.bytes part
    → ended grammar true part [] (Stands reading) ≡ commands_with [] (FaultAt (reading.lines + 1) (unwrap_or fault reason.InputTooLong)) reading.asked
over_fault grammar part reading fault e =
    ap (λ (f : Option Reason). unless_begun_fault f [] reading (commands_with [] (FaultAt (reading.lines + 1) reason.InputTooLong) reading.asked)) (sym e) ∙ by_cases fault
  where
    by_cases : (f : Option Reason) → unless_begun_fault f [] reading (commands_with [] (FaultAt (reading.lines + 1) reason.InputTooLong) reading.asked) ≡ commands_with [] (FaultAt (reading.lines + 1) (unwrap_or f reason.InputTooLong)) reading.asked
    by_cases None = refl
    by_cases (Some why) = refl

-- ---- a line that is too long, however it goes on

abbrev onto_text : Text → List Text → Text → Lines
onto_text held [] rest = lines_with [] (held ++ rest)
onto_text held (line ∷ lines) rest = lines_with ((held ++ line) ∷ lines) rest

onto_nil : (lines : List Text) (rest : Text) → lines_with lines rest ≡ onto_text [] lines rest
onto_nil [] rest = refl
onto_nil (line ∷ lines) rest = refl

onto_byte : (byte : ℕ) (held : Text) (lines : List Text) (rest : Text) → (byte == 0x0A) ≡ false → onto_lines byte (onto_text held lines rest) ≡ onto_text (byte ∷ held) lines rest
onto_byte byte held [] rest e = rw e refl
onto_byte byte held (line ∷ lines) rest e = rw e refl

lines_onto : (held more : Text) → NoFeed held → lines_of (held ++ more) ≡ onto_text held (lines_of more).ended (lines_of more).rest
unfolding lines_of
lines_onto [] more h = onto_nil (lines_of more).ended (lines_of more).rest
lines_onto (byte ∷ held) more h = ap (onto_lines byte) (lines_onto held more h.1) ∙ onto_byte byte held (lines_of more).ended (lines_of more).rest h.0

read_stays : (grammar : Grammar) (at : ℕ) (why : Reason) (asked : List Text) (lines : List Text)
    → read grammar (read_with [] (AtFault at why asked)) lines ≡ read_with [] (AtFault at why asked)
unfolding read
read_stays grammar at why asked [] = refl
read_stays grammar at why asked (line ∷ lines) = read_stays grammar at why asked lines

read_first : (grammar : Grammar) (reading : Reading) (why : Reason) (line : Text) (lines : List Text) → turn_of grammar line reading ≡ Fails why reading.asked
    → read grammar (read_with [] (Stands reading)) (line ∷ lines) ≡ read_with [] (AtFault (reading.lines + 1) why reading.asked)
unfolding read
read_first grammar reading why line lines e =
    ap (λ turn. read grammar (turned [] (reading.lines + 1) turn) lines) e ∙ read_stays grammar (reading.lines + 1) why reading.asked lines

-- Whatever follows, the line fails by its size.
pub record FailsBySize (grammar : Grammar) (reading : Reading) (held : Text) (why : Reason) : Type 0 where
  pub begun : (more : Text) → begun_fault grammar reading.block reading.bytes (held ++ more) ≡ Some why
  pub whole : (more : Text) → turn_of grammar (held ++ more) reading ≡ Fails why reading.asked

-- what the end gives, if no part of the last line is at fault by its size
abbrev stands_by : Grammar → Bool → Text → Reading → Commands
stands_by grammar over rest reading =
    cond over (commands_with [] (FaultAt (reading.lines + 1) reason.InputTooLong) reading.asked) (end_turned [] (reading.lines + 1) (last_turn grammar reading.block rest reading))

fails_onto : (grammar : Grammar) (reading : Reading) (held : Text) (why : Reason) (over : Bool) (lines : List Text) (rest : Text) → FailsBySize grammar reading held why
    → by_lines grammar reading over (onto_text held lines rest) ≡ commands_with [] (FaultAt (reading.lines + 1) why) reading.asked
fails_onto grammar reading held why over [] rest fails =
    no_lines grammar reading over (held ++ rest)
    ∙ ap (λ (f : Option Reason). unless_begun_fault f [] reading (stands_by grammar over (held ++ rest) reading)) (fails.begun rest)
fails_onto grammar reading held why over (line ∷ lines) rest fails =
    ap (λ (made : LinesRead). ended grammar over rest made.batches made.reached) (read_first grammar reading why (held ++ line) lines (fails.whole line))

pub commands_fail : (grammar : Grammar) (reading : Reading) (held more : Text) (why : Reason) → NoFeed held → reading.used + length held ≤ grammar.input → FailsBySize grammar reading held why
    → commands_from grammar reading (held ++ more) ≡ commands_with [] (FaultAt (reading.lines + 1) why) reading.asked
commands_fail grammar reading held more why whole h fails =
    let room : ℕ = grammar.input - reading.used in
    let over : Bool = nat_lt (grammar.input - reading.used) (length (held ++ more)) in
    let cut : take (grammar.input - reading.used) (held ++ more) ≡ held ++ take (grammar.input - reading.used - length held) more =
    (let e : grammar.input - reading.used ≡ length held + (grammar.input - reading.used - length held) = omega (arith, h) in
    ap (λ (n : ℕ). take n (held ++ more)) e ∙ take-append-add held more (grammar.input - reading.used - length held)) in
    let rest : Text = take (grammar.input - reading.used - length held) more in
    ap (λ (beginning : Text). given_by grammar reading beginning over) cut
    ∙ ap (by_lines grammar reading over) (lines_onto held rest whole)
    ∙ fails_onto grammar reading held why over (lines_of rest).ended (lines_of rest).rest fails

-- ---- sizes

size_without_return : (line : Text) → length line ≤ length (without_return line) + 1
size_without_return line =
    elim (cases_Bool (get_or line (length line - 1) 0 == 0x0D)) [
      | inl t ↦ rw t (omega (arith, length-take (length line - 1) line))
      | inr f ↦ rw f (omega arith)
    ]

size_undotted : (line : Text) → length line ≤ length (undotted line) + 1
size_undotted line =
    elim (cases_Bool (get_or line 0 0 == 0x2E)) [
      | inl t ↦ rw t (omega (arith, length-drop 1 line))
      | inr f ↦ rw f (omega arith)
    ]

no_end : (line : Text) → 2 < length line → is_end line ≡ false
no_end line long =
    false_from_ne_true (is_end line) (λ e.
    let same : without_return line ≡ codes "." = (bytes_eq-Decides (without_return line) (codes ".")).0 e in
    let size : length (without_return line) ≡ 1 = ap length same in
    omega (arith, long, size, size_without_return line))

module _ (limits : ScriptLimits) (lanes : ℕ) (reading : Reading) (held : Text) where
  abbrev by : Grammar
  by = grammar_of limits lanes

  abbrev counted_with : Text → Reading
  counted_with more = counted (length (held ++ more) + 1) reading

  line_is_long : limits.line + 1 < length held → (more : Text) → line_fault by (held ++ more) ≡ Some reason.LineTooLong
  line_is_long long more =
      let passes : nat_lt limits.line (length (without_return (held ++ more))) ≡ true =
      lt-ltb limits.line (length (without_return (held ++ more))) (omega (arith, long, size_without_return (held ++ more), length-append held more)) in
      ap (λ (b : Bool). cond {A = Option Reason} b (Some reason.LineTooLong) None) passes

  -- A line outside a block of which too much has been read.
  pub line_fails : reading.block ≡ None → limits.line + 1 < length held → FailsBySize by reading held reason.LineTooLong
  line_fails e long = record {
    begun = λ more. ap (λ (block : Option Open). begun_fault by block reading.bytes (held ++ more)) e ∙ line_is_long long more;
    whole = λ more. ap (λ (block : Option Open). line_in by block (held ++ more) (counted_with more)) e
        ∙ ap (λ (f : Option Reason). unless_fault f (counted_with more) (does by (by.says (without_return (held ++ more))) (counted_with more))) (line_is_long long more);
  }

  body_is_long : (body : List ℕ) → limits.block < length body → body_fault by reading.bytes body ≡ Some reason.BlockTooLong
  body_is_long body h =
      ap (λ (b : Bool). cond {A = Option Reason} b (Some reason.BlockTooLong) (cond {A = Option Reason} (nat_lt limits.bytes (reading.bytes + length body)) (Some reason.BatchBytes) None)) (lt-ltb limits.block (length body) h)

  size_after : (block : Open) → limits.block + 2 < length held + length block.body → (more : Text) → limits.block < length (body_after block (held ++ more))
  size_after block long more = omega (arith, long, length-append held more, size_undotted (held ++ more), length-append block.body (undotted (held ++ more)))

  -- A line of a block of which too much has been read.
  pub block_fails : (block : Open) → reading.block ≡ Some block → length block.body ≤ limits.block → limits.block + 2 < length held + length block.body
      → FailsBySize by reading held reason.BlockTooLong
  block_fails block e short long =
      let goes_on : (more : Text) → is_end (held ++ more) ≡ false = λ more. no_end (held ++ more) (omega (arith, short, long, length-append held more)) in
      record {
        begun = λ more. ap (λ (b : Option Open). begun_fault by b reading.bytes (held ++ more)) e
            ∙ ap (λ (b : Bool). cond {A = Option Reason} b None (body_fault by reading.bytes (body_after block (held ++ more)))) (goes_on more)
            ∙ body_is_long (body_after block (held ++ more)) (size_after block long more);
        whole = λ more. ap (λ (b : Option Open). line_in by b (held ++ more) (counted_with more)) e
            ∙ ap (λ (b : Bool). cond {A = Turn} b (Goes (block_ended block (counted_with more)))
            (unless_fault (body_fault by reading.bytes (body_after block (held ++ more) ++ 0x0A ∷ [])) (counted_with more) (Goes (with_body block (body_after block (held ++ more) ++ 0x0A ∷ []) (counted_with more))))) (goes_on more)
            ∙ ap (λ (f : Option Reason). unless_fault f (counted_with more) (Goes (with_body block (body_after block (held ++ more) ++ 0x0A ∷ []) (counted_with more))))
            (body_is_long (body_after block (held ++ more) ++ 0x0A ∷ []) (omega (arith, size_after block long more, length-append (body_after block (held ++ more)) (0x0A ∷ []))));
      }

-- ---- what is held

pub held_over : (limits : ScriptLimits) (lanes : ℕ) (reading : Reading) (held : Text) (fault : Option Reason) → NoFeed (take (limits.input - reading.used) held) → limits.input - reading.used < length held
    → fault ≡ begun_fault (grammar_of limits lanes) reading.block reading.bytes (take (limits.input - reading.used) held) → (paths : List Text) (later : List File) (more : List ℕ)
    → commands_from (grammar_of limits lanes) (reading_at reading paths later) (held ++ more) ≡ commands_with [] (FaultAt (reading.lines + 1) (unwrap_or fault reason.InputTooLong)) paths
held_over limits lanes reading held fault whole past e paths later more =
    commands_over (grammar_of limits lanes) (reading_at reading paths later) held more whole past
    ∙ over_fault (grammar_of limits lanes) (take (limits.input - reading.used) held) (reading_at reading paths later) fault e

held_long : (limits : ScriptLimits) (lanes : ℕ) (reading : Reading) (held : Text) (longest : ℕ) (block : Option Open) → reading.block ≡ block → NoFeed held → reading.used + length held ≤ limits.input
    → (block ≡ None → longest ≡ limits.line + 1) → IfSome block (λ b. longest + length b.body ≡ limits.block + 2) → IfSome block (λ b. length b.body ≤ limits.block) → longest < length held
    → (paths : List Text) (later : List File) (more : List ℕ)
    → commands_from (grammar_of limits lanes) (reading_at reading paths later) (held ++ more) ≡ commands_with [] (FaultAt (reading.lines + 1) (too_long block)) paths
held_long limits lanes reading held longest None e whole fits line block body long paths later more =
    commands_fail (grammar_of limits lanes) (reading_at reading paths later) held more reason.LineTooLong whole fits (line_fails limits lanes (reading_at reading paths later) held e (omega (arith, long, line refl)))
held_long limits lanes reading held longest (Some b) e whole fits line block body long paths later more =
    commands_fail (grammar_of limits lanes) (reading_at reading paths later) held more reason.BlockTooLong whole fits
    (block_fails limits lanes (reading_at reading paths later) held b e body (omega (arith, long, block)))

pub held_too_long : (limits : ScriptLimits) (lanes : ℕ) (reading : Reading) (held : Text) (longest : ℕ) → NoFeed held → reading.used + length held ≤ limits.input
    → (reading.block ≡ None → longest ≡ limits.line + 1) → IfSome reading.block (λ b. longest + length b.body ≡ limits.block + 2) → IfSome reading.block (λ b. length b.body ≤ limits.block) → longest < length held
    → (paths : List Text) (later : List File) (more : List ℕ)
    → commands_from (grammar_of limits lanes) (reading_at reading paths later) (held ++ more) ≡ commands_with [] (FaultAt (reading.lines + 1) (too_long reading.block)) paths
held_too_long limits lanes reading held longest = held_long limits lanes reading held longest reading.block refl
