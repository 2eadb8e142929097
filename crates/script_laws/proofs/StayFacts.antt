-- The batches that lines give do not change, whatever follows.
use Rattle.std.proofs.Common.{◌≡◌, refl, ap, sym, ◌∙◌, subst, ℕ, ◌+◌, ◌-◌, ◌≤◌, List, [], ◌∷◌, ◌++◌, Bool, true, false, codes, length, take, arith, length-append}
use Rattle.std.specs.Prelude.{if◌then◌else◌, nat_lt, Option, None, Some, ⊤}
use Rattle.std.specs.List.{AllByRecursion}
use Rattle.std.proofs.lemmas.Bool.{le-ltb}
use Rattle.std.proofs.lemmas.List.{append-nil, take_all}
use Rattle.std.proofs.lemmas.Slice.Eq.{bytes_eq-Decides}
use Rattle.lake_model.specs.Texts.{Text, Lines, lines_of, lines_with}
use Rattle.script_model.specs.declared.Reason.{Reason}
use Rattle.script_model.specs.declared.Reason.TheVariants as reason
use Rattle.script_model.specs.declared.ScriptLimits.{ScriptLimits}
use Rattle.script_model.specs.Commands.{Batch, File}
use Rattle.script_model.specs.Reading.{AtFault, Fails, Gives, Goes, Grammar, LinesRead, Open, Reached, Reading, Stands, Turn, batch_ended, block_ended, body_after, body_fault, counted, does, is_end, line_fault, line_in, read, read_more, read_with, turn_of, turned, unless_fault, with_body}
use Rattle.script_model.specs.Saying.{Said, Sync, Wrong, said}
use Rattle.script_model.specs.Script.{Commands, at_end, begun_fault, commands, end_turned, ended, grammar_of, last_turn, start, last_batch, unless_begun_fault}
use Rattle.script_model.specs.Words.{NoFeed, without_return}
use Rattle.script_model.proofs.LinesLemmas.{lines_whole}
use Rattle.list_laws.proofs.ListLemmas.{all_append}
use Rattle.script_model.proofs.ScriptLemmas.{batches_first, read_on}
use Rattle.script_laws.specs.ScriptLaws.{BatchesStay, SyncedStay, line_batches}
use Rattle.script_text.specs.Gathering.{lines_text}

pub batches_stay : BatchesStay
batches_stay limits lanes text more files fits =
    let (later, is) = batches_first (grammar_of limits lanes) (start files) text more (omega (arith, fits)) in
    (later.batches, ap (λ (c : Commands). c.batches) is)

-- ---- after a `sync`

-- no command is at hand, or a block is open
abbrev OrOpen : Option Open → Reading → Type 0
OrOpen None reading = reading.commands ≡ []
OrOpen (Some block) reading = ⊤

abbrev IsEmpty : Reached → Type 0
IsEmpty (Stands reading) = OrOpen reading.block reading
IsEmpty (AtFault line why asked) = ⊤

abbrev IsEmptyTurn : Turn → Type 0
IsEmptyTurn (Goes reading) = OrOpen reading.block reading
IsEmptyTurn (Gives batch reading) = OrOpen reading.block reading
IsEmptyTurn (Fails why asked) = ⊤

module _ (limits : ScriptLimits) (lanes : ℕ) where
  abbrev by : Grammar
  by = grammar_of limits lanes

  unless_empty : (fault : Option Reason) (reading : Reading) (turn : Turn) → IsEmptyTurn turn → IsEmptyTurn (unless_fault fault reading turn)
  unless_empty None reading turn h = h
  unless_empty (Some why) reading turn h = tt

  -- a `sync` outside a block leaves no command; in a block it is a line of the block
  line_empty : (block : Option Open) (sync : Text) (reading : Reading) → reading.block ≡ block → said lanes (without_return sync) ≡ Sync → IsEmptyTurn (line_in by block sync reading)
  line_empty None sync reading is says =
      unless_empty (line_fault by sync) reading (does by (said lanes (without_return sync)) reading)
      (subst (λ (s : Said). IsEmptyTurn (does by s reading)) (sym says) (subst (λ (b : Option Open). OrOpen b (batch_ended reading)) (sym is) refl))
  line_empty (Some block) sync reading is says = by_end (is_end sync) refl
    where
      by_end : (b : Bool) → is_end sync ≡ b → IsEmptyTurn (if b then Goes (block_ended block reading) else unless_fault (body_fault by reading.bytes (body_after block sync ++ 0x0A ∷ [])) reading (Goes (with_body block (body_after block sync ++ 0x0A ∷ []) reading)))
      by_end true t =
          let dot : without_return sync ≡ codes "." = (bytes_eq-Decides (without_return sync) (codes ".")).0 t in
          let no : Sync ≡ Wrong reason.Unknown = sym says ∙ ap (said lanes) dot in absurd (let none : Sync ≡ Wrong reason.Unknown = no in cc)
      by_end false f = unless_empty (body_fault by reading.bytes (body_after block sync ++ 0x0A ∷ [])) reading (Goes (with_body block (body_after block sync ++ 0x0A ∷ []) reading)) tt

  turned_empty : (batches : List Batch) (line : ℕ) (turn : Turn) → IsEmptyTurn turn → IsEmpty (turned batches line turn).reached
  turned_empty batches line (Goes reading) h = h
  turned_empty batches line (Gives batch reading) h = h
  turned_empty batches line (Fails why asked) h = tt

  sync_empty : (batches : List Batch) (reached : Reached) (sync : Text) → said lanes (without_return sync) ≡ Sync → IsEmpty (read_more by batches reached sync).reached
  sync_empty batches (Stands reading) sync says = turned_empty batches (reading.lines + 1) (turn_of by sync reading) (line_empty reading.block sync (counted (length sync + 1) reading) refl says)
  sync_empty batches (AtFault at why asked) sync says = tt

  -- then the end of the input gives no further batch
  at_end_same : (batches : List Batch) (block : Option Open) (reading : Reading) → OrOpen block reading → (at_end batches block reading).batches ≡ batches
  at_end_same batches None reading h = ap (λ (b : Batch). batches ++ last_batch b) h ∙ append-nil batches
  at_end_same batches (Some block) reading h = refl

  unless_same : (fault : Option Reason) (batches : List Batch) (reading : Reading) (made : Commands) → made.batches ≡ batches → (unless_begun_fault fault batches reading made).batches ≡ batches
  unless_same None batches reading made e = e
  unless_same (Some why) batches reading made e = refl

  last_is : (block : Option Open) (reading : Reading) → last_turn by block [] reading ≡ Goes reading
  last_is None reading = refl
  last_is (Some block) reading = refl

  ended_same : (batches : List Batch) (reached : Reached) → IsEmpty reached → (ended by false [] batches reached).batches ≡ batches
  ended_same batches (AtFault line why asked) h = refl
  ended_same batches (Stands reading) h =
      unless_same (begun_fault by reading.block reading.bytes []) batches reading (end_turned batches (reading.lines + 1) (last_turn by reading.block [] reading))
      (ap (λ (t : Turn). (end_turned batches (reading.lines + 1) t).batches) (last_is reading.block reading) ∙ at_end_same batches reading.block reading h)

  -- the lines of a text that ends with a whole line
  lines_are : (lines : List Text) → AllByRecursion NoFeed lines → lines_of (lines_text lines) ≡ lines_with lines []
  unfolding lines_of
  lines_are lines whole =
      ap lines_of (sym (append-nil (lines_text lines))) ∙ lines_whole lines [] whole ∙ ap (λ (ls : List Text). lines_with ls []) (append-nil lines)

  read_all : List File → List Text → LinesRead
  read_all files lines = read by (read_with [] (Stands (start files))) lines

  all_empty : (files : List File) (lines : List Text) (sync : Text) → said lanes (without_return sync) ≡ Sync → IsEmpty (read_all files (lines ++ sync ∷ [])).reached
  unfolding read_all read
  all_empty files lines sync says =
      let before : LinesRead = read by (read_with [] (Stands (start files))) lines in
      subst (λ (made : LinesRead). IsEmpty made.reached) (sym (read_on by (read_with [] (Stands (start files))) lines (sync ∷ [])))
      (sync_empty (read by (read_with [] (Stands (start files))) lines).batches (read by (read_with [] (Stands (start files))) lines).reached sync says)

  commands_are : (files : List File) (lines : List Text) → AllByRecursion NoFeed lines → length (lines_text lines) ≤ limits.input
      → commands limits lanes (lines_text lines) files ≡ ended by false [] (read_all files lines).batches (read_all files lines).reached
  unfolding read_all
  commands_are files lines whole fits =
      let text : Text = lines_text lines in
      let short : nat_lt (limits.input - 0) (length (lines_text lines)) ≡ false = le-ltb (limits.input - 0) (length (lines_text lines)) (omega (arith, fits)) in
      let cut : take (limits.input - 0) (lines_text lines) ≡ lines_text lines = take_all (limits.input - 0) (lines_text lines) (omega (arith, fits)) in
      ap (λ (over : Bool). let ls : Lines = lines_of (take (limits.input - 0) (lines_text lines)) in ended by over ls.rest (read by (read_with [] (Stands (start files))) ls.ended).batches (read by (read_with [] (Stands (start files))) ls.ended).reached) short
      ∙ ap (λ (ls : Lines). ended by false ls.rest (read by (read_with [] (Stands (start files))) ls.ended).batches (read by (read_with [] (Stands (start files))) ls.ended).reached) (ap lines_of cut ∙ lines_are lines whole)

  line_batches_are : (files : List File) (lines : List Text) → AllByRecursion NoFeed lines → line_batches limits lanes (lines_text lines) files ≡ (read_all files lines).batches
  unfolding read_all
  line_batches_are files lines whole = ap (λ (ls : Lines). (read by (read_with [] (Stands (start files))) ls.ended).batches) (lines_are lines whole)

pub synced_stay : SyncedStay
synced_stay limits lanes lines sync more files whole no_feed says fits =
    let all : List Text = lines ++ sync ∷ [] in
    let wholes : AllByRecursion NoFeed (lines ++ sync ∷ []) = all_append NoFeed lines (sync ∷ []) whole (no_feed, tt) in
    let short : length (lines_text (lines ++ sync ∷ [])) ≤ limits.input = omega (arith, fits, length-append (lines_text (lines ++ sync ∷ [])) more) in
    let same : (commands limits lanes (lines_text (lines ++ sync ∷ [])) files).batches ≡ line_batches limits lanes (lines_text (lines ++ sync ∷ [])) files =
    ap (λ (c : Commands). c.batches) (commands_are limits lanes files (lines ++ sync ∷ []) wholes short)
    ∙ ended_same limits lanes (read_all limits lanes files (lines ++ sync ∷ [])).batches (read_all limits lanes files (lines ++ sync ∷ [])).reached (all_empty limits lanes files lines sync says)
    ∙ sym (line_batches_are limits lanes files (lines ++ sync ∷ []) wholes) in
    let (later, is) = batches_stay limits lanes (lines_text (lines ++ sync ∷ [])) more files fits in
    (later, is ∙ ap (λ (bs : List Batch). bs ++ later) (sym same))
