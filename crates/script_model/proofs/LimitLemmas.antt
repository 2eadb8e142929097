-- What follows the limit of a script changes nothing, and a script that exceeds its limit is at fault.
use Rattle.std.proofs.Common.{◌≡◌, ap, sym, ◌∙◌, subst, ℕ, ◌+◌, ◌-◌, ◌<◌, List, [], ◌++◌, Bool, true, length, arith, length-append}
use Rattle.std.specs.Prelude.{nat_lt, Option, Some, None}
use Rattle.std.proofs.lemmas.List.{take-append-le}
use Rattle.std.proofs.lemmas.Bool.{lt-ltb}
use Rattle.script_model.specs.declared.Reason.{Reason}
use Rattle.script_model.specs.declared.Reason.TheVariants as reason
use Rattle.lake_model.specs.Texts.{Text, lines_of}
use Rattle.script_model.specs.Commands.{Batch}
use Rattle.script_model.specs.Reading.{Grammar, Reading, Reached, Stands, AtFault, LinesRead, read, read_with}
use Rattle.script_model.specs.Script.{Whole, FaultAt, Commands, commands_with, commands_from, within, ended, begun_fault, unless_begun_fault}

-- the result for an input, from its beginning within the limit and whether it exceeds the limit
abbrev pub given_by : Grammar → Reading → Text → Bool → Commands
given_by grammar reading beginning over =
    let made = read grammar (read_with [] (Stands reading)) (lines_of beginning).ended in
    ended grammar over (lines_of beginning).rest made.batches made.reached

pub commands_past : (grammar : Grammar) (reading : Reading) (given rest : Text) → grammar.input - reading.used < length given
    → commands_from grammar reading (given ++ rest) ≡ commands_from grammar reading given
commands_past grammar reading given rest past =
    let room : ℕ = grammar.input - reading.used in
    let longer : nat_lt (grammar.input - reading.used) (length (given ++ rest)) ≡ true = lt-ltb (grammar.input - reading.used) (length (given ++ rest)) (omega (arith, past, length-append given rest)) in
    let long : nat_lt (grammar.input - reading.used) (length given) ≡ true = lt-ltb (grammar.input - reading.used) (length given) past in
    ap (given_by grammar reading (within grammar reading (given ++ rest))) longer
    ∙ ap (λ beginning. given_by grammar reading beginning true) (take-append-le (grammar.input - reading.used) given rest (omega (arith, past)))
    ∙ ap (given_by grammar reading (within grammar reading given)) (sym long)

is_fault : (line : ℕ) (why : Reason) → FaultAt line why ≡ Whole → ⊥
is_fault line why e = cc

begun_or_over : (fault : Option Reason) (batches : List Batch) (reading : Reading) → (unless_begun_fault fault batches reading (commands_with batches (FaultAt (reading.lines + 1) reason.InputTooLong) reading.asked)).end ≡ Whole → ⊥
begun_or_over None batches reading e = is_fault _ _ e
begun_or_over (Some why) batches reading e = is_fault _ _ e

over_faulty : (grammar : Grammar) (rest : Text) (batches : List Batch) (reached : Reached) → (ended grammar true rest batches reached).end ≡ Whole → ⊥
over_faulty grammar rest batches (AtFault line why asked) e = is_fault line why e
over_faulty grammar rest batches (Stands reading) e = begun_or_over (begun_fault grammar reading.block reading.bytes rest) batches reading e

pub passes_faulty : (grammar : Grammar) (reading : Reading) (given : Text) → grammar.input - reading.used < length given → (commands_from grammar reading given).end ≡ Whole → ⊥
passes_faulty grammar reading given past whole =
    let long : nat_lt (grammar.input - reading.used) (length given) ≡ true = lt-ltb (grammar.input - reading.used) (length given) past in
    let made : LinesRead = read grammar (read_with [] (Stands reading)) (lines_of (within grammar reading given)).ended in
    over_faulty grammar (lines_of (within grammar reading given)).rest made.batches made.reached (subst (λ over. (given_by grammar reading (within grammar reading given) over).end ≡ Whole) long whole)
