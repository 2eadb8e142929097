-- Worked scripts, from their bytes to their batches, or to the line at fault.
use Rattle.std.proofs.Common.{◌≡◌, refl, ℕ, List, [], ◌∷◌}
use Rattle.std.specs.Prelude.{codes, flat_map}
use Rattle.lake_model.specs.Texts.{lines_of}
use Rattle.script_model.specs.declared.Reason.TheVariants as reason
use Rattle.script_model.specs.Commands.{Replace, command_with}
use Rattle.script_model.specs.Words.{line_text}
use Rattle.script_model.specs.Reading.{read}
use Rattle.script_model.specs.Script.{Commands, commands, standard, FaultAt}

abbrev lines : List (List ℕ) → List ℕ
lines texts = flat_map line_text texts

abbrev commands_of : List ℕ → Commands
commands_of script = commands standard 1 script []

-- a table is replaced from its block
replaced : (commands_of (lines (codes "replace t" ∷ codes "c" ∷ codes "x" ∷ codes "." ∷ []))).batches ≡ (command_with 1 1 (Replace (codes "t") (lines (codes "c" ∷ codes "x" ∷ []))) ∷ []) ∷ []
unfolding lines_of read
replaced = refl

-- the table that is replaced has no name
no_name : (commands_of (lines (codes "replace" ∷ codes "c" ∷ codes "." ∷ []))).end ≡ FaultAt 1 reason.Words
unfolding lines_of read
no_name = refl

-- a line whose command word is unknown
unknown : (commands_of (lines (codes "load t" ∷ codes "c" ∷ codes "x" ∷ codes "." ∷ codes "find" ∷ []))).end ≡ FaultAt 5 reason.Unknown
unfolding lines_of read
unknown = refl

-- more rows than may be asked for
too_many_rows : (commands_of (lines (codes "search 10001" ∷ []))).end ≡ FaultAt 1 reason.Words
unfolding lines_of read
too_many_rows = refl

-- the input ends inside a block
no_end : (commands_of (lines (codes "load p" ∷ codes "v" ∷ codes ".." ∷ codes "." ∷ codes "search 1" ∷ codes ".." ∷ codes "." ∷ codes "search 1" ∷ codes "a" ∷ []))).end ≡ FaultAt 8 reason.NoEnd
unfolding lines_of read
no_end = refl
