-- What refuses a load: a live table of its name, or else the first limit that it would pass. What refuses a drop: that
-- no table of its name is live, or else the limit that it would pass. What refuses a replace: that no table of its name
-- is live, or else the first limit that it would pass.
use Rattle.std.specs.Prelude.{List, length, Option, Some, option_map, find, if◌then◌else◌}
use Rattle.lake_model.specs.declared.Counts.{Counts}
use Rattle.lake_model.specs.Texts.{Text}
use Rattle.lake_model.specs.Tables.{Table}
use Rattle.lake_model.specs.Journal.{Entry, is_live, counts}
use Rattle.lake_model.specs.Limits.{Bounded, is_passed, load_bounds, drop_bounds, replace_bounds}
use Rattle.catalogue.specs.declared.refusal.LoadRefused.{LoadRefused}
use Rattle.catalogue.specs.declared.refusal.LoadRefused.TheVariants.{Repeated, Full}
use Rattle.catalogue.specs.declared.refusal.DropRefused.{DropRefused}
use Rattle.catalogue.specs.declared.refusal.DropRefused.TheVariants as drop
use Rattle.catalogue.specs.declared.refusal.ReplaceRefused.{ReplaceRefused}
use Rattle.catalogue.specs.declared.refusal.ReplaceRefused.TheVariants as replace
use Rattle.catalogue.specs.declared.refusal.Passed.{Passed}

abbrev pub load_refusal : Counts → Table → List Entry → Option LoadRefused
load_refusal limits table journal =
    if is_live journal table.name then Some (Repeated (length journal))
    else option_map (λ b. Full b.which b.count b.more (length journal)) (find is_passed (load_bounds limits table (counts journal)))

abbrev pub drop_refusal : Counts → Text → List Entry → Option DropRefused
drop_refusal limits name journal =
    if is_live journal name
    then option_map (λ b. drop.Full b.which b.count b.more (length journal)) (find is_passed (drop_bounds limits (counts journal)))
    else Some (drop.Unknown (length journal))

abbrev pub replace_refusal : Counts → Table → List Entry → Option ReplaceRefused
replace_refusal limits table journal =
    if is_live journal table.name
    then option_map (λ b. replace.Full b.which b.count b.more (length journal)) (find is_passed (replace_bounds limits table (counts journal)))
    else Some (replace.Unknown (length journal))

-- a limit that would be passed, as the code states it
abbrev pub passed_of : Bounded → Passed
passed_of b = record { which = b.which; count = b.count; more = b.more }
