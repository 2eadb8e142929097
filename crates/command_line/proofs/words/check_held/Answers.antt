use Rattle.std.proofs.Common.{◌∙◌, ap, codes, inr, refl, sym, Option, Some}
use Rattle.std.specs.Prelude.{option_map}
use Rattle.std.specs.Borrow.{Bor}
use Rattle.clap.specs.Words.{Text, found_of, rows_of}
use Rattle.clap.proofs.WalkLemmas.{first_value-rows}
use Rattle.option_model.specs.Plain.{Check}
use Rattle.command_line.specs.Words.{options_checked}
use Rattle.command_line.proofs.CommandLemmas.{check_by}
use Rattle.command_line.proofs.words.check_held.Goals as goal

pub returns-in_default-clause-refused : goal.returns-in_default-clause-refused
returns-in_default-clause-refused c =
    let matches = rows_of (found_of c.args.matches.now) in
    inr (sym (check_by matches (option_map (λ s. s.now) c.get_str.result) (options_checked matches) (c.get_str.ensures ∙ first_value-rows (found_of c.args.matches.now) (codes "path")) refl)
    ∙ ap (λ (o : Option (Bor Text)). option_map (λ p. Check p (options_checked matches)) (option_map (λ s. s.now) o)) c.in_default.is)

pub returns-clause-read : goal.returns-clause-read
returns-clause-read c =
    let matches = rows_of (found_of c.args.matches.now) in
    let options = c.options_checked-options.result in
    sym (check_by matches (option_map (λ s. s.now) c.get_str.result) options (c.get_str.ensures ∙ first_value-rows (found_of c.args.matches.now) (codes "path")) c.options_checked-options.ensures)
    ∙ ap (λ (o : Option (Bor Text)). option_map (λ p. Check p options) (option_map (λ s. s.now) o)) c.in-Some.is
    ∙ ap (λ (text : Text). Some (Check text options)) (sym c.in-Ok.ensures.ok)
