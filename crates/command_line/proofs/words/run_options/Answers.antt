use Rattle.std.proofs.Common.{◌≡◌, ◌⊎◌, None, Some, Option, IfErr, IfOk, map, string_bytes, subst, Global}
use Rattle.clap.specs.Words.{app_of, found_of, kind_of, rows_of}
use Rattle.clap.proofs.TakesLemmas.{passed_up}
use Rattle.script_model.specs.Options.{Options}
use Rattle.command_line.specs.Words.{options_held, refusal_by, run_command}
use Rattle.command_line.specs.declared.words.WordsRefused.TheVariants as refused
use Rattle.command_line.proofs.CommandLemmas.{ok_more, options_in_range, refused_for, run_is_free, said_by}
use Rattle.command_line.proofs.words.run_options.Goals as goal

pub returns-in_err-matches-clause-refused : goal.returns-in_err-matches-clause-refused
returns-in_err-matches-clause-refused c =
    let what = kind_of c.in_err-matches.field-0.0 in
    passed_up c.from_residual-in_err-matches.result (refusal_by what) _ c.from_residual-in_err-matches.ensures.1
    (refused_for run_command (app_of c.in_ok-run_command.field-0) options_held (map (string_bytes {Z = Global}) c.args.words.now) what run_is_free c.in_ok-run_command.ensures c.in_err-matches.ensures.kinds)

pub returns-clause-read : goal.returns-clause-read
returns-clause-read c =
    subst (λ (o : Option Options). IfOk c.options_held.result (λ options. o ≡ Some options))
    (said_by run_command (app_of c.in_ok-run_command.field-0) options_held (map (string_bytes {Z = Global}) c.args.words.now) (rows_of (found_of c.in_ok-matches.matches))
    run_is_free c.in_ok-run_command.ensures c.in_ok-matches.ensures.matches c.in_ok-matches.ensures.kinds)
    c.options_held.ensures.read

pub returns-clause-refused : goal.returns-clause-refused
returns-clause-refused c =
    subst (λ (o : Option Options). IfErr c.options_held.result (λ e. (e ≡ refused.NoMemory) ⊎ (o ≡ None)))
    (said_by run_command (app_of c.in_ok-run_command.field-0) options_held (map (string_bytes {Z = Global}) c.args.words.now) (rows_of (found_of c.in_ok-matches.matches))
    run_is_free c.in_ok-run_command.ensures c.in_ok-matches.ensures.matches c.in_ok-matches.ensures.kinds)
    c.options_held.ensures.refused

pub returns-clause-in_range : goal.returns-clause-in_range
returns-clause-in_range c = ok_more c.options_held.result _ _
    (options_in_range c.in_ok-run_command.field-0 c.in_ok-matches.matches c.in_ok-matches.ensures.parsed c.in_ok-run_command.ensures) c.options_held.ensures.read
