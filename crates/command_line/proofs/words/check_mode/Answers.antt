use Rattle.std.proofs.Common.{◌≡◌, ◌⊎◌, None, Some, Option, IfErr, IfOk, map, string_bytes, subst, Global}
use Rattle.clap.specs.Words.{app_of, found_of, kind_of, rows_of}
use Rattle.clap.proofs.TakesLemmas.{passed_up}
use Rattle.option_model.specs.Plain.{Mode}
use Rattle.command_line.specs.Words.{check_command, check_held, mode_of, refusal_by}
use Rattle.command_line.specs.declared.words.WordsRefused.TheVariants as refused
use Rattle.command_line.proofs.CommandLemmas.{check_in_range, check_is_free, ok_more, refused_for, said_by}
use Rattle.command_line.proofs.words.check_mode.Goals as goal

pub returns-in_err-matches-clause-refused : goal.returns-in_err-matches-clause-refused
returns-in_err-matches-clause-refused c =
    let what = kind_of c.in_err-matches.field-0.0 in
    passed_up c.from_residual-in_err-matches.result (refusal_by what) _ c.from_residual-in_err-matches.ensures.1
    (refused_for check_command (app_of c.in_ok-check_command.field-0) check_held (map (string_bytes {Z = Global}) c.args.words.now) what check_is_free c.in_ok-check_command.ensures c.in_err-matches.ensures.kinds)

pub returns-clause-read : goal.returns-clause-read
returns-clause-read c =
    subst (λ (o : Option Mode). IfOk c.check_held.result (λ mode. o ≡ Some (mode_of mode)))
    (said_by check_command (app_of c.in_ok-check_command.field-0) check_held (map (string_bytes {Z = Global}) c.args.words.now) (rows_of (found_of c.in_ok-matches.matches))
    check_is_free c.in_ok-check_command.ensures c.in_ok-matches.ensures.matches c.in_ok-matches.ensures.kinds)
    c.check_held.ensures.read

pub returns-clause-refused : goal.returns-clause-refused
returns-clause-refused c =
    subst (λ (o : Option Mode). IfErr c.check_held.result (λ e. (e ≡ refused.NoMemory) ⊎ (o ≡ None)))
    (said_by check_command (app_of c.in_ok-check_command.field-0) check_held (map (string_bytes {Z = Global}) c.args.words.now) (rows_of (found_of c.in_ok-matches.matches))
    check_is_free c.in_ok-check_command.ensures c.in_ok-matches.ensures.matches c.in_ok-matches.ensures.kinds)
    c.check_held.ensures.refused

pub returns-clause-in_range : goal.returns-clause-in_range
returns-clause-in_range c = ok_more c.check_held.result _ _
    (λ mode. check_in_range c.in_ok-check_command.field-0 c.in_ok-matches.matches c.in_ok-matches.ensures.parsed c.in_ok-check_command.ensures (mode_of mode)) c.check_held.ensures.read
