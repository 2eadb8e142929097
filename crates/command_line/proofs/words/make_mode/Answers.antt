use Rattle.std.proofs.Common.{◌≡◌, ◌⊎◌, None, Some, IfErr, IfOk, map, string_bytes, subst, sym, Global}
use Rattle.clap.specs.Words.{app_of, found_of, kind_of, rows_of}
use Rattle.clap.proofs.TakesLemmas.{passed_up}
use Rattle.command_line.specs.Words.{IsModeInRange, make_command, make_held, make_words, mode_of, refusal_by}
use Rattle.command_line.specs.declared.words.WordsRefused.TheVariants as refused
use Rattle.command_line.proofs.CommandLemmas.{made_in_range, made_read, made_refused, make_is_free, refused_for, said_by}
use Rattle.command_line.proofs.words.make_mode.Goals as goal

pub returns-in_err-matches-clause-refused : goal.returns-in_err-matches-clause-refused
returns-in_err-matches-clause-refused c =
    let what = kind_of c.in_err-matches.field-0.0 in
    passed_up c.from_residual-in_err-matches.result (refusal_by what) _ c.from_residual-in_err-matches.ensures.1
    (refused_for make_command (app_of c.in_ok-make_command.field-0) make_held (map (string_bytes {Z = Global}) c.args.words.now) what make_is_free c.in_ok-make_command.ensures c.in_err-matches.ensures.kinds)

pub returns-clause-read : goal.returns-clause-read
returns-clause-read c =
    subst (λ r. IfOk r (λ mode. make_words (map (string_bytes {Z = Global}) c.args.words.now) ≡ Some (mode_of mode))) (sym c.ok_or.ensures.value)
    (made_read c.make_held.result (make_held (rows_of (found_of c.in_ok-matches.matches))) _ c.make_held.ensures
    (said_by make_command (app_of c.in_ok-make_command.field-0) make_held (map (string_bytes {Z = Global}) c.args.words.now) (rows_of (found_of c.in_ok-matches.matches))
    make_is_free c.in_ok-make_command.ensures c.in_ok-matches.ensures.matches c.in_ok-matches.ensures.kinds))

pub returns-clause-refused : goal.returns-clause-refused
returns-clause-refused c =
    subst (λ r. IfErr r (λ e. (e ≡ refused.NoMemory) ⊎ (make_words (map (string_bytes {Z = Global}) c.args.words.now) ≡ None))) (sym c.ok_or.ensures.value)
    (made_refused c.make_held.result (make_held (rows_of (found_of c.in_ok-matches.matches))) _ c.make_held.ensures
    (said_by make_command (app_of c.in_ok-make_command.field-0) make_held (map (string_bytes {Z = Global}) c.args.words.now) (rows_of (found_of c.in_ok-matches.matches))
    make_is_free c.in_ok-make_command.ensures c.in_ok-matches.ensures.matches c.in_ok-matches.ensures.kinds))

pub returns-clause-in_range : goal.returns-clause-in_range
returns-clause-in_range c =
    subst (λ r. IfOk r (λ mode. IsModeInRange (mode_of mode))) (sym c.ok_or.ensures.value)
    (made_in_range c.in_ok-make_command.field-0 c.in_ok-matches.matches c.in_ok-matches.ensures.parsed c.in_ok-make_command.ensures c.make_held.result c.make_held.ensures)
