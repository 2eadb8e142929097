use Rattle.command_line.proofs.CommandLemmas.{with_arg}
use Rattle.command_line.proofs.words.check_command.Goals as goal

pub returns : goal.returns
returns c =
    with_arg _ _ _ _ _ c.in_ok-command.ensures
    (with_arg _ _ _ _ _ c.in_ok-arg-3.ensures
    (with_arg _ _ _ _ _ c.in_ok-arg-2.ensures
    (with_arg _ _ _ _ _ c.in_ok-arg.ensures c.bare.ensures c.path_word.ensures.local c.path_word.ensures.rule)
    c.lanes_option.ensures.local c.lanes_option.ensures.rule)
    c.flag_option.ensures.local c.flag_option.ensures.rule)
    c.profile_option.ensures.local c.profile_option.ensures.rule
