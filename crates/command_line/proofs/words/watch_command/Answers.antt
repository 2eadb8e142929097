use Rattle.std.proofs.Common.{◌≡◌, ◌∙◌, ap, rules, codes}
use Rattle.command_line.specs.Words.{between, number_word}
use Rattle.command_line.proofs.CommandLemmas.{with_arg}
use Rattle.command_line.proofs.words.watch_command.Goals as goal

pub returns : goal.returns
returns c =
    let parser : c.range.result ≡ between 1 10000 = search rules in
    with_arg _ _ _ _ _ c.in_ok-command.ensures
    (with_arg _ _ _ _ _ c.in_ok-arg.ensures c.bare.ensures c.number_word.ensures.local (c.number_word.ensures.rule ∙ ap (number_word (codes "k")) parser))
    c.path_words.ensures.local c.path_words.ensures.rule
