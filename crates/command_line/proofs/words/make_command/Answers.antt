use Rattle.std.proofs.Common.{◌≡◌, ◌∙◌, ap, rules, codes}
use Rattle.command_line.specs.Words.{between, number_word}
use Rattle.command_line.proofs.CommandLemmas.{with_arg}
use Rattle.command_line.proofs.words.make_command.Goals as goal

pub returns : goal.returns
returns c =
    let seed_parser : c.value_parser.result ≡ between 0 4294967295 = search rules in
    let tables_parser : c.range.result ≡ between 1 1000 = search rules in
    let rows_parser : c.range-2.result ≡ between 1 5000 = search rules in
    with_arg _ _ _ _ _ c.in_ok-command.ensures
    (with_arg _ _ _ _ _ c.in_ok-arg-2.ensures
    (with_arg _ _ _ _ _ c.in_ok-arg.ensures c.bare.ensures c.number_word.ensures.local (c.number_word.ensures.rule ∙ ap (number_word (codes "seed")) seed_parser))
    c.number_word-2.ensures.local (c.number_word-2.ensures.rule ∙ ap (number_word (codes "tables")) tables_parser))
    c.number_word-3.ensures.local (c.number_word-3.ensures.rule ∙ ap (number_word (codes "rows")) rows_parser)
