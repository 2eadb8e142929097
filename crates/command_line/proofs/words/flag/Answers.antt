use Rattle.std.proofs.Common.{◌∙◌, ap, Option, false, codes}
use Rattle.std.specs.Prelude.{bytes_eq}
use Rattle.std.specs.Option.{option_map_or}
use Rattle.clap.specs.Words.{Text, found_of, one_text}
use Rattle.clap.proofs.WalkLemmas.{one_text-rows}
use Rattle.command_line.proofs.ModeLemmas.{flag_read}
use Rattle.command_line.proofs.words.flag.Goals as goal

pub returns : goal.returns
returns c =
    let found = found_of c.args.matches.now in
    c.unwrap_or.ensures ∙ flag_read _ (one_text found c.args.id.now) c.get_one.result c.get_one.ensures.none c.get_one.ensures.value
    ∙ ap (λ (text : Option Text). option_map_or (λ t. bytes_eq t (codes "true")) text false) (one_text-rows found c.args.id.now)
