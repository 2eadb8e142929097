use Rattle.std.proofs.Common.{◌∙◌, ap, Option}
use Rattle.std.specs.Prelude.{option_and_then}
use Rattle.std.specs.Str.Parse.{ExplainsUnsignedError, HasUnsignedDigitsIfOk, ParsesUnsigned}
use Rattle.clap.specs.Words.{Text, found_of, one_text}
use Rattle.clap.proofs.WalkLemmas.{one_text-rows}
use Rattle.command_line.specs.Words.{number_read}
use Rattle.command_line.proofs.ModeLemmas.{number_is}
use Rattle.command_line.proofs.words.number.Goals as goal

pub returns : goal.returns
returns c =
    let found = found_of c.args.matches.now in
    number_is _ (λ bs r. ParsesUnsigned 32 10 bs r × ExplainsUnsignedError 10 bs r × HasUnsignedDigitsIfOk bs r) (λ t r gives. gives.0) (one_text found c.args.id.now) c.get_one.result c.get_one.ensures.none c.get_one.ensures.value
    ∙ ap (λ (text : Option Text). option_and_then number_read text) (one_text-rows found c.args.id.now)
