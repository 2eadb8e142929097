-- The text of a word.
use Rattle.std.specs.Prelude.{decimal}
use Rattle.lake_model.specs.Texts.{Text}
use Rattle.record_model.specs.Texts.{command_text, listed, quoted}
use Rattle.reply_text.specs.declared.words.Word.{Word}
use Rattle.reply_text.specs.declared.words.Word.TheVariants.{Text as Plain, Named, Number, Numbers, Quoted, Command}

abbrev pub word_text : Word → Text
word_text (Plain text) = text.now
word_text (Named name) = name.now
word_text (Number number) = decimal number
word_text (Numbers numbers) = listed decimal numbers.now
word_text (Quoted text) = quoted text.now
word_text (Command who) = command_text who
