use Rattle.std.proofs.Common.{◌∙◌, ◌++◌, List, ap, map, sym, ℕ}
use Rattle.std.specs.Char.{to_ascii_lowercase}
use Rattle.value_key.proofs.AsciiLemmas.{key_of_text-ascii}
use Rattle.value_key.proofs.push_small.Goals as goal

pub returns-clause-key : goal.returns-clause-key
returns-clause-key c =
    let pushed = c.in-Ok.ensures.bytes ∙ ap (λ (bytes : List ℕ). bytes ++ c.args.text.now) c.requires.empty in
    λ keys _. c.make_ascii_lowercase.ensures.bytes ∙ ap (map to_ascii_lowercase) pushed ∙ sym (key_of_text-ascii keys c.args.text.now c.if-not-is_ascii.ensures.cases)
