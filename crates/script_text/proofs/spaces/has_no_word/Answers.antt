use Rattle.std.proofs.Common.{ap, length, List, ℕ, sym, ◌∙◌}
use Rattle.std.specs.Prelude.{◌==◌}
use Rattle.script_text.proofs.WordLemmas.{has_none_is}
use Rattle.script_text.proofs.spaces.has_no_word.Goals as goal

pub returns : goal.returns
returns c = c.is_empty.ensures ∙ ap (λ (w : List ℕ). length w == 0) c.first_word.ensures ∙ sym (has_none_is c.args.text.now)
