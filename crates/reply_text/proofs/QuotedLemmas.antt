-- A name none of whose bytes is escaped stands in quotes as it is.
use Rattle.std.proofs.Common.{◌≡◌, ◌∷◌, ◌++◌, ◌∙◌, ap, refl, true, List, ℕ, [], flat_map, arith}
use Rattle.std.proofs.lemmas.Bool.{and_parts}
use Rattle.std.specs.List.{list_all}
use Rattle.record_model.specs.Texts.{escaped_byte}
use Rattle.reply_text.specs.Quoted.{is_plain}

plain_byte : (byte : ℕ) → is_plain byte ≡ true → escaped_byte byte ≡ byte ∷ []
plain_byte byte plain = grind (arith, plain)

pub plain_stands : (name : List ℕ) → list_all is_plain name ≡ true → flat_map escaped_byte name ≡ name
plain_stands [] plain = refl
plain_stands (byte ∷ name) plain =
    let parts = and_parts (is_plain byte) (list_all is_plain name) plain in
    ap (λ text. text ++ flat_map escaped_byte name) (plain_byte byte parts.0) ∙ ap (λ rest. byte ∷ rest) (plain_stands name parts.1)
