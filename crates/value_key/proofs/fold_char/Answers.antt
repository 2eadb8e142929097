-- Folding makes an ASCII letter lower case, and changes no other ASCII character.
use Rattle.std.proofs.Common.{◌≡◌, ◌∙◌, ◌<◌, ◌++◌, [], ◌∷◌, ap, append-nil, arith, encode_utf8_all, nat_lt, string_bytes, sym, true}
use Rattle.ucd_case.proofs.CaseFoldingLemmas.{full_fold-ascii}
use Rattle.value_key.proofs.fold_char.Goals as goal

pub returns-then-is_ascii-clause-folded : goal.returns-then-is_ascii-clause-folded
returns-then-is_ascii-clause-folded c =
    let test : nat_lt c.args.c 128 ≡ true = sym c.is_ascii.ensures ∙ c.if-is_ascii.true in
    let small : c.args.c < 128 = grind (arith, test) in
    let folded = full_fold-ascii c.args.c small in
    let one = ap (λ d. encode_utf8_all (d ∷ [])) c.to_ascii_lowercase.ensures.value ∙ sym (ap encode_utf8_all folded) in
    c.in_ok-push.ensures.bytes ∙ ap (λ bytes. string_bytes c.args.into.now ++ bytes) (sym (append-nil _) ∙ one)
